-- What a telling tells, read from the front on.
use Rattle.std.proofs.Common.{◌≡◌, ℕ, ◌==◌, Bool, true, false, ◌||◌, List, [], ◌∷◌, ◌++◌, length, Option, Some, None, Result, Err, refl, sym, ap, ◌∙◌, subst, arith, if◌then◌else◌}
use Rattle.std.specs.Prelude.{nat_lt, option_and_then, option_map}
use Rattle.std.specs.List.{list_all, list_any}
use Rattle.std.specs.Str.{IsUtf8, is_utf8}
use Rattle.std.proofs.lemmas.Bool.{false≢true}
use Rattle.std.proofs.lemmas.List.{append_assoc}
use Rattle.std.proofs.lemmas.Str.{IsUtf8-from_is_utf8, is_utf8-from_IsUtf8}
use Rattle.spec_script.specs.declared.value.Value.{Value}
use Rattle.spec_script.specs.declared.value.Value.TheVariants.{Text}
use Rattle.spec_world.specs.declared.world.ToldOut.{ToldOut}
use Rattle.spec_world.specs.Worlds.{ports_told}
use Rattle.spec_world_file.specs.declared.world_fault.WorldFaultKind.{WorldFaultKind}
use Rattle.spec_world_file.specs.declared.world_fault.WorldFaultKind.TheVariants.{DoubleName, Range, TooMany}
use Rattle.spec_world_file.specs.WorldFile.{BeginsWith, Reading, ReadsOuts, ReadsTold, is_long, is_small, ranged, repeats, text_value, with_telling, without_gap}
use Rattle.world_lines.specs.Written.{FindsOut}

-- ---- The value at the front

-- a text that was found is a value where it is UTF-8
pub text_read : (found : Option (List ℕ × List ℕ)) (bytes rest text : List ℕ) → Some (bytes, rest) ≡ found → text ≡ bytes → IsUtf8 bytes → Some (Text text, rest) ≡ option_and_then text_value found
text_read found bytes rest text is same utf8 =
    ap (λ (t : List ℕ). Some (Text t, rest)) same
    ∙ sym (ap (λ (b : Bool). if b then Some (Text bytes, rest) else None) (is_utf8-from_IsUtf8 bytes utf8))
    ∙ ap (option_and_then text_value) is

-- and none where it is not
pub text_not_read : (found : Option (List ℕ × List ℕ)) (bytes rest : List ℕ) → Some (bytes, rest) ≡ found → (IsUtf8 bytes → ⊥) → None ≡ option_and_then text_value found
text_not_read found bytes rest is faulty = sym (by (is_utf8 bytes) refl) ∙ ap (option_and_then text_value) is
  where
    by : (b : Bool) → is_utf8 bytes ≡ b → text_value (bytes, rest) ≡ None
    by true e = absurd (faulty (IsUtf8-from_is_utf8 bytes e))
    by false e = ap (λ (t : Bool). if t then Some (Text bytes, rest) else None) e

-- ---- The output at the front

pairs_are : {X Y : Type 0} (a b : X) (x y : Y) → ◌≡◌ {A = Option (X × Y)} (Some (a, x)) (Some (b, y)) → (a ≡ b) × (x ≡ y)
pairs_are {X} {Y} a b x y h = let e : ◌≡◌ {A = X × Y} (a, x) (b, y) = cc in (ap (λ (p : X × Y). p.0) e, ap (λ (p : X × Y). p.1) e)

-- a text begins with one output at most
pub one_out : (text : List ℕ) (a b : ToldOut) (x y : List ℕ) → BeginsWith text a x → BeginsWith text b y → (a ≡ b) × (x ≡ y)
one_out text a b x y h k =
    let port : a.port ≡ b.port = h.port ∙ sym k.port in
    let both = pairs_are a.value b.value x y (sym h.value ∙ k.value) in
    (ap (λ (p : List ℕ). record { port = p; value = a.value }) port ∙ ap (λ (v : Value). record { port = b.port; value = v }) both.0, both.1)

abbrev is_some_byte : List ℕ → Bool
is_some_byte [] = false
is_some_byte (c ∷ t) = true

-- no output begins where nothing stands
pub never_begins : (text : List ℕ) (out : ToldOut) (rest : List ℕ) → text ≡ [] → BeginsWith text out rest → ⊥
never_begins [] out rest e begins = false≢true begins.named
never_begins (c ∷ text) out rest e begins = false≢true (ap is_some_byte (sym e))

-- no output at the front, where something stands there
pub none_told : (text : List ℕ) → (length text == 0) ≡ false → FindsOut text None → ReadsTold text None
none_told text some none [] is = absurd (by text some is)
  where
    by : (t : List ℕ) → (length t == 0) ≡ false → t ≡ [] → ⊥
    by [] e h = false≢true (sym e)
    by (c ∷ t) e h = false≢true (ap is_some_byte (sym h))
none_told text some none (out ∷ outs) h = none out h.0 h.1

-- the rest of a text is read as it is after the output at the front
pub told_more : (text rest : List ℕ) (out : ToldOut) (o : Option (List ToldOut)) → BeginsWith text out rest → ReadsTold (without_gap rest) o → ReadsTold text (option_map (λ more. out ∷ more) o)
told_more text rest out (Some outs) begins h = (rest, begins, h)
told_more text rest out None begins h = none
  where
    none : (outs : List ToldOut) → ReadsOuts outs text → ⊥
    none [] is = never_begins text out rest is begins
    none (other ∷ outs) k =
        let same = one_out text out other rest k.0 begins k.1 in
        h outs (subst (λ (r : List ℕ). ReadsOuts outs (without_gap r)) (sym same.1) k.2)

-- outputs go from the rest to those before it
pub told_after : (seen : List ToldOut) (out : ToldOut) (o : Option (List ToldOut)) → option_map (λ more. seen ++ more) (option_map (λ more. out ∷ more) o) ≡ option_map (λ more. (seen ++ out ∷ []) ++ more) o
told_after seen out None = refl
told_after seen out (Some outs) = ap (λ (all : List ToldOut). Some all) (sym (append_assoc seen (out ∷ []) outs))

-- nothing is left
pub nothing_left : (text : List ℕ) → (length text == 0) ≡ true → text ≡ []
nothing_left [] e = refl
nothing_left (c ∷ text) e = absurd (grind arith)

-- before the first output
pub told_first : (text : List ℕ) (o : Option (List ToldOut)) → ReadsTold text o → ReadsTold text (option_map (λ more. [] ++ more) o)
told_first text None h = h
told_first text (Some outs) h = h
