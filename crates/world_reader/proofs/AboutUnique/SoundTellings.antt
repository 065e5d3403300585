-- What a line tells is valid.
use Rattle.std.proofs.Common.{◌≡◌, ℕ, ◌<◌, ◌≤◌, Bool, true, false, ◌||◌, ◌&&◌, List, [], ◌∷◌, length, ℤ, Result, Err, sym, ap, ◌∙◌, subst, arith, if◌then◌else◌}
use Rattle.std.specs.Prelude.{IsTrue, bytes_eq, nat_lt}
use Rattle.std.specs.List.{All, list_all, list_any}
use Rattle.std.proofs.lemmas.List.{length-map}
use Rattle.std.proofs.lemmas.List.Elements.{All-cons, All-nil}
use Rattle.spec_script.proofs.Bools.{both}
use Rattle.spec_script.specs.declared.value.Value.{Value}
use Rattle.spec_script.specs.declared.value.Value.TheVariants.{Int, Text}
use Rattle.spec_world.specs.declared.world.ToldOut.{ToldOut}
use Rattle.spec_world.specs.Worlds.{AreNames, IsValidTelling, IsValidValue, is_name, ports_told}
use Rattle.spec_world_file.specs.WorldFile.{Reading, ReadsOuts, is_long, is_small, repeats, telling_of, with_telling, without_gap}
use Rattle.spec_world_file.specs.declared.world_fault.WorldFaultKind.{WorldFaultKind}
use Rattle.world_reader.proofs.AboutUnique.Sound.{Stays, at_most, distinct_ports, not_both, nothing_distinct, stays_else}

named_outs : (outs : List ToldOut) (text : List ℕ) → ReadsOuts outs text → All (λ n. IsTrue (is_name n)) (ports_told outs)
named_outs [] text h = All-nil (λ n. IsTrue (is_name n))
named_outs (out ∷ outs) text h =
    All-cons (λ n. IsTrue (is_name n)) out.port (ports_told outs) (subst (λ (n : List ℕ). IsTrue (is_name n)) (sym h.1.port) h.1.named) (named_outs outs (without_gap h.0) h.2)

value_fits : (value : Value) → is_small value ≡ true → is_long value ≡ false → IsValidValue value
value_fits (Int n) small short = small
value_fits (Text text) small short = at_most 4096 (length text) short

values_fit : (outs : List ToldOut) → list_all (λ out. is_small out.value) outs ≡ true → list_any (λ out. is_long out.value) outs ≡ false → All (λ out. IsValidValue out.value) outs
values_fit [] small short = All-nil (λ (out : ToldOut). IsValidValue out.value)
values_fit (out ∷ outs) small short =
    let s = both (is_small out.value) (list_all (λ out. is_small out.value) outs) small in
    let l = not_both (is_long out.value) (list_any (λ out. is_long out.value) outs) short in
    All-cons (λ out. IsValidValue out.value) out outs (value_fits out.value s.0 l.0) (values_fit outs s.1 l.1)

telling_valid : (succeeds : Bool) (outs : List ToldOut) → AreNames 8 (ports_told outs) → All (λ out. IsValidValue out.value) outs → IsValidTelling (telling_of succeeds outs)
telling_valid true outs names values = (names, values)
telling_valid false outs names values = tt

-- a telling without a fault is valid
pub stays_telling :
    (outs : List ToldOut) (text : List ℕ) (succeeds : Bool) (said : Result Reading WorldFaultKind) → ReadsOuts outs text → list_all (λ out. is_small out.value) outs ≡ true →
    (IsValidTelling (telling_of succeeds outs) → Stays said) → Stays (with_telling outs said)
stays_telling outs text succeeds said reads small h =
    stays_else (repeats [] (ports_told outs)) _ _ (λ differ.
    stays_else (nat_lt 8 (length outs) || list_any (λ out. is_long out.value) outs) _ _ (λ fit.
    let k = not_both (nat_lt 8 (length outs)) (list_any (λ out. is_long out.value) outs) fit in
    h (telling_valid succeeds outs (record {
      few = omega (arith, length-map outs (λ out. out.port), at_most 8 (length outs) k.0);
      named = named_outs outs text reads;
      distinct = distinct_ports [] (ports_told outs) (nothing_distinct bytes_eq) differ;
    }) (values_fit outs small k.1))))
