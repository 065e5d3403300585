-- What is told: outputs that stand twice, and tellings that are valid.
use Rattle.std.proofs.Common.{◌≡◌, ℕ, ◌+◌, ◌<◌, ◌≤◌, Bool, true, false, not, ◌||◌, ◌&&◌, List, [], ◌∷◌, ◌++◌, length, take, drop, map, get_or, refl, sym, ap, ◌∙◌, arith}
use Rattle.std.specs.Prelude.{IsTrue, bytes_eq, nat_le, nat_lt}
use Rattle.std.specs.List.{All, IsDistinct, list_all, list_any}
use Rattle.std.proofs.lemmas.Bool.Decides.{nat_tests}
use Rattle.std.proofs.lemmas.List.{drop_more, get_or-map, length-map, take-map, take_more}
use Rattle.std.proofs.lemmas.List.Elements.{All-cons, All-nil}
use Rattle.spec_script.proofs.Bools.{both}
use Rattle.spec_script.specs.declared.value.Value.{Value}
use Rattle.spec_script.specs.declared.value.Value.TheVariants.{Int, Text}
use Rattle.spec_world.specs.declared.world.Telling.TheVariants as telling
use Rattle.spec_world.specs.declared.world.ToldOut.{ToldOut}
use Rattle.spec_world.specs.Worlds.{IsValidTelling, IsValidValue, is_name, ports_told}
use Rattle.spec_world_file.specs.WorldFile.{is_long, is_small, repeats}
use Rattle.spec_session.specs.Events.{can_be_told, out_fits}
use Rattle.world_draft.proofs.Named.{any-map}
use Rattle.world_reader.proofs.AboutUnique.Sound.{distinct_ports, nothing_distinct}

-- ---- An output that stands twice

-- from one output on, after those before it
pub next_repeats : (outs : List ToldOut) (i : ℕ) (out : ToldOut) (among : Bool) → i < length outs → out ≡ get_or outs i out →
    among ≡ list_any (λ (other : ToldOut). bytes_eq out.port other.port) (take i outs) →
    repeats (take i (ports_told outs)) (drop i (ports_told outs)) ≡ (among || repeats (take (i + 1) (ports_told outs)) (drop (i + 1) (ports_told outs)))
next_repeats outs i out among there is found =
    let names : List (List ℕ) = ports_told outs in
    let within : i < length names = omega (arith, length-map outs (λ (o : ToldOut). o.port)) in
    let name : get_or names i out.port ≡ out.port = get_or-map (λ (o : ToldOut). o.port) outs i out out.port there ∙ sym (ap (λ (o : ToldOut). o.port) is) in
    let seen : list_any (bytes_eq (get_or names i out.port)) (take i names) ≡ among =
    ap (λ (n : List ℕ). list_any (bytes_eq n) (take i names)) name
    ∙ ap (list_any (bytes_eq out.port)) (take-map (λ (o : ToldOut). o.port) i outs)
    ∙ any-map (bytes_eq out.port) (λ (o : ToldOut). o.port) (take i outs) ∙ sym found in
    ap (repeats (take i names)) (drop_more names i out.port within)
    ∙ ap (λ (b : Bool). b || repeats (take i names ++ get_or names i out.port ∷ []) (drop (i + 1) names)) seen
    ∙ ap (λ (ns : List (List ℕ)). among || repeats ns (drop (i + 1) names)) (sym (take_more names i out.port within))

-- ---- Tellings that are valid

value_valid : (value : Value) → is_small value ≡ true → not (is_long value) ≡ true → IsValidValue value
value_valid (Int n) small short = small
value_valid (Text text) small short = grind (arith, nat_tests)

outs_named : (outs : List ToldOut) → list_all out_fits outs ≡ true → All (λ n. IsTrue (is_name n)) (ports_told outs)
outs_named [] h = All-nil (λ n. IsTrue (is_name n))
outs_named (out ∷ outs) h =
    let k = both (out_fits out) (list_all out_fits outs) h in
    let m = both (is_name out.port && is_small out.value) (not (is_long out.value)) k.0 in
    All-cons (λ n. IsTrue (is_name n)) out.port (ports_told outs) (both (is_name out.port) (is_small out.value) m.0).0 (outs_named outs k.1)

values_valid : (outs : List ToldOut) → list_all out_fits outs ≡ true → All (λ (out : ToldOut). IsValidValue out.value) outs
values_valid [] h = All-nil (λ (out : ToldOut). IsValidValue out.value)
values_valid (out ∷ outs) h =
    let k = both (out_fits out) (list_all out_fits outs) h in
    let m = both (is_name out.port && is_small out.value) (not (is_long out.value)) k.0 in
    All-cons (λ (out : ToldOut). IsValidValue out.value) out outs (value_valid out.value (both (is_name out.port) (is_small out.value) m.0).1 m.1) (values_valid outs k.1)

not_true : (b : Bool) → not b ≡ true → b ≡ false
not_true true h = sym h
not_true false h = refl

-- what can be told is valid
pub told_valid : (outs : List ToldOut) → can_be_told outs ≡ true → IsValidTelling (telling.Success outs)
told_valid outs h =
    let k = both (nat_le (length outs) 8 && list_all out_fits outs) (not (repeats [] (ports_told outs))) h in
    let m = both (nat_le (length outs) 8) (list_all out_fits outs) k.0 in
    let few : length outs ≤ 8 = grind (arith, nat_tests) in (
      record {
        few = omega (arith, length-map outs (λ (o : ToldOut). o.port));
        named = outs_named outs m.1;
        distinct = distinct_ports [] (ports_told outs) (nothing_distinct bytes_eq) (not_true (repeats [] (ports_told outs)) k.1);
      },
      values_valid outs m.1,
    )
