use Rattle.std.proofs.Common.{rules, ◌≡◌, ℕ, ◌<◌, true, List, length, get_or, ap, sym, ◌∙◌, arith}
use Rattle.std.specs.Str.{bytes_eq}
use Rattle.std.proofs.lemmas.List.{get_or-map, length-map}
use Rattle.std.proofs.lemmas.Slice.Eq.{bytes_eq-Decides}
use Rattle.script_code.specs.Sources.{IsListed}
use Rattle.test_script.proofs.compiled.conditions.is_listed.Goals as goal

listed_at : (slots : List (List ℕ × ℕ)) (i : ℕ) (pair : List ℕ × ℕ) (name : List ℕ) → i < length slots → pair ≡ get_or slots i pair → bytes_eq pair.0 name ≡ true → IsListed slots name
listed_at slots i pair name within is_pair same = (
  i,
  omega (arith, within, length-map slots (λ (q : List ℕ × ℕ). q.0)),
  get_or-map (λ (q : List ℕ × ℕ). q.0) slots i pair name within ∙ ap (λ (q : List ℕ × ℕ). q.0) (sym is_pair) ∙ (bytes_eq-Decides pair.0 name).0 same,
)

pub returns-then-eq : goal.returns-then-eq
returns-then-eq c =
    let same : bytes_eq c.loop-n-item.result.0 c.args.name.now ≡ true = search rules in
    let within : c.loop-n.n-index < length c.args.slots.now = omega arith in
    λ yes. listed_at c.args.slots.now c.loop-n.n-index c.loop-n-item.result c.args.name.now within c.loop-n-item.is same
