use Rattle.std.proofs.Common.{◌≡◌, ◌-◌, ℕ, None, Result, Ok, Err, Some, refl, ap, sym, ◌∙◌, arith}
use Rattle.std.specs.Prelude.{slice_get}
use Rattle.std.specs.Result.{result_unwrap_or}
use Rattle.plan_tree.specs.Sizes.{keys_of}
use Rattle.plan_tree.specs.Numbers.{Numbered}
use Rattle.plan_tree.proofs.Counted.{height-le_size}
use Rattle.plan_tree.proofs.Split.{key_counts}
use Rattle.plan_tree.proofs.numbers.key_of.Goals as goal

pub returns-clause-numbered : goal.returns-clause-numbered
returns-clause-numbered c = λ world tree st.
    let asked = c.requires in
    let same = asked.2.whole in
    let whole = st.whole in
    let high = height-le_size tree in
    let len = c.len.ensures in
    let numbered = c.find_in.ensures None tree st.nodes (omega (arith, high, whole, len)) in
    elim c.find_in.result as (λ (r : Result ℕ ℕ). c.find_in.result ≡ r → Numbered tree (c.args.uid - 1) r → slice_get (keys_of tree) (c.args.uid - 1) ≡ Some c.unwrap_or.result) [
      | Ok key ↦ λ is found. found ∙ ap (λ (k : ℕ). Some k) (sym (c.unwrap_or.ensures ∙ ap (λ (r : Result ℕ ℕ). result_unwrap_or r c.args.t.now.root) is))
      | Err left ↦ λ is past. absurd (omega (arith, past, asked.3, asked.4, same, whole))
    ] refl numbered

pub returns-clause-known : goal.returns-clause-known
returns-clause-known c = λ world tree st. key_counts tree (c.args.uid - 1) c.unwrap_or.result (returns-clause-numbered c world tree st)
