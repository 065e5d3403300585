use Rattle.std.proofs.Common.{◌≡◌, ℕ, [], ◌∷◌, Option, Some, None, refl, ap, ◌∙◌}
use Rattle.std.specs.Prelude.{unwrap_or}
use Rattle.std.specs.Option.{option_and_then}
use Rattle.plan_tree.specs.declared.node.Node.{Node}
use Rattle.spec_plan.specs.declared.part.Part.{Part}
use Rattle.spec_plan.specs.Forests.{part_at}
use Rattle.spec_plan.specs.Achievers.{row_in}
use Rattle.plan_tree.proofs.Expansions.{part_node}
use Rattle.plan_tree.proofs.Standing.{kept_at}
use Rattle.plan_tree.proofs.numbers.row_of.Goals as goal

pub returns : goal.returns
returns c = λ world tree row st is.
    elim (part_at c.args.key tree) as (λ (o : Option Part). part_at c.args.key tree ≡ o → option_and_then row_in o ≡ Some row → c.row_at.result ≡ row) [
      | Some part ↦ λ found row_is.
          let node = part_node c.args.key tree part found in
          let kept = kept_at c.args.t.now.nodes c.args.key part node.0 None (c.args.t.now.root ∷ []) tree st.nodes node.1 in
          c.row_at.ensures ∙ ap (λ (o : Option Node). unwrap_or (option_and_then (λ (n : Node). row_in n.part) o) 0) kept.2.there
          ∙ ap (λ (x : Part). unwrap_or (row_in x) 0) kept.2.part_is ∙ ap (λ (o : Option ℕ). unwrap_or o 0) row_is
      | None ↦ λ found row_is. absurd (cc row_is)
    ] refl is
