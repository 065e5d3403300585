use Rattle.std.proofs.Common.{◌≡◌, ℕ, List, [], ◌∷◌, None, length, map, ap, sym, ◌∙◌, subst}
use Rattle.std.specs.Prelude.{count_by, is_some}
use Rattle.std.proofs.lemmas.List.{length-map}
use Rattle.slab.specs.Slab.{Slab, slab_len}
use Rattle.plan_tree.specs.declared.node.Node.{Node}
use Rattle.spec_plan.specs.declared.part.Part.TheVariants.{Condition, Goals}
use Rattle.spec_plan.specs.declared.domain.Template.{Template}
use Rattle.plan_tree.specs.declared.rule.Rule.{Rule}
use Rattle.plan_tree.specs.Growth.{Adds, all_achievers_by, branch_tree}
use Rattle.plan_tree.specs.Rules.{rule_of}
use Rattle.plan_tree.proofs.Expands.{first_many, first_stands}
use Rattle.plan_tree.proofs.tree.plan_tree_of.Goals as goal

pub returns : goal.returns
returns c =
    let world = c.args.world.now in
    let keys = c.add_branch-root.ensures.added.0 in
    let root = c.add_branch-root.result in
    let room = c.reserve.new.nodes in
    let new = c.add_branch-root.new.nodes in
    let goals : c.list-3.result.now ≡ world.goals = c.list-3.ensures in
    let adds = subst (λ (l : List ℕ). Adds room new None (root ∷ []) (branch_tree root Goals keys (map Condition l))) goals c.add_branch-root.ensures.added.1 in
    let counted = subst (λ (l : List ℕ). length keys ≡ length (map Condition l)) goals c.add_branch-root.ensures.added.2 in
    let none : slab_len room ≡ 0 = ap (λ (s : Slab Node). slab_len s) c.in_ok-reserve.ensures.kept ∙ ap (λ slots. count_by is_some slots) c.new-nodes.ensures.empty in (
      keys,
      counted ∙ length-map world.goals Condition,
      first_stands world c.requires.valid c.requires.goal (record { nodes = new; root = root; rules = c.in_ok-rules.rules; templates = c.of.result; achievers = c.in_ok-achievers.achievers }) keys room
          (c.in_ok-rules.ensures ∙ ap (λ rows. map rule_of rows) c.list.ensures) (c.of.ensures ∙ c.in_ok-templates.ensures)
          (c.in_ok-achievers.ensures ∙ ap (λ (l : List Rule). all_achievers_by l c.as_slice.result.now) c.list-2.ensures
          ∙ ap (λ (l : List Template). all_achievers_by c.in_ok-rules.rules l) (c.as_slice.ensures.value ∙ sym c.of.ensures)) none adds counted,
      first_many root keys world.goals,
    )
