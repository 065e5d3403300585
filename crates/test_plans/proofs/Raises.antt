-- After a raise, whether it moved a sequence or not, the plan tree is one, with as many added sequences.
use Rattle.std.proofs.Common.{◌≡◌, ℕ, Bool, true, false, None, sym, subst, ◌∙◌}
use Rattle.std.specs.Prelude.{MatchBool}
use Rattle.spec_world.specs.declared.world.World.{World}
use Rattle.plan_tree.specs.declared.tree.PlanTree.{PlanTree}
use Rattle.plan_reorder.specs.Raises.{Raises}
use Rattle.spec_plan.specs.Raising.{raised}
use Rattle.test_plans.specs.Stages.{IsPlan}

pub after_raise : (moved : Bool) (world : World) (old new : PlanTree) (added key : ℕ) (p : IsPlan world old added) →
    MatchBool moved (Raises new world p.0 key) ((raised key p.0 ≡ None) × (new ≡ old)) → IsPlan world new added
after_raise true world old new added key (tree, st, many, few) r = (r.tree_after, r.stands, r.many ∙ many, few)
after_raise false world old new added key p r = subst (λ (t : PlanTree). IsPlan world t added) (sym r.1) p
