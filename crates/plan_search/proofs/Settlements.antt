-- A step, or what stands in its way.
use Rattle.std.proofs.Common.{◌≡◌, ℕ, ◌≤◌, List, [], ◌∷◌, ◌++◌, Option, Some, None, ap, sym, ◌∙◌, subst}
use Rattle.spec_world.specs.declared.world.World.{World}
use Rattle.plan_tree.specs.declared.tree.PlanTree.{PlanTree}
use Rattle.spec_plan.specs.Forests.{Forest, times}
use Rattle.spec_plan.specs.Planned.{id_of}
use Rattle.plan_tree.specs.Stands.{StandsFor}
use Rattle.spec_plan.specs.Conflicts.{Pair}
use Rattle.spec_plan.specs.declared.ending.End.TheVariants.{NoOrder}
use Rattle.spec_plan.specs.declared.ending.Step.{Step}
use Rattle.plan_search.specs.declared.growing.Grown.{Grown}
use Rattle.plan_search.specs.declared.settling.Settled.{Settled}
use Rattle.plan_search.specs.Grown.{IsLeft, IsSettled, SettlesInto, StallsAt}
use Rattle.spec_plan.specs.Settling.{AreRaises, name_at}
use Rattle.plan_reorder.proofs.Within.{conflict_within}

-- a name that is that of a key
abbrev pub Names : PlanTree → World → ℕ → List ℕ → Type 0
Names now world key name = (w : World) (tree : Forest) → StandsFor now w tree → 1 ≤ times key tree → name ≡ name_at world.rows tree key

module _ (now : PlanTree) (world : World) (g : Grown) (tree : Forest) (s : Settled) (i : IsSettled now world g.sequence tree s) where
  pub stalled : (pair : Pair) → s.conflict ≡ Some pair → (action condition : List ℕ) → Names now world pair.0 action → Names now world pair.1 condition → StallsAt world g tree (NoOrder action condition)
  stalled pair is action condition first second =
      let left = subst (λ (o : Option Pair). IsLeft world g.sequence i.after o) is i.left in
      let within = conflict_within i.after world.rows pair left.0 in
      record {
        after = i.after;
        pair = pair;
        stalls = record { raises = s.raises; raised = i.raises; conflict = left.0; last = left.1 };
        is = ap (λ (name : List ℕ). NoOrder name condition) (first world i.after i.stands within.0)
            ∙ ap (λ (name : List ℕ). NoOrder (name_at world.rows i.after pair.0) name) (second world i.after i.stands within.1);
      }

  pub settled_in : s.conflict ≡ None → (before after : List Step) (step : Step) → after ≡ before ++ step ∷ [] → step.raises ≡ s.raises → step.uid ≡ g.place.uid → step.condition ≡ id_of world.rows g.place.row →
      step.action ≡ id_of world.rows g.action → SettlesInto now world g tree before after
  settled_in none before after step steps raises uid condition action =
      let left = subst (λ (o : Option Pair). IsLeft world g.sequence i.after o) none i.left in
      record {
        step = step;
        next = i.after;
        settles = record { raised = subst (λ (n : ℕ). AreRaises world.rows g.sequence n tree i.after) (sym raises) i.raises; settled = left };
        uid = uid;
        condition = condition;
        action = action;
        steps = steps;
        stands = i.stands;
        many = i.many;
      }
