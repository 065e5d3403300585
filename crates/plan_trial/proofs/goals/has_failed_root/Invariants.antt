use Rattle.std.proofs.Common.{◌≡◌}
use Rattle.std.specs.List.{list_any}
use Rattle.plan_trial.specs.Roots.{TellRootOnce}
use Rattle.spec_plan.specs.Modelled.{is_failed_root}
use Rattle.plan_trial.proofs.goals.has_failed_root.Given as goal

-- the notes before those that were seen say whether the root failed
abbrev pub invariant-loop-note : goal.invariant-loop-note
invariant-loop-note l = record {
  can_next : (goal.iterator-loop-note).can_next l.note-iterator;
  is_finite : (goal.iterator-loop-note).is_finite l.note-iterator;
  once : TellRootOnce l.note-iterator.iter.rest.now;
  same : list_any is_failed_root l.note-iterator.iter.rest.now ≡ list_any is_failed_root l.notes;
}
