use Rattle.std.proofs.Common.{◌≡◌, ◌≤◌, ◌+◌, ℕ, length, take}
use Rattle.spec_plan.specs.Failing.{has_failed}
use Rattle.plan_search.specs.Marked.{is_marked}
use Rattle.plan_search.proofs.failing.failures.Given as goal

abbrev pub invariant-loop-note : goal.invariant-loop-note
invariant-loop-note l = record {
  many : length l.marks.items ≡ l.nodes + 1;
  marks : (uid : ℕ) → uid ≤ l.nodes → is_marked l.marks.items uid ≡ has_failed (take l.note-index l.notes) uid;
}
