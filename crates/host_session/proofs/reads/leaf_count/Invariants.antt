use Rattle.std.proofs.Common.{◌≡◌, ◌+◌, ◌≤◌, count_by, drop}
use Rattle.spec_run.specs.Joins.{is_leaf}
use Rattle.spec_session.specs.declared.label.Label.{Label}
use Rattle.host_session.proofs.reads.leaf_count.Given as goal

abbrev pub invariant-loop-label : goal.invariant-loop-label
invariant-loop-label l = record {
  few : l.count ≤ l.label-index;
  all : l.count + count_by (λ (label : Label). is_leaf label.kind) (drop l.label-index l.labels) ≡ count_by (λ (label : Label). is_leaf label.kind) l.labels;
}
