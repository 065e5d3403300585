use Rattle.std.proofs.Common.{◌≡◌, ◌≤◌, length}
use Rattle.text_lines.specs.Labels.{AreLabels}
use Rattle.text_lines.proofs.label.labels_to.Given as goal

abbrev pub invariant-loop-number : goal.invariant-loop-number
invariant-loop-number l = record {
  labels : AreLabels l.labels.items;
  count : length l.labels.items ≡ l.number;
  within : l.count ≤ 10000000;
}
