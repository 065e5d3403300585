use Rattle.std.proofs.Common.{◌≡◌, ◌+◌, ◌≤◌, ◌++◌, drop}
use Rattle.std.specs.List.{count_by, flat_map}
use Rattle.spec_expect.specs.Verdicts.{verdict_line}
use Rattle.expect_watch.specs.States.{is_failed, verdict_of}
use Rattle.text_trace.proofs.expecting.run.put_verdicts.Given as goal

abbrev pub invariant-loop-one : goal.invariant-loop-one
invariant-loop-one l = record {
  lines :
      l.out.items ++ flat_map (λ w. verdict_line w.line (verdict_of w l.last)) (drop l.one-index l.watched)
      ≡ l.initial.out.items ++ flat_map (λ w. verdict_line w.line (verdict_of w l.last)) l.watched;
  failed : l.failed + count_by (λ w. is_failed (verdict_of w l.last)) (drop l.one-index l.watched) ≡ count_by (λ w. is_failed (verdict_of w l.last)) l.watched;
  few : l.failed ≤ l.one-index;
}
