use Rattle.std.proofs.Common.{◌≡◌, ◌∙◌, ◌+◌, ◌<◌, ◌++◌, ℕ, List, ◌∷◌, ap, append_assoc, arith, cond, drop, length, sym}
use Rattle.std.proofs.lemmas.List.{drop_more}
use Rattle.std.proofs.lemmas.List.Sums.{sum_by-drop_more}
use Rattle.std.specs.List.{flat_map}
use Rattle.spec_expect.specs.declared.verdict.Verdict.{Verdict}
use Rattle.spec_expect.specs.Verdicts.{verdict_line}
use Rattle.expect_watch.specs.declared.watching.Watched.{Watched}
use Rattle.expect_watch.specs.States.{is_failed, verdict_of}
use Rattle.text_trace.proofs.Expected.{one_at_most}
use Rattle.text_trace.proofs.expecting.run.put_verdicts.Goals as goal

pub loop-one-preserved : goal.loop-one-preserved
loop-one-preserved c =
    let ws = c.args.watched.now in
    let i = c.loop-one.one-index in
    let w = c.one-item.result in
    let text : Watched → List ℕ = λ x. verdict_line x.line (verdict_of x c.args.last) in
    let fails : Watched → ℕ = λ x. cond (is_failed (verdict_of x c.args.last)) 1 0 in
    let within : i < length ws = omega arith in
    let rest = flat_map text (drop (i + 1) ws) in
    let next : drop i ws ≡ w ∷ drop (i + 1) ws = drop_more ws i w within ∙ ap (λ (x : Watched). x ∷ drop (i + 1) ws) (sym c.one-item.is) in
    let one : c.with_failed-failed.result ≡ c.loop-one.failed + fails w = c.with_failed-failed.ensures ∙ ap (λ (v : Verdict). c.loop-one.failed + cond (is_failed v) 1 0) c.verdict-verdict.ensures in
    let few = one_at_most (is_failed (verdict_of w c.args.last)) in
    let same = ap fails c.one-item.is in
    record {
      lines =
          ap (λ (xs : List ℕ). xs ++ rest) c.in_ok-put_verdict.ensures ∙ append_assoc c.loop-one.out.items _ rest
          ∙ ap (λ (v : Verdict). c.loop-one.out.items ++ (verdict_line w.line v ++ rest)) c.verdict-verdict.ensures
          ∙ ap (λ (xs : List Watched). c.loop-one.out.items ++ flat_map text xs) (sym next) ∙ c.loop-one.invariant.lines;
      failed = omega (arith, one, same, sum_by-drop_more fails ws i w within, c.loop-one.invariant.failed);
      few = omega (arith, one, few, c.loop-one.invariant.few);
    }
