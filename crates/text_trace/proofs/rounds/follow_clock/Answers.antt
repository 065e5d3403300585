use Rattle.std.proofs.Common.{◌≤◌, ◌++◌, ◌∙◌, [], ◌∷◌, Ok, max, ap, refl, arith}
use Rattle.std.proofs.Math.Nat.{le-max_right}
use Rattle.text_trace.proofs.Lives.{before_it, before_last, given_next, given_none, one_more, round_on, round_over, rounds_all}
use Rattle.text_trace.proofs.Parts.{go_on, handed_on, not_done, part_none}
use Rattle.text_trace.proofs.ShownBlocks.{shown_done, shown_stopped, shown_then}
use Rattle.text_trace.proofs.rounds.follow_clock.Goals as goal

pub loop-init : goal.loop-init
loop-init g c = record { rounds = ([], refl, given_none _, λ later. part_none g.of _ _ _ c.requires.1.1.1.are (λ rest. refl)); passed = omega arith; shows = g.met.W.Watch.shows_none _ }

pub tick_all-requires : goal.tick_all-requires
tick_all-requires g c lifetimes live =
    let high : c.loop.last ≤ max c.now.result c.loop.last = le-max_right c.now.result c.loop.last in
    let low : c.loop.underway.runs.last ≤ c.max-last.result = omega (arith, c.loop.invariant.passed, c.max-last.ensures, high) in
    (live.0, (live.1, (go_on g.of _ _ _ _ (c.loop.invariant.rounds.3 []) c.requires.1.1.1, low)))

pub returns-in_err-tick_all-clause-made : goal.returns-in_err-tick_all-clause-made
returns-in_err-tick_all-clause-made g c =
    let inv = c.loop.invariant.rounds in
    record {
      given = inv.0 ++ c.now.result ∷ [];
      within = omega (arith, one_more inv.0 c.now.result, inv.1, c.loop-test.true);
      all = λ done. not_done c.from_residual.result c.from_residual.ensures.0 done;
      told = given_next _ _ _ inv.0 c.now.result inv.2 c.now.ensures.passed c.now.ensures.given;
      made = λ later none.
          round_over g.of _ _ inv.0 _ _ c.now.result c.max-last.result c.max-last.ensures c.tick_all.result c.from_residual.result _ (handed_on _ _ _ c.in_err-tick_all.was c.from_residual.ensures.1)
          (λ done. not_done c.from_residual.result c.from_residual.ensures.0 done) inv.3 c.tick_all.ensures.made later;
      before = before_it g.of _ _ inv.0 _ _ c.now.result c.max-last.result c.max-last.ensures inv.3;
    }

pub returns-in-Faulted-clause-made : goal.returns-in-Faulted-clause-made
returns-in-Faulted-clause-made g c =
    let inv = c.loop.invariant.rounds in
    record {
      given = inv.0 ++ c.now.result ∷ [];
      within = omega (arith, one_more inv.0 c.now.result, inv.1, c.loop-test.true);
      all = λ done. cc;
      told = given_next _ _ _ inv.0 c.now.result inv.2 c.now.ensures.passed c.now.ensures.given;
      made = λ later none.
          round_over g.of _ _ inv.0 _ _ c.now.result c.max-last.result c.max-last.ensures c.tick_all.result _ _ (c.in_ok-tick_all.was ∙ ap Ok c.in-Faulted.is) (λ done. cc) inv.3
          c.tick_all.ensures.made later;
      before = before_it g.of _ _ inv.0 _ _ c.now.result c.max-last.result c.max-last.ensures inv.3;
    }

pub loop-preserved : goal.loop-preserved
loop-preserved g c =
    let inv = c.loop.invariant.rounds in
    let done = c.in_ok-tick_all.was ∙ ap Ok c.in_default.is in
    record {
      rounds = (
        inv.0 ++ c.now.result ∷ [],
        omega (arith, one_more inv.0 c.now.result, inv.1),
        given_next _ _ _ inv.0 c.now.result inv.2 c.now.ensures.passed c.now.ensures.given,
        λ later. round_on g.of _ _ inv.0 _ _ c.now.result c.max-last.result c.max-last.ensures c.tick_all.result _ done inv.3 c.tick_all.ensures.made later,
      );
      passed = c.tick_all.ensures.last done;
      shows = g.met.W.Watch.shows_both _ _ _ (Ok tt) c.loop.invariant.shows (shown_done g.W.Watch.shows c.tick_all.result _ _ c.in_ok-tick_all.was c.tick_all.ensures.shows);
    }

pub returns-clause-made : goal.returns-clause-made
returns-clause-made g c =
    let inv = c.loop.invariant.rounds in
    record {
      given = inv.0;
      within = omega (arith, inv.1, c.loop.auto.counter-end);
      all = λ done. omega (arith, inv.1, c.loop.auto.counter-end, c.loop-test.false);
      told = inv.2;
      made = λ later none. rounds_all g.of _ _ inv.0 _ _ inv.3 later (none refl);
      before = before_last g.of _ _ inv.0 _ _ inv.3;
    }

pub returns-in_err-tick_all-clause-shows : goal.returns-in_err-tick_all-clause-shows
returns-in_err-tick_all-clause-shows g c =
    shown_stopped g.W.Watch.shows c.tick_all.result c.from_residual.result _ _ _ c.in_err-tick_all.was c.from_residual.ensures.1
    (shown_then g.W.Watch.shows g.met.W.Watch.shows_both c.tick_all.result _ _ _ c.loop.invariant.shows c.tick_all.ensures.shows)

pub returns-in-Faulted-clause-shows : goal.returns-in-Faulted-clause-shows
returns-in-Faulted-clause-shows g c =
    g.met.W.Watch.shows_both _ _ _ (Ok tt) c.loop.invariant.shows (shown_done g.W.Watch.shows c.tick_all.result _ _ c.in_ok-tick_all.was c.tick_all.ensures.shows)
