use Rattle.std.proofs.Common.{◌<◌, ◌≤◌, ◌+◌, ◌∙◌, Ok, ap, arith}
use Rattle.text_trace.proofs.Following.{finish_next, finishes_end, finishes_first}
use Rattle.text_trace.proofs.Parts.{go_on, handed_on, not_done, part_none, part_on, part_over, part_runs, part_to}
use Rattle.text_trace.proofs.Rests.{next_rests, none_yet, rest_holds_nothing}
use Rattle.text_trace.proofs.ShownBlocks.{shown_done, shown_stopped, shown_then}
use Rattle.text_trace.proofs.finishes.finish_all.Goals as goal

pub loop-place-init : goal.loop-place-init
loop-place-init g c = record {
  made = part_none g.of _ _ _ c.requires.1.1.are (λ rest. finishes_first g.of.tree g.of.world rest _);
  rest = none_yet g.of.tree _ c.args.underway.now.runs;
  shows = g.met.W.Watch.shows_none _;
}

pub finish_one-requires : goal.finish_one-requires
finish_one-requires g c = λ lifetimes live.
    let last : c.loop-place.place + 1 ≤ g.of.world.runners = omega (arith, c.loop-place-test.true, c.len-place-end.ensures, c.requires.1.1.are.fit.many) in
    (live.0, (live.1, (go_on g.of _ _ _ _ c.loop-place.invariant.made c.requires.1.1, (omega arith, last))))

pub returns-in-Faulted-clause-made : goal.returns-in-Faulted-clause-made
returns-in-Faulted-clause-made g c =
    let low : c.loop-place.place < g.of.world.runners = omega (arith, c.loop-place-test.true, c.len-place-end.ensures, c.requires.1.1.are.fit.many) in
    part_over g.of _ _ _ _ c.finish_one.result _ _ _ _ (c.in_ok-finish_one.was ∙ ap Ok c.in-Faulted.is) (λ done. cc) c.loop-place.invariant.made
    (λ rest. finish_next g.of.tree g.of.world c.loop-place.place rest _ low) c.finish_one.ensures.made

pub returns-in-Faulted-clause-none : goal.returns-in-Faulted-clause-none
returns-in-Faulted-clause-none g c =
    let made = c.finish_one.ensures.made in
    made.stand.off (made.off (c.in_ok-finish_one.was ∙ ap Ok c.in-Faulted.is))

pub loop-place-preserved : goal.loop-place-preserved
loop-place-preserved g c =
    let low : c.loop-place.place < g.of.world.runners = omega (arith, c.loop-place-test.true, c.len-place-end.ensures, c.requires.1.1.are.fit.many) in
    let done = c.in_ok-finish_one.was ∙ ap Ok c.in_default.is in
    record {
      made = part_on g.of _ _ _ _ c.finish_one.result _ _ _ done c.loop-place.invariant.made (λ rest. finish_next g.of.tree g.of.world c.loop-place.place rest _ low) c.finish_one.ensures.made;
      rest = next_rests g.of.tree c.loop-place.place _ _ c.loop-place.underway.runs c.finish_one.new.underway.runs (c.finish_one.ensures.rests done) c.loop-place.invariant.rest;
      shows = g.met.W.Watch.shows_both _ _ _ (Ok tt) c.loop-place.invariant.shows (shown_done g.W.Watch.shows c.finish_one.result _ _ c.in_ok-finish_one.was c.finish_one.ensures.shows);
    }

pub returns-clause-made : goal.returns-clause-made
returns-clause-made g c =
    let all : g.of.world.runners ≤ c.loop-place.place = omega (arith, c.loop-place-test.false, c.len-place-end.ensures, c.requires.1.1.are.fit.many) in
    part_to g.of _ _ _ _ _ _ (λ done rest. finishes_end g.of.tree g.of.world c.loop-place.place rest _ all) c.loop-place.invariant.made

pub returns-clause-none : goal.returns-clause-none
returns-clause-none g c =
    let are = part_runs g.of _ _ _ _ c.loop-place.invariant.made in
    rest_holds_nothing g.of.tree g.of.world _ c.loop-place.underway.runs are c.loop-place.place
    (omega (arith, c.loop-place-test.false, c.len-place-end.ensures, c.requires.1.1.are.fit.many, are.fit.many)) c.loop-place.invariant.rest

pub returns-in_err-finish_one-clause-made : goal.returns-in_err-finish_one-clause-made
returns-in_err-finish_one-clause-made g c =
    let low : c.loop-place.place < g.of.world.runners = omega (arith, c.loop-place-test.true, c.len-place-end.ensures, c.requires.1.1.are.fit.many) in
    part_over g.of _ _ _ _ c.finish_one.result c.from_residual.result _ _ _ (handed_on _ _ _ c.in_err-finish_one.was c.from_residual.ensures.1) (λ done. not_done c.from_residual.result c.from_residual.ensures.0 done)
    c.loop-place.invariant.made (λ rest. finish_next g.of.tree g.of.world c.loop-place.place rest _ low) c.finish_one.ensures.made

pub returns-in_err-finish_one-clause-shows : goal.returns-in_err-finish_one-clause-shows
returns-in_err-finish_one-clause-shows g c =
    shown_stopped g.W.Watch.shows c.finish_one.result c.from_residual.result _ _ _ c.in_err-finish_one.was c.from_residual.ensures.1
    (shown_then g.W.Watch.shows g.met.W.Watch.shows_both c.finish_one.result _ _ _ c.loop-place.invariant.shows c.finish_one.ensures.shows)

pub returns-in-Faulted-clause-shows : goal.returns-in-Faulted-clause-shows
returns-in-Faulted-clause-shows g c =
    g.met.W.Watch.shows_both _ _ _ (Ok tt) c.loop-place.invariant.shows (shown_done g.W.Watch.shows c.finish_one.result _ _ c.in_ok-finish_one.was c.finish_one.ensures.shows)
