use Rattle.std.proofs.Common.{◌≡◌, ◌≤◌, ◌<◌, ◌+◌, ◌∙◌, Ok, ap, arith}
use Rattle.spec_world.specs.declared.world.What.TheVariants.{Tick}
use Rattle.text_trace.proofs.Following.{tick_next, ticks_end, ticks_first}
use Rattle.text_trace.proofs.Parts.{handed_on, not_done, part_none, part_on, part_over, part_to}
use Rattle.text_trace.proofs.ShownBlocks.{shown_done, shown_stopped, shown_then}
use Rattle.text_trace.proofs.Steps.{event_last, event_makes, made_whole}
use Rattle.text_trace.proofs.rounds.tick_all.Goals as goal

pub loop-place-init : goal.loop-place-init
loop-place-init g c = record { made = part_none g.of _ _ _ c.requires.1.1.0.are (λ rest. ticks_first g.of.tree g.of.world c.args.at rest _); ahead = c.requires.1.1.1; shows = g.met.W.Watch.shows_none _ }

pub returns-in-Faulted-clause-made : goal.returns-in-Faulted-clause-made
returns-in-Faulted-clause-made g c =
    let low : c.loop-place.place < g.of.world.runners = omega (arith, c.loop-place-test.true, c.len-place-end.ensures, c.requires.1.1.0.are.fit.many) in
    part_over g.of _ _ _ _ c.show_event.result _ _ _ _ (c.in_ok-show_event.was ∙ ap Ok c.in-Faulted.is) (λ done. cc) c.loop-place.invariant.made
    (λ rest. tick_next g.of.tree g.of.world c.args.at c.loop-place.place rest _ low)
    (event_makes g.of _ _ _ c.run_event-made.result c.show_event.result c.run_event-made.ensures c.show_event.ensures.shown c.show_event.ensures.watcher)

pub loop-place-preserved : goal.loop-place-preserved
loop-place-preserved g c =
    let low : c.loop-place.place < g.of.world.runners = omega (arith, c.loop-place-test.true, c.len-place-end.ensures, c.requires.1.1.0.are.fit.many) in
    let done = c.in_ok-show_event.was ∙ ap Ok c.in_default.is in
    let last : c.run_event-made.new.runs.last ≡ c.args.at =
    event_last g.of (record { at = c.args.at; what = Tick (c.loop-place.place + 1) }) _ _ c.run_event-made.result
    (made_whole c.run_event-made.result c.show_event.result _ _ _ c.show_event.ensures.shown done) c.run_event-made.ensures in
    record {
      made =
          part_on g.of _ _ _ _ c.show_event.result _ _ _ done c.loop-place.invariant.made (λ rest. tick_next g.of.tree g.of.world c.args.at c.loop-place.place rest _ low)
          (event_makes g.of _ _ _ c.run_event-made.result c.show_event.result c.run_event-made.ensures c.show_event.ensures.shown c.show_event.ensures.watcher);
      ahead = omega (arith, last);
      shows = g.met.W.Watch.shows_both _ _ _ (Ok tt) c.loop-place.invariant.shows (shown_done g.W.Watch.shows c.show_event.result _ _ c.in_ok-show_event.was c.show_event.ensures.shows);
    }

pub returns-clause-made : goal.returns-clause-made
returns-clause-made g c =
    let all : g.of.world.runners ≤ c.loop-place.place = omega (arith, c.loop-place-test.false, c.len-place-end.ensures, c.requires.1.1.0.are.fit.many) in
    part_to g.of _ _ _ _ _ _ (λ done rest. ticks_end g.of.tree g.of.world c.args.at c.loop-place.place rest _ all) c.loop-place.invariant.made

pub returns-in_err-show_event-clause-made : goal.returns-in_err-show_event-clause-made
returns-in_err-show_event-clause-made g c =
    let low : c.loop-place.place < g.of.world.runners = omega (arith, c.loop-place-test.true, c.len-place-end.ensures, c.requires.1.1.0.are.fit.many) in
    part_over g.of _ _ _ _ c.show_event.result c.from_residual.result _ _ _ (handed_on _ _ _ c.in_err-show_event.was c.from_residual.ensures.1) (λ done. not_done c.from_residual.result c.from_residual.ensures.0 done)
    c.loop-place.invariant.made (λ rest. tick_next g.of.tree g.of.world c.args.at c.loop-place.place rest _ low)
    (event_makes g.of _ _ _ c.run_event-made.result c.show_event.result c.run_event-made.ensures c.show_event.ensures.shown c.show_event.ensures.watcher)

pub returns-in_err-show_event-clause-shows : goal.returns-in_err-show_event-clause-shows
returns-in_err-show_event-clause-shows g c =
    shown_stopped g.W.Watch.shows c.show_event.result c.from_residual.result _ _ _ c.in_err-show_event.was c.from_residual.ensures.1
    (shown_then g.W.Watch.shows g.met.W.Watch.shows_both c.show_event.result _ _ _ c.loop-place.invariant.shows c.show_event.ensures.shows)

pub returns-in-Faulted-clause-shows : goal.returns-in-Faulted-clause-shows
returns-in-Faulted-clause-shows g c =
    g.met.W.Watch.shows_both _ _ _ (Ok tt) c.loop-place.invariant.shows (shown_done g.W.Watch.shows c.show_event.result _ _ c.in_ok-show_event.was c.show_event.ensures.shows)
