use Rattle.std.proofs.Common.{◌∙◌, ◌++◌, ◌-◌, [], ap, refl, arith}
use Rattle.run_loop.specs.declared.runs.Runs.{Runs}
use Rattle.run_loop.specs.Runs.{arenas_of}
use Rattle.run_loop.proofs.Rising.{roster_both, same_roster}
use Rattle.spec_output.specs.Rounds.{live_events}
use Rattle.text_trace.specs.Traces.{side, trace_of}
use Rattle.text_trace.proofs.Ends.{leaves_by, rounds_to_end, watcher_by}
use Rattle.text_trace.proofs.Following.{run_is}
use Rattle.text_trace.proofs.Lives.{are_moments, asked_as, asked_nothing, given_none, to_come}
use Rattle.text_trace.proofs.Parts.{begun, leaves_nothing, part_few, part_room}
use Rattle.text_trace.proofs.ShownBlocks.{shown_out}
use Rattle.text_trace.proofs.rounds.run_rounds.Goals as goal

pub begin-requires : goal.begin-requires
begin-requires g c = (g.D.Drivers.states c.args.drivers.now, c.requires.1.1.1)

pub end_run-requires : goal.end_run-requires
end_run-requires g c =
    let made = c.follow_clock-ended.ensures.made.made [] (λ done. refl) in
    let can = begun g.of _ c.args.runs c.in_ok-underway.underway c.requires.1.1.1 c.in_ok-underway.ensures.runs c.in_ok-underway.ensures.room in
    λ lifetimes live. (live.0, (live.1, (made.stand, (part_few g.of _ _ _ _ _ made can.few, (part_room g.of _ _ _ _ _ made can.room, (made.on, made.off))))))

pub returns-in_err-underway-clause-leaves : goal.returns-in_err-underway-clause-leaves
returns-in_err-underway-clause-leaves g c =
    ([] ++ to_come (c.args.rounds - 0) _, are_moments c.args.rounds _ _ [] (given_none _) (omega arith), leaves_nothing c.from_residual.result c.from_residual.ensures.0 _ _ _)

pub returns-in_err-underway-clause-asked : goal.returns-in_err-underway-clause-asked
returns-in_err-underway-clause-asked g c = asked_nothing c.from_residual.result c.from_residual.ensures.0 _ _ _ _ _ _

pub returns-in_err-underway-clause-kept : goal.returns-in_err-underway-clause-kept
returns-in_err-underway-clause-kept g c = record { same = same_roster _; none = c.requires.1.1.1.none }

pub returns-in_err-underway-clause-shows : goal.returns-in_err-underway-clause-shows
returns-in_err-underway-clause-shows g c = shown_out g.W.Watch.shows g.met.W.Watch.shows_stop c.from_residual.result _ _ c.from_residual.ensures.0 (g.met.W.Watch.shows_none _)

pub returns-clause-leaves : goal.returns-clause-leaves
returns-clause-leaves g c =
    let ends = c.end_run.ensures.ends in
    let live = rounds_to_end g.of c.follow_clock-ended.result c.end_run.result c.args.rounds _ _ ends.last _ _ c.follow_clock-ended.ensures.made ends.finishes in (
      live.moments,
      live.are,
      leaves_by g.of c.end_run.result _ ends.last _ _ c.args.runs _ (λ (r : Runs). trace_of g.of (g.D.Drivers.states c.args.drivers.now) r (live_events g.of.world r.last live.moments)) c.in_ok-underway.ensures.runs
          (run_is g.of.tree g.of.world (live_events g.of.world c.in_ok-underway.underway.runs.last live.moments) _) live.made ends.watch ends.done
          ((c.follow_clock-ended.ensures.made.made [] (λ done. refl)).arenas ∙ ap arenas_of c.in_ok-underway.ensures.runs) ends.halts,
    )

pub returns-clause-asked : goal.returns-clause-asked
returns-clause-asked g c =
    let ends = c.end_run.ensures.ends in
    let live = rounds_to_end g.of c.follow_clock-ended.result c.end_run.result c.args.rounds _ _ ends.last _ _ c.follow_clock-ended.ensures.made ends.finishes in
    asked_as g.of _ c.args.rounds _ _ _ _ _ c.in_ok-underway.ensures.runs live.asked

pub returns-clause-kept : goal.returns-clause-kept
returns-clause-kept g c =
    record { same = roster_both _ _ _ (c.follow_clock-ended.ensures.made.made [] (λ done. refl)).roster c.end_run.ensures.kept.same; none = c.end_run.ensures.kept.none }

pub returns-clause-watcher : goal.returns-clause-watcher
returns-clause-watcher g c =
    let ends = c.end_run.ensures.ends in
    let live = rounds_to_end g.of c.follow_clock-ended.result c.end_run.result c.args.rounds _ _ ends.last _ _ c.follow_clock-ended.ensures.made ends.finishes in
    watcher_by g.of c.end_run.result _ ends.last (side (g.D.Drivers.states c.end_run.new.drivers) (g.W.Watch.state c.end_run.new.watch)) _ live.made ends.watch
