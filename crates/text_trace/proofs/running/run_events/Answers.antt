use Rattle.std.proofs.Common.{◌≤◌, ◌<◌, ◌+◌, ◌∙◌, Ok, Err, ap, drop, length, refl, subst, sym, arith}
use Rattle.run_loop.proofs.Rising.{roster_both, same_roster}
use Rattle.text_trace.specs.declared.ended.Ended.TheVariants.{Done, Faulted}
use Rattle.text_trace.specs.Traces.{CanAllCome}
use Rattle.text_trace.proofs.Ends.{events_leave, events_watched, nothing_ends}
use Rattle.text_trace.proofs.Following.{come_next, event_next, events_end}
use Rattle.text_trace.proofs.Parts.{begun, come_as, go_on, leaves_nothing, part_few, part_none, part_on, part_over, part_room, part_to}
use Rattle.text_trace.proofs.ShownBlocks.{shown_as, shown_done, shown_out, shown_then}
use Rattle.text_trace.proofs.Steps.{event_last, event_makes, made_whole}
use Rattle.text_trace.proofs.running.run_events.Goals as goal

pub begin-requires : goal.begin-requires
begin-requires g c = (g.D.Drivers.states c.args.drivers.now, c.requires.1.1.0)

pub returns-in_err-underway-clause-leaves : goal.returns-in_err-underway-clause-leaves
returns-in_err-underway-clause-leaves g c = leaves_nothing c.from_residual.result c.from_residual.ensures.0 _ _ _

pub returns-in_err-underway-clause-kept : goal.returns-in_err-underway-clause-kept
returns-in_err-underway-clause-kept g c = record { same = same_roster _; none = c.requires.1.1.0.none }

pub returns-in_err-underway-clause-shows : goal.returns-in_err-underway-clause-shows
returns-in_err-underway-clause-shows g c = shown_out g.W.Watch.shows g.met.W.Watch.shows_stop c.from_residual.result _ _ c.from_residual.ensures.0 (g.met.W.Watch.shows_none _)

pub loop-next-init : goal.loop-next-init
loop-next-init g c =
    let can = begun g.of _ c.args.runs c.in_ok-underway.underway c.requires.1.1.0 c.in_ok-underway.ensures.runs c.in_ok-underway.ensures.room in
    record {
      made = part_none g.of _ _ _ can.are (λ rest. refl);
      come = come_as g.of _ c.args.runs c.args.events.now c.in_ok-underway.ensures.runs c.requires.1.1.1;
      shows = g.met.W.Watch.shows_none _;
    }

pub run_listed-made-requires-clause-runs : goal.run_listed-made-requires-clause-runs
run_listed-made-requires-clause-runs g c =
    let inv = c.loop-next.invariant in
    let low : c.loop-next.next-index < length c.args.events.now = omega arith in
    let can = begun g.of _ c.args.runs c.in_ok-underway.underway c.requires.1.1.0 c.in_ok-underway.ensures.runs c.in_ok-underway.ensures.room in
    let on = go_on g.of _ _ _ _ inv.made can in
    let come = come_next g.of _ _ _ _ low c.next-item.is inv.come in
    (g.of, on.are, come.0)

pub run_listed-made-requires-clause-room : goal.run_listed-made-requires-clause-room
run_listed-made-requires-clause-room g c =
    let can = begun g.of _ c.args.runs c.in_ok-underway.underway c.requires.1.1.0 c.in_ok-underway.ensures.runs c.in_ok-underway.ensures.room in
    (go_on g.of _ _ _ _ c.loop-next.invariant.made can).room

pub loop-next-preserved : goal.loop-next-preserved
loop-next-preserved g c =
    let inv = c.loop-next.invariant in
    let low : c.loop-next.next-index < length c.args.events.now = omega arith in
    let can = begun g.of _ c.args.runs c.in_ok-underway.underway c.requires.1.1.0 c.in_ok-underway.ensures.runs c.in_ok-underway.ensures.room in
    let on = go_on g.of _ _ _ _ inv.made can in
    let come = come_next g.of _ _ _ _ low c.next-item.is inv.come in
    let made = event_makes g.of _ _ _ c.run_listed-made.result c.show_event.result (c.run_listed-made.ensures g.of on.are come.0) c.show_event.ensures.shown c.show_event.ensures.watcher in
    let done = c.in-Ok-Done.is ∙ ap Ok c.in-Ok-Done.field-0-is in
    let last = event_last g.of _ _ _ c.run_listed-made.result
    (made_whole c.run_listed-made.result c.show_event.result _ _ _ c.show_event.ensures.shown done) (c.run_listed-made.ensures g.of on.are come.0) in
    record {
      made = part_on g.of _ _ _ _ c.show_event.result _ _ _ done inv.made (λ rest. event_next g.of.tree g.of.world c.args.events.now c.loop-next.next-index _ rest _ low c.next-item.is) made;
      come = subst (λ (x : _). CanAllCome g.of x (drop (c.loop-next.next-index + 1) c.args.events.now)) (sym last) come.1;
      shows = g.met.W.Watch.shows_both _ _ _ (Ok tt) inv.shows (shown_done g.W.Watch.shows c.show_event.result _ _ done c.show_event.ensures.shows);
    }

pub returns-in-Ok-Faulted-clause-leaves : goal.returns-in-Ok-Faulted-clause-leaves
returns-in-Ok-Faulted-clause-leaves g c =
    let inv = c.loop-next.invariant in
    let low : c.loop-next.next-index < length c.args.events.now = omega arith in
    let can = begun g.of _ c.args.runs c.in_ok-underway.underway c.requires.1.1.0 c.in_ok-underway.ensures.runs c.in_ok-underway.ensures.room in
    let on = go_on g.of _ _ _ _ inv.made can in
    let come = come_next g.of _ _ _ _ low c.next-item.is inv.come in
    let made = event_makes g.of _ _ _ c.run_listed-made.result c.show_event.result (c.run_listed-made.ensures g.of on.are come.0) c.show_event.ensures.shown c.show_event.ensures.watcher in
    let over = part_over g.of _ _ _ _ c.show_event.result (Ok Faulted) _ _ _ (c.in-Ok-Faulted.is ∙ ap Ok c.in-Ok-Faulted.field-0-is) (λ done. cc) inv.made
    (λ rest. event_next g.of.tree g.of.world c.args.events.now c.loop-next.next-index _ rest _ low c.next-item.is) made in
    events_leave g.of (Ok Faulted) (Ok Faulted) _ _ _ c.args.runs c.args.events.now c.in_ok-underway.ensures.runs over (nothing_ends g.of _)

pub returns-in-Ok-Faulted-clause-kept : goal.returns-in-Ok-Faulted-clause-kept
returns-in-Ok-Faulted-clause-kept g c =
    let inv = c.loop-next.invariant in
    let low : c.loop-next.next-index < length c.args.events.now = omega arith in
    let can = begun g.of _ c.args.runs c.in_ok-underway.underway c.requires.1.1.0 c.in_ok-underway.ensures.runs c.in_ok-underway.ensures.room in
    let on = go_on g.of _ _ _ _ inv.made can in
    let come = come_next g.of _ _ _ _ low c.next-item.is inv.come in
    let made = event_makes g.of _ _ _ c.run_listed-made.result c.show_event.result (c.run_listed-made.ensures g.of on.are come.0) c.show_event.ensures.shown c.show_event.ensures.watcher in
    let over = part_over g.of _ _ _ _ c.show_event.result (Ok Faulted) _ _ _ (c.in-Ok-Faulted.is ∙ ap Ok c.in-Ok-Faulted.field-0-is) (λ done. cc) inv.made
    (λ rest. event_next g.of.tree g.of.world c.args.events.now c.loop-next.next-index _ rest _ low c.next-item.is) made in
    record { same = over.roster; none = over.stand.off (over.off refl) }

pub returns-in-Ok-Faulted-clause-watcher : goal.returns-in-Ok-Faulted-clause-watcher
returns-in-Ok-Faulted-clause-watcher g c =
    let inv = c.loop-next.invariant in
    let low : c.loop-next.next-index < length c.args.events.now = omega arith in
    let can = begun g.of _ c.args.runs c.in_ok-underway.underway c.requires.1.1.0 c.in_ok-underway.ensures.runs c.in_ok-underway.ensures.room in
    let on = go_on g.of _ _ _ _ inv.made can in
    let come = come_next g.of _ _ _ _ low c.next-item.is inv.come in
    let made = event_makes g.of _ _ _ c.run_listed-made.result c.show_event.result (c.run_listed-made.ensures g.of on.are come.0) c.show_event.ensures.shown c.show_event.ensures.watcher in
    let over = part_over g.of _ _ _ _ c.show_event.result (Ok Faulted) _ _ _ (c.in-Ok-Faulted.is ∙ ap Ok c.in-Ok-Faulted.field-0-is) (λ done. cc) inv.made
    (λ rest. event_next g.of.tree g.of.world c.args.events.now c.loop-next.next-index _ rest _ low c.next-item.is) made in
    over.watcher

pub returns-in-Ok-Faulted-clause-shows : goal.returns-in-Ok-Faulted-clause-shows
returns-in-Ok-Faulted-clause-shows g c =
    g.met.W.Watch.shows_both _ _ _ (Ok tt) c.loop-next.invariant.shows (shown_done g.W.Watch.shows c.show_event.result _ _ (c.in-Ok-Faulted.is ∙ ap Ok c.in-Ok-Faulted.field-0-is) c.show_event.ensures.shows)

pub end_run-requires : goal.end_run-requires
end_run-requires g c =
    let inv = c.loop-next.invariant in
    let low : c.loop-next.next-index < length c.args.events.now = omega arith in
    let can = begun g.of _ c.args.runs c.in_ok-underway.underway c.requires.1.1.0 c.in_ok-underway.ensures.runs c.in_ok-underway.ensures.room in
    let on = go_on g.of _ _ _ _ inv.made can in
    let come = come_next g.of _ _ _ _ low c.next-item.is inv.come in
    let made = event_makes g.of _ _ _ c.run_listed-made.result c.show_event.result (c.run_listed-made.ensures g.of on.are come.0) c.show_event.ensures.shown c.show_event.ensures.watcher in
    let over = part_over g.of _ _ _ _ c.show_event.result (Err c.in-Err.stopped) _ _ _ c.in-Err.is (λ done. cc) inv.made
    (λ rest. event_next g.of.tree g.of.world c.args.events.now c.loop-next.next-index _ rest _ low c.next-item.is) made in
    λ lifetimes live. (live.0, (live.1, (over.stand, (part_few g.of _ _ _ _ _ over can.few, (part_room g.of _ _ _ _ _ over can.room, (over.on, over.off))))))

pub returns-in-Err-clause-leaves : goal.returns-in-Err-clause-leaves
returns-in-Err-clause-leaves g c =
    let inv = c.loop-next.invariant in
    let low : c.loop-next.next-index < length c.args.events.now = omega arith in
    let can = begun g.of _ c.args.runs c.in_ok-underway.underway c.requires.1.1.0 c.in_ok-underway.ensures.runs c.in_ok-underway.ensures.room in
    let on = go_on g.of _ _ _ _ inv.made can in
    let come = come_next g.of _ _ _ _ low c.next-item.is inv.come in
    let made = event_makes g.of _ _ _ c.run_listed-made.result c.show_event.result (c.run_listed-made.ensures g.of on.are come.0) c.show_event.ensures.shown c.show_event.ensures.watcher in
    let over = part_over g.of _ _ _ _ c.show_event.result (Err c.in-Err.stopped) _ _ _ c.in-Err.is (λ done. cc) inv.made
    (λ rest. event_next g.of.tree g.of.world c.args.events.now c.loop-next.next-index _ rest _ low c.next-item.is) made in
    events_leave g.of (Err c.in-Err.stopped) c.end_run.result _ _ _ c.args.runs c.args.events.now c.in_ok-underway.ensures.runs over c.end_run.ensures.ends

pub returns-in-Err-clause-kept : goal.returns-in-Err-clause-kept
returns-in-Err-clause-kept g c =
    let inv = c.loop-next.invariant in
    let low : c.loop-next.next-index < length c.args.events.now = omega arith in
    let can = begun g.of _ c.args.runs c.in_ok-underway.underway c.requires.1.1.0 c.in_ok-underway.ensures.runs c.in_ok-underway.ensures.room in
    let on = go_on g.of _ _ _ _ inv.made can in
    let come = come_next g.of _ _ _ _ low c.next-item.is inv.come in
    let made = event_makes g.of _ _ _ c.run_listed-made.result c.show_event.result (c.run_listed-made.ensures g.of on.are come.0) c.show_event.ensures.shown c.show_event.ensures.watcher in
    let over = part_over g.of _ _ _ _ c.show_event.result (Err c.in-Err.stopped) _ _ _ c.in-Err.is (λ done. cc) inv.made
    (λ rest. event_next g.of.tree g.of.world c.args.events.now c.loop-next.next-index _ rest _ low c.next-item.is) made in
    record { same = roster_both _ _ _ over.roster c.end_run.ensures.kept.same; none = c.end_run.ensures.kept.none }

pub returns-in-Err-clause-watcher : goal.returns-in-Err-clause-watcher
returns-in-Err-clause-watcher g c =
    let inv = c.loop-next.invariant in
    let low : c.loop-next.next-index < length c.args.events.now = omega arith in
    let can = begun g.of _ c.args.runs c.in_ok-underway.underway c.requires.1.1.0 c.in_ok-underway.ensures.runs c.in_ok-underway.ensures.room in
    let on = go_on g.of _ _ _ _ inv.made can in
    let come = come_next g.of _ _ _ _ low c.next-item.is inv.come in
    let made = event_makes g.of _ _ _ c.run_listed-made.result c.show_event.result (c.run_listed-made.ensures g.of on.are come.0) c.show_event.ensures.shown c.show_event.ensures.watcher in
    let over = part_over g.of _ _ _ _ c.show_event.result (Err c.in-Err.stopped) _ _ _ c.in-Err.is (λ done. cc) inv.made
    (λ rest. event_next g.of.tree g.of.world c.args.events.now c.loop-next.next-index _ rest _ low c.next-item.is) made in
    events_watched g.of (Err c.in-Err.stopped) c.end_run.result _ _ _ c.args.runs c.args.events.now c.in_ok-underway.ensures.runs over c.end_run.ensures.ends

pub returns-in-Err-clause-shows : goal.returns-in-Err-clause-shows
returns-in-Err-clause-shows g c =
    c.end_run.ensures.shows c.args.watch.now
    (shown_as g.W.Watch.shows c.show_event.result (Err c.in-Err.stopped) _ _ c.in-Err.is
    (shown_then g.W.Watch.shows g.met.W.Watch.shows_both c.show_event.result _ _ _ c.loop-next.invariant.shows c.show_event.ensures.shows))

pub end_run-requires-2 : goal.end_run-requires-2
end_run-requires-2 g c =
    let all : length c.args.events.now ≤ c.loop-next.next-index = omega arith in
    let inv = c.loop-next.invariant in
    let over = part_to g.of _ _ _ _ _ _ (λ done rest. events_end g.of.tree g.of.world c.args.events.now c.loop-next.next-index rest _ all) inv.made in
    let can = begun g.of _ c.args.runs c.in_ok-underway.underway c.requires.1.1.0 c.in_ok-underway.ensures.runs c.in_ok-underway.ensures.room in
    λ lifetimes live. (live.0, (live.1, (over.stand, (part_few g.of _ _ _ _ _ over can.few, (part_room g.of _ _ _ _ _ over can.room, (over.on, over.off))))))

pub returns-clause-leaves : goal.returns-clause-leaves
returns-clause-leaves g c =
    let all : length c.args.events.now ≤ c.loop-next.next-index = omega arith in
    let inv = c.loop-next.invariant in
    let over = part_to g.of _ _ _ _ _ _ (λ done rest. events_end g.of.tree g.of.world c.args.events.now c.loop-next.next-index rest _ all) inv.made in
    events_leave g.of (Ok Done) c.end_run-2.result _ _ _ c.args.runs c.args.events.now c.in_ok-underway.ensures.runs over c.end_run-2.ensures.ends

pub returns-clause-kept : goal.returns-clause-kept
returns-clause-kept g c =
    let all : length c.args.events.now ≤ c.loop-next.next-index = omega arith in
    let inv = c.loop-next.invariant in
    let over = part_to g.of _ _ _ _ _ _ (λ done rest. events_end g.of.tree g.of.world c.args.events.now c.loop-next.next-index rest _ all) inv.made in
    record { same = roster_both _ _ _ over.roster c.end_run-2.ensures.kept.same; none = c.end_run-2.ensures.kept.none }

pub returns-clause-watcher : goal.returns-clause-watcher
returns-clause-watcher g c =
    let all : length c.args.events.now ≤ c.loop-next.next-index = omega arith in
    let inv = c.loop-next.invariant in
    let over = part_to g.of _ _ _ _ _ _ (λ done rest. events_end g.of.tree g.of.world c.args.events.now c.loop-next.next-index rest _ all) inv.made in
    events_watched g.of (Ok Done) c.end_run-2.result _ _ _ c.args.runs c.args.events.now c.in_ok-underway.ensures.runs over c.end_run-2.ensures.ends

pub returns-clause-shows : goal.returns-clause-shows
returns-clause-shows g c = c.end_run-2.ensures.shows _ c.loop-next.invariant.shows
