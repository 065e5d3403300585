use Rattle.std.proofs.Common.{◌≡◌, ◌≤◌, ◌+◌, ◌∙◌, true, refl, ap, arith}
use Rattle.run_loop.specs.Runs.{arenas_of, leaves_of}
use Rattle.run_loop.proofs.Rising.{roster_both, same_roster}
use Rattle.text_trace.proofs.Cuts.{event_halts, finish_halts, halted_both, halted_none}
use Rattle.text_trace.proofs.Rests.{next_rests, none_yet, not_stopped, rest_or_stopped, rests_after, same_many}
use Rattle.text_trace.proofs.Steps.{stands}
use Rattle.text_trace.proofs.finishes.finish_unwritten.Goals as goal

pub loop-place-init : goal.loop-place-init
loop-place-init g c =
    let drivers = g.D.Drivers.states c.args.drivers.now in
    record {
      stand = c.requires.1.0;
      rest = λ usable. none_yet g.of.tree drivers c.args.underway.now.runs;
      halts = halted_none _ drivers;
      arenas = refl;
      room = refl;
      roster = same_roster drivers;
    }

pub run_finish-requires : goal.run_finish-requires
run_finish-requires g c = λ lifetimes live.
    let l = c.loop-place in
    let on : l.underway.runs.usable ≡ true = cc in
    let are = l.invariant.stand.on on in
    let last : l.place + 1 ≤ g.of.world.runners = omega (arith, c.loop-place-test.true, c.len-place-end.ensures, are.fit.many, same_many c.args.underway.now.runs l.underway.runs l.invariant.arenas) in
    (live, (are, (omega arith, (last, omega (arith, ap leaves_of l.invariant.arenas, l.invariant.room, c.requires.1.1.1)))))

pub loop-place-preserved : goal.loop-place-preserved
loop-place-preserved g c =
    let l = c.loop-place in
    let on : l.underway.runs.usable ≡ true = cc in
    let are = l.invariant.stand.on on in
    let e = c.run_finish.ensures in
    record {
      stand = stands g.of c.run_finish.result _ c.run_finish.new.runs e.runs e.none e.usable;
      rest = λ usable.
          next_rests g.of.tree l.place _ _ l.underway.runs c.run_finish.new.runs
          (λ before. rests_after g.of.tree g.of.world (l.place + 1) l.underway.runs are before c.run_finish.result c.run_finish.new.runs c.run_finish.new.block _ _ refl (not_stopped c.run_finish.result c.run_finish.new.runs e.usable usable) e.step)
          (l.invariant.rest on);
      halts =
          halted_both _ (arenas_of l.underway.runs) _ _ _ l.invariant.arenas l.invariant.halts
          (event_halts c.run_finish.result g.of.tree.term (arenas_of l.underway.runs) _ _ c.run_finish.new.runs e.arenas c.run_finish.new.block _ e.step (finish_halts g.of.tree g.of.world (l.place + 1) _));
      arenas = e.arenas ∙ l.invariant.arenas;
      room = e.room ∙ l.invariant.room;
      roster = roster_both _ _ _ l.invariant.roster e.roster;
    }

pub returns-clause-kept : goal.returns-clause-kept
returns-clause-kept g c =
    let l = c.loop-place in
    record {
      same = l.invariant.roster;
      none = rest_or_stopped g.of _ l.underway.runs l.place l.invariant.stand l.invariant.rest (omega (arith, c.loop-place-test.false, c.len-place-end.ensures, same_many c.args.underway.now.runs l.underway.runs l.invariant.arenas));
    }
