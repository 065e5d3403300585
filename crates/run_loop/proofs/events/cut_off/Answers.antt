use Rattle.std.proofs.Common.{◌≡◌, [], inl, sym, ap, subst, ◌∙◌}
use Rattle.spec_run.specs.Rosters.{IsSameRoster}
use Rattle.spec_run.specs.Run.{quench_calls}
use Rattle.run_arena.specs.declared.block.Block.{Block}
use Rattle.run_arena.specs.Noted.{Noted}
use Rattle.run_loop.specs.Runs.{arenas_of, runners_in}
use Rattle.run_loop.proofs.Messages.{is_telling, telling_cut}
use Rattle.run_loop.proofs.Rising.{over_same}
use Rattle.run_loop.proofs.Stepping.{quenched_stays}
use Rattle.run_loop.proofs.events.cut_off.Goals.{in-Tell, in_default}
use Rattle.run_loop.proofs.events.cut_off.Goals as goal

pub returns : goal.returns
returns g c = λ of are.
    let drivers = g.D.Drivers.states c.args.drivers.now in
    let runs = c.args.runs.now in
    let begun : c.match-event.block.notes ≡ record { list = []; reserve = c.args.block.now.notes.full; full = c.args.block.now.notes.full } =
    elim c.match-event.branch [
      | in-Tell w ↦ ap (λ (b : Block). b.notes) w.block-is ∙ w.begin.ensures.notes
      | in_default w ↦ absurd (is_telling c.args.event.now.what c.requires.tells w.in_default.not-Tell)
    ]
    in
    let q = c.stop.ensures.quenched of are.fit in
    record {
      step = inl (telling_cut of.tree of.world c.args.event.now drivers _ runs c.stop.new.runs _ _ c.requires.tells (ap (λ (n : Noted). n.list) begun) q);
      runs = tt;
      quenched = quenched_stays of.tree _ _ _ _ _ _ q;
      none = c.stop.ensures.none;
      usable = c.stop.ensures.usable;
      arenas = q.arenas;
      room = c.stop.ensures.full ∙ ap (λ (n : Noted). n.full) begun;
      roster = subst (IsSameRoster drivers) (sym q.drivers) (over_same (arenas_of runs) (quench_calls 1 (runners_in of.tree.term drivers runs.runners.items)) drivers);
    }
