use Rattle.std.proofs.Common.{◌≡◌, ◌-◌, ◌≤◌, ◌++◌, Some, Result, OnOk, length, refl, sym, ap, subst, ◌∙◌, arith}
use Rattle.std.specs.Vec.{with_item}
use Rattle.std.proofs.lemmas.Option.{slice_get-get_or}
use Rattle.base_texts.specs.declared.stop.Stop.{Stop}
use Rattle.base_texts.specs.Stops.{UnlessMemory}
use Rattle.spec_run.specs.declared.fault.NodeFault.{NodeFault}
use Rattle.spec_run.specs.Run.{Stepped, changed_entries}
use Rattle.run_arena.specs.declared.block.Block.{Block}
use Rattle.run_loop.specs.declared.runs.ReadyRunner.{ReadyRunner}
use Rattle.run_loop.specs.declared.runs.Runs.{Runs}
use Rattle.run_loop.specs.Parts.{acting, turn_header}
use Rattle.run_loop.specs.Runs.{leaves_of, state_of_runs}
use Rattle.run_loop.specs.Steps.{EventEnds}
use Rattle.spec_run.specs.Rosters.{IsSameRoster}
use Rattle.run_loop.proofs.Acting.{arenas_over, can_over, few_over, fit_over, part_over}
use Rattle.run_loop.proofs.Putting.{entries_among}
use Rattle.run_loop.proofs.Rising.{over_same, roster_both}
use Rattle.run_loop.proofs.Stepping.{can_tell, closing_keeps, entries_of, from_none, part_calls, runner_there, stay_runs, steps, stop_quenched}
use Rattle.run_loop.proofs.Whole.{part_is, part_steady, steady_after}
use Rattle.run_loop.proofs.events.run_part.Goals as goal

pub make_part-ended-requires : goal.make_part-ended-requires
make_part-ended-requires g c =
    let of = c.requires.runs.0 in
    let can = c.requires.runs.1 in
    let at = slice_get-get_or c.args.runs.now.runners.items (c.args.turn.runner - 1) c.index_mut-runner.result.now (omega (arith, can.first, can.last, can.are.fit.many)) ∙ ap Some (sym c.index_mut-runner.ensures.value) in
    record { can = (of, can_over of c.args.turn (g.D.Drivers.states c.args.drivers.now) c.args.runs.now can c.index_mut-runner.result.now at c.of-board.result (c.of-board.ensures ∙ c.replace-board.ensures.value)) }

pub give_back-acted-requires : goal.give_back-acted-requires
give_back-acted-requires g c =
    let of = c.requires.runs.0 in
    let can = c.requires.runs.1 in
    let at = slice_get-get_or c.args.runs.now.runners.items (c.args.turn.runner - 1) c.index_mut-runner.result.now (omega (arith, can.first, can.last, can.are.fit.many)) ∙ ap Some (sym c.index_mut-runner.ensures.value) in
    let before = g.D.Drivers.states c.args.drivers.now in
    let same = c.of-board.ensures ∙ c.replace-board.ensures.value in
    let p = c.make_part-ended in
    let after = g.D.Drivers.states p.new.drivers in
    let new = acting p.new.arena p.new.board in
    record { few = few_over of c.args.turn before c.args.runs.now can c.index_mut-runner.result.now at c.of-board.result same new p.new.facts after p.ensures.fits }

pub end_event-requires-clause-fit : goal.end_event-requires-clause-fit
end_event-requires-clause-fit g c =
    let of = c.requires.runs.0 in
    let can = c.requires.runs.1 in
    let at = slice_get-get_or c.args.runs.now.runners.items (c.args.turn.runner - 1) c.index_mut-runner.result.now (omega (arith, can.first, can.last, can.are.fit.many)) ∙ ap Some (sym c.index_mut-runner.ensures.value) in
    let before = g.D.Drivers.states c.args.drivers.now in
    let same = c.of-board.ensures ∙ c.replace-board.ensures.value in
    let p = c.make_part-ended in
    let v = c.give_back-acted in
    let after = g.D.Drivers.states p.new.drivers in
    let new = acting p.new.arena p.new.board in (
      of,
      fit_over of c.args.turn before c.args.runs.now can c.index_mut-runner.result.now at c.of-board.result same new v.new.runner v.ensures.runner p.new.facts after p.result v.result.ended v.ensures.ended
          c.begin.new.block.notes.list p.new.notes.list v.new.block.notes.list (ap (λ (b : Block). b.notes.list) v.ensures.rest) p.ensures.stays
          (p.ensures.part of (can_over of c.args.turn before c.args.runs.now can c.index_mut-runner.result.now at c.of-board.result same)) p.ensures.fits,
    )

pub end_event-requires-clause-can : goal.end_event-requires-clause-can
end_event-requires-clause-can g c =
    let of = c.requires.runs.0 in
    let can = c.requires.runs.1 in
    let at = slice_get-get_or c.args.runs.now.runners.items (c.args.turn.runner - 1) c.index_mut-runner.result.now (omega (arith, can.first, can.last, can.are.fit.many)) ∙ ap Some (sym c.index_mut-runner.ensures.value) in
    let before = g.D.Drivers.states c.args.drivers.now in
    let same = c.of-board.ensures ∙ c.replace-board.ensures.value in
    let p = c.make_part-ended in
    let v = c.give_back-acted in
    let after = g.D.Drivers.states p.new.drivers in
    let new = acting p.new.arena p.new.board in
    can_tell of.tree of.world before after c.args.runs.now _ can.are
    (fit_over of c.args.turn before c.args.runs.now can c.index_mut-runner.result.now at c.of-board.result same new v.new.runner v.ensures.runner p.new.facts after p.result v.result.ended v.ensures.ended
    c.begin.new.block.notes.list p.new.notes.list v.new.block.notes.list (ap (λ (b : Block). b.notes.list) v.ensures.rest) p.ensures.stays
    (p.ensures.part of (can_over of c.args.turn before c.args.runs.now can c.index_mut-runner.result.now at c.of-board.result same)) p.ensures.fits)
    refl

pub end_event-requires-clause-room : goal.end_event-requires-clause-room
end_event-requires-clause-room g c =
    let of = c.requires.runs.0 in
    let can = c.requires.runs.1 in
    let at = slice_get-get_or c.args.runs.now.runners.items (c.args.turn.runner - 1) c.index_mut-runner.result.now (omega (arith, can.first, can.last, can.are.fit.many)) ∙ ap Some (sym c.index_mut-runner.ensures.value) in
    let before = g.D.Drivers.states c.args.drivers.now in
    let same = c.of-board.ensures ∙ c.replace-board.ensures.value in
    let p = c.make_part-ended in
    let v = c.give_back-acted in
    let after = g.D.Drivers.states p.new.drivers in
    let new = acting p.new.arena p.new.board in
    let arenas = arenas_over of c.args.turn before c.args.runs.now can c.index_mut-runner.result.now at c.of-board.result same new v.new.runner v.ensures.runner p.ensures.stays in
    omega (arith, ap leaves_of arenas, ap (λ (b : Block). b.notes.reserve) v.ensures.rest, p.ensures.reserve, ap (λ n. n.reserve) c.begin.ensures.notes, c.requires.room)

pub returns : goal.returns
returns g c = λ of can.
    let at = slice_get-get_or c.args.runs.now.runners.items (c.args.turn.runner - 1) c.index_mut-runner.result.now (omega (arith, can.first, can.last, can.are.fit.many)) ∙ ap Some (sym c.index_mut-runner.ensures.value) in
    let before = g.D.Drivers.states c.args.drivers.now in
    let same = c.of-board.ensures ∙ c.replace-board.ensures.value in
    let p = c.make_part-ended in
    let v = c.give_back-acted in
    let after = g.D.Drivers.states p.new.drivers in
    let new = acting p.new.arena p.new.board in
    let tree = of.tree in
    let world = of.world in
    let turn = c.args.turn in
    let number = turn.runner in
    let are = can.are in
    let runs = c.args.runs.now in
    let made = c.index_mut-runner.result.now in
    let e = c.end_event in
    let ended = v.result.ended in
    let told_entries = v.result.told in
    let last = g.D.Drivers.states e.new.drivers in
    let block = v.new.block in
    let left : Runs = record runs { runners = with_item runs.runners (number - 1) v.new.runner; facts = p.new.facts; last = turn.at } in
    let s = state_of_runs tree.term before runs in
    let low : number ≤ length runs.runners.items = omega (arith, can.last, are.fit.many) in
    let r = runner_there tree.term before runs number can.first low in
    let rest = v.ensures.rest in
    let header = ap (λ (b : Block). b.header) rest ∙ c.begin.ensures.header ∙ c.header.ensures in
    let no_facts = ap (λ (b : Block). b.facts.items) rest ∙ c.begin.ensures.facts in
    let told_over = subst (λ (x : Result (Unit {0}) (Stop NodeFault)). UnlessMemory x (OnOk told_entries (block.entries.items ≡ c.begin.new.block.entries.items ++ changed_entries number 0 g.P.Past.past v.new.runner.board))) (sym v.ensures.ended)
    (subst (λ (x : ReadyRunner). UnlessMemory p.result (OnOk told_entries (block.entries.items ≡ c.begin.new.block.entries.items ++ changed_entries number 0 g.P.Past.past x.board))) (sym v.ensures.runner) v.ensures.told) in
    let entries = entries_of ended told_entries _ _ _ c.begin.ensures.entries (entries_among runs.runners.items number made at g.P.Past.past c.requires.past v.new.runner ended told_entries c.begin.new.block.entries.items block.entries.items told_over) in
    let met = p.ensures.part of (can_over of turn before runs can made at c.of-board.result same) in
    let said = ap (λ (b : Block). b.notes.list) rest in
    let fit = fit_over of turn before runs can made at c.of-board.result same new v.new.runner v.ensures.runner p.new.facts after p.result ended v.ensures.ended c.begin.new.block.notes.list p.new.notes.list block.notes.list said p.ensures.stays met p.ensures.fits in
    let part = part_over of turn before runs can made at c.of-board.result same new v.new.runner v.ensures.runner p.new.facts after p.result ended v.ensures.ended c.begin.new.block.notes.list p.new.notes.list block.notes.list said p.ensures.stays met r.0 r.1 in
    let arenas = arenas_over of turn before runs can made at c.of-board.result same new v.new.runner v.ensures.runner p.ensures.stays in
    let closes = e.ensures.closes of fit in
    let ends = from_none ended tree.term number turn.at _ _ before after _ _ c.begin.new.block.notes.list block.notes.list _ (ap (λ n. n.list) c.begin.ensures.notes) part in
    let step =
    subst (λ (d : Stepped). EventEnds e.result tree.term before last e.new.runs e.new.block d) (part_is turn.part tree world number turn.at s r.0 r.1)
    (steps tree (turn_header turn) number turn.at runs left e.new.runs before after last block e.new.block can.first low are.told
    arenas refl refl header no_facts told_entries _ ended e.result ends entries closes) in
    let stay =
    stay_runs tree (turn_header turn) number turn.at runs left e.new.runs before after last block e.new.block can.first low are.told
    arenas refl refl header no_facts told_entries _ world are.usable fit ended e.result ends closes in
    let keeps = closing_keeps ended told_entries e.result tree number after last left e.new.runs block e.new.block closes in
    let called = part_calls ended tree.term number turn.at _ _ before after _ _ _ _ _ part in
    record {
      step = step;
      runs = steady_after e.result tree world before last e.new.runs e.new.block _ step (part_steady turn.part tree world number turn.at s are.steady can.ahead) stay;
      quenched = stop_quenched ended told_entries e.result tree number after last left e.new.runs block e.new.block closes;
      none = e.ensures.none;
      usable = e.ensures.usable;
      arenas = keeps.0 ∙ arenas;
      room = e.ensures.full ∙ ap (λ (b : Block). b.notes.full) rest ∙ p.ensures.full ∙ ap (λ n. n.full) c.begin.ensures.notes;
      roster = roster_both before after last (subst (IsSameRoster before) (sym called.1) (over_same _ called.0 before)) (subst (IsSameRoster after) (sym keeps.1.1) (over_same _ keeps.1.0 after));
    }
