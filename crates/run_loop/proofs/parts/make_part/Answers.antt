use Rattle.std.proofs.Common.{ap, refl, rules}
use Rattle.spec_run.specs.Run.{root_view}
use Rattle.run_arena.specs.Stages.{scene_on}
use Rattle.run_loop.specs.declared.parts.Part.TheVariants.{Tick}
use Rattle.run_loop.specs.Parts.{EndsTick, acting}
use Rattle.run_loop.proofs.Seen.{can_visit, first, given_back, made_of, part_seen, scene_as, there_as}
use Rattle.run_loop.proofs.TickEnds.{as_many_ended, ends_as, root_there, tick_ended, whatever}
use Rattle.run_loop.proofs.parts.make_part.Goals as goal

pub end_tick-requires : goal.end_tick-requires
end_tick-requires g c =
    let states = g.D.Drivers.states in
    let m = made_of (acting c.args.arena.now c.args.board.now) c.args.facts.now (states c.args.drivers.now) c.args.turn.at c.deref.ensures.value c.deref_mut-kept.ensures.value c.deref_mut-kept.ensures.len in
    let of = c.requires.can.0 in
    let can = can_visit of m c.requires.can.1 in
    let s1 = scene_on states c.tick-visited.new.stage in
    whatever c.tick-visited.result
    (there_as {a = c.tick-visited.new.stage.kept.now} 1 (search rules)
    (root_there of.tree.term (root_view of.tree of.world) m.nodes s1 (c.tick-visited.ensures.fits of.tree.term (root_view of.tree of.world) 1 can.fits)))

pub returns-clause-part : goal.returns-clause-part
returns-clause-part g c = λ of can.
    let states = g.D.Drivers.states in
    let m = made_of (acting c.args.arena.now c.args.board.now) c.args.facts.now (states c.args.drivers.now) c.args.turn.at c.deref.ensures.value c.deref_mut-kept.ensures.value c.deref_mut-kept.ensures.len in
    let stage = c.tick-visited.new.stage in
    let s0 = first of m in
    let s1 = scene_on states stage in
    let number = m.runner.arena.runner in
    let view = root_view of.tree of.world in
    let made = can_visit of m can in
    let visited = c.tick-visited.result in
    let kept = c.end_tick.new.kept in
    let notes = c.end_tick.new.notes.list in
    let ends : EndsTick number visited c.end_tick.result stage.kept.now kept stage.notes.now.list notes =
    ends_as number visited c.end_tick.result kept notes (search rules) (search rules) c.end_tick.ensures.ends in
    let s2 = record s1 { kept = kept } in
    let back = given_back of m s1 can c.tick-visited.ensures.fits kept (as_many_ended m.nodes number s0 s1 stage.notes.now.list notes visited c.end_tick.result kept ends) in
    let there = whatever visited (root_there of.tree.term view m.nodes s1 (c.tick-visited.ensures.fits of.tree.term view 1 made.fits)) in
    rw c.in-Tick.is
    (part_seen of m
    Tick c.end_tick.result s2 _ c.args.notes.now.list notes notes (scene_as back (search rules) (search rules) (ap states (search rules))) refl
    (tick_ended of.tree.term view m.nodes c.args.turn.at number s0 s1 c.args.notes.now.list stage.notes.now.list _ visited c.end_tick.result kept notes there ends
    (c.tick-visited.ensures.meets of.tree.term view made)))
