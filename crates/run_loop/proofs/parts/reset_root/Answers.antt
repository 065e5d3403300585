use Rattle.std.proofs.Common.{◌≡◌, length, ap, rules, ◌∙◌}
use Rattle.spec_run.specs.Run.{root_view}
use Rattle.run_arena.specs.Stages.{scene_on}
use Rattle.run_nodes.proofs.AboutHalting.Sounding.{sound_marks}
use Rattle.run_loop.specs.declared.parts.Part.TheVariants.{Halt}
use Rattle.run_loop.specs.Parts.{acting}
use Rattle.run_loop.proofs.Seen.{can_visit, first, given_back, made_of, part_seen, scene_as, stays_seen}
use Rattle.run_loop.proofs.parts.reset_root.Goals as goal

pub reset-done-requires-clause-fits : goal.reset-done-requires-clause-fits
reset-done-requires-clause-fits g c =
    let states = g.D.Drivers.states in
    let m = made_of (acting c.args.arena.now c.args.board.now) c.args.facts.now (states c.args.drivers.now) c.args.at c.deref.ensures.value c.deref_mut-kept.ensures.value c.deref_mut-kept.ensures.len in
    let can = c.requires.can in
    let visit = can_visit can.0 m can.1 in
    (can.0.tree.term, root_view can.0.tree can.0.world, visit.fits)

pub reset-done-requires-clause-held : goal.reset-done-requires-clause-held
reset-done-requires-clause-held g c =
    let states = g.D.Drivers.states in
    let m = made_of (acting c.args.arena.now c.args.board.now) c.args.facts.now (states c.args.drivers.now) c.args.at c.deref.ensures.value c.deref_mut-kept.ensures.value c.deref_mut-kept.ensures.len in
    let of = c.requires.can.0 in
    let visit = can_visit of m c.requires.can.1 in
    let s0 = first of m in
    sound_marks of.tree.term (root_view of.tree of.world) 1 m.nodes s0 c.args.at of.world.rows visit.fits visit.sound

pub returns-clause-part : goal.returns-clause-part
returns-clause-part g c = λ of can.
    let states = g.D.Drivers.states in
    let m = made_of (acting c.args.arena.now c.args.board.now) c.args.facts.now (states c.args.drivers.now) c.args.at c.deref.ensures.value c.deref_mut-kept.ensures.value c.deref_mut-kept.ensures.len in
    let stage = c.reset-done.new.stage in
    let s1 = scene_on states stage in
    let lent : c.lent_back.new.kept ≡ stage.kept.now = search rules in
    let back = given_back of m s1 can c.reset-done.ensures.keeps.stays c.lent_back.new.kept (ap length lent) ∙ lent in
    let visit = can_visit of m can in
    part_seen of m
    Halt c.reset-done.result s1 _ c.args.notes.now.list stage.notes.now.list _ (scene_as back (search rules) (search rules) (ap states (search rules))) (search rules)
    (c.reset-done.ensures.meets of.tree.term (root_view of.tree of.world) visit.fits)

pub returns-clause-fits : goal.returns-clause-fits
returns-clause-fits g c =
    let states = g.D.Drivers.states in
    let m = made_of (acting c.args.arena.now c.args.board.now) c.args.facts.now (states c.args.drivers.now) c.args.at c.deref.ensures.value c.deref_mut-kept.ensures.value c.deref_mut-kept.ensures.len in
    let of = c.requires.can.0 in
    let can = c.requires.can.1 in
    let stage = c.reset-done.new.stage in
    let s1 = scene_on states stage in
    let lent : c.lent_back.new.kept ≡ stage.kept.now = search rules in
    let back = given_back of m s1 can c.reset-done.ensures.keeps.stays c.lent_back.new.kept (ap length lent) ∙ lent in
    stays_seen of m s1 _ (scene_as back (search rules) (search rules) (ap states (search rules)))
    c.reset-done.ensures.keeps.stays
