use Rattle.std.proofs.Common.{◌<◌, length, refl, sym, arith}
use Rattle.base_texts.specs.declared.stop.Stop.TheVariants as stop
use Rattle.spec_run.specs.Sites.{Site}
use Rattle.run_arena.specs.Scenes.{state_in}
use Rattle.run_arena.specs.Stages.{scene_on}
use Rattle.run_arena.proofs.Staged.{fits_later, keeps_board, keeps_then}
use Rattle.run_nodes.specs.Here.{site_at}
use Rattle.run_nodes.proofs.Following.{stops_with}
use Rattle.run_nodes.proofs.Needed.{script_needs}
use Rattle.run_nodes.proofs.Settled.{settles_met}
use Rattle.run_nodes.proofs.AboutHalting.Ending.{end_met, idle_is, node_of, not_rested, nothing_cut}
use Rattle.run_nodes.proofs.AboutHalting.Keeping.{keeps_idle}
use Rattle.run_nodes.proofs.AboutHalting.Within.{kept_there}
use Rattle.run_nodes.proofs.halting.endings.end_halt.Goals as goal

pub come_to_rest-requires : goal.come_to_rest-requires
come_to_rest-requires g c =
    let f = c.requires.fits in
    omega (arith, c.release.ensures.keeps.beside.as_many, kept_there f.0 f.1 c.args.uid c.args.stage.now.nodes.now _ f.2)

pub returns-in_err-release-clause-meets : goal.returns-in_err-release-clause-meets
returns-in_err-release-clause-meets g c = λ term view fits.
    rw (stops_with c.from_residual.result stop.NoMemory c.from_residual.ensures.1)
    (nothing_cut c.args.stage.now.nodes.now _ _ _ _ _ (λ i. (c.in_err-release.ensures.err i).drivers) c.in_err-release.ensures.err_notes)

pub returns-in_err-come_to_rest-clause-meets : goal.returns-in_err-come_to_rest-clause-meets
returns-in_err-come_to_rest-clause-meets g c = λ term view fits.
    rw (stops_with c.from_residual-in_err-come_to_rest.result stop.NoMemory c.from_residual-in_err-come_to_rest.ensures.1)
    (not_rested c.args.stage.now.nodes.now c.args.stage.now.moment term view c.args.uid fits.stands _ _ _ _ _ c.in_ok-release.ensures.ok _ _ (λ i. (c.in_err-come_to_rest.ensures.err i).drivers) c.in_err-come_to_rest.ensures.err_notes)

pub script_if_there-requires : goal.script_if_there-requires
script_if_there-requires g c =
    let states = g.D.Drivers.states in
    let f = c.requires.fits in
    let rested = keeps_idle states c.args.uid _ _ _ c.come_to_rest.ensures.same c.in_ok-come_to_rest.ensures.ok in
    let keeps = keeps_then states c.args.uid 1 c.args.uid 1 _ _ _ (omega arith) (omega arith) c.release.ensures.keeps rested in
    let fits = fits_later states _ _ keeps.same f.0 f.1 c.args.uid (keeps.stays f.0 f.1 c.args.uid f.2) in
    rw c.get.ensures (rw c.node.ensures (script_needs _ f.1 (sym fits.slots) _ _ (node_of f.0 c.come_to_rest.new.stage.nodes.now f.1 c.args.uid fits.stands).guards.on_halted))

pub returns-clause-meets : goal.returns-clause-meets
returns-clause-meets g c = λ term view fits_before.
    let states = g.D.Drivers.states in
    let nodes = c.args.stage.now.nodes.now in
    let s2 = scene_on states c.come_to_rest.new.stage in
    let site : Site = site_at view c.args.uid term in
    let e = c.in_ok-come_to_rest.ensures.ok in
    let rested = keeps_idle states c.args.uid _ _ _ c.come_to_rest.ensures.same e in
    let keeps = keeps_then states c.args.uid 1 c.args.uid 1 _ _ _ (omega arith) (omega arith) c.release.ensures.keeps rested in
    let fits = fits_later states _ _ keeps.same term view c.args.uid (keeps.stays term view c.args.uid fits_before) in
    let compiled = rw (← c.get.ensures) at (rw (← c.node.ensures) at (node_of term c.come_to_rest.new.stage.nodes.now view c.args.uid fits.stands).guards.on_halted) in
    let within : c.args.uid < length c.release.new.stage.kept.now = omega (arith, c.release.ensures.keeps.beside.as_many, kept_there term view c.args.uid nodes _ fits_before) in
    end_met nodes c.args.stage.now.moment term view c.args.uid fits_before.stands _ _ _ _ _ c.in_ok-release.ensures.ok s2 _ (λ i. (e i).board) (λ i. (e i).facts) (λ i. (e i).drivers) c.in_ok-come_to_rest.ensures.ok_notes _ _ _
    (idle_is term c.args.uid c.args.stage.now.kept.now c.release.new.stage.kept.now c.come_to_rest.new.stage.kept.now c.release.ensures.keeps.beside c.release.ensures.memo within (λ i. (e i).kept))
    (settles_met nodes c.args.stage.now.moment tt _ s2 _ _ _ refl (c.script_if_there.ensures.settles site.node view site.node.guards.on_halted (state_in nodes s2 c.args.stage.now.moment) compiled))

pub returns-clause-keeps : goal.returns-clause-keeps
returns-clause-keeps g c =
    let states = g.D.Drivers.states in
    let s2 = c.come_to_rest.new.stage in
    let rested = keeps_idle states c.args.uid _ _ s2 c.come_to_rest.ensures.same c.in_ok-come_to_rest.ensures.ok in
    let keeps = keeps_then states c.args.uid 1 c.args.uid 1 _ _ _ (omega arith) (omega arith) c.release.ensures.keeps rested in
    keeps_then states c.args.uid 1 c.args.uid 1 _ _ _ (omega arith) (omega arith) keeps
    (keeps_board states c.args.uid 1 s2 c.script_if_there.new.board c.script_if_there.ensures.slots)
