use Rattle.std.proofs.Common.{refl, arith}
use Rattle.spec_tree.specs.declared.term.Term.{Term, out-Term}
use Rattle.spec_tree.specs.declared.term.Term.TheFolds.{map-Term}
use Rattle.spec_run.specs.declared.memory.Memo.TheVariants.{Nothing}
use Rattle.spec_run.specs.Sites.{Meaning}
use Rattle.spec_run.specs.Steps.{Given}
use Rattle.spec_run.specs.Visit.{ended, meaning}
use Rattle.run_arena.specs.Nodes.{kept_at}
use Rattle.run_arena.specs.Scenes.{state_in}
use Rattle.run_arena.specs.Stages.{scene_on}
use Rattle.run_arena.specs.Stands.{memory_of}
use Rattle.run_arena.proofs.Staged.{fits_later, keeps_then, meets_earlier}
use Rattle.run_nodes.specs.Here.{children_in, site_at}
use Rattle.run_nodes.proofs.Following.{stops_with}
use Rattle.run_nodes.proofs.LoneVisits.{lone_ended, lone_stopped}
use Rattle.run_nodes.proofs.Standing.{beside_one, fits_here, kept_there}
use Rattle.run_nodes.proofs.alone.visit_alone.Goals as goal

pub lone_rule-requires-clause-fits : goal.lone_rule-requires-clause-fits
lone_rule-requires-clause-fits g c =
    let f = c.requires.fits in
    (map-Term Term Meaning meaning (out-Term f.0), f.1, fits_here f.0 f.1 c.args.uid _ _ f.2)

pub end_visit-requires : goal.end_visit-requires
end_visit-requires g c =
    let f = c.requires.fits in
    let rule = c.in_ok-answer.ensures in
    let mid = c.lone_rule.new.stage in
    let fits = fits_later g.D.Drivers.states c.args.stage.now mid rule.same f.0 f.1 c.args.uid (rule.fits f.0 f.1 c.args.uid f.2) in
    record { fits = (f.0, f.1, fits) }

pub returns-in_err-answer-clause-meets : goal.returns-in_err-answer-clause-meets
returns-in_err-answer-clause-meets g c = λ term view fits.
    let s = c.args.stage.now in
    let mid = c.lone_rule.new.stage in
    let k = record (kept_at s.kept.now c.args.uid) { held = (kept_at mid.kept.now c.args.uid).held } in
    let before = scene_on g.D.Drivers.states s in
    let here = fits_here term view c.args.uid s.nodes.now before fits in
    lone_stopped s.nodes.now c.args.uid s.moment term view before (scene_on g.D.Drivers.states mid) k (kept_there _ view c.args.uid s.nodes.now before here) c.in_err-answer.ensures.kept refl refl s.notes.now.list mid.notes.now.list
    c.from_residual.result _ (stops_with _ _ c.from_residual.ensures.1)
    (c.in_err-answer.ensures.meets (map-Term Term Meaning meaning (out-Term term)) view (children_in term c.args.uid s.kept.now) here)

pub returns-in_err-answer-clause-keeps : goal.returns-in_err-answer-clause-keeps
returns-in_err-answer-clause-keeps g c =
    let before = c.args.stage.now.kept.now in
    let after = c.lone_rule.new.stage.kept.now in
    let k = record (kept_at before c.args.uid) { held = (kept_at after c.args.uid).held } in
    let rule = c.in_err-answer.ensures in
    record { same = rule.same; beside = beside_one before after c.args.uid k rule.kept; stays = rule.fits }

pub returns-clause-meets : goal.returns-clause-meets
returns-clause-meets g c = λ term view fits.
    let s = c.args.stage.now in
    let mid = c.lone_rule.new.stage in
    let rule = c.in_ok-answer.ensures in
    let k = record (kept_at s.kept.now c.args.uid) { held = (kept_at mid.kept.now c.args.uid).held } in
    let before = scene_on g.D.Drivers.states s in
    let after = scene_on g.D.Drivers.states mid in
    let given : Given = record { answer = c.in_ok-answer.answer; memo = Nothing } in
    let here = fits_here term view c.args.uid s.nodes.now before fits in
    let fits_mid = fits_later g.D.Drivers.states s mid rule.same term view c.args.uid (rule.fits term view c.args.uid fits) in
    lone_ended s.nodes.now c.args.uid s.moment term view before after k (kept_there _ view c.args.uid s.nodes.now before here) rule.kept refl refl s.notes.now.list mid.notes.now.list
    c.in_ok-answer.answer c.end_visit.result (scene_on g.D.Drivers.states c.end_visit.new.stage) c.end_visit.new.stage.notes.now.list
    (rule.meets (map-Term Term Meaning meaning (out-Term term)) view (children_in term c.args.uid s.kept.now) here)
    (meets_earlier g.D.Drivers.states s mid c.end_visit.new.stage rule.same (memory_of term c.args.uid) c.end_visit.result
    (λ nodes moment. ended (site_at view c.args.uid term) (kept_at mid.kept.now c.args.uid).status given (children_in term c.args.uid mid.kept.now) (state_in nodes after moment))
    (c.end_visit.ensures.meets term view fits_mid))

pub returns-clause-keeps : goal.returns-clause-keeps
returns-clause-keeps g c =
    let s = c.args.stage.now in
    let mid = c.lone_rule.new.stage in
    let k = record (kept_at s.kept.now c.args.uid) { held = (kept_at mid.kept.now c.args.uid).held } in
    let rule = c.in_ok-answer.ensures in
    keeps_then g.D.Drivers.states c.args.uid 1 c.args.uid 1 s mid c.end_visit.new.stage (omega arith) (omega arith)
    (record { same = rule.same; beside = beside_one s.kept.now mid.kept.now c.args.uid k rule.kept; stays = rule.fits })
    c.end_visit.ensures.keeps
