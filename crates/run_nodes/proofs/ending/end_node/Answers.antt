use Rattle.std.proofs.Common.{◌++◌, ap, refl, sym, ◌∙◌}
use Rattle.std.specs.Prelude.{slice_set}
use Rattle.spec_run.specs.Visit.{change}
use Rattle.run_arena.specs.declared.nodes.Kept.{Kept}
use Rattle.run_arena.specs.Nodes.{kept_at}
use Rattle.run_arena.specs.Noted.{Noted}
use Rattle.run_arena.specs.Stages.{state_on}
use Rattle.run_nodes.proofs.EndedVisits.{end_stopped, ended_met, memo_set, now_kept, status_set}
use Rattle.run_nodes.proofs.Following.{stops_with}
use Rattle.run_nodes.proofs.ending.end_node.Goals as goal

pub returns-in_err-posts-clause-meets : goal.returns-in_err-posts-clause-meets
returns-in_err-posts-clause-meets g c = λ term view ms k.
    let s = c.args.stage.now in
    let memo = memo_set s.kept.now c.keep_memo.new.kept c.args.uid c.args.memo c.requires.there c.keep_memo.ensures in
    end_stopped s.nodes.now term view c.args.uid ms s.facts.now (g.D.Drivers.states s.drivers.now) s.moment s.kept.now c.keep_memo.new.kept s.board.now c.posts.new.board s.notes.now.list s.notes.now.list c.args.answer c.args.memo
    c.from_residual.result c.in_err-posts.field-0.0 (stops_with _ _ c.from_residual.ensures.1)
    (c.in_err-posts.ensures.settles term view (state_on g.D.Drivers.states s) k)
    (ap (λ (k : Kept). k.status) memo) (ap (λ (k : Kept). k.memo) memo) refl

pub returns-clause-meets : goal.returns-clause-meets
returns-clause-meets g c = λ term view ms k.
    let s = c.args.stage.now in
    let memo = memo_set s.kept.now c.keep_memo.new.kept c.args.uid c.args.memo c.requires.there c.keep_memo.ensures in
    let left = now_kept s.kept.now c.set_status.new.kept c.args.uid _ c.requires.there (status_set s.kept.now c.keep_memo.new.kept c.set_status.new.kept c.args.uid c.args.memo c.status_of-status.result c.requires.there c.keep_memo.ensures c.set_status.ensures) in
    let old = ap (λ (k : Kept). k.status) memo in
    ended_met s.nodes.now term view c.args.uid ms s.facts.now (g.D.Drivers.states s.drivers.now) s.moment s.kept.now c.set_status.new.kept s.board.now c.posts.new.board s.notes.now.list c.note_change.new.notes.list c.args.answer c.args.memo
    (c.in_ok-posts.ensures.settles term view (state_on g.D.Drivers.states s) k)
    (ap (λ (k : Kept). k.status) left ∙ c.status_of-status.ensures) (ap (λ (k : Kept). k.memo) left)
    (ap (λ (n : Noted). n.list) c.in_ok-note_change.ensures.ok ∙ (λ i. s.notes.now.list ++ change c.args.uid (old i) (c.status_of-status.ensures i)))

pub returns-clause-kept : goal.returns-clause-kept
returns-clause-kept g c =
    let kept = c.args.stage.now.kept.now in
    let all = status_set kept c.keep_memo.new.kept c.set_status.new.kept c.args.uid c.args.memo c.status_of-status.result c.requires.there c.keep_memo.ensures c.set_status.ensures in
    let left = now_kept kept c.set_status.new.kept c.args.uid _ c.requires.there all in
    all ∙ (λ i. slice_set kept c.args.uid (record { status = (sym left i).status; memo = (sym left i).memo; held = (kept_at kept c.args.uid).held }))
