use Rattle.std.proofs.Common.{◌≡◌, true, false, Ok, Err, arith, sym, ◌∙◌}
use Rattle.run_arena.specs.Stages.{state_on}
use Rattle.run_laws.proofs.Keeping.{term_keeps}
use Rattle.run_nodes.proofs.Needed.{guards_need}
use Rattle.run_tick.proofs.Bounds.{cost_positive}
use Rattle.run_tick.proofs.Entering.{answers_so, as_node, begin_ends, begin_goes, begins_so_far, can_keep, ended_goes, follow_earlier, follow_later, goes_after, guards_here, keeps_so, one_within, start_stops, starts_here, still_can}
use Rattle.run_tick.proofs.Moving.{as_many_kept, node_there, turned_with}
use Rattle.run_tick.proofs.enter.begin.Goals as goal

pub node-here-requires : goal.node-here-requires
node-here-requires g c = let (term, view, can) = c.requires.can in node_there can.fits

pub bounds-stage-uid : goal.bounds-stage-uid
bounds-stage-uid g c =
    let (term, view, can) = c.requires.can in
    omega (arith, node_there can.fits, as_many_kept can.fits)

pub guards_answer-requires : goal.guards_answer-requires
guards_answer-requires g c =
    let (term, view, can) = c.requires.can in
    guards_need _ view (sym can.fits.slots) _ _ (guards_here term view _ _ _ can.fits c.node-here.result.now c.node-here.ensures c.get.result.now c.get.ensures)

pub returns-in_err-answer-clause-goes : goal.returns-in_err-answer-clause-goes
returns-in_err-answer-clause-goes g c = λ term view can.
    turned_with _ _ _ _ _ _ _ _ _ _ _ _ c.from_residual.ensures.1
    (begin_ends _ _ term view _ _ _ _ _ _ _ c.in_err-answer.ensures.slots c.requires.rests _ (c.in_err-answer.ensures.settles (as_node term) view (state_on g.D.Drivers.states c.args.stage.now) (guards_here term view _ _ _ can.fits c.node-here.result.now c.node-here.ensures c.get.result.now c.get.ensures)))

pub returns-in_err-given-clause-goes : goal.returns-in_err-given-clause-goes
returns-in_err-given-clause-goes g c = λ term view can.
    let settled = c.in_ok-answer.ensures.settles (as_node term) view (state_on g.D.Drivers.states c.args.stage.now) (guards_here term view _ _ _ can.fits c.node-here.result.now c.node-here.ensures c.get.result.now c.get.ensures) in
    let still = still_can term_keeps _ _ term view _ _ _ _ _ _ c.in_ok-answer.ensures.slots can in
    turned_with _ _ _ _ _ _ _ _ _ _ _ _ c.from_residual-in_err-given.ensures.1
    (begin_goes _ _ term view _ _ _ _ _ _ c.args.stage.now.notes.now.list c.in_ok-answer.ensures.slots c.requires.rests c.in_ok-answer.field-0 settled _
    (answers_so _ _ term view _ _ _ _ _ _ c.args.stage.now.notes.now.list c.in_ok-answer.ensures.slots c.in_ok-answer.field-0 c.in-Some.answer c.in-Some.is c.remembers-memo.result c.remembers-memo.ensures) _ _ _
    (ended_goes _ _ term view _ (Err c.in_err-given.field-0.0) _ _ _ _ _ c.in_err-given.ensures.keeps.stays c.in_err-given.ensures.keeps.beside (c.in_err-given.ensures.meets term view still.fits)))

pub returns-in-Some-clause-goes : goal.returns-in-Some-clause-goes
returns-in-Some-clause-goes g c = λ term view can.
    let settled = c.in_ok-answer.ensures.settles (as_node term) view (state_on g.D.Drivers.states c.args.stage.now) (guards_here term view _ _ _ can.fits c.node-here.result.now c.node-here.ensures c.get.result.now c.get.ensures) in
    let still = still_can term_keeps _ _ term view _ _ _ _ _ _ c.in_ok-answer.ensures.slots can in
    begin_goes _ _ term view _ _ _ _ _ _ c.args.stage.now.notes.now.list c.in_ok-answer.ensures.slots c.requires.rests c.in_ok-answer.field-0 settled _
    (answers_so _ _ term view _ _ _ _ _ _ c.args.stage.now.notes.now.list c.in_ok-answer.ensures.slots c.in_ok-answer.field-0 c.in-Some.answer c.in-Some.is c.remembers-memo.result c.remembers-memo.ensures) _ _ _
    (ended_goes _ _ term view _ (Ok c.in_ok-given.given) _ _ _ _ _ c.in_ok-given.ensures.keeps.stays c.in_ok-given.ensures.keeps.beside (c.in_ok-given.ensures.meets term view still.fits))

pub returns-in-Some-clause-work : goal.returns-in-Some-clause-work
returns-in-Some-clause-work g c = cost_positive _

pub bounds-stage-uid-2 : goal.bounds-stage-uid-2
bounds-stage-uid-2 g c =
    let (term, view, can) = c.requires.can in
    omega (arith, node_there can.fits, as_many_kept can.fits)

pub follow_rule-requires : goal.follow_rule-requires
follow_rule-requires g c =
    let (term, view, can) = c.requires.can in
    let still = still_can term_keeps _ _ term view _ _ _ _ _ _ c.in_ok-answer.ensures.slots can in
    let b : c.starts.result ≡ false = cc in
    record { can = (term, view, can_keep term_keeps _ _ term view _ _ still c.requires.rests (starts_here can.fits c.node-here.result.now c.node-here.ensures c.starts.result c.starts.ensures ∙ b)) }

pub returns-then-not-starts-clause-goes : goal.returns-then-not-starts-clause-goes
returns-then-not-starts-clause-goes g c = λ term view can.
    let settled = c.in_ok-answer.ensures.settles (as_node term) view (state_on g.D.Drivers.states c.args.stage.now) (guards_here term view _ _ _ can.fits c.node-here.result.now c.node-here.ensures c.get.result.now c.get.ensures) in
    let still = still_can term_keeps _ _ term view _ _ _ _ _ _ c.in_ok-answer.ensures.slots can in
    let b : c.starts.result ≡ false = cc in
    let none = starts_here can.fits c.node-here.result.now c.node-here.ensures c.starts.result c.starts.ensures ∙ b in
    begin_goes _ _ term view _ _ _ _ _ _ c.args.stage.now.notes.now.list c.in_ok-answer.ensures.slots c.requires.rests c.in_ok-answer.field-0 settled _
    (keeps_so _ _ term view _ _ _ _ _ _ c.args.stage.now.notes.now.list c.in_ok-answer.ensures.slots c.in_ok-answer.field-0 c.in_default.is none) _ _ _
    (c.follow_rule.ensures.goes term view (can_keep term_keeps _ _ term view _ _ still c.requires.rests none))

pub asks_first-requires : goal.asks_first-requires
asks_first-requires g c =
    let (term, view, can) = c.requires.can in
    record { can = (term, view, still_can term_keeps _ _ term view _ _ _ _ _ _ c.in_ok-answer.ensures.slots can) }

pub ask-requires-clause-can : goal.ask-requires-clause-can
ask-requires-clause-can g c =
    let (term, view, can) = c.requires.can in
    (term, view, still_can term_keeps _ _ term view _ _ _ _ _ _ c.in_ok-answer.ensures.slots can)

pub returns-then-asks_first-clause-goes : goal.returns-then-asks_first-clause-goes
returns-then-asks_first-clause-goes g c = λ term view can.
    let settled = c.in_ok-answer.ensures.settles (as_node term) view (state_on g.D.Drivers.states c.args.stage.now) (guards_here term view _ _ _ can.fits c.node-here.result.now c.node-here.ensures c.get.result.now c.get.ensures) in
    let still = still_can term_keeps _ _ term view _ _ _ _ _ _ c.in_ok-answer.ensures.slots can in
    let b : c.starts.result ≡ true = cc in
    let start = starts_here can.fits c.node-here.result.now c.node-here.ensures c.starts.result c.starts.ensures ∙ b in
    begin_goes _ _ term view _ _ _ _ _ _ c.args.stage.now.notes.now.list c.in_ok-answer.ensures.slots c.requires.rests c.in_ok-answer.field-0 settled _
    (begins_so_far _ _ term view _ _ _ _ _ _ c.args.stage.now.notes.now.list c.in_ok-answer.ensures.slots c.in_ok-answer.field-0 c.in_default.is start) _ _ _
    (c.ask.ensures.goes term view still)

pub start-requires-clause-can : goal.start-requires-clause-can
start-requires-clause-can g c =
    let (term, view, can) = c.requires.can in
    (term, view, still_can term_keeps _ _ term view _ _ _ _ _ _ c.in_ok-answer.ensures.slots can)

pub returns-in_err-start-clause-goes : goal.returns-in_err-start-clause-goes
returns-in_err-start-clause-goes g c = λ term view can.
    let settled = c.in_ok-answer.ensures.settles (as_node term) view (state_on g.D.Drivers.states c.args.stage.now) (guards_here term view _ _ _ can.fits c.node-here.result.now c.node-here.ensures c.get.result.now c.get.ensures) in
    let still = still_can term_keeps _ _ term view _ _ _ _ _ _ c.in_ok-answer.ensures.slots can in
    let b : c.starts.result ≡ true = cc in
    let start = starts_here can.fits c.node-here.result.now c.node-here.ensures c.starts.result c.starts.ensures ∙ b in
    turned_with _ _ _ _ _ _ _ _ _ _ _ _ c.from_residual-in_err-start.ensures.1
    (begin_goes _ _ term view _ _ _ _ _ _ c.args.stage.now.notes.now.list c.in_ok-answer.ensures.slots c.requires.rests c.in_ok-answer.field-0 settled _
    (begins_so_far _ _ term view _ _ _ _ _ _ c.args.stage.now.notes.now.list c.in_ok-answer.ensures.slots c.in_ok-answer.field-0 c.in_default.is start) _ _ _
    (start_stops _ _ term view _ _ _ _ _ _ c.in_err-start.ensures.keeps.stays c.in_err-start.ensures.keeps.beside (c.in_err-start.ensures.starts term view still)))

pub begin_rule-requires-clause-can : goal.begin_rule-requires-clause-can
begin_rule-requires-clause-can g c =
    let (term, view, can) = c.requires.can in
    let still = still_can term_keeps _ _ term view _ _ _ _ _ _ c.in_ok-answer.ensures.slots can in
    (term, view, follow_later g.D.Drivers.states c.in_ok-start.ensures.keeps.same c.args.uid term view (c.in_ok-start.ensures.starts term view still).0)

pub returns-clause-goes : goal.returns-clause-goes
returns-clause-goes g c = λ term view can.
    let settled = c.in_ok-answer.ensures.settles (as_node term) view (state_on g.D.Drivers.states c.args.stage.now) (guards_here term view _ _ _ can.fits c.node-here.result.now c.node-here.ensures c.get.result.now c.get.ensures) in
    let still = still_can term_keeps _ _ term view _ _ _ _ _ _ c.in_ok-answer.ensures.slots can in
    let b : c.starts.result ≡ true = cc in
    let start = starts_here can.fits c.node-here.result.now c.node-here.ensures c.starts.result c.starts.ensures ∙ b in
    let started = c.in_ok-start.ensures.starts term view still in
    begin_goes _ _ term view _ _ _ _ _ _ c.args.stage.now.notes.now.list c.in_ok-answer.ensures.slots c.requires.rests c.in_ok-answer.field-0 settled _
    (begins_so_far _ _ term view _ _ _ _ _ _ c.args.stage.now.notes.now.list c.in_ok-answer.ensures.slots c.in_ok-answer.field-0 c.in_default.is start) _ _ _
    (goes_after _ _ term view _ _ _ _ _ _ _ _ _ _ started.1 (one_within term _ _ _ c.in_ok-start.ensures.keeps.beside) c.in_ok-start.ensures.keeps.stays (follow_earlier g.D.Drivers.states c.in_ok-start.ensures.keeps.same c.args.uid _ c.begin_rule.ensures.goes term view started.0))
