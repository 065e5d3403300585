use Rattle.std.proofs.Common.{ℕ, Option, Ok, Err, ap, ◌∙◌}
use Rattle.spec_run.specs.Ports.{next_pace, pace_start}
use Rattle.spec_run.specs.Visit.{remembers}
use Rattle.run_nodes.proofs.PortValues.{no_memo, pace_starts, parallel_starts}
use Rattle.run_nodes.proofs.starts.start_of.Goals as goal

pub returns-in_err-start_parallel-in-Parallel-clause-starts : goal.returns-in_err-start_parallel-in-Parallel-clause-starts
returns-in_err-start_parallel-in-Parallel-clause-starts g c = λ term view whole uid s k.
    no_memo c.from_residual.result c.start_parallel.new.memo c.in_err-start_parallel-in-Parallel.field-0.0 c.from_residual.ensures.1
    ∙ parallel_starts term view whole uid (record s { board = c.args.board.now; moment = c.args.now }) c.args.node.now k (remembers c.args.old c.args.memo.now)
    (Err c.in_err-start_parallel-in-Parallel.field-0.0) c.in-Parallel.is c.in_err-start_parallel-in-Parallel.ensures.starts

pub returns-in_ok-start_parallel-in-Parallel-clause-starts : goal.returns-in_ok-start_parallel-in-Parallel-clause-starts
returns-in_ok-start_parallel-in-Parallel-clause-starts g c = λ term view whole uid s k.
    parallel_starts term view whole uid (record s { board = c.args.board.now; moment = c.args.now }) c.args.node.now k (remembers c.args.old c.args.memo.now)
    (Ok c.start_parallel.new.memo) c.in-Parallel.is c.in_ok-start_parallel-in-Parallel.ensures.starts

pub returns-in_err-start_pace-in-RateController-clause-starts : goal.returns-in_err-start_pace-in-RateController-clause-starts
returns-in_err-start_pace-in-RateController-clause-starts g c = λ term view whole uid s k.
    no_memo c.from_residual-in_err-start_pace-in-RateController.result c.start_pace.new.memo c.in_err-start_pace-in-RateController.field-0.0 c.from_residual-in_err-start_pace-in-RateController.ensures.1
    ∙ pace_starts term view whole uid (record s { board = c.args.board.now; moment = c.args.now }) c.args.node.now k (remembers c.args.old c.args.memo.now)
    (Err c.in_err-start_pace-in-RateController.field-0.0) c.in-RateController.is
    (c.in_err-start_pace-in-RateController.ensures.starts ∙ ap (λ (rate : Option ℕ). next_pace (remembers c.args.old c.args.memo.now) (pace_start c.args.now rate)) c.rate_at.ensures)

pub returns-in_ok-start_pace-in-RateController-clause-starts : goal.returns-in_ok-start_pace-in-RateController-clause-starts
returns-in_ok-start_pace-in-RateController-clause-starts g c = λ term view whole uid s k.
    pace_starts term view whole uid (record s { board = c.args.board.now; moment = c.args.now }) c.args.node.now k (remembers c.args.old c.args.memo.now)
    (Ok c.start_pace.new.memo) c.in-RateController.is
    (c.in_ok-start_pace-in-RateController.ensures.starts ∙ ap (λ (rate : Option ℕ). next_pace (remembers c.args.old c.args.memo.now) (pace_start c.args.now rate)) c.rate_at.ensures)
