-- The turns of which a visit is made.
use Rattle.std.specs.Prelude.{ℕ}
use Rattle.spec_run.specs.declared.memory.Memo.{Memo}
use Rattle.spec_run.specs.declared.moves.Heard.{Heard}
use Rattle.spec_run.specs.declared.status.Answer.{Answer as AnswerGiven}
use Rattle.run_arena.specs.declared.frame.Frame.{Frame}

-- a visit that goes on with what its node hears, with the memo with which its rule begins, or that after its last
-- move
pub record Step : Type 0 where
  pub uid : ℕ
  pub memo : Memo
  pub heard : Heard

-- A turn: a node is visited; or one goes on; or it waits for its child, which is visited; or the node that was
-- visited last has answered.
pub data Turn : Type 0 where
  Enter : (uid : ℕ) → Turn
  GoOn : (step : Step) → Turn
  Wait : (frame : Frame) → Turn
  Back : (answer : AnswerGiven) → Turn
