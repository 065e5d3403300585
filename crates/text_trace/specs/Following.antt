-- What is kept of a run for what is expected of it: what each expectation needs, and the note of the first fault.
use Rattle.std.specs.Prelude.{List, [], ◌∷◌, find, Option}
use Rattle.std.specs.Option.{option_or}
use Rattle.spec_run.specs.declared.block.Block.{Block}
use Rattle.spec_run.specs.declared.note.Note.{Note}
use Rattle.spec_expect.specs.Told.{is_fault}
use Rattle.expect_watch.specs.States.{State, taken}

pub record Following : Type 0 where
  pub state : State
  pub fault : Option Note

-- after a block
abbrev pub followed : Block → Following → Following
followed block f = record { state = taken block f.state; fault = option_or f.fault (find is_fault block.notes) }

-- after some blocks
abbrev pub all_followed : List Block → Following → Following
all_followed [] f = f
all_followed (block ∷ blocks) f = all_followed blocks (followed block f)
