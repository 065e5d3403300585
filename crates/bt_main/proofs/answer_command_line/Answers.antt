use Rattle.std.proofs.Common.{◌∙◌, inr}
use Rattle.bt_main.proofs.answer_command_line.Goals as goal

pub returns-in-Err-NoMemory : goal.returns-in-Err-NoMemory
returns-in-Err-NoMemory g c = inr (c.from.ensures ∙ c.status.ensures)
