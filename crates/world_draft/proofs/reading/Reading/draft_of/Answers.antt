use Rattle.world_draft.proofs.Checked.{draft_made, draft_refused}
use Rattle.world_draft.proofs.reading.Reading.draft_of.Goals as goal

pub returns-in-Ok : goal.returns-in-Ok
returns-in-Ok c = draft_made (record { id = c.args.id; ports = c.args.names.items }) c.args.sort c.args.self.now c.new.result c.in-Ok.id c.in-Ok.ports c.in-Ok.ensures c.new.ensures

pub returns-in-Err : goal.returns-in-Err
returns-in-Err c = draft_refused (record { id = c.args.id; ports = c.args.names.items }) c.args.sort c.args.self.now c.in-Err.stop c.in-Err.ensures
