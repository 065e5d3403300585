use Rattle.host_library.proofs.Opened.{joined_told, refused_told}
use Rattle.host_library.proofs.opening.session_told.Goals as goal

pub returns-in-Ok : goal.returns-in-Ok
returns-in-Ok c = joined_told c.args.bytes.now c.args.tree c.in-Ok.world c.session_in.result c.in-Ok.ensures.told c.session_in.ensures

pub returns-in-Err : goal.returns-in-Err
returns-in-Err c = rw (c.told_stop.ensures) (refused_told c.args.bytes.now c.args.tree c.in-Err.refusal c.requires.tree c.in-Err.ensures.told)
