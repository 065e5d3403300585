use Rattle.std.specs.Str.{is_utf8}
use Rattle.host_library.proofs.Opened.{ok_given, refused_given}
use Rattle.host_library.proofs.opening.given.Goals as goal

pub returns-in-Ok : goal.returns-in-Ok
returns-in-Ok c =
    ok_given c.args.tree.now c.args.world.now c.args.main_id.now (is_utf8 c.args.main_id.now) c.in-Ok.hosted.value (cc) c.in-Ok.ensures.opens c.in-Ok.ensures.outs

pub returns-in-Err-Fault : goal.returns-in-Err-Fault
returns-in-Err-Fault c = refused_given c.args.tree.now c.args.world.now c.args.main_id.now (is_utf8 c.args.main_id.now) c.open_boxed.result c.in-Err-Fault.fault (cc) (cc) c.open_boxed.ensures.opens
