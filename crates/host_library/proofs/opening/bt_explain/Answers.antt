use Rattle.std.specs.Str.{is_utf8}
use Rattle.host_library.proofs.Opened.{said_why}
use Rattle.host_library.proofs.opening.bt_explain.Goals as goal

pub returns-in-Err-Fault : goal.returns-in-Err-Fault
returns-in-Err-Fault c =
    said_why c.args.tree.now c.args.world.now c.args.main_id.now c.args.room.now c.copy_refusal.new.room c.copy_refusal.result
    (is_utf8 c.args.main_id.now) c.open.result c.in-Err-Fault.fault (cc) (cc) c.open.ensures c.copy_refusal.ensures
