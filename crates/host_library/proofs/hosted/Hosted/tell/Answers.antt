use Rattle.host_library.proofs.Missing.{tells_missing}
use Rattle.host_library.proofs.hosted.Hosted.tell.Goals as goal

pub returns-in-None : goal.returns-in-None
returns-in-None c = tells_missing c.args.self.now c.args.runner c.args.uid c.args.status c.args.at c.in-None.ensures.none
