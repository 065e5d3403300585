use Rattle.std.proofs.Common.{refl}
use Rattle.host_library.proofs.Missing.{finish_misused}
use Rattle.host_library.proofs.hosted.Hosted.finish.Goals as goal

pub returns-in-None : goal.returns-in-None
returns-in-None c = (finish_misused c.args.self.now.session c.args.runner c.in-None.ensures.none, refl)
