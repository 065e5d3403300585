use Rattle.std.proofs.Common.{refl}
use Rattle.host_library.proofs.Missing.{halt_misused}
use Rattle.host_library.proofs.hosted.Hosted.halt.Goals as goal

pub returns-in-None : goal.returns-in-None
returns-in-None c = (halt_misused c.args.self.now.session c.args.runner c.args.at c.in-None.ensures.none, refl)
