use Rattle.std.proofs.Common.{sym, subst}
use Rattle.spec_session.specs.Sessions.{Sitting}
use Rattle.cli_serve.specs.Serving.{TakesAll}
use Rattle.cli_serve.proofs.Owned.{own_taken}
use Rattle.cli_serve.proofs.files.begin.Goals as goal

pub new-requires-clause-own : goal.new-requires-clause-own
new-requires-clause-own c =
    subst (λ (s : Sitting). TakesAll s.own s) (sym c.in-Ok.ensures.opened) (own_taken c.args.tree c.args.world c.requires.world c.in-Ok.ensures.lack)
