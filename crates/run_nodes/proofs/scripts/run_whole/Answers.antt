use Rattle.std.proofs.Common.{Ok, refl}
use Rattle.spec_run.specs.Done.{done}
use Rattle.run_nodes.proofs.Following.{stopped, went_on}
use Rattle.run_nodes.proofs.scripts.run_whole.Goals as goal

pub returns-in_err-run_script-clause-settles : goal.returns-in_err-run_script-clause-settles
returns-in_err-run_script-clause-settles g c = λ term view script s k.
    stopped (λ value _ s1. done tt tt s1) _ _ _ _ c.from_residual.ensures.1 (c.in_err-run_script.ensures.settles term view script s k)

pub returns-clause-settles : goal.returns-clause-settles
returns-clause-settles g c = λ term view script s k.
    went_on (λ value _ s1. done tt tt s1) _ _ _ _ (Ok tt) (c.in_ok-run_script.ensures.settles term view script s k) refl
