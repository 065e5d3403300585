use Rattle.spec_run.specs.Done.{ends}
use Rattle.spec_run.specs.NodeScripts.{truth_of}
use Rattle.run_nodes.proofs.Following.{gives_settles, stopped, went_on}
use Rattle.run_nodes.proofs.scripts.whole_holds.Goals as goal

pub returns-in_err-value-clause-settles : goal.returns-in_err-value-clause-settles
returns-in_err-value-clause-settles g c = λ term view script s k.
    stopped (λ value _ s1. ends (truth_of c.args.uid value) tt s1) _ _ _ _ c.from_residual.ensures.1 (c.in_err-value.ensures.settles term view script s k)

pub returns-clause-settles : goal.returns-clause-settles
returns-clause-settles g c = λ term view script s k.
    went_on (λ value _ s1. ends (truth_of c.args.uid value) tt s1) _ _ _ _ _ (c.in_ok-value.ensures.settles term view script s k) (gives_settles _ _ _ c.truth.ensures.gives)
