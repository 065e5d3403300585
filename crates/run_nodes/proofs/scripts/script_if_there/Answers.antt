use Rattle.std.proofs.Common.{Option}
use Rattle.spec_script.specs.declared.syntax.Script.{Script}
use Rattle.spec_run.specs.NodeScripts.{script_if_there}
use Rattle.spec_run.specs.Visit.{site_of}
use Rattle.run_nodes.specs.Settles.{Settles, on_board}
use Rattle.run_nodes.proofs.Following.{some_script}
use Rattle.run_nodes.proofs.scripts.script_if_there.Goals as goal

pub returns-in-Some-clause-settles : goal.returns-in-Some-clause-settles
returns-in-Some-clause-settles g c = λ term view script s k.
    some_script
    (λ (o : Option Script). Settles c.run_for_writes.result (on_board c.run_for_writes.new.board s) (script_if_there (site_of term view c.args.uid) o (on_board c.args.board.now s)))
    view script _ c.in-Some.is k
    (λ x k1. c.run_for_writes.ensures.settles term view x s k1)
