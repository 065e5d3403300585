use Rattle.std.proofs.Common.{ap, ◌∙◌, Result}
use Rattle.spec_run.specs.declared.fault.NodeFault.{NodeFault}
use Rattle.spec_run.specs.Visit.{or_bad_port}
use Rattle.run_nodes.specs.Given.{with_memo}
use Rattle.run_nodes.proofs.PortValues.{bad_port_after}
use Rattle.run_nodes.proofs.starts.start_memo.Goals as goal

pub returns-clause-starts : goal.returns-clause-starts
returns-clause-starts g c = λ term view whole s k.
    ap (λ (r : Result (Unit {0}) NodeFault). with_memo r c.start_of.new.memo) c.or_bad_port.ensures
    ∙ bad_port_after c.args.uid c.start_of.result c.start_of.new.memo
    ∙ ap (or_bad_port c.args.uid) (c.start_of.ensures.starts term view whole c.args.uid s k)
