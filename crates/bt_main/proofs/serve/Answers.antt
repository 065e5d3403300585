use Rattle.std.proofs.Common.{ap}
use Rattle.base_outside.specs.InLines.{InState}
use Rattle.bt_main.proofs.Calls.{served_so}
use Rattle.bt_main.proofs.serve.Goals as goal

pub returns-clause-served : goal.returns-clause-served
returns-clause-served g c =
    served_so c.serve_files.result c.args.out.now c.serve_files.new.out c.new-shelf.result c.serve_files.new.shelf c.new-shelf.ensures _ c.in_ok-lines.lines c.serve_files.new.lines
    (ap (λ (s : InState). s.faults) c.in_ok-lines.ensures) c.serve_files.ensures.answers
