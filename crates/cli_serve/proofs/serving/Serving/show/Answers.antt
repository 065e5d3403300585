use Rattle.std.proofs.Common.{subst}
use Rattle.std.specs.List.{concat}
use Rattle.std.proofs.lemmas.Result.{err_from_is_err_and}
use Rattle.cli_serve.proofs.Parts.{first_by}
use Rattle.cli_serve.proofs.Saying.{IsShown, shown_fault, shown_made, shows_first}
use Rattle.cli_serve.specs.Serving.{last_lines, sink}
use Rattle.spec_outside.specs.Appending.{AppendedPrefix}
use Rattle.spec_output.specs.Lines.{LineNames}
use Rattle.spec_serve.specs.Inputs.{told_lines}
use Rattle.cli_serve.proofs.serving.Serving.show.Goals as goal
use Rattle.cli_serve.proofs.serving.Serving.show.Goals.{in-Ok, in-Err-Fault}

pub returns-in_err-write_answer-clause-shows : goal.returns-in_err-write_answer-clause-shows
returns-in_err-write_answer-clause-shows g c =
    let p = err_from_is_err_and c.from_residual.result c.from_residual.ensures.1 in
    let out = g.K.Sink in
    let s = c.args.self.now.session in
    let shown : IsShown c.args.made = elim c.match-made.branch [
      | in-Ok w ↦ shown_made c.args.made w.in-Ok.is
      | in-Err-Fault w ↦ shown_fault c.args.made w.in-Err-Fault.field-0 w.in-Err-Fault.field-0-0 w.in-Err-Fault.is
          (rw w.in-Err-Fault.is at w.in-Err-Fault.field-0-is)
    ] in
    rw (p.1, p.2) (shows_first c.args.made s c.in_err-write_answer.field-0.0
    (sink (out.written c.args.out.now) (out.handed c.args.out.now) (out.faults c.args.out.now))
    (sink (out.written c.write_answer.new.out) (out.handed c.write_answer.new.out) (out.faults c.write_answer.new.out)) shown
    (first_by c.in_err-write_answer.field-0.0 (last_lines s)
    (sink (out.written c.args.out.now) (out.handed c.args.out.now) (out.faults c.args.out.now))
    (sink (out.written c.write_answer.new.out) (out.handed c.write_answer.new.out) (out.faults c.write_answer.new.out))
    (subst (λ (n : LineNames). AppendedPrefix (out.written c.args.out.now) (out.written c.write_answer.new.out) (concat (told_lines n s.state s.block)))
    c.requires.names c.in_err-write_answer.ensures.prefix) c.in_err-write_answer.ensures.failed))
