use Rattle.std.proofs.Common.{ap, subst}
use Rattle.std.specs.Io.Buffered.{reader_remaining}
use Rattle.base_outside.specs.InLines.{WasRead}
use Rattle.base_outside.proofs.InputLines.{taken}
use Rattle.base_outside.proofs.in_lines.InLinesLines.next.Goals as goal

pub returns-in-Ok-clause-taken : goal.returns-in-Ok-clause-taken
returns-in-Ok-clause-taken g c =
    let read = c.read_line.new.room.items in
    let after = reader_remaining g.R.Read.remaining c.read_line.new.reader in
    taken c.args.self.now.ahead after read c.line_of.new.room.items c.line_of.result
    (subst (λ ahead. WasRead ahead read after) (ap (λ s. s.ahead) c.self.view_is) c.in-Ok.ensures.read)
    c.line_of.ensures.line
