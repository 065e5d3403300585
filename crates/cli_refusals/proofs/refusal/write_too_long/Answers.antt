use Rattle.std.proofs.Common.{codes}
use Rattle.cli_refusals.proofs.Writings.{refused_lines}
use Rattle.cli_refusals.proofs.refusal.write_too_long.Goals as goal

pub returns-in-Tree-clause-printed : goal.returns-in-Tree-clause-printed
returns-in-Tree-clause-printed g c = rw c.in-Tree.is c.write_last.ensures.printed

pub returns-in-World-clause-printed : goal.returns-in-World-clause-printed
returns-in-World-clause-printed g c = rw c.in-World.is c.write_last-in-World.ensures.printed

pub returns-in-Rules-clause-printed : goal.returns-in-Rules-clause-printed
returns-in-Rules-clause-printed g c = rw c.in-Rules.is c.write_last-in-Rules.ensures.printed

pub returns-in-Expect-clause-printed : goal.returns-in-Expect-clause-printed
returns-in-Expect-clause-printed g c = rw c.in-Expect.is c.write_last-in-Expect.ensures.printed

pub write_last-requires-clause-lines : goal.write_last-requires-clause-lines
write_last-requires-clause-lines g c = refused_lines (codes "refused tree TooLong")

pub write_last-requires-in-World-clause-lines : goal.write_last-requires-in-World-clause-lines
write_last-requires-in-World-clause-lines g c = refused_lines (codes "refused world TooLong")

pub write_last-requires-in-Rules-clause-lines : goal.write_last-requires-in-Rules-clause-lines
write_last-requires-in-Rules-clause-lines g c = refused_lines (codes "refused rules TooLong")

pub write_last-requires-in-Expect-clause-lines : goal.write_last-requires-in-Expect-clause-lines
write_last-requires-in-Expect-clause-lines g c = refused_lines (codes "refused expect TooLong 0")
