use Rattle.std.proofs.lemmas.Result.{on_ok_weaker}
use Rattle.run_arena.specs.Blocks.{seen}
use Rattle.text_lines.proofs.Lines.{Appended-lines_of, AppendedPrefix-lines_of_changes, AppendedPrefix-lines_of_notes}
use Rattle.base_outside.proofs.Writings.{Writes-after, Writes-none, Writes-stopped, Wrote-both}
use Rattle.text_lines.proofs.block.write_block.Goals as goal

pub returns-in_err-write_notes-clause-prefix : goal.returns-in_err-write_notes-clause-prefix
returns-in_err-write_notes-clause-prefix g c =
    let notes = rw c.list.ensures at c.in_err-write_notes.ensures.prefix in
    AppendedPrefix-lines_of_notes c.args.names.now (seen c.args.block.now) _ _ _ c.in_ok-write_header.ensures.whole notes

pub returns-clause-whole : goal.returns-clause-whole
returns-clause-whole g c =
    let notes = rw c.list.ensures at c.in_ok-write_notes.ensures.whole in
    on_ok_weaker c.write_changes.result
    (Appended-lines_of c.args.names.now (seen c.args.block.now) _ _ _ _ c.in_ok-write_header.ensures.whole notes) c.write_changes.ensures.whole

pub returns-clause-prefix : goal.returns-clause-prefix
returns-clause-prefix g c =
    let notes = rw c.list.ensures at c.in_ok-write_notes.ensures.whole in
    AppendedPrefix-lines_of_changes c.args.names.now (seen c.args.block.now) _ _ _ _ c.in_ok-write_header.ensures.whole notes
    c.write_changes.ensures.prefix

pub returns-in_err-line-clause-writes : goal.returns-in_err-line-clause-writes
returns-in_err-line-clause-writes g c = Writes-none g.K.Sink.write_gives c.from_residual.result _

pub returns-in_err-write_header-clause-writes : goal.returns-in_err-write_header-clause-writes
returns-in_err-write_header-clause-writes g c = Writes-stopped g.K.Sink.write_gives c.from_residual-in_err-write_header.result c.from_residual-in_err-write_header.ensures.0 _ _ c.in_err-write_header.ensures.writes

pub returns-in_err-write_notes-clause-writes : goal.returns-in_err-write_notes-clause-writes
returns-in_err-write_notes-clause-writes g c =
    Writes-after g.K.Sink.write_gives c.from_residual-in_err-write_notes.result _ _ _ c.in_ok-write_header.ensures.writes
    (Writes-stopped g.K.Sink.write_gives c.from_residual-in_err-write_notes.result c.from_residual-in_err-write_notes.ensures.0 _ _ c.in_err-write_notes.ensures.writes)

pub returns-clause-writes : goal.returns-clause-writes
returns-clause-writes g c =
    Writes-after g.K.Sink.write_gives c.write_changes.result _ _ _ (Wrote-both g.K.Sink.write_gives _ _ _ c.in_ok-write_header.ensures.writes c.in_ok-write_notes.ensures.writes)
    c.write_changes.ensures.writes
