use Rattle.std.proofs.Common.{ℕ, ◌<◌, ◌∙◌, arith, length, subst}
use Rattle.spec_script.specs.declared.value.Value.{Value}
use Rattle.spec_outside.specs.Appending.{Appended, AppendedPrefix}
use Rattle.spec_output.specs.Lines.{entry_line}
use Rattle.text_lines.proofs.Lines.{Appended-map_more, AppendedPrefix-map_next, AppendedPrefix-map_some, alone}
use Rattle.base_outside.proofs.Writings.{Writes-after, Writes-lines, Writes-stopped, Wrote-both, lines-equal}
use Rattle.text_lines.proofs.LineEnds.{entry_lines}
use Rattle.text_lines.proofs.block.write_entries.Goals as goal

pub returns-in_err-put_entry-clause-prefix : goal.returns-in_err-put_entry-clause-prefix
returns-in_err-put_entry-clause-prefix g c =
    AppendedPrefix-map_some (entry_line c.args.names.now) c.args.entries.now c.loop-entry.entry-index _ _ c.loop-entry.invariant.text

pub returns-in_err-write_line-clause-prefix : goal.returns-in_err-write_line-clause-prefix
returns-in_err-write_line-clause-prefix g c =
    let within : c.loop-entry.entry-index < length c.args.entries.now = omega arith in
    let front = rw (c.as_slice.ensures.value ∙ alone _ c.clear.ensures.items c.in_ok-put_entry.ensures) at c.in_err-write_line.ensures.prefix in
    let here = subst (λ (entry : ℕ × ℕ × Value). AppendedPrefix (g.K.Sink.written c.loop-entry.out) (g.K.Sink.written c.write_line.new.out) (entry_line c.args.names.now entry)) c.entry-item.is front in
    AppendedPrefix-map_next (entry_line c.args.names.now) c.args.entries.now c.loop-entry.entry-index c.entry-item.result _ _ _ within
    c.loop-entry.invariant.text here

pub loop-entry-preserved : goal.loop-entry-preserved
loop-entry-preserved g c =
    let within : c.loop-entry.entry-index < length c.args.entries.now = omega arith in
    let whole = rw (c.as_slice.ensures.value ∙ alone _ c.clear.ensures.items c.in_ok-put_entry.ensures) at c.in_ok-write_line.ensures.whole in
    let here = subst (λ (entry : ℕ × ℕ × Value). Appended (g.K.Sink.written c.loop-entry.out) (g.K.Sink.written c.write_line.new.out) (entry_line c.args.names.now entry)) c.entry-item.is whole in
    record {
      text = Appended-map_more (entry_line c.args.names.now) c.args.entries.now c.loop-entry.entry-index c.entry-item.result _ _ _ within
          c.loop-entry.invariant.text here;
      count = omega arith;
      writes = Wrote-both g.K.Sink.write_gives _ _ _ c.loop-entry.invariant.writes
          (c.in_ok-write_line.ensures.writes (lines-equal _ _ (c.as_slice.ensures.value ∙ alone _ c.clear.ensures.items c.in_ok-put_entry.ensures) (entry_lines c.args.names.now _)));
    }

pub returns-in_err-put_entry-clause-writes : goal.returns-in_err-put_entry-clause-writes
returns-in_err-put_entry-clause-writes g c = Writes-lines g.K.Sink.write_gives c.from_residual.result _ _ c.loop-entry.invariant.writes

pub returns-in_err-write_line-clause-writes : goal.returns-in_err-write_line-clause-writes
returns-in_err-write_line-clause-writes g c =
    Writes-after g.K.Sink.write_gives c.from_residual-in_err-write_line.result _ _ _ c.loop-entry.invariant.writes
    (Writes-stopped g.K.Sink.write_gives c.from_residual-in_err-write_line.result c.from_residual-in_err-write_line.ensures.0 _ _ (c.in_err-write_line.ensures.writes (lines-equal _ _ (c.as_slice.ensures.value ∙ alone _ c.clear.ensures.items c.in_ok-put_entry.ensures) (entry_lines c.args.names.now _))))
