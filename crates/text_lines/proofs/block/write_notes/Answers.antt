use Rattle.std.proofs.Common.{◌≤◌, ◌<◌, ◌∙◌, ap, arith, length, length-drop, map, subst, take}
use Rattle.std.specs.List.{concat}
use Rattle.std.specs.Prelude.{IsTrue}
use Rattle.std.proofs.lemmas.List.{take_rest}
use Rattle.spec_run.specs.declared.note.Note.TheVariants as note
use Rattle.spec_run.specs.declared.status.Status.TheVariants as status
use Rattle.spec_output.specs.Lines.{note_line}
use Rattle.text_lines.specs.Notes.{is_long}
use Rattle.text_lines.proofs.Lines.{Appended-map_further, Appended-map_more, AppendedPrefix-map_further, AppendedPrefix-map_next, first_left}
use Rattle.text_lines.proofs.LineEnds.{lines_of_some}
use Rattle.base_outside.proofs.Writings.{Writes-after, Writes-stopped, Wrote-both, lines-equal}
use Rattle.text_lines.proofs.block.write_notes.Goals as goal

pub write_long-requires : goal.write_long-requires
write_long-requires g c =
    let first = note.Changed 0 status.Idle status.Idle in
    subst (λ n. IsTrue (is_long n)) (first_left c.args.notes.now c.loop-at.at first) (c.gather-count.ensures.long c.if-count-eq0.true first)

pub returns-in_err-write_long-clause-prefix : goal.returns-in_err-write_long-clause-prefix
returns-in_err-write_long-clause-prefix g c =
    let within : c.loop-at.at < length c.args.notes.now = omega arith in
    AppendedPrefix-map_next (note_line c.args.names.now) c.args.notes.now c.loop-at.at _ _ _ _ within c.loop-at.invariant.text c.in_err-write_long.ensures.prefix

pub returns-in_err-write_long-clause-writes : goal.returns-in_err-write_long-clause-writes
returns-in_err-write_long-clause-writes g c =
    Writes-after g.K.Sink.write_gives c.from_residual.result _ _ _ c.loop-at.invariant.writes
    (Writes-stopped g.K.Sink.write_gives c.from_residual.result c.from_residual.ensures.0 _ _ c.in_err-write_long.ensures.writes)

pub loop-at-preserved-then-count-eq0 : goal.loop-at-preserved-then-count-eq0
loop-at-preserved-then-count-eq0 g c =
    let within : c.loop-at.at < length c.args.notes.now = omega arith in
    record {
      within = omega arith;
      text = Appended-map_more (note_line c.args.names.now) c.args.notes.now c.loop-at.at _ _ _ _ within c.loop-at.invariant.text c.in_ok-write_long.ensures.whole;
      count = omega arith;
      writes = Wrote-both g.K.Sink.write_gives _ _ _ c.loop-at.invariant.writes c.in_ok-write_long.ensures.writes;
    }

pub returns-in_err-write_line-clause-prefix : goal.returns-in_err-write_line-clause-prefix
returns-in_err-write_line-clause-prefix g c =
    let names = c.args.names.now in
    let notes = c.args.notes.now in
    let count = c.gather-count.result in
    let gathered = c.list.ensures ∙ c.gather-count.ensures.text names ∙ ap (λ ns. concat (map (note_line names) (take count ns))) (take_rest notes c.loop-at.at) in
    let front = rw gathered at c.in_err-write_line.ensures.prefix in
    AppendedPrefix-map_further (note_line names) notes c.loop-at.at count _ _ _ c.loop-at.invariant.text front

pub returns-in_err-write_line-clause-writes : goal.returns-in_err-write_line-clause-writes
returns-in_err-write_line-clause-writes g c =
    let names = c.args.names.now in
    let gathered = c.list.ensures ∙ c.gather-count.ensures.text names in
    let lines = lines-equal _ _ gathered (lines_of_some names _ c.gather-count.result (omega (arith, c.if-count-eq0.false)) c.gather-count.ensures.within) in
    let result = c.from_residual-in_err-write_line.result in
    Writes-after g.K.Sink.write_gives result _ _ _ c.loop-at.invariant.writes
    (Writes-stopped g.K.Sink.write_gives result c.from_residual-in_err-write_line.ensures.0 _ _ (c.in_err-write_line.ensures.writes lines))

pub loop-at-preserved : goal.loop-at-preserved
loop-at-preserved g c =
    let names = c.args.names.now in
    let notes = c.args.notes.now in
    let at = c.loop-at.at in
    let count = c.gather-count.result in
    let found = c.list.ensures ∙ c.gather-count.ensures.text names in
    let lines = lines-equal _ _ found (lines_of_some names _ count (omega (arith, c.if-count-eq0.false)) c.gather-count.ensures.within) in
    let gathered = found ∙ ap (λ ns. concat (map (note_line names) (take count ns))) (take_rest notes at) in
    let whole = rw gathered at c.in_ok-write_line.ensures.whole in
    let left = subst (λ ns. count ≤ length ns) (take_rest notes at) c.gather-count.ensures.within in
    record {
      within = omega (arith, left, length-drop at notes, c.loop-at.invariant.within);
      text = Appended-map_further (note_line names) notes at count _ _ _ c.loop-at.invariant.text whole;
      count = omega arith;
      writes = Wrote-both g.K.Sink.write_gives _ _ _ c.loop-at.invariant.writes (c.in_ok-write_line.ensures.writes lines);
    }
