use Rattle.std.proofs.Common.{◌≡◌, ap, sym, subst, ◌∙◌, arith, map, take}
use Rattle.std.specs.List.{concat}
use Rattle.std.specs.Prelude.{IsTrue, get_or}
use Rattle.std.proofs.lemmas.List.{get_or_default}
use Rattle.spec_output.specs.Lines.{note_line}
use Rattle.text_lines.specs.Notes.{is_long}
use Rattle.text_lines.proofs.Lines.{concat-map_next}
use Rattle.text_lines.proofs.short.ShortLines.gather.Goals as goal

pub loop-note-preserved : goal.loop-note-preserved
loop-note-preserved c =
    let l = c.loop-note in
    record {
      count = omega (arith, l.invariant.count);
      text = λ names. concat-map_next (note_line names) c.args.notes.now l.note-index _ _ _ (omega arith) (c.put_short.ensures.text c.if-not-put_short.false names) (l.invariant.text names);
      room = λ zero. absurd (omega (arith, zero));
    }

pub returns-then-not-put_short-clause-text : goal.returns-then-not-put_short-clause-text
returns-then-not-put_short-clause-text c = λ names.
    c.put_short.ensures.same c.if-not-put_short.true ∙ c.loop-note.invariant.text names
    ∙ ap (λ n. concat (map (note_line names) (take n c.args.notes.now))) (sym c.loop-note.invariant.count)

pub returns-then-not-put_short-clause-long : goal.returns-then-not-put_short-clause-long
returns-then-not-put_short-clause-long c = λ zero n.
    let first : c.loop-note.note-index ≡ 0 = sym c.loop-note.invariant.count ∙ zero in
    let long = c.put_short.ensures.long c.if-not-put_short.true (c.loop-note.invariant.room first) in
    subst (λ i. IsTrue (is_long (get_or c.args.notes.now i n))) first
    (subst (λ note. IsTrue (is_long note)) (get_or_default c.args.notes.now c.loop-note.note-index _ n (omega arith)) long)

pub returns-clause-text : goal.returns-clause-text
returns-clause-text c = λ names.
    c.loop-note.invariant.text names ∙ ap (λ n. concat (map (note_line names) (take n c.args.notes.now))) (sym c.loop-note.invariant.count)
