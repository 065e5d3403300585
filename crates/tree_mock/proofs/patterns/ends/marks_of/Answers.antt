use Rattle.std.proofs.Common.{◌≡◌, ◌+◌, ◌-◌, ℕ, ap, ◌∙◌, sym, arith, get_or, length}
use Rattle.std.proofs.lemmas.List.{length-set}
use Rattle.tree_mock.specs.Ends.{last, mark_of, marked}
use Rattle.tree_mock.proofs.AboutPatterns.Marks.{mark_more, marks_more}
use Rattle.tree_mock.proofs.patterns.ends.marks_of.Goals as goal

pub loop-len-preserved : goal.loop-len-preserved
loop-len-preserved c =
    let path = c.args.path.now in
    let marks = c.loop-len.marks in
    let len = c.loop-len.len in
    let before = c.loop-len.invariant.marks in
    let is : c.marked.result ≡ mark_of (last (len + 1) path) =
    c.marked.ensures ∙ ap (λ (m : ℕ). marked m (get_or path (length path - 1 - len) 0)) (before len (omega arith)) ∙ sym (mark_more len path c.if-len-path.true) in
    record {
      few = omega (arith, c.loop-len-test.true);
      within = omega (arith, c.if-len-path.true);
      room = length-set marks (len + 1) c.marked.result ∙ c.loop-len.invariant.room;
      marks = marks_more path marks len c.marked.result c.loop-len.invariant.room (omega (arith, c.loop-len-test.true)) before is;
    }
