use Rattle.std.proofs.Common.{◌≡◌, ◌∙◌, ◌<◌, List, ℕ, [], ap, arith, codes, length, map, subst}
use Rattle.std.specs.List.{concat}
use Rattle.spec_tree.specs.PrintedTree.{root_attributes, tree_element, trees_of}
use Rattle.base_outside.proofs.Appends.{AppendedPrefix-whole}
use Rattle.spec_outside.specs.Appending.{Appended, AppendedPrefix}
use Rattle.text_lines.proofs.Trees.{Appended-all, Appended-element, Appended-item, AppendedPrefix-element_below, AppendedPrefix-element_end, AppendedPrefix-element_start, AppendedPrefix-item, file_lines, written-filled}
use Rattle.text_lines.specs.Trees.{written}
use Rattle.text_lines.specs.declared.tree.WrittenTree.{WrittenTree as Written}
use Rattle.base_outside.proofs.Writings.{Writes-after, Writes-none, Writes-stopped, Wrote-both}
use Rattle.text_lines.proofs.tree.write_tree.Goals as goal

pub returns-in_err-write_mark-clause-prefix : goal.returns-in_err-write_mark-clause-prefix
returns-in_err-write_mark-clause-prefix g c =
    let tree = c.args.tree.now in
    let trees = c.in_ok-trees.trees.items in
    let all : map written trees ≡ trees_of tree = c.in_ok-trees.ensures in
    let lines = λ (t : Written). tree_element (written t) in
    let front = rw c.list.ensures.bytes at c.in_err-write_mark.ensures.prefix in
    subst (λ (ls : List (List ℕ)). AppendedPrefix (g.K.Sink.written c.args.out.now) (g.K.Sink.written c.write_mark.new.out) (concat ls)) (file_lines tree trees all)
    (AppendedPrefix-element_start lines (codes "root") (root_attributes tree) [] trees _ _ (written-filled tree trees all) front)

pub returns-in_err-write_written-clause-prefix : goal.returns-in_err-write_written-clause-prefix
returns-in_err-write_written-clause-prefix g c =
    let tree = c.args.tree.now in
    let trees = c.deref-written-items.result.now in
    let all : map written trees ≡ trees_of tree = ap (map written) c.deref-written-items.ensures.value ∙ c.in_ok-trees.ensures in
    let lines = λ (t : Written). tree_element (written t) in
    let text = λ (t : Written). concat (tree_element (written t) (codes "  ")) in
    let within : c.loop-written.written-index < length trees = omega arith in
    let start = rw c.list.ensures.bytes at c.in_ok-write_mark.ensures.whole in
    subst (λ (ls : List (List ℕ)). AppendedPrefix (g.K.Sink.written c.args.out.now) (g.K.Sink.written c.write_written.new.out) (concat ls)) (file_lines tree trees all)
    (AppendedPrefix-element_below lines (codes "root") (root_attributes tree) [] trees _ _ _ (written-filled tree trees all) start
    (AppendedPrefix-item text trees c.loop-written.written-index c.written-item.result _ _ _ within c.written-item.is c.loop-written.invariant.text c.in_err-write_written.ensures.prefix))

pub loop-written-preserved : goal.loop-written-preserved
loop-written-preserved g c =
    let trees = c.deref-written-items.result.now in
    let text = λ (t : Written). concat (tree_element (written t) (codes "  ")) in
    let within : c.loop-written.written-index < length trees = omega arith in
    record {
      text = Appended-item text trees c.loop-written.written-index c.written-item.result _ _ _ within c.written-item.is c.loop-written.invariant.text c.in_ok-write_written.ensures.whole;
      count = omega arith;
      writes = Wrote-both g.K.Sink.write_gives _ _ _ c.loop-written.invariant.writes c.in_ok-write_written.ensures.writes;
    }

pub returns-in_err-write_end-clause-prefix : goal.returns-in_err-write_end-clause-prefix
returns-in_err-write_end-clause-prefix g c =
    let tree = c.args.tree.now in
    let trees = c.deref-written-items.result.now in
    let all : map written trees ≡ trees_of tree = ap (map written) c.deref-written-items.ensures.value ∙ c.in_ok-trees.ensures in
    let lines = λ (t : Written). tree_element (written t) in
    let text = λ (t : Written). concat (tree_element (written t) (codes "  ")) in
    let start = rw c.list.ensures.bytes at c.in_ok-write_mark.ensures.whole in
    let each = Appended-all text trees c.loop-written.written-index _ _ (omega arith) c.loop-written.invariant.text in
    subst (λ (ls : List (List ℕ)). AppendedPrefix (g.K.Sink.written c.args.out.now) (g.K.Sink.written c.write_end.new.out) (concat ls)) (file_lines tree trees all)
    (AppendedPrefix-element_end lines (codes "root") (root_attributes tree) [] trees _ _ _ _ (written-filled tree trees all) start each c.in_err-write_end.ensures.prefix)

pub returns-clause-whole : goal.returns-clause-whole
returns-clause-whole g c =
    let tree = c.args.tree.now in
    let trees = c.deref-written-items.result.now in
    let all : map written trees ≡ trees_of tree = ap (map written) c.deref-written-items.ensures.value ∙ c.in_ok-trees.ensures in
    let lines = λ (t : Written). tree_element (written t) in
    let text = λ (t : Written). concat (tree_element (written t) (codes "  ")) in
    let start = rw c.list.ensures.bytes at c.in_ok-write_mark.ensures.whole in
    let each = Appended-all text trees c.loop-written.written-index _ _ (omega arith) c.loop-written.invariant.text in
    subst (λ (ls : List (List ℕ)). Appended (g.K.Sink.written c.args.out.now) (g.K.Sink.written c.write_end.new.out) (concat ls)) (file_lines tree trees all)
    (Appended-element lines (codes "root") (root_attributes tree) [] trees _ _ _ _ (written-filled tree trees all) start each c.in_ok-write_end.ensures.whole)

pub returns-clause-prefix : goal.returns-clause-prefix
returns-clause-prefix g c = AppendedPrefix-whole _ _ _ (returns-clause-whole g c)

pub returns-in_err-trees-clause-writes : goal.returns-in_err-trees-clause-writes
returns-in_err-trees-clause-writes g c = Writes-none g.K.Sink.write_gives c.from_residual.result _

pub returns-in_err-line-clause-writes : goal.returns-in_err-line-clause-writes
returns-in_err-line-clause-writes g c = Writes-none g.K.Sink.write_gives c.from_residual-in_err-line.result _

pub returns-in_err-write_mark-clause-writes : goal.returns-in_err-write_mark-clause-writes
returns-in_err-write_mark-clause-writes g c = Writes-stopped g.K.Sink.write_gives c.from_residual-in_err-write_mark.result c.from_residual-in_err-write_mark.ensures.0 _ _ c.in_err-write_mark.ensures.writes

pub returns-in_err-write_written-clause-writes : goal.returns-in_err-write_written-clause-writes
returns-in_err-write_written-clause-writes g c =
    Writes-after g.K.Sink.write_gives c.from_residual-in_err-write_written.result _ _ _ c.loop-written.invariant.writes
    (Writes-stopped g.K.Sink.write_gives c.from_residual-in_err-write_written.result c.from_residual-in_err-write_written.ensures.0 _ _ c.in_err-write_written.ensures.writes)

pub returns-in_err-write_end-clause-writes : goal.returns-in_err-write_end-clause-writes
returns-in_err-write_end-clause-writes g c =
    Writes-after g.K.Sink.write_gives c.from_residual-in_err-write_end.result _ _ _ c.loop-written.invariant.writes
    (Writes-stopped g.K.Sink.write_gives c.from_residual-in_err-write_end.result c.from_residual-in_err-write_end.ensures.0 _ _ c.in_err-write_end.ensures.writes)

pub returns-clause-writes : goal.returns-clause-writes
returns-clause-writes g c = Wrote-both g.K.Sink.write_gives _ _ _ c.loop-written.invariant.writes c.in_ok-write_end.ensures.writes
