use Rattle.std.proofs.Common.{◌<◌, [], ◌∷◌, arith, codes, length}
use Rattle.std.specs.List.{concat}
use Rattle.spec_tree.specs.PrintedTree.{printed}
use Rattle.spec_tree.specs.declared.term.Term.{Term}
use Rattle.base_outside.proofs.Appends.{AppendedPrefix-whole}
use Rattle.text_lines.proofs.Trees.{Appended-all, Appended-element, Appended-element_empty, Appended-item, AppendedPrefix-element_below, AppendedPrefix-element_empty, AppendedPrefix-element_end, AppendedPrefix-element_start, AppendedPrefix-item, length_empty, length_filled}
use Rattle.base_outside.proofs.Writings.{Writes-after, Writes-stopped, Wrote-both}
use Rattle.text_lines.proofs.tree.write_written.Goals as goal

pub returns-then-is_empty-clause-whole : goal.returns-then-is_empty-clause-whole
returns-then-is_empty-clause-whole g c =
    let none = length_empty c.args.nodes.now c.is_empty.result c.is_empty.ensures c.if-is_empty.true in
    let whole = rw c.list.ensures.bytes at c.in_ok-write_mark.ensures.whole in
    let lines = λ (n : Term). (printed n).lines in
    Appended-element_empty lines (codes "BehaviorTree") ((codes "ID", c.args.id.now) ∷ []) (codes "  ") c.args.nodes.now _ _ none whole

pub returns-then-is_empty-clause-prefix : goal.returns-then-is_empty-clause-prefix
returns-then-is_empty-clause-prefix g c = AppendedPrefix-whole _ _ _ (returns-then-is_empty-clause-whole g c)

pub returns-in_err-write_mark-clause-prefix : goal.returns-in_err-write_mark-clause-prefix
returns-in_err-write_mark-clause-prefix g c =
    let none = length_empty c.args.nodes.now c.is_empty.result c.is_empty.ensures c.if-is_empty.true in
    let front = rw c.list.ensures.bytes at c.in_err-write_mark.ensures.prefix in
    let lines = λ (n : Term). (printed n).lines in
    AppendedPrefix-element_empty lines (codes "BehaviorTree") ((codes "ID", c.args.id.now) ∷ []) (codes "  ") c.args.nodes.now _ _ none front

pub returns-in_err-write_mark-2-clause-prefix : goal.returns-in_err-write_mark-2-clause-prefix
returns-in_err-write_mark-2-clause-prefix g c =
    let nodes = c.args.nodes.now in
    let some = length_filled nodes c.is_empty.result c.is_empty.ensures c.if-is_empty.false in
    let front = rw c.list.ensures.bytes at c.in_err-write_mark-2.ensures.prefix in
    let lines = λ (n : Term). (printed n).lines in
    AppendedPrefix-element_start lines (codes "BehaviorTree") ((codes "ID", c.args.id.now) ∷ []) (codes "  ") nodes _ _ some front

pub returns-in_err-write_node-clause-prefix : goal.returns-in_err-write_node-clause-prefix
returns-in_err-write_node-clause-prefix g c =
    let nodes = c.args.nodes.now in
    let some = length_filled nodes c.is_empty.result c.is_empty.ensures c.if-is_empty.false in
    let within : c.loop-node.node-index < length nodes = omega arith in
    let lines = λ (n : Term). (printed n).lines in
    let text = λ (n : Term). concat ((printed n).lines (codes "    ")) in
    let start = rw c.list.ensures.bytes at c.in_ok-write_mark-2.ensures.whole in
    AppendedPrefix-element_below lines (codes "BehaviorTree") ((codes "ID", c.args.id.now) ∷ []) (codes "  ") nodes _ _ _ some start
    (AppendedPrefix-item text nodes c.loop-node.node-index c.node-item.result _ _ _ within c.node-item.is c.loop-node.invariant.text c.in_err-write_node.ensures.prefix)

pub loop-node-preserved : goal.loop-node-preserved
loop-node-preserved g c =
    let nodes = c.args.nodes.now in
    let text = λ (n : Term). concat ((printed n).lines (codes "    ")) in
    let within : c.loop-node.node-index < length nodes = omega arith in
    record {
      text = Appended-item text nodes c.loop-node.node-index c.node-item.result _ _ _ within c.node-item.is c.loop-node.invariant.text c.in_ok-write_node.ensures.whole;
      count = omega arith;
      writes = Wrote-both g.K.Sink.write_gives _ _ _ c.loop-node.invariant.writes c.in_ok-write_node.ensures.writes;
    }

pub returns-in_err-write_end-clause-prefix : goal.returns-in_err-write_end-clause-prefix
returns-in_err-write_end-clause-prefix g c =
    let nodes = c.args.nodes.now in
    let some = length_filled nodes c.is_empty.result c.is_empty.ensures c.if-is_empty.false in
    let lines = λ (n : Term). (printed n).lines in
    let text = λ (n : Term). concat ((printed n).lines (codes "    ")) in
    let start = rw c.list.ensures.bytes at c.in_ok-write_mark-2.ensures.whole in
    let all = Appended-all text nodes c.loop-node.node-index _ _ (omega arith) c.loop-node.invariant.text in
    AppendedPrefix-element_end lines (codes "BehaviorTree") ((codes "ID", c.args.id.now) ∷ []) (codes "  ") nodes _ _ _ _ some start all c.in_err-write_end.ensures.prefix

pub returns-clause-whole : goal.returns-clause-whole
returns-clause-whole g c =
    let nodes = c.args.nodes.now in
    let some = length_filled nodes c.is_empty.result c.is_empty.ensures c.if-is_empty.false in
    let lines = λ (n : Term). (printed n).lines in
    let text = λ (n : Term). concat ((printed n).lines (codes "    ")) in
    let start = rw c.list.ensures.bytes at c.in_ok-write_mark-2.ensures.whole in
    let all = Appended-all text nodes c.loop-node.node-index _ _ (omega arith) c.loop-node.invariant.text in
    Appended-element lines (codes "BehaviorTree") ((codes "ID", c.args.id.now) ∷ []) (codes "  ") nodes _ _ _ _ some start all c.in_ok-write_end.ensures.whole

pub returns-clause-prefix : goal.returns-clause-prefix
returns-clause-prefix g c = AppendedPrefix-whole _ _ _ (returns-clause-whole g c)

pub returns-in_err-write_mark-clause-writes : goal.returns-in_err-write_mark-clause-writes
returns-in_err-write_mark-clause-writes g c = Writes-stopped g.K.Sink.write_gives c.from_residual.result c.from_residual.ensures.0 _ _ c.in_err-write_mark.ensures.writes

pub returns-in_err-write_mark-2-clause-writes : goal.returns-in_err-write_mark-2-clause-writes
returns-in_err-write_mark-2-clause-writes g c = Writes-stopped g.K.Sink.write_gives c.from_residual-in_err-write_mark-2.result c.from_residual-in_err-write_mark-2.ensures.0 _ _ c.in_err-write_mark-2.ensures.writes

pub returns-in_err-write_node-clause-writes : goal.returns-in_err-write_node-clause-writes
returns-in_err-write_node-clause-writes g c =
    Writes-after g.K.Sink.write_gives c.from_residual-in_err-write_node.result _ _ _ c.loop-node.invariant.writes
    (Writes-stopped g.K.Sink.write_gives c.from_residual-in_err-write_node.result c.from_residual-in_err-write_node.ensures.0 _ _ c.in_err-write_node.ensures.writes)

pub returns-in_err-write_end-clause-writes : goal.returns-in_err-write_end-clause-writes
returns-in_err-write_end-clause-writes g c =
    Writes-after g.K.Sink.write_gives c.from_residual-in_err-write_end.result _ _ _ c.loop-node.invariant.writes
    (Writes-stopped g.K.Sink.write_gives c.from_residual-in_err-write_end.result c.from_residual-in_err-write_end.ensures.0 _ _ c.in_err-write_end.ensures.writes)

pub returns-clause-writes : goal.returns-clause-writes
returns-clause-writes g c = Wrote-both g.K.Sink.write_gives _ _ _ c.loop-node.invariant.writes c.in_ok-write_end.ensures.writes
