use Rattle.std.proofs.Common.{◌∙◌, ◌<◌, arith, length}
use Rattle.std.specs.List.{concat}
use Rattle.spec_tree.specs.PrintedTree.{deeper, printed}
use Rattle.spec_tree.specs.declared.term.Term.{Term}
use Rattle.base_outside.proofs.Appends.{Appended-nil, AppendedPrefix-whole}
use Rattle.text_lines.proofs.Trees.{Appended-all, Appended-item, Appended-node, Appended-node_empty, AppendedPrefix-item, AppendedPrefix-node_below, AppendedPrefix-node_empty, AppendedPrefix-node_end, AppendedPrefix-node_start, length_empty, length_filled}
use Rattle.base_outside.proofs.Writings.{Writes-after, Writes-none, Writes-stopped, Wrote-both}
use Rattle.text_lines.proofs.tree.+write_node.Goals as goal

pub returns-then-is_empty-clause-whole : goal.returns-then-is_empty-clause-whole
returns-then-is_empty-clause-whole g t c =
    let nodes = c.nodes_below-nodes.result.now in
    let none = length_empty nodes c.is_empty.result c.is_empty.ensures c.if-is_empty.true in
    Appended-node_empty c.args.term.now nodes c.args.blanks.now _ _ c.nodes_below-nodes.ensures none c.in_ok-write_node_line.ensures.whole

pub returns-then-is_empty-clause-prefix : goal.returns-then-is_empty-clause-prefix
returns-then-is_empty-clause-prefix g t c = AppendedPrefix-whole _ _ _ (returns-then-is_empty-clause-whole g t c)

pub returns-in_err-write_node_line-clause-prefix : goal.returns-in_err-write_node_line-clause-prefix
returns-in_err-write_node_line-clause-prefix g t c =
    let nodes = c.nodes_below-nodes.result.now in
    let none = length_empty nodes c.is_empty.result c.is_empty.ensures c.if-is_empty.true in
    AppendedPrefix-node_empty c.args.term.now nodes c.args.blanks.now _ _ c.nodes_below-nodes.ensures none c.in_err-write_node_line.ensures.prefix

pub returns-in_err-write_node_line-2-clause-prefix : goal.returns-in_err-write_node_line-2-clause-prefix
returns-in_err-write_node_line-2-clause-prefix g t c =
    let nodes = c.nodes_below-nodes.result.now in
    let some = length_filled nodes c.is_empty.result c.is_empty.ensures c.if-is_empty.false in
    AppendedPrefix-node_start c.args.term.now nodes c.args.blanks.now _ _ c.nodes_below-nodes.ensures some c.in_err-write_node_line-2.ensures.prefix

pub loop-node-init : goal.loop-node-init
loop-node-init g t c = record { text = Appended-nil _; count = c.in_ok-write_node_line-2.ensures.count; writes = c.in_ok-write_node_line-2.ensures.writes }

pub returns-in_err-write_node-clause-prefix : goal.returns-in_err-write_node-clause-prefix
returns-in_err-write_node-clause-prefix g t c =
    let nodes = c.nodes_below-nodes.result.now in
    let some = length_filled nodes c.is_empty.result c.is_empty.ensures c.if-is_empty.false in
    let within : c.loop-node.node-index < length nodes = omega arith in
    let text = λ (n : Term). concat ((printed n).lines (deeper c.args.blanks.now)) in
    let front = rw (c.as_slice.ensures.value ∙ c.in_ok-more.ensures) at c.in_err-write_node.ensures.prefix in
    AppendedPrefix-node_below c.args.term.now nodes c.args.blanks.now _ _ _ c.nodes_below-nodes.ensures some
    c.in_ok-write_node_line-2.ensures.whole
    (AppendedPrefix-item text nodes c.loop-node.node-index c.node-item.result _ _ _ within c.node-item.is c.loop-node.invariant.text front)

pub loop-node-preserved : goal.loop-node-preserved
loop-node-preserved g t c =
    let nodes = c.nodes_below-nodes.result.now in
    let text = λ (n : Term). concat ((printed n).lines (deeper c.args.blanks.now)) in
    let within : c.loop-node.node-index < length nodes = omega arith in
    let whole = rw (c.as_slice.ensures.value ∙ c.in_ok-more.ensures) at c.in_ok-write_node.ensures.whole in
    record {
      text = Appended-item text nodes c.loop-node.node-index c.node-item.result _ _ _ within c.node-item.is c.loop-node.invariant.text whole;
      count = omega arith;
      writes = Wrote-both g.K.Sink.write_gives _ _ _ c.loop-node.invariant.writes c.in_ok-write_node.ensures.writes;
    }

pub returns-in_err-write_end-clause-prefix : goal.returns-in_err-write_end-clause-prefix
returns-in_err-write_end-clause-prefix g t c =
    let nodes = c.nodes_below-nodes.result.now in
    let some = length_filled nodes c.is_empty.result c.is_empty.ensures c.if-is_empty.false in
    let text = λ (n : Term). concat ((printed n).lines (deeper c.args.blanks.now)) in
    let all = Appended-all text nodes c.loop-node.node-index _ _ (omega arith) c.loop-node.invariant.text in
    let front = rw c.element_name.ensures at c.in_err-write_end.ensures.prefix in
    AppendedPrefix-node_end c.args.term.now nodes c.args.blanks.now _ _ _ _ c.nodes_below-nodes.ensures some
    c.in_ok-write_node_line-2.ensures.whole all front

pub returns-clause-whole : goal.returns-clause-whole
returns-clause-whole g t c =
    let nodes = c.nodes_below-nodes.result.now in
    let some = length_filled nodes c.is_empty.result c.is_empty.ensures c.if-is_empty.false in
    let text = λ (n : Term). concat ((printed n).lines (deeper c.args.blanks.now)) in
    let all = Appended-all text nodes c.loop-node.node-index _ _ (omega arith) c.loop-node.invariant.text in
    let ending = rw c.element_name.ensures at c.in_ok-write_end.ensures.whole in
    Appended-node c.args.term.now nodes c.args.blanks.now _ _ _ _ c.nodes_below-nodes.ensures some
    c.in_ok-write_node_line-2.ensures.whole all ending

pub returns-clause-prefix : goal.returns-clause-prefix
returns-clause-prefix g t c = AppendedPrefix-whole _ _ _ (returns-clause-whole g t c)

pub returns-in_err-write_node_line-clause-writes : goal.returns-in_err-write_node_line-clause-writes
returns-in_err-write_node_line-clause-writes g t c = Writes-stopped g.K.Sink.write_gives c.from_residual.result c.from_residual.ensures.0 _ _ c.in_err-write_node_line.ensures.writes

pub returns-in_err-more-clause-writes : goal.returns-in_err-more-clause-writes
returns-in_err-more-clause-writes g t c = Writes-none g.K.Sink.write_gives c.from_residual-in_err-more.result _

pub returns-in_err-write_node_line-2-clause-writes : goal.returns-in_err-write_node_line-2-clause-writes
returns-in_err-write_node_line-2-clause-writes g t c = Writes-stopped g.K.Sink.write_gives c.from_residual-in_err-write_node_line-2.result c.from_residual-in_err-write_node_line-2.ensures.0 _ _ c.in_err-write_node_line-2.ensures.writes

pub returns-in_err-write_node-clause-writes : goal.returns-in_err-write_node-clause-writes
returns-in_err-write_node-clause-writes g t c =
    Writes-after g.K.Sink.write_gives c.from_residual-in_err-write_node.result _ _ _ c.loop-node.invariant.writes
    (Writes-stopped g.K.Sink.write_gives c.from_residual-in_err-write_node.result c.from_residual-in_err-write_node.ensures.0 _ _ c.in_err-write_node.ensures.writes)

pub returns-in_err-write_end-clause-writes : goal.returns-in_err-write_end-clause-writes
returns-in_err-write_end-clause-writes g t c =
    Writes-after g.K.Sink.write_gives c.from_residual-in_err-write_end.result _ _ _ c.loop-node.invariant.writes
    (Writes-stopped g.K.Sink.write_gives c.from_residual-in_err-write_end.result c.from_residual-in_err-write_end.ensures.0 _ _ c.in_err-write_end.ensures.writes)

pub returns-clause-writes : goal.returns-clause-writes
returns-clause-writes g t c = Wrote-both g.K.Sink.write_gives _ _ _ c.loop-node.invariant.writes c.in_ok-write_end.ensures.writes
