use Rattle.std.proofs.Common.{◌≡◌, ℕ, ◌++◌, List, [], map, ap, ◌∙◌}
use Rattle.std.specs.Borrow.{Bor}
use Rattle.std.specs.List.{concat}
use Rattle.tree_build.specs.Seen.{ids_seen}
use Rattle.spec_dead.specs.Dead.{dead_nodes}
use Rattle.spec_tree.specs.declared.term.Term.{Term}
use Rattle.spec_tree.specs.declared.term.Tree.{Tree}
use Rattle.base_outside.proofs.Appends.{Appended-trans, AppendedPrefix-after, AppendedPrefix-longer, AppendedPrefix-whole}
use Rattle.spec_program.specs.Printed.{dead_count_line, dead_line, node_ids}
use Rattle.base_outside.proofs.Writings.{Writes-after, Writes-lines, Writes-none, Writes-stopped, Wrote-both, lines-equal}
use Rattle.cli_answers.proofs.LineEnds.{dead_count_lines}
use Rattle.cli_answers.proofs.printing.dead_nodes.write_dead.Goals as goal

-- the lines of all dead nodes
abbrev lines : Tree → List ℕ
lines tree = concat (map (dead_line (node_ids tree.term)) (dead_nodes tree))

-- the IDs that were added to none are those of the term
all_ids : (none added taken : List (Bor (List ℕ))) (term : Term) → none ≡ [] → ids_seen added ≡ ids_seen none ++ node_ids term → taken ≡ added → ids_seen taken ≡ node_ids term
all_ids none added taken term empty put is = ap ids_seen is ∙ put ∙ ap (λ ids. ids_seen ids ++ node_ids term) empty

pub returns-in_err-write_each-clause-prefix : goal.returns-in_err-write_each-clause-prefix
returns-in_err-write_each-clause-prefix g c =
    let tree = c.args.tree.now in
    let ids = all_ids _ _ _ tree.term c.new-ids.ensures.items c.in_ok-add_ids.ensures c.as_slice.ensures.value in
    AppendedPrefix-longer _ _ (lines tree) (dead_count_line tree) (rw (ids, c.as_slice-2.ensures.value ∙ c.in_ok-uids.ensures.nodes) at c.in_err-write_each.ensures.prefix)

pub returns-in_err-line-clause-prefix : goal.returns-in_err-line-clause-prefix
returns-in_err-line-clause-prefix g c =
    let tree = c.args.tree.now in
    let ids = all_ids _ _ _ tree.term c.new-ids.ensures.items c.in_ok-add_ids.ensures c.as_slice.ensures.value in
    AppendedPrefix-longer _ _ (lines tree) (dead_count_line tree)
    (AppendedPrefix-whole _ _ _ (rw (ids, c.as_slice-2.ensures.value ∙ c.in_ok-uids.ensures.nodes) at c.in_ok-write_each.ensures.whole))

pub returns-in_err-write_line-clause-prefix : goal.returns-in_err-write_line-clause-prefix
returns-in_err-write_line-clause-prefix g c =
    let tree = c.args.tree.now in
    let ids = all_ids _ _ _ tree.term c.new-ids.ensures.items c.in_ok-add_ids.ensures c.as_slice.ensures.value in
    AppendedPrefix-after _ _ _ (lines tree) (dead_count_line tree)
    (rw (ids, c.as_slice-2.ensures.value ∙ c.in_ok-uids.ensures.nodes) at c.in_ok-write_each.ensures.whole)
    (rw (c.as_slice-4.ensures.value ∙ c.in_ok-line.ensures) at c.in_err-write_line.ensures.prefix)

pub returns-clause-whole : goal.returns-clause-whole
returns-clause-whole g c =
    let tree = c.args.tree.now in
    let ids = all_ids _ _ _ tree.term c.new-ids.ensures.items c.in_ok-add_ids.ensures c.as_slice.ensures.value in
    Appended-trans _ _ _ (lines tree) (dead_count_line tree)
    (rw (ids, c.as_slice-2.ensures.value ∙ c.in_ok-uids.ensures.nodes) at c.in_ok-write_each.ensures.whole)
    (rw (c.as_slice-4.ensures.value ∙ c.in_ok-line.ensures) at c.in_ok-write_line.ensures.whole)

pub returns-clause-prefix : goal.returns-clause-prefix
returns-clause-prefix g c = AppendedPrefix-whole _ _ _ (returns-clause-whole g c)

pub returns-in_err-uids-clause-writes : goal.returns-in_err-uids-clause-writes
returns-in_err-uids-clause-writes g c = Writes-none g.K.Sink.write_gives c.from_residual.result _

pub returns-in_err-add_ids-clause-writes : goal.returns-in_err-add_ids-clause-writes
returns-in_err-add_ids-clause-writes g c = Writes-none g.K.Sink.write_gives c.from_residual-in_err-add_ids.result _

pub returns-in_err-write_each-clause-writes : goal.returns-in_err-write_each-clause-writes
returns-in_err-write_each-clause-writes g c = Writes-stopped g.K.Sink.write_gives c.from_residual-in_err-write_each.result c.from_residual-in_err-write_each.ensures.0 _ _ c.in_err-write_each.ensures.writes

pub returns-in_err-line-clause-writes : goal.returns-in_err-line-clause-writes
returns-in_err-line-clause-writes g c = Writes-lines g.K.Sink.write_gives c.from_residual-in_err-line.result _ _ c.in_ok-write_each.ensures.writes

pub returns-in_err-write_line-clause-writes : goal.returns-in_err-write_line-clause-writes
returns-in_err-write_line-clause-writes g c =
    Writes-after g.K.Sink.write_gives c.from_residual-in_err-write_line.result _ _ _ c.in_ok-write_each.ensures.writes
    (Writes-stopped g.K.Sink.write_gives c.from_residual-in_err-write_line.result c.from_residual-in_err-write_line.ensures.0 _ _ (c.in_err-write_line.ensures.writes (lines-equal _ _ (c.as_slice-4.ensures.value ∙ c.in_ok-line.ensures) (dead_count_lines c.args.tree.now))))

pub returns-clause-writes : goal.returns-clause-writes
returns-clause-writes g c = Wrote-both g.K.Sink.write_gives _ _ _ c.in_ok-write_each.ensures.writes (c.in_ok-write_line.ensures.writes (lines-equal _ _ (c.as_slice-4.ensures.value ∙ c.in_ok-line.ensures) (dead_count_lines c.args.tree.now)))
