-- Each line that is printed ends with a line feed.
use Rattle.std.proofs.Common.{ℕ, List, ◌++◌, codes, decimal, length}
use Rattle.spec_dead.specs.Dead.{dead_nodes}
use Rattle.spec_exclusive.specs.declared.pair.Pair.{Pair}
use Rattle.spec_outside.specs.Writes.{AreLines}
use Rattle.spec_output.specs.Counts.{counts_of}
use Rattle.spec_output.specs.Lines.{LineNames, quoted}
use Rattle.spec_output.specs.Summaries.{load_line}
use Rattle.spec_plan.specs.declared.ending.End.{End}
use Rattle.spec_plan.specs.declared.ending.Step.{Step}
use Rattle.spec_plan.specs.PlanLines.{comment, end_line, end_words, step_line}
use Rattle.spec_program.specs.Exclusives.{pair_line, pairs_line}
use Rattle.spec_program.specs.Printed.{count_line, dead_count_line, dead_line, id_of}
use Rattle.spec_run.specs.Run.{Trace}
use Rattle.spec_tree.specs.Terms.{node_count, work_of}
use Rattle.spec_tree.specs.declared.term.Tree.{Tree}
use Rattle.base_outside.proofs.Writings.{lines-after, lines-feed}

-- the end of a comment
comment_end : AreLines (codes " -->\n")
comment_end = lines-after (codes " -->") _ lines-feed

comment_lines : (words : List ℕ) → AreLines (comment words)
comment_lines words = lines-after (codes "<!-- " ++ words) _ comment_end

pub step_lines : (step : Step) → AreLines (step_line step)
step_lines s = comment_lines (codes "expand " ++ decimal s.uid ++ codes " " ++ s.condition ++ codes " " ++ s.action ++ codes " raises " ++ decimal s.raises)

pub end_lines : (names : LineNames) (end : End) → AreLines (end_line names end)
end_lines names end = comment_lines (end_words names end)

pub pair_lines : (pair : Pair) → AreLines (pair_line pair)
pair_lines pair = lines-after _ _ lines-feed

pub pairs_lines : (count : ℕ) → AreLines (pairs_line count)
pairs_lines count = lines-after (codes "pairs " ++ decimal count) _ lines-feed

pub dead_lines : (ids : List (List ℕ)) (uid : ℕ) → AreLines (dead_line ids uid)
dead_lines ids uid = lines-after (codes "dead " ++ decimal uid ++ codes " " ++ quoted (id_of ids uid)) _ lines-feed

pub dead_count_lines : (tree : Tree) → AreLines (dead_count_line tree)
dead_count_lines tree = lines-after (codes "dead " ++ decimal (length (dead_nodes tree)) ++ codes " of " ++ decimal (node_count tree.term)) _ lines-feed

pub count_lines : (tree : Tree) → AreLines (count_line tree)
count_lines tree = lines-after (codes "<!-- nodes " ++ decimal (node_count tree.term) ++ codes " work " ++ decimal (work_of tree.term)) _ comment_end

pub load_lines : (leaves : ℕ) (tree : Tree) (events : ℕ) (trace : Trace) → AreLines (load_line leaves tree events trace)
load_lines leaves tree events trace =
    let counts = counts_of trace.blocks in
    lines-after (codes "load " ++ decimal leaves ++ codes " nodes " ++ decimal (node_count tree.term) ++ codes " events " ++ decimal events
    ++ codes " start " ++ decimal counts.starts ++ codes " running " ++ decimal counts.runnings ++ codes " halted " ++ decimal counts.haltings
    ++ codes " success " ++ decimal counts.successes) _ lines-feed
