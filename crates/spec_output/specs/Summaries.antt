-- The line that sums up a load.
use Rattle.std.specs.Prelude.{ℕ, List, ◌++◌, codes, decimal}
use Rattle.spec_tree.specs.declared.term.Tree.{Tree}
use Rattle.spec_run.specs.Run.{Trace}
use Rattle.spec_tree.specs.Terms.{node_count}
use Rattle.spec_output.specs.declared.counts.Counts.{Counts}
use Rattle.spec_output.specs.Counts.{counts_of}

-- the summary of the load of this number: how many nodes and events there are, and what the run tells of its calls
abbrev pub summary_line : ℕ → ℕ → ℕ → Counts → List ℕ
summary_line n nodes events counts =
    codes "load " ++ decimal n ++ codes " nodes " ++ decimal nodes ++ codes " events " ++ decimal events ++
    codes " start " ++ decimal counts.starts ++ codes " running " ++ decimal counts.runnings ++ codes " halted " ++ decimal counts.haltings ++
    codes " success " ++ decimal counts.successes ++ codes "\n"

-- the line of a run of a tree over so many events
abbrev pub load_line : ℕ → Tree → ℕ → Trace → List ℕ
load_line n tree events trace = summary_line n (node_count tree.term) events (counts_of trace.blocks)
