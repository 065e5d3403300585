-- A load, by what is counted of its run.
use Rattle.std.specs.Prelude.{◌≡◌, ℕ, List}
use Rattle.spec_tree.specs.declared.term.Tree.{Tree}
use Rattle.spec_run.specs.Drivers.{DriverState}
use Rattle.spec_run.specs.Run.{Trace}
use Rattle.run_arena.specs.declared.nodes.Node.{Node}
use Rattle.run_loop.specs.Runs.{roster_over}
use Rattle.text_trace.specs.declared.ended.Ended.{Ended}
use Rattle.text_trace.specs.Traces.{ended}
use Rattle.spec_output.specs.Summaries.{load_line}

-- a load has ended so as its trace does: this is its line, and the drivers had its calls, in their order
pub record IsLoad (n : ℕ) (tree : Tree) (arenas : List (List Node)) (events : ℕ) (before after : List DriverState) (line : List ℕ) (ending : Ended) (trace : Trace) : Type 0 where
  pub ends : ending ≡ ended trace.fault
  pub told : line ≡ load_line n tree events trace
  pub drivers : after ≡ roster_over arenas trace.calls before
