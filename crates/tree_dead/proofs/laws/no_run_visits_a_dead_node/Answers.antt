use Rattle.tree_dead.proofs.Unvisited.{end_law, notes_law, states_law}
use Rattle.tree_dead.proofs.laws.no_run_visits_a_dead_node.Goals as goal

pub returns : goal.returns
returns c = record {
  notes = λ tree world valid rows events. notes_law tree world valid rows events;
  between = λ tree world valid rows events. states_law tree world valid rows events;
  end = λ tree world valid rows events. end_law tree world valid rows events;
}
