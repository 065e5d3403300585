use Rattle.run_loop.proofs.AboutHeld.RunningLeaves.{held_runs, runs_held}
use Rattle.run_loop.proofs.held.laws.a_held_leaf_runs.Goals as goal

pub returns : goal.returns
returns c = record { held = held_runs; running = runs_held }
