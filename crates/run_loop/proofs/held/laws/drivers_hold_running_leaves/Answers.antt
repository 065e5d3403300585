use Rattle.run_loop.proofs.AboutHeld.DriverTables.{after_any_answer, has_its_held, of_running_leaf}
use Rattle.run_loop.proofs.held.laws.drivers_hold_running_leaves.Goals as goal

pub returns : goal.returns
returns c = record { held = of_running_leaf; running = has_its_held; after_an_event = after_any_answer }
