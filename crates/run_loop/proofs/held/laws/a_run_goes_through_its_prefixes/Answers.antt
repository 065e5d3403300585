use Rattle.run_loop.proofs.AboutHeld.Prefixes.{run_finished, run_through}
use Rattle.run_loop.proofs.held.laws.a_run_goes_through_its_prefixes.Goals as goal

pub returns : goal.returns
returns c = record { prefix = run_through; whole = run_finished }
