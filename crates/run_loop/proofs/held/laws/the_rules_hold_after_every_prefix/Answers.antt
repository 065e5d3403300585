use Rattle.run_loop.proofs.AboutHeld.Prefixes.{finished_steady, prefix_steady}
use Rattle.run_loop.proofs.held.laws.the_rules_hold_after_every_prefix.Goals as goal

pub returns : goal.returns
returns c = record { events = prefix_steady; finishes = finished_steady }
