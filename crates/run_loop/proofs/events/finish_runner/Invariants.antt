use Rattle.run_loop.specs.Runs.{nth_board}
use Rattle.run_loop.proofs.events.finish_runner.Given as goal

-- what the runner's blackboard holds where the part begins
abbrev pub ghosts-run_part : goal.ghosts-run_part
ghosts-run_part g a = record { past = nth_board a.runs.now.runners.items a.turn.runner }
