use Rattle.std.proofs.Common.{◌≡◌, ◌+◌, length}
use Rattle.cli_serve.proofs.answer.Starts.new.Given as goal

-- a place for each uid so far, and one before them
abbrev pub invariant-loop : goal.invariant-loop
invariant-loop l = length l.places.items ≡ 1 + l.counter
