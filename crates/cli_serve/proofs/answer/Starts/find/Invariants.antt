use Rattle.std.proofs.Common.{◌≡◌, drop, length}
use Rattle.cli_serve.proofs.Placed.{placed}
use Rattle.cli_serve.proofs.answer.Starts.find.Given as goal

-- the places after what is left of the notes are those after all
abbrev pub invariant-loop-place : goal.invariant-loop-place
invariant-loop-place l =
    record {
      rest : placed l.self.places.items l.place (drop l.place l.notes) ≡ placed l.fn.self.places.items 0 l.notes;
      room : length l.self.places.items ≡ length l.fn.self.places.items;
    }
