use Rattle.std.proofs.Common.{◌≡◌}
use Rattle.host_library.specs.Notes.{notes_in}
use Rattle.host_library.proofs.notes.put_notes.Given as goal

-- so many notes have been put
abbrev pub invariant-loop-place : goal.invariant-loop-place
invariant-loop-place l = l.room ≡ notes_in l.place l.notes l.fn.room
