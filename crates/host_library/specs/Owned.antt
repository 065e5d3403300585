-- What C has of a session: its memory, and the right to free it.
use base.Fml.{Fml, ftrue}
use denote.RawPtr.{Ptr}
use mir.Syntax.{Ty}
use Rattle.std.specs.Prelude.{ℕ, Result, Ok, Err}
use Rattle.std.specs.Box.Ownership.{box_owns}
use Rattle.std.specs.Global.{Global}
use Rattle.std_heap.specs.contracts.GlobalAllocator.TheImpl.{ghosts}
use Rattle.host_library.specs.contracts.hosted.Hosted.{the_row}
use Rattle.host_library.specs.declared.hosted.Hosted.{Hosted}

-- the handle of the heap of C, which is always the same
abbrev heap : Global
heap = record { memory = record { seal = tt } }

-- the right to give a block back to that heap
abbrev pub holds : Ty → Ptr → Fml
holds = ghosts.dealloc_token heap

-- the session at this pointer is this one, in a block that is to be freed
abbrev pub hosted_owns : Ptr → the_row.Denot → Fml
hosted_owns = box_owns holds the_row

-- the session that is handed out is at this pointer
abbrev pub given_owns : Ptr → Result Hosted ℕ → Fml
given_owns at (Ok hosted) = hosted_owns at hosted
given_owns at (Err code) = ftrue
