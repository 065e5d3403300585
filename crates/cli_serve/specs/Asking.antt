-- What lines ask, as the code reads them.
use Rattle.std.specs.Prelude.{ℕ, List, Bool, ◌||◌, bytes_eq, codes, Result, Ok, Err}
use Rattle.base_texts.specs.declared.stop.Stop.{Stop}
use Rattle.base_texts.specs.declared.stop.Stop.TheVariants as stop
use Rattle.spec_serve.specs.declared.request.Request.{Request}
use Rattle.spec_world_file.specs.declared.world_fault.WorldFaultKind.{WorldFaultKind}
use Rattle.spec_world_file.specs.WorldFile.{Reading}

-- whether a word begins a line of a moment or an event
abbrev pub is_request_word : List ℕ → Bool
is_request_word word =
    bytes_eq word (codes "at") || bytes_eq word (codes "tick") || bytes_eq word (codes "halt") || bytes_eq word (codes "set") || bytes_eq word (codes "tell")

-- what is asked, and what the next line is read after, or the fault, is one that is said; want of memory may come anywhere
abbrev pub Asks : Result Request (Stop WorldFaultKind) → Reading → (Result (Request × Reading) WorldFaultKind → Type 0) → Type 0
Asks (Ok request) left IsSaid = IsSaid (Ok (request, left))
Asks (Err stop.NoMemory) left IsSaid = Unit {0}
Asks (Err (stop.Fault kind)) left IsSaid = IsSaid (Err kind)
