-- How bytes are written to a sink, write by write.
use Rattle.std.specs.Prelude.{ℕ, ◌≡◌, ◌⊎◌, List, [], ◌∷◌, ◌++◌, Result, Ok, Err}

-- what writes give: a write of a piece, with its answer, leads from one state of the sink to another
abbrev pub Writing : Type 0 → Type 0 → Type 1
Writing Sink Fault = Sink → List ℕ → Result (Unit {0}) Fault → Sink → Type 0

-- one or more whole lines: the last byte is a line feed
pub record AreLines (piece : List ℕ) : Type 0 where
  pub front : List ℕ
  pub ends : piece ≡ front ++ 10 ∷ []

-- these pieces, each of whole lines, were written one after another, each whole by one write
abbrev pub WereWritten : {Sink Fault : Type 0} → Writing Sink Fault → List (List ℕ) → Sink → Sink → Type 0
WereWritten gives [] old new = new ≡ old
WereWritten {Sink} gives (piece ∷ pieces) old new =
    AreLines piece × ((between : Sink) × (gives old piece (Ok tt) between × WereWritten gives pieces between new))

-- whole lines were written, and no write failed
pub record WroteLines {Sink Fault : Type 0} (gives : Writing Sink Fault) (old new : Sink) : Type 0 where
  pub pieces : List (List ℕ)
  pub written : WereWritten gives pieces old new

-- whole lines were written, and then a write of whole lines failed, which was the last one
pub record WroteToFault {Sink Fault : Type 0} (gives : Writing Sink Fault) (old new : Sink) : Type 0 where
  pub between : Sink
  pub wrote : WroteLines gives old between
  pub piece : List ℕ
  pub lines : AreLines piece
  pub fault : Fault
  pub gave : gives between piece (Err fault) new

-- whole lines were written, of which the last write may have failed
abbrev pub WroteSome : {Sink Fault : Type 0} → Writing Sink Fault → Sink → Sink → Type 0
WroteSome gives old new = WroteLines gives old new ⊎ WroteToFault gives old new

-- whole lines were written by a call with this result: no write has failed but the last one, and that only where the result is
-- an error
abbrev pub Writes : {Sink Fault A E : Type 0} → Writing Sink Fault → Result A E → Sink → Sink → Type 0
Writes gives (Ok _) old new = WroteLines gives old new
Writes gives (Err _) old new = WroteSome gives old new
