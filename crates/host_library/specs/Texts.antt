-- Texts that are copied into room of C.
use Rattle.std.specs.Prelude.{◌≡◌, ℕ, List, ◌++◌, length, take, drop}

-- the front of a text, as far as the room has place, and behind it what the room held
abbrev pub copied : List ℕ → List ℕ → List ℕ
copied text room = take (length room) text ++ drop (length text) room

-- C is told this text: its length, and as much of it as the room has place for
abbrev pub TextTold : List ℕ → List ℕ → ℕ → List ℕ → Type 0
TextTold text room size after = (size ≡ length text) × (after ≡ copied text room)
