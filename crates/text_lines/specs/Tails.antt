-- What the end of a line says.
use Rattle.std.specs.Prelude.{ℕ, List, take}
use Rattle.text_lines.specs.declared.tail.Tail.{Tail}

-- the bytes of a tail's room that are the end of the line
abbrev pub tail_text : Tail → List ℕ
tail_text tail = take tail.len tail.room
