-- What a shelf holds, where it tells it.
use Rattle.std.specs.Prelude.{ℕ, ◌≡◌, List, [], ◌∷◌, Vec, take, length, if◌then◌else◌}
use Rattle.std.specs.declared.alloc.Global.{Global}
use Rattle.std.specs.Str.{bytes_eq}

-- these are the first bytes of the file
abbrev pub IsPrefix : List ℕ → List ℕ → Type 0
IsPrefix front file = front ≡ take (length front) file

-- what the first pair of the name holds; a name of no pair has no bytes
abbrev pub file_of : List (List ℕ × List ℕ) → List ℕ → List ℕ
file_of [] name = []
file_of (file ∷ files) name = if bytes_eq file.0 name then file.1 else file_of files name

-- the names and bytes of these pairs
abbrev pub contents : List (List ℕ × Vec ℕ Global) → List (List ℕ × List ℕ)
contents [] = []
contents (file ∷ files) = (file.0, file.1.items) ∷ contents files
