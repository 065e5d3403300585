-- The places of the last starts among notes.
use Rattle.std.specs.Prelude.{◌≡◌, ◌<◌, ℕ, List, ◌∷◌, ◌++◌, length, Bool, not, nat_eq, if◌then◌else◌, Option, Some, None, option_to_list, slice_get}
use Rattle.std.specs.List.{list_all, list_any}
use Rattle.spec_run.specs.declared.note.Note.{Note}
use Rattle.spec_run.specs.declared.note.Note.TheVariants as note
use Rattle.spec_run.specs.declared.status.Answer.{Answer}
use Rattle.spec_serve.specs.Inputs.{starts}

-- whether no other place than this one is kept for a uid
abbrev pub is_at : List ℕ → ℕ → ℕ → Bool
is_at places uid place = list_all (nat_eq place) (option_to_list (slice_get places uid))

-- the node that the note at a place says was started, where no other place is kept for it
abbrev pub started_last : List ℕ → ℕ → Note → Option ℕ
started_last places place (note.Started uid answer) = if is_at places uid place then Some uid else None
started_last places place _ = None

-- the place that is kept for the uid of a start is that of the last start
abbrev pub KnowsLast : List ℕ → List Note → Type 0
KnowsLast places notes =
    (before later : List Note) (uid : ℕ) (answer : Answer) → notes ≡ before ++ note.Started uid answer ∷ later
    → uid < length places → is_at places uid (length before) ≡ not (list_any (starts uid) later)
