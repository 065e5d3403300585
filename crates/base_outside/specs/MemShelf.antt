-- A shelf in memory of which some calls are to fail.
use Rattle.std.specs.Prelude.{ℕ, List, Bool, nat_eq, if◌then◌else◌}
use Rattle.std.specs.List.{list_any}
use Rattle.base_outside.specs.Counts.{next}

-- pairs of a name and the file's bytes, the numbers of the calls that are to fail, and the counts so far
pub record ShelfState : Type 0 where
  pub files : List (List ℕ × List ℕ)
  pub fails : List ℕ
  pub calls : ℕ
  pub faults : ℕ

-- the next call is one that is to fail
abbrev pub fails_now : ShelfState → Bool
fails_now s = list_any (λ number. nat_eq number (next s.calls)) s.fails

-- the shelf after one more call
abbrev pub after_read : ShelfState → ShelfState
after_read s = record s { calls = next s.calls; faults = if fails_now s then next s.faults else s.faults }
