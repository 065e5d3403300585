use Rattle.std.proofs.Common.{◌≡◌, ℕ, List, drop}
use Rattle.std.specs.Prelude.{bytes_eq}
use Rattle.std.specs.Map.{lookup}
use Rattle.std.specs.Option.{option_or}
use Rattle.cli_serve.specs.Places.{model_place}
use Rattle.cli_serve.proofs.rows.places_of.Given as goal

-- a model that is not found yet is among those that are left
abbrev pub invariant-loop-at : goal.invariant-loop-at
invariant-loop-at l =
    (id : List ℕ) → option_or (lookup (bytes_eq id) l.places.entries) (model_place id l.at (drop l.at l.models)) ≡ model_place id 0 l.models
