-- The event that was read last.
use Rattle.std.specs.Prelude.{◌≡◌, List, [], ◌∷◌, ◌++◌, Option, Some, None}
use Rattle.spec_world.specs.declared.world.Event.{Event}

-- the last of these events was taken, if there was one
abbrev pub TookEvent : List Event → Option Event → List Event → Type 0
TookEvent old None new = (old ≡ []) × (new ≡ [])
TookEvent old (Some event) new = old ≡ new ++ event ∷ []
