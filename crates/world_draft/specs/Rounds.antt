-- The parts of a line of rounds, whose runners are there or not.
use Rattle.std.specs.Prelude.{◌≡◌, ℕ, Bool, true, false, List, map, Option, Some, None, Result, Ok, Err, Vec}
use Rattle.std.specs.List.{list_all}
use Rattle.base_texts.specs.declared.stop.Stop.{Stop}
use Rattle.base_texts.specs.declared.stop.Stop.TheVariants as stop
use Rattle.std.specs.Global.{Global}
use Rattle.spec_world.specs.declared.world.What.{What}
use Rattle.spec_world.specs.declared.world.What.TheVariants as what
use Rattle.spec_world_file.specs.declared.world_fault.WorldFaultKind.{WorldFaultKind}
use Rattle.spec_world_file.specs.declared.world_fault.WorldFaultKind.TheVariants.{Range}
use Rattle.spec_world_file.specs.WorldFile as file
use Rattle.world_draft.specs.declared.rounds.Part.{Part}
use Rattle.world_draft.specs.declared.rounds.Part.TheVariants.{Tick, Halt}

-- what the event of a part does
abbrev pub what_of : Part → What
what_of (Tick runner) = what.Tick runner
what_of (Halt runner) = what.Halt runner

-- whether the runner of a part that is written is one of so many
abbrev pub is_within : ℕ → file.Part → Bool
is_within runners part = file.is_runner runners (file.runner_in part)

-- the part that is written, where its runner is there
abbrev pub PartSays : Option Part → file.Part → ℕ → Type 0
PartSays (Some part) written runners = (is_within runners written ≡ true) × (what_of part ≡ file.what_in written)
PartSays None written runners = is_within runners written ≡ false

-- the parts that are written, where all runners are there, or the fault that one is not
abbrev pub PartsSay : Result (Vec Part Global) (Stop WorldFaultKind) → List file.Part → ℕ → Type 0
PartsSay (Ok parts) written runners = (list_all (is_within runners) written ≡ true) × (map what_of parts.items ≡ map file.what_in written)
PartsSay (Err stop.NoMemory) written runners = Unit {0}
PartsSay (Err (stop.Fault Range)) written runners = list_all (is_within runners) written ≡ false
PartsSay (Err (stop.Fault kind)) written runners = ⊥
