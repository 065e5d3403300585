-- What the calls of the reader give, against what the definition of a world script says.
use Rattle.std.specs.Prelude.{◌≡◌, ℕ, List, [], ◌∷◌, MatchBool, Result, Ok, Err, bytes_eq, codes}
use Rattle.base_texts.specs.declared.stop.Stop.{Stop}
use Rattle.base_texts.specs.declared.stop.Stop.TheVariants as stop
use Rattle.spec_world.specs.declared.world.World.{World}
use Rattle.spec_world_file.specs.declared.world_fault.WorldFault.{WorldFault}
use Rattle.spec_world_file.specs.declared.world_fault.WorldFaultKind.{WorldFaultKind}
use Rattle.spec_world_file.specs.declared.world_fault.WorldFaultKind.TheVariants.{Header}
use Rattle.spec_world_file.specs.WorldFile.{AfterLines, Reading, nothing_read, script_after, without_return}

-- the value or the fault is one that is said; want of memory may come anywhere
abbrev pub Gives : {X F : Type 0} → Result X (Stop F) → (Result X F → Type 0) → Type 0
Gives (Ok x) IsSaid = IsSaid (Ok x)
Gives (Err stop.NoMemory) IsSaid = Unit {0}
Gives (Err (stop.Fault f)) IsSaid = IsSaid (Err f)

-- the fault of a line, with its number
abbrev pub located : Stop WorldFaultKind → ℕ → Stop WorldFault
located stop.NoMemory line = stop.NoMemory
located (stop.Fault kind) line = stop.Fault (record { line = line; kind = kind })

-- the lines after the header make this world, and lines of a host are read after this; or they have this first fault
pub record ScriptMakes (texts : List (List ℕ)) (said : Result (World × Reading) WorldFault) : Type 0 where
  pub after : Result Reading WorldFault
  pub lines : AfterLines 2 texts nothing_read after
  pub is : said ≡ script_after after

-- the fault of a file whose first line is not the header
abbrev pub no_script : Result (World × Reading) WorldFault
no_script = Err (record { line = 1; kind = Header })

-- .. those of a file, of which the first is the header
abbrev pub ScriptLines : List (List ℕ) → Result (World × Reading) WorldFault → Type 0
ScriptLines [] said = said ≡ no_script
ScriptLines (first ∷ rest) said = MatchBool (bytes_eq (without_return first) (codes "bt-world 1")) (ScriptMakes rest said) (said ≡ no_script)
