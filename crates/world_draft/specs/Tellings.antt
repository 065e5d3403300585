-- The outputs of a telling, which may be told or have a fault.
use Rattle.std.specs.Prelude.{◌≡◌, List, Result, Ok, Err}
use Rattle.std.specs.List.{list_all}
use Rattle.base_texts.specs.declared.stop.Stop.{Stop}
use Rattle.base_texts.specs.declared.stop.Stop.TheVariants as stop
use Rattle.spec_world.specs.declared.world.ToldOut.{ToldOut}
use Rattle.spec_world_file.specs.declared.world_fault.WorldFaultKind.{WorldFaultKind}
use Rattle.spec_world_file.specs.WorldFile.{Reading, is_small, ranged, with_telling}

-- what is said where these outputs are told
abbrev pub outs_said : List ToldOut → Result Reading WorldFaultKind → Result Reading WorldFaultKind
outs_said outs said = ranged (list_all (λ out. is_small out.value) outs) (with_telling outs said)

-- outputs that may be told, or their fault, whatever is said of the telling
abbrev pub OutsSay : Result (List ToldOut) (Stop WorldFaultKind) → List ToldOut → Type 0
OutsSay (Ok told) outs = (told ≡ outs) × ((said : Result Reading WorldFaultKind) → outs_said outs said ≡ said)
OutsSay (Err stop.NoMemory) outs = Unit {0}
OutsSay (Err (stop.Fault kind)) outs = (said : Result Reading WorldFaultKind) → outs_said outs said ≡ Err kind
