-- Where a reader stands.
use Rattle.std.specs.Prelude.{List, Option, Some, None, reverse}
use Rattle.spec_script.specs.declared.stage.Opened.{Opened}
use Rattle.spec_script.specs.declared.stage.Stage.{Stage}
use Rattle.spec_script.specs.Spots.{Spot}

-- a spot as the code keeps it, what is open with the innermost last
abbrev pub spot_of : Option Stage → List Opened → Option Spot
spot_of None opened = None
spot_of (Some stage) opened = Some (stage, reverse opened)
