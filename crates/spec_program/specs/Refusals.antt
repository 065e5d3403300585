-- The words of refusals.
use Rattle.std.specs.Prelude.{ℕ, List, ◌++◌, codes, decimal}
use Rattle.spec_run.specs.declared.join_fault.JoinFault.{JoinFault}
use Rattle.spec_run.specs.declared.join_fault.JoinFault.TheVariants as join
use Rattle.spec_tree_file.specs.declared.build_fault.BuildFault.{BuildFault}
use Rattle.spec_tree_file.specs.declared.build_fault.BuildFault.TheVariants as build
use Rattle.spec_tree_file.specs.declared.element.ElementFault.{ElementFault}
use Rattle.spec_tree_file.specs.declared.element.ElementFault.TheVariants as element
use Rattle.spec_program.specs.declared.tree_fault.TreeFault.{TreeFault}
use Rattle.spec_program.specs.declared.tree_fault.TreeFault.TheVariants as fault
use Rattle.spec_tree_file.specs.declared.manifest_fault.ManifestFault.{ManifestFault}
use Rattle.spec_tree_file.specs.declared.manifest_fault.ManifestFault.TheVariants as manifest
use Rattle.spec_world_file.specs.declared.ground_fault.GroundFault.{GroundFault}
use Rattle.spec_world_file.specs.declared.ground_fault.GroundFault.TheVariants as ground
use Rattle.spec_tree_file.specs.declared.mock_fault.MockFault.{MockFault}
use Rattle.spec_tree_file.specs.declared.mock_fault.MockFault.TheVariants as mock
use Rattle.spec_output.specs.Lines.{quoted}
use Rattle.spec_run.specs.declared.leaf.DriverKind.{DriverKind}
use Rattle.spec_run.specs.declared.leaf.DriverKind.TheVariants as driver
use Rattle.spec_expect.specs.declared.expect_fault.ExpectFault.{ExpectFault}
use Rattle.spec_expect.specs.declared.expect_fault.ExpectFaultKind.{ExpectFaultKind}
use Rattle.spec_expect.specs.declared.expect_fault.ExpectFaultKind.TheVariants as expect
use Rattle.spec_world_file.specs.declared.world_fault.WorldFault.{WorldFault}
use Rattle.spec_world_file.specs.declared.world_fault.WorldFaultKind.{WorldFaultKind}
use Rattle.spec_world_file.specs.declared.world_fault.WorldFaultKind.TheVariants as world
use Rattle.spec_script.specs.declared.fault.ScriptFault.{ScriptFault}
use Rattle.spec_script.specs.declared.fault.ScriptFault.TheVariants as script

-- a fault's name and a number after it: a place, a uid or a line
abbrev pub numbered : List ℕ → ℕ → List ℕ
numbered name number = name ++ codes " " ++ decimal number

-- a fault's name and an ID after it
abbrev pub named : List ℕ → List ℕ → List ℕ
named name id = name ++ codes " " ++ quoted id

abbrev pub element_words : ElementFault → List ℕ
element_words (element.NotUtf8 place) = numbered (codes "NotUtf8") place
element_words (element.BadMark place) = numbered (codes "BadMark") place
element_words (element.Unmatched place) = numbered (codes "Unmatched") place
element_words (element.DoubleAttribute place) = numbered (codes "DoubleAttribute") place
element_words (element.StrayText place) = numbered (codes "StrayText") place
element_words (element.TooDeep place) = numbered (codes "TooDeep") place

abbrev pub manifest_words : ManifestFault → List ℕ
manifest_words (manifest.DoubleModel place) = numbered (codes "DoubleModel") place
manifest_words (manifest.BadModel place) = numbered (codes "BadModel") place

abbrev pub script_words : ScriptFault → List ℕ
script_words script.TooLong = codes "TooLong"
script_words (script.Syntax place) = numbered (codes "Syntax") place
script_words (script.RealNumber place) = numbered (codes "RealNumber") place
script_words (script.NumberTooWide place) = numbered (codes "NumberTooWide") place
script_words (script.TooNested place) = numbered (codes "TooNested") place

abbrev pub build_words : BuildFault → List ℕ
build_words (build.NotRoot place) = numbered (codes "NotRoot") place
build_words build.Format = codes "Format"
build_words (build.DoubleTree id) = named (codes "DoubleTree") id
build_words build.NoMain = codes "NoMain"
build_words (build.NoTree id) = named (codes "NoTree") id
build_words build.TooManyNodes = codes "TooManyNodes"
build_words (build.TooDeep uid) = numbered (codes "TooDeep") uid
build_words (build.UnknownNode uid) = numbered (codes "UnknownNode") uid
build_words (build.Recursive id) = named (codes "Recursive") id
build_words build.TooManyScopes = codes "TooManyScopes"
build_words (build.ChildCount uid) = numbered (codes "ChildCount") uid
build_words (build.UnknownPort uid) = numbered (codes "UnknownPort") uid
build_words (build.OldSubTree uid) = numbered (codes "OldSubTree") uid
build_words (build.BadLiteral uid) = numbered (codes "BadLiteral") uid
build_words (build.BadScript uid f) = numbered (codes "BadScript") uid ++ codes " " ++ script_words f
build_words build.TooManyKeys = codes "TooManyKeys"
build_words build.TooMuchWork = codes "TooMuchWork"

-- the words of an ID that no leaf of a tree has
abbrev pub no_leaf_words : List ℕ → List ℕ
no_leaf_words id = named (codes "NoLeaf") id

-- the words of a tree file's fault
abbrev pub tree_words : TreeFault → List ℕ
tree_words (fault.Elements f) = element_words f
tree_words (fault.Manifest f) = manifest_words f
tree_words (fault.Build f) = build_words f

abbrev pub kind_word : WorldFaultKind → List ℕ
kind_word world.Header = codes "Header"
kind_word world.BadLine = codes "BadLine"
kind_word world.Range = codes "Range"
kind_word world.DoubleName = codes "DoubleName"
kind_word world.NoName = codes "NoName"
kind_word world.MomentBack = codes "MomentBack"
kind_word world.TooMany = codes "TooMany"

-- the words of a world script's fault: what is wrong, and the line
abbrev pub world_words : WorldFault → List ℕ
world_words fault = numbered (kind_word fault.kind) fault.line

abbrev pub driver_word : DriverKind → List ℕ
driver_word driver.Condition = codes "Condition"
driver_word driver.Timed = codes "Timed"
driver_word driver.Replay = codes "Replay"
driver_word driver.Gate = codes "Gate"
driver_word driver.Told = codes "Told"

-- the words of what a leaf lacks: a row of its ID, or a driver of a kind
abbrev pub join_words : JoinFault → List ℕ
join_words (join.NoRow id) = named (codes "NoRow") id
join_words (join.NoDriver kind) = codes "NoDriver " ++ driver_word kind
join_words (join.NoLeaf uid) = codes "NoLeaf " ++ decimal uid
join_words (join.NoOutput uid) = codes "NoOutput " ++ decimal uid

-- the words of a rules file's fault, or of the limit that the substituted tree passes
abbrev pub rules_words : MockFault → List ℕ
rules_words mock.Json = codes "Json"
rules_words (mock.Form name) = named (codes "Form") name
rules_words (mock.BadScript name f) = named (codes "BadScript") name ++ codes " " ++ script_words f
rules_words mock.TooManyNodes = codes "TooManyNodes"
rules_words mock.TooDeep = codes "TooDeep"
rules_words mock.TooManyKeys = codes "TooManyKeys"
rules_words mock.TooMuchWork = codes "TooMuchWork"

-- the words of a ground file's fault
abbrev pub ground_words : GroundFault → List ℕ
ground_words (ground.Header line) = numbered (codes "Header") line
ground_words (ground.BadLine line) = numbered (codes "BadLine") line
ground_words (ground.DoubleName line) = numbered (codes "DoubleName") line
ground_words (ground.NoName line) = numbered (codes "NoName") line
ground_words (ground.TooNested line) = numbered (codes "TooNested") line
ground_words (ground.TooMany line) = numbered (codes "TooMany") line
ground_words (ground.Unended line) = numbered (codes "Unended") line
ground_words (ground.TooManyGround size) = numbered (codes "TooManyGround") size
ground_words (ground.World line kind) = codes "World " ++ numbered (kind_word kind) line

abbrev pub expect_word : ExpectFaultKind → List ℕ
expect_word expect.Header = codes "Header"
expect_word expect.BadLine = codes "BadLine"
expect_word expect.NoName = codes "NoName"
expect_word expect.NoLeaf = codes "NoLeaf"
expect_word expect.NoRunner = codes "NoRunner"
expect_word expect.Range = codes "Range"
expect_word expect.TooMany = codes "TooMany"

-- the words of a fault of a file of expectations: what is wrong, and the line
abbrev pub expect_words : ExpectFault → List ℕ
expect_words fault = numbered (expect_word fault.kind) fault.line
