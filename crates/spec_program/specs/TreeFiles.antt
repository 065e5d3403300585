-- What a tree file reads as: its tree, or its first fault.
use Rattle.std.specs.Prelude.{ℕ, ◌≡◌, ◌⊎◌, List, Option, Result, Ok, Err}
use Rattle.spec_tree_file.specs.Reads.{reads}
use Rattle.spec_tree_file.specs.declared.build_fault.BuildFault.{BuildFault}
use Rattle.spec_tree_file.specs.declared.element.Element.{Element}
use Rattle.spec_tree_file.specs.declared.element.ElementFault.{ElementFault}
use Rattle.spec_tree_file.specs.Elements.{Spells}
use Rattle.spec_tree_file.specs.ElementFaults.{ElementFaultOf}
use Rattle.spec_program.specs.declared.tree_fault.TreeFault.{TreeFault}
use Rattle.spec_tree_file.specs.Models.{Models, manifest_in}
use Rattle.spec_tree_file.specs.declared.manifest_fault.ManifestFault.{ManifestFault}
use Rattle.spec_tree.specs.declared.term.Tree.{Tree}
use Rattle.spec_program.specs.declared.tree_fault.TreeFault.TheVariants as fault

abbrev pub built : Result Tree BuildFault → Result Tree TreeFault
built (Ok tree) = Ok tree
built (Err f) = Err (fault.Build f)

abbrev pub with_models : Option (List ℕ) → Element → Result Models ManifestFault → Result Tree TreeFault
with_models main e (Ok models) = built (reads models main e)
with_models main e (Err f) = Err (fault.Manifest f)

-- what an element reads as, with the main tree that is asked for, if one is: its models are read first
abbrev pub element_read : Option (List ℕ) → Element → Result Tree TreeFault
element_read main e = with_models main e (manifest_in e)

-- what the bytes of a tree file read as: what the element reads as that they spell, or their fault
abbrev pub TreeReads : Option (List ℕ) → List ℕ → Result Tree TreeFault → Type 0
TreeReads main bytes read =
    ((e : Element) × Spells bytes e × (read ≡ element_read main e))
    ⊎ ((f : ElementFault) × ElementFaultOf bytes f × (read ≡ Err (fault.Elements f)))
