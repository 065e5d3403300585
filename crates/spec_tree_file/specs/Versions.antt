-- The versions of tree files: which one a file is of, and what is written otherwise in version 3.
use Rattle.std.specs.Prelude.{ℕ, List, if◌then◌else◌, codes, Option, Some, None}
use Rattle.std.specs.Str.{bytes_eq}
use Rattle.spec_tree_file.specs.declared.version.Form.{Form}
use Rattle.spec_tree_file.specs.declared.version.Form.TheVariants.{Plain, OldSubTree, SubTreePlus}
use Rattle.spec_tree_file.specs.declared.version.Version.{Version}
use Rattle.spec_tree_file.specs.declared.version.Version.TheVariants.{Three, Four}

-- the version of a file of this format: one without a format is of version 3, and no other version is read
abbrev pub version_in : Option (List ℕ) → Option Version
version_in None = Some Three
version_in (Some format) =
    if bytes_eq format (codes "4") then Some Four
    else if bytes_eq format (codes "3") then Some Three
    else None

-- the form of an element of this name, if it is a SubTree node's: version 3 has two
abbrev pub subtree_form : Version → List ℕ → Option Form
subtree_form Four name = if bytes_eq name (codes "SubTree") then Some Plain else None
subtree_form Three name =
    if bytes_eq name (codes "SubTree") then Some OldSubTree
    else if bytes_eq name (codes "SubTreePlus") then Some SubTreePlus
    else None

-- what an ID is read as: version 3 has another name for SequenceWithMemory
abbrev pub id_read : Version → List ℕ → List ℕ
id_read Four id = id
id_read Three id = if bytes_eq id (codes "SequenceStar") then codes "SequenceWithMemory" else id
