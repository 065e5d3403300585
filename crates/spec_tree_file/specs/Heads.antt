-- Which node an element is.
use Rattle.std.specs.Prelude.{ℕ, List, [], Bool, not, ◌&&◌, ◌||◌, nat_eq, if◌then◌else◌, codes, Option, Some, None, unwrap_or}
use Rattle.std.specs.Option.{option_and_then}
use Rattle.std.specs.Str.{bytes_eq}
use Rattle.spec_tree.specs.declared.term.Kind.{Kind}
use Rattle.spec_tree.specs.declared.term.Kind.TheVariants.{SubTree, Leaf}
use Rattle.spec_tree.specs.BuiltIns.{class_of, kind_named, writes}
use Rattle.spec_tree_file.specs.Attributes.{Attributes, value_of}
use Rattle.spec_tree_file.specs.declared.head.Head.{Head}
use Rattle.spec_tree_file.specs.declared.version.Form.{Form}
use Rattle.spec_tree_file.specs.declared.version.Form.TheVariants.{Plain}
use Rattle.spec_tree_file.specs.declared.version.Version.{Version}
use Rattle.spec_tree_file.specs.Versions.{id_read, subtree_form}

-- the elements that name their node in the attribute `ID`
abbrev pub is_explicit : List ℕ → Bool
is_explicit name =
    bytes_eq name (codes "Action") || bytes_eq name (codes "Condition") || bytes_eq name (codes "Control") || bytes_eq name (codes "Decorator")

-- the elements that may be a leaf of any ID
abbrev pub is_leaf_name : List ℕ → Bool
is_leaf_name name = bytes_eq name (codes "Action") || bytes_eq name (codes "Condition")

-- the elements that are never a node by their own name
abbrev pub is_kept : List ℕ → Bool
is_kept name = bytes_eq name (codes "BehaviorTree") || bytes_eq name (codes "TreeNodesModel") || bytes_eq name (codes "root")

-- a node of this kind and ID
abbrev pub plain_head : Kind → List ℕ → Head
plain_head kind id = record { kind = kind; id = id; form = Plain }

-- a leaf of this ID
abbrev pub leaf_head : List ℕ → Option Head
leaf_head id = Some (plain_head Leaf id)

-- the node that an element of this name writes by this ID
abbrev pub explicit_by : List ℕ → Bool → List ℕ → Option Kind → Option Head
explicit_by name childless id (Some kind) = if writes name (class_of kind) then Some (plain_head kind id) else None
explicit_by name childless id None = if is_leaf_name name && childless then leaf_head id else None

-- the node that an element of this name writes by this ID, which may be that of a built-in node
abbrev pub explicit_head : List ℕ → Bool → List ℕ → Option Head
explicit_head name childless id = explicit_by name childless id (kind_named id)

-- the node that an element is by its own name
abbrev pub compact_by : Bool → List ℕ → Option Kind → Option Head
compact_by childless name (Some kind) = Some (plain_head kind name)
compact_by childless name None = if not (is_kept name) && childless then leaf_head name else None

-- the node that an element is by its own name, which may be that of a built-in node
abbrev pub compact_head : Bool → List ℕ → Option Head
compact_head childless name = compact_by childless name (kind_named name)

-- the ID of a tree, an absent one being the empty text
abbrev pub id_or_empty : Attributes → List ℕ
id_or_empty attributes = unwrap_or (value_of (codes "ID") attributes) []

-- the node that an element of this name and these attributes is, which is a SubTree node of this form, or none
abbrev pub head_by : Option Form → Version → List ℕ → Attributes → Bool → Option Head
head_by (Some form) version name attributes childless = Some (record { kind = SubTree; id = id_or_empty attributes; form = form })
head_by None version name attributes childless =
    if is_explicit name then option_and_then (λ id. explicit_head name childless (id_read version id)) (value_of (codes "ID") attributes)
    else compact_head childless (id_read version name)

-- the node that an element of this name, these attributes and so many children is, in a file of this version
abbrev pub head_of : Version → List ℕ → Attributes → ℕ → Option Head
head_of version name attributes children = head_by (subtree_form version name) version name attributes (nat_eq children 0)
