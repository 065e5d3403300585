-- Which nodes elements are.
use Rattle.std.proofs.Common.{◌≡◌, ◌⊎◌, inl, inr, ℕ, Bool, true, false, List, codes, Option, Some, None, refl, subst}
use Rattle.std.specs.Prelude.{not, nat_eq, ◌&&◌, if◌then◌else◌}
use Rattle.std.specs.Option.{option_and_then}
use Rattle.spec_tree.specs.declared.term.Kind.{Kind}
use Rattle.spec_tree.specs.declared.term.Kind.TheVariants.{SubTree, Leaf}
use Rattle.spec_tree.specs.BuiltIns.{class_of, kind_named, writes}
use Rattle.spec_tree_file.specs.Attributes.{Attributes, value_of}
use Rattle.spec_tree_file.specs.declared.head.Head.{Head}
use Rattle.spec_tree_file.specs.declared.version.Form.{Form}
use Rattle.spec_tree_file.specs.declared.version.Version.{Version}
use Rattle.spec_tree_file.specs.Heads.{compact_by, compact_head, explicit_by, explicit_head, head_by, head_of, id_or_empty, is_explicit, is_kept, is_leaf_name, leaf_head, plain_head}
use Rattle.spec_tree_file.specs.Versions.{id_read, subtree_form}
use Rattle.tree_build.proofs.PortFits.{some_same}

-- a SubTree node, a leaf whose ID is no built-in name, or the built-in node of its ID
abbrev pub HeadFits : Head → Type 0
HeadFits head = (head.kind ≡ SubTree) ⊎ (((head.kind ≡ Leaf) × (kind_named head.id ≡ None)) ⊎ (kind_named head.id ≡ Some head.kind))

built : (b : Bool) (kind : Kind) (id : List ℕ) (head : Head) → kind_named id ≡ Some kind →
    ◌≡◌ {A = Option Head} (if b then Some (plain_head kind id) else None) (Some head) → HeadFits head
built true kind id head e h = subst HeadFits (some_same (plain_head kind id) head h) (inr (inr e))
built false kind id head e h = absurd (cc)

leafed : (b : Bool) (id : List ℕ) (head : Head) → kind_named id ≡ None → (if b then leaf_head id else None) ≡ Some head → HeadFits head
leafed true id head e h = subst HeadFits (some_same (plain_head Leaf id) head h) (inr (inl (refl, e)))
leafed false id head e h = absurd (cc)

explicit : (name : List ℕ) (childless : Bool) (id : List ℕ) (head : Head) (o : Option Kind) → kind_named id ≡ o → explicit_by name childless id o ≡ Some head → HeadFits head
explicit name childless id head (Some kind) e h = built (writes name (class_of kind)) kind id head e h
explicit name childless id head None e h = leafed (is_leaf_name name && childless) id head e h

compact : (childless : Bool) (name : List ℕ) (head : Head) (o : Option Kind) → kind_named name ≡ o → compact_by childless name o ≡ Some head → HeadFits head
compact childless name head (Some kind) e h = built true kind name head e h
compact childless name head None e h = leafed (not (is_kept name) && childless) name head e h

by_id : (version : Version) (name : List ℕ) (childless : Bool) (head : Head) (o : Option (List ℕ)) → option_and_then (λ id. explicit_head name childless (id_read version id)) o ≡ Some head → HeadFits head
by_id version name childless head None h = absurd (cc)
by_id version name childless head (Some id) h = explicit name childless (id_read version id) head (kind_named (id_read version id)) refl h

by_name : (version : Version) (name : List ℕ) (attributes : Attributes) (childless : Bool) (head : Head) (b : Bool) →
    (if b then option_and_then (λ id. explicit_head name childless (id_read version id)) (value_of (codes "ID") attributes) else compact_head childless (id_read version name)) ≡ Some head → HeadFits head
by_name version name attributes childless head true h = by_id version name childless head (value_of (codes "ID") attributes) h
by_name version name attributes childless head false h = compact childless (id_read version name) head (kind_named (id_read version name)) refl h

by_form : (version : Version) (name : List ℕ) (attributes : Attributes) (childless : Bool) (head : Head) (o : Option Form) → head_by o version name attributes childless ≡ Some head → HeadFits head
by_form version name attributes childless head (Some form) h = subst HeadFits (some_same (record { kind = SubTree; id = id_or_empty attributes; form = form }) head h) (inl refl)
by_form version name attributes childless head None h = by_name version name attributes childless head (is_explicit name) h

pub head_fits : (version : Version) (name : List ℕ) (attributes : Attributes) (children : ℕ) (head : Head) → head_of version name attributes children ≡ Some head → HeadFits head
head_fits version name attributes children head h = by_form version name attributes (nat_eq children 0) head (subtree_form version name) h
