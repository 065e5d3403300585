-- The printed element of a node that fits is read as that node.
use Rattle.std.proofs.Common.{◌≡◌, ℕ, Bool, true, false, not, ◌&&◌, ◌||◌, if◌then◌else◌, List, [], codes, Option, Some, None, refl, ap, ◌∙◌}
use Rattle.std.specs.Prelude.{nat_eq, bytes_eq, unwrap_or}
use Rattle.std.specs.Option.{option_and_then}
use Rattle.spec_script.proofs.Bools.{both}
use Rattle.spec_script.specs.Identifiers.{is_identifier}
use Rattle.spec_tree.specs.declared.term.Kind.{Kind}
use Rattle.spec_tree.specs.declared.term.Kind.TheVariants.{Leaf, SubTree}
use Rattle.spec_tree.specs.BuiltIns.{kind_named, named_kinds}
use Rattle.spec_tree.specs.Names.{built_in_names, format_names, is_among, is_reserved}
use Rattle.spec_tree.specs.PrintedTree.{element_name, is_compact}
use Rattle.spec_tree.specs.Trees.{IdFits}
use Rattle.spec_tree_file.specs.Attributes.{Attributes, value_of}
use Rattle.spec_tree_file.specs.declared.version.Form.TheVariants.{Plain}
use Rattle.spec_tree_file.specs.declared.version.Version.TheVariants.{Four}
use Rattle.spec_tree_file.specs.Heads.{compact_by, compact_head, explicit_by, explicit_head, head_by, head_of, is_explicit, is_kept, leaf_head, plain_head}
use Rattle.spec_tree_file.specs.Versions.{id_read}
use Rattle.tree_build.proofs.PortTexts.{neither, not_true}
use Rattle.tree_round_trip.proofs.Marks.{named_by}

-- a name that is neither a SubTree's nor that of an explicit element
abbrev is_plain : List ℕ → Bool
is_plain name = not (bytes_eq name (codes "SubTree")) && not (is_explicit name)

plain_named : (name : List ℕ) (A : Attributes) (m : ℕ) → is_plain name ≡ true → head_of Four name A m ≡ compact_head (nat_eq m 0) name
plain_named name A m h =
    let t = both (not (bytes_eq name (codes "SubTree"))) (not (is_explicit name)) h in
    let explicit = option_and_then (λ (id : List ℕ). explicit_head name (nat_eq m 0) (id_read Four id)) (value_of (codes "ID") A) in
    ap (λ (b : Bool). head_by (if b then Some Plain else None) Four name A (nat_eq m 0)) (not_true (bytes_eq name (codes "SubTree")) t.0)
    ∙ ap (λ (b : Bool). if b then explicit else compact_head (nat_eq m 0) name) (not_true (is_explicit name) t.1)

four : (a b c d : Bool) → a ≡ false → b ≡ false → c ≡ false → d ≡ false → (a || b || c || d) ≡ false
four a b c d p q r s = rw (p, q, r, s) refl

three : (a b c : Bool) → a ≡ false → b ≡ false → c ≡ false → (a || b || c) ≡ false
three a b c p q r = rw (p, q, r) refl

-- what holds of a name that is not reserved
record Free (id : List ℕ) : Type 0 where
  plain : is_plain id ≡ true
  kept : is_kept id ≡ false

plain_from : (a b : Bool) → a ≡ false → b ≡ false → (not a && not b) ≡ true
plain_from a b p q = rw (p, q) refl

free_name : (id : List ℕ) → is_reserved id ≡ false → Free id
free_name id h =
    let names = (neither (is_among id built_in_names) (is_among id format_names) h).1 in
    let a = neither (bytes_eq id (codes "Action")) _ names in
    let b = neither (bytes_eq id (codes "Condition")) _ a.1 in
    let c = neither (bytes_eq id (codes "Control")) _ b.1 in
    let d = neither (bytes_eq id (codes "Decorator")) _ c.1 in
    let e = neither (bytes_eq id (codes "SubTree")) _ d.1 in
    let f = neither (bytes_eq id (codes "BehaviorTree")) _ e.1 in
    let g = neither (bytes_eq id (codes "TreeNodesModel")) _ f.1 in
    let k = neither (bytes_eq id (codes "root")) false g.1 in
    record {
      plain =
          plain_from (bytes_eq id (codes "SubTree")) (is_explicit id) e.0
          (four (bytes_eq id (codes "Action")) (bytes_eq id (codes "Condition")) (bytes_eq id (codes "Control")) (bytes_eq id (codes "Decorator")) a.0 b.0 c.0 d.0);
      kept = three (bytes_eq id (codes "BehaviorTree")) (bytes_eq id (codes "TreeNodesModel")) (bytes_eq id (codes "root")) f.0 g.0 k.0;
    }

-- ---- Leaves

compact_leaf : (id : List ℕ) (A : Attributes) (m : ℕ) → kind_named id ≡ None → is_reserved id ≡ false → nat_eq m 0 ≡ true → head_of Four id A m ≡ Some (plain_head Leaf id)
compact_leaf id A m own free none =
    let f = free_name id free in
    plain_named id A m f.plain
    ∙ ap (compact_by (nat_eq m 0) id) own
    ∙ ap (λ (b : Bool). if not b && nat_eq m 0 then leaf_head id else None) f.kept
    ∙ ap (λ (b : Bool). if b then leaf_head id else None) none

explicit_leaf : (id : List ℕ) (A : Attributes) (m : ℕ) → kind_named id ≡ None → value_of (codes "ID") A ≡ Some id → nat_eq m 0 ≡ true → head_of Four (codes "Action") A m ≡ Some (plain_head Leaf id)
explicit_leaf id A m own said none =
    ap (λ (o : Option (List ℕ)). option_and_then (explicit_head (codes "Action") (nat_eq m 0)) o) said
    ∙ ap (explicit_by (codes "Action") (nat_eq m 0) id) own
    ∙ ap (λ (b : Bool). if b then leaf_head id else None) none

leaf_by : (id : List ℕ) (A : Attributes) (m : ℕ) (b : Bool) → is_compact Leaf id ≡ b → kind_named id ≡ None → (b ≡ false → value_of (codes "ID") A ≡ Some id) → nat_eq m 0 ≡ true →
    head_of Four (if b then id else codes "Action") A m ≡ Some (plain_head Leaf id)
leaf_by id A m true e own said none = compact_leaf id A m own (not_true (is_reserved id) (both (is_identifier id) (not (is_reserved id)) e).1) none
leaf_by id A m false e own said none = explicit_leaf id A m own (said refl) none

-- ---- Built-in nodes

built_plain : (id : List ℕ) (kind : Kind) → kind_named id ≡ Some kind → is_plain id ≡ true
unfolding named_kinds
built_plain id kind h = named_by is_plain named_kinds id kind h refl

built_head : (kind : Kind) (id : List ℕ) (A : Attributes) (m : ℕ) → kind_named id ≡ Some kind → head_of Four id A m ≡ Some (plain_head kind id)
built_head kind id A m named = plain_named id A m (built_plain id kind named) ∙ ap (compact_by (nat_eq m 0) id) named

-- the node that the element is, by its name, its attributes and the number of its children
pub head_reads : (kind : Kind) (id : List ℕ) (A : Attributes) (m : ℕ) → IdFits kind id → (is_compact kind id ≡ false → value_of (codes "ID") A ≡ Some id) → (kind ≡ Leaf → nat_eq m 0 ≡ true) →
    head_of Four (element_name kind id) A m ≡ Some (plain_head kind id)
head_reads SubTree id A m fits said none = ap (λ (o : Option (List ℕ)). Some (plain_head SubTree (unwrap_or o []))) (said refl)
head_reads Leaf id A m fits said none = leaf_by id A m (is_compact Leaf id) refl fits said (none refl)
head_reads kind id A m fits said none = built_head kind id A m fits
