-- What an element that can be written says can be written.
use Rattle.std.proofs.Common.{◌≡◌, ℕ, suc, zero, Bool, true, false, List, [], ◌∷◌, map, codes, cond, Option, Some, None, refl, ap, sym, ◌∙◌, subst, arith}
use Rattle.std.specs.Prelude.{bytes_eq, not, nat_eq, ◌&&◌, if◌then◌else◌, unwrap_or}
use Rattle.std.specs.Cmp.Derive.{both_true}
use Rattle.std.specs.List.{list_all, AllByRecursion}
use Rattle.std.specs.Map.{lookup}
use Rattle.std.specs.Option.{option_and_then}
use Rattle.std.specs.Str.{is_utf8}
use Rattle.std.proofs.lemmas.Bool.Decides.{nat_tests}
use Rattle.std.proofs.lemmas.Slice.Eq.{bytes_eq-Decides}
use Rattle.spec_script.proofs.Bools.{both}
use Rattle.spec_script.specs.Texts.{is_name, is_name_first, is_name_rest, is_not_zero, name_stands, value_stands}
use Rattle.spec_tree_file.specs.declared.element.Element.{Element, fold_out-Element}
use Rattle.spec_tree_file.specs.Marks.{no_name_twice}
use Rattle.tree_elements.specs.Written.{can_be_written, can_stand, writes_step}
use Rattle.tree_elements.proofs.Ascii.{literal_value}
use Rattle.spec_tree.specs.declared.term.Kind.{Kind}
use Rattle.spec_tree.specs.declared.term.Kind.TheVariants.{SubTree, Leaf}
use Rattle.spec_tree.specs.BuiltIns.{class_of, kind_named, writes}
use Rattle.spec_tree_file.specs.Attributes.{Attributes, value_of}
use Rattle.spec_tree_file.specs.Models.{attributes_of, children_of, name_of}
use Rattle.spec_tree_file.specs.declared.head.Head.{Head}
use Rattle.spec_tree_file.specs.declared.version.Form.{Form}
use Rattle.spec_tree_file.specs.declared.version.Form.TheVariants.{Plain}
use Rattle.spec_tree_file.specs.declared.version.Version.{Version}
use Rattle.spec_tree_file.specs.declared.version.Version.TheVariants.{Three, Four}
use Rattle.spec_tree_file.specs.Heads.{compact_by, compact_head, explicit_by, explicit_head, head_by, head_of, id_or_empty, is_explicit, is_kept, is_leaf_name}
use Rattle.tree_build.specs.ReadSteps.{name_in}
use Rattle.spec_tree_file.specs.Versions.{id_read, subtree_form}
use Rattle.tree_build.proofs.PortFits.{some_same}

-- ---- Looking up

-- each of a list passes
pub each_of : {A : Type 0} (p : A → Bool) (xs : List A) → list_all p xs ≡ true → AllByRecursion (λ x. p x ≡ true) xs
each_of p [] h = tt
each_of p (x ∷ xs) h = let t = both (p x) (list_all p xs) h in (t.0, each_of p xs t.1)

found_by :
    {B : Type 0} (P : List ℕ × B → Type 0) (id : List ℕ) (pair : List ℕ × B) (pairs : List (List ℕ × B)) (x : B) (b : Bool) → bytes_eq id pair.0 ≡ b → P pair →
    (lookup (bytes_eq id) pairs ≡ Some x → P (id, x)) → cond b (Some pair.1) (lookup (bytes_eq id) pairs) ≡ Some x → P (id, x)
found_by {B} P id pair pairs x true e p rest h =
    let same : pair.0 ≡ id = sym ((bytes_eq-Decides id pair.0).0 e) in
    subst (λ (k : List ℕ). P (k, x)) same (subst (λ (y : B). P (pair.0, y)) (some_same pair.1 x h) p)
found_by P id pair pairs x false e p rest h = rest h

-- what is found under an ID is one of the pairs
pub found : {B : Type 0} (P : List ℕ × B → Type 0) (id : List ℕ) (pairs : List (List ℕ × B)) (x : B) → AllByRecursion P pairs → lookup (bytes_eq id) pairs ≡ Some x → P (id, x)
found P id [] x all h = absurd (cc)
found P id (pair ∷ pairs) x all h = found_by P id pair pairs x (bytes_eq id pair.0) refl all.0 (λ k. found P id pairs x all.1 k) h

-- the value of an attribute
pub value_there : (name : List ℕ) (attributes : Attributes) (text : List ℕ) → list_all can_stand attributes ≡ true → value_of name attributes ≡ Some text → value_stands text ≡ true
value_there name attributes text all h =
    let pair : can_stand (name, text) ≡ true = found (λ (a : List ℕ × List ℕ). can_stand a ≡ true) name attributes text (each_of can_stand attributes all) h in
    (both (name_stands name) (value_stands text) pair).1

-- ---- An element

-- the parts of an element that can be written
pub record ElementStands (e : Element) : Type 0 where
  pub name : name_stands (name_of e) ≡ true
  pub attributes : list_all can_stand (attributes_of e) ≡ true
  pub single : no_name_twice (attributes_of e) ≡ true
  pub children : list_all can_be_written (children_of e) ≡ true

unmapped : (es : List Element) → list_all (λ (child : Bool). child) (map can_be_written es) ≡ list_all can_be_written es
unmapped [] = refl
unmapped (e ∷ es) = ap (λ (rest : Bool). can_be_written e && rest) (unmapped es)

pub element_stands : (e : Element) → can_be_written e ≡ true → ElementStands e
element_stands e h =
    let below = list_all (λ (child : Bool). child) (map can_be_written (children_of e)) in
    let whole : (name_stands (name_of e) && (list_all can_stand (attributes_of e) && (no_name_twice (attributes_of e) && below))) ≡ true = sym (fold_out-Element Bool writes_step e) ∙ h in
    let a = both (name_stands (name_of e)) (list_all can_stand (attributes_of e) && (no_name_twice (attributes_of e) && below)) whole in
    let b = both (list_all can_stand (attributes_of e)) (no_name_twice (attributes_of e) && below) a.1 in
    let c = both (no_name_twice (attributes_of e)) below b.1 in
    record { name = a.0; attributes = b.0; single = c.0; children = sym (unmapped (children_of e)) ∙ c.1 }

-- ---- Its ID and its name

rest_some : (c : ℕ) → is_name_rest c ≡ true → is_not_zero c ≡ true
rest_some zero h = absurd (cc)
rest_some (suc c) h = grind (arith, nat_tests)

all_some : (cs : List ℕ) → list_all is_name_rest cs ≡ true → list_all is_not_zero cs ≡ true
all_some [] h = refl
all_some (c ∷ cs) h = let t = both (is_name_rest c) (list_all is_name_rest cs) h in both_true (rest_some c t.0) (all_some cs t.1)

name_some : (name : List ℕ) → is_name name ≡ true → list_all is_not_zero name ≡ true
name_some [] h = refl
name_some (c ∷ cs) h = all_some (c ∷ cs) (both (is_name_first c) (list_all is_name_rest (c ∷ cs)) h).1

-- a name is a value
pub name_value : (name : List ℕ) → name_stands name ≡ true → value_stands name ≡ true
name_value name h = let t = both (is_name name) (is_utf8 name) h in both_true (name_some name t.0) t.1

one_stands : (b : Bool) (kind : Kind) (id : List ℕ) (form : Form) (head : Head) → value_stands id ≡ true →
    ◌≡◌ {A = Option Head} (if b then Some (record { kind = kind; id = id; form = form }) else None) (Some head) → value_stands head.id ≡ true
one_stands true kind id form head v h = subst (λ (x : Head). value_stands x.id ≡ true) (some_same (record { kind = kind; id = id; form = form }) head h) v
one_stands false kind id form head v h = absurd (cc)

explicit_stands : (name : List ℕ) (childless : Bool) (id : List ℕ) (head : Head) (o : Option Kind) → value_stands id ≡ true → explicit_by name childless id o ≡ Some head → value_stands head.id ≡ true
explicit_stands name childless id head (Some kind) v h = one_stands (writes name (class_of kind)) kind id Plain head v h
explicit_stands name childless id head None v h = one_stands (is_leaf_name name && childless) Leaf id Plain head v h

compact_stands : (childless : Bool) (name : List ℕ) (head : Head) (o : Option Kind) → value_stands name ≡ true → compact_by childless name o ≡ Some head → value_stands head.id ≡ true
compact_stands childless name head (Some kind) v h = one_stands true kind name Plain head v h
compact_stands childless name head None v h = one_stands (not (is_kept name) && childless) Leaf name Plain head v h

renamed : (b : Bool) (id other : List ℕ) → value_stands id ≡ true → value_stands other ≡ true → value_stands (if b then other else id) ≡ true
renamed true id other v w = w
renamed false id other v w = v

-- what an ID is read as
id_read_stands : (version : Version) (id : List ℕ) → value_stands id ≡ true → value_stands (id_read version id) ≡ true
id_read_stands Four id v = v
id_read_stands Three id v = renamed (bytes_eq id (codes "SequenceStar")) id (codes "SequenceWithMemory") v (literal_value (codes "SequenceWithMemory") refl refl)

by_id : (version : Version) (name : List ℕ) (attributes : Attributes) (childless : Bool) (head : Head) (o : Option (List ℕ)) → list_all can_stand attributes ≡ true → value_of (codes "ID") attributes ≡ o →
    option_and_then (λ id. explicit_head name childless (id_read version id)) o ≡ Some head → value_stands head.id ≡ true
by_id version name attributes childless head None all e h = absurd (cc)
by_id version name attributes childless head (Some id) all e h =
    explicit_stands name childless (id_read version id) head (kind_named (id_read version id)) (id_read_stands version id (value_there (codes "ID") attributes id all e)) h

by_name : (version : Version) (name : List ℕ) (attributes : Attributes) (childless : Bool) (head : Head) (b : Bool) → name_stands name ≡ true → list_all can_stand attributes ≡ true →
    (if b then option_and_then (λ id. explicit_head name childless (id_read version id)) (value_of (codes "ID") attributes) else compact_head childless (id_read version name)) ≡ Some head → value_stands head.id ≡ true
by_name version name attributes childless head true n all h = by_id version name attributes childless head (value_of (codes "ID") attributes) all refl h
by_name version name attributes childless head false n all h =
    compact_stands childless (id_read version name) head (kind_named (id_read version name)) (id_read_stands version name (name_value name n)) h

-- a text that is written, or another one
or_other : (name : List ℕ) (attributes : Attributes) (other : List ℕ) (o : Option (List ℕ)) → list_all can_stand attributes ≡ true → value_of name attributes ≡ o → value_stands other ≡ true →
    value_stands (unwrap_or o other) ≡ true
or_other name attributes other None all e v = v
or_other name attributes other (Some text) all e v = value_there name attributes text all e

pub id_stands : (attributes : Attributes) → list_all can_stand attributes ≡ true → value_stands (id_or_empty attributes) ≡ true
id_stands attributes all = or_other (codes "ID") attributes [] (value_of (codes "ID") attributes) all refl (literal_value [] refl refl)

pub name_in_stands : (attributes : Attributes) (id : List ℕ) → list_all can_stand attributes ≡ true → value_stands id ≡ true → value_stands (name_in attributes id) ≡ true
name_in_stands attributes id all v = or_other (codes "name") attributes id (value_of (codes "name") attributes) all refl v

by_form : (version : Version) (name : List ℕ) (attributes : Attributes) (childless : Bool) (head : Head) (o : Option Form) → name_stands name ≡ true → list_all can_stand attributes ≡ true →
    head_by o version name attributes childless ≡ Some head → value_stands head.id ≡ true
by_form version name attributes childless head (Some form) n all h = one_stands true SubTree (id_or_empty attributes) form head (id_stands attributes all) h
by_form version name attributes childless head None n all h = by_name version name attributes childless head (is_explicit name) n all h

-- the ID of a node
pub head_stands : (version : Version) (name : List ℕ) (attributes : Attributes) (children : ℕ) (head : Head) → name_stands name ≡ true → list_all can_stand attributes ≡ true →
    head_of version name attributes children ≡ Some head → value_stands head.id ≡ true
head_stands version name attributes children head n all h = by_form version name attributes (nat_eq children 0) head (subtree_form version name) n all h
