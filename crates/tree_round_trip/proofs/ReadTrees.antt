-- A printed tree is read as the tree.
use Rattle.std.proofs.Common.{◌≡◌, ℕ, ◌≤◌, Bool, true, false, not, ◌||◌, cond, if◌then◌else◌, List, [], ◌∷◌, ◌++◌, map, length, codes, Option, Some, None, Result, Ok, Err, refl, ap, sym, ◌∙◌, subst, arith, append_assoc, append-nil}
use Rattle.std.specs.Prelude.{bytes_eq, is_some, nat_le}
use Rattle.std.proofs.lemmas.Bool.Decides.{nat_tests}
use Rattle.std.proofs.lemmas.Slice.Eq.{bytes_eq-Decides}
use Rattle.std.specs.List.{list_all, list_any, AllByRecursion}
use Rattle.std.specs.Map.{lookup}
use Rattle.spec_script.proofs.Bools.{both}
use Rattle.spec_tree_file.specs.declared.element.Element.{Element}
use Rattle.spec_tree.specs.declared.term.Kind.{Kind}
use Rattle.spec_tree.specs.declared.term.Kind.TheVariants.{SubTree}
use Rattle.spec_tree.specs.declared.term.Term.{Term, Term-F, roll-Term, fold-roll-Term, ind-Term}
use Rattle.spec_tree.specs.declared.term.Tree.{Tree}
use Rattle.spec_tree.specs.Boards.{slots}
use Rattle.spec_tree.specs.Names.{is_among}
use Rattle.spec_tree.specs.PrintedTree.{root_attributes}
use Rattle.spec_tree.specs.Terms.{work_of}
use Rattle.spec_tree.specs.Trees.{IsValid, all_differ}
use Rattle.spec_tree_file.specs.Attributes.{Attributes, value_of}
use Rattle.spec_tree_file.specs.Models.{attributes_of, children_of, holds_models, manifest_in, models_in, name_of, no_second, place_of, with_models}
use Rattle.spec_tree_file.specs.ReadSteps.{go_on}
use Rattle.spec_tree_file.specs.declared.build_fault.BuildFault.{BuildFault}
use Rattle.spec_tree_file.specs.declared.build_fault.BuildFault.TheVariants.{DoubleTree, TooManyKeys, TooMuchWork}
use Rattle.spec_tree_file.specs.declared.numbers.Numbers.{Numbers}
use Rattle.spec_tree_file.specs.declared.version.Version.TheVariants.{Four}
use Rattle.spec_tree_file.specs.FirstFaults.{refused_if}
use Rattle.spec_tree_file.specs.Heads.{id_or_empty}
use Rattle.spec_tree_file.specs.Reads.{Trees, is_tree, may_stand, most_levels, no_numbers, reads, tree_of, within_limits}
use Rattle.tree_build.specs.ReadSteps.{main_read, not_root, read_in, root_faults, roots_read, stray_place, trees_read, with_id, with_tree, with_trees}
use Rattle.spec_tree_file.specs.Versions.{version_in}
use Rattle.tree_build.proofs.PortTexts.{among_pushed, differ_pushed, neither, not_true, or_false, same_either_way}
use Rattle.tree_build.proofs.ReadLaw.{file_same}
use Rattle.tree_round_trip.specs.Openings.{OpensAlike, fresh_by, fresh_step, opens_fresh}
use Rattle.tree_round_trip.specs.Printed.{unplaced}
use Rattle.tree_round_trip.specs.TreeElements.{Said, Subtree, element_of, own_tree, said, said_node, subtree_element, subtrees_of, with_subtree, with_subtrees}
use Rattle.tree_round_trip.proofs.ReadNodes.{Given, Known, elements_of, has_parts, heads_same, opened_in, plain_file, term_reads}

-- ---- Of several trees of one ID the first is kept

abbrev first_else : Option (List Element) → Option (List Element) → Option (List Element)
first_else (Some es) other = Some es
first_else None other = other

lookup_append : (id : List ℕ) (ts us : List Subtree) → lookup (bytes_eq id) (ts ++ us) ≡ first_else (lookup (bytes_eq id) ts) (lookup (bytes_eq id) us)
lookup_append id [] us = refl
lookup_append id (t ∷ ts) us = by_first (bytes_eq id t.0) (lookup_append id ts us)
  where
    by_first : (b : Bool) → lookup (bytes_eq id) (ts ++ us) ≡ first_else (lookup (bytes_eq id) ts) (lookup (bytes_eq id) us) →
        cond b (Some t.1) (lookup (bytes_eq id) (ts ++ us)) ≡ first_else (cond b (Some t.1) (lookup (bytes_eq id) ts)) (lookup (bytes_eq id) us)
    by_first true rest = refl
    by_first false rest = rest

-- whether there is a tree of this ID
abbrev is_there : List ℕ → List Subtree → Bool
is_there id ts = list_any (λ (known : Subtree). bytes_eq id known.0) ts

there_found : (id : List ℕ) (ts : List Subtree) → is_there id ts ≡ is_some (lookup (bytes_eq id) ts)
there_found id [] = refl
there_found id (t ∷ ts) = by_first (bytes_eq id t.0) (there_found id ts)
  where
    by_first : (b : Bool) → is_there id ts ≡ is_some (lookup (bytes_eq id) ts) → (b || is_there id ts) ≡ is_some (cond b (Some t.1) (lookup (bytes_eq id) ts))
    by_first true rest = refl
    by_first false rest = rest

-- a tree is added: lookups find what they would if it were always added at the end
joins : (id : List ℕ) (ts : List Subtree) (t : Subtree) → lookup (bytes_eq id) (with_subtree ts t) ≡ lookup (bytes_eq id) (ts ++ t ∷ [])
joins id ts t = by_there (is_there t.0 ts) refl
  where
    found_else : (b : Bool) (o : Option (List Element)) → bytes_eq id t.0 ≡ b → (b ≡ true → is_some o ≡ true) → o ≡ first_else o (cond b (Some t.1) None)
    found_else b (Some es) e f = refl
    found_else true None e f = let k : false ≡ true = f refl in absurd (cc)
    found_else false None e f = refl

    by_there : (b : Bool) → is_there t.0 ts ≡ b → lookup (bytes_eq id) (if b then ts else ts ++ t ∷ []) ≡ lookup (bytes_eq id) (ts ++ t ∷ [])
    by_there false e = refl
    by_there true e =
        found_else (bytes_eq id t.0) (lookup (bytes_eq id) ts) refl
        (λ same. subst (λ (k : List ℕ). is_some (lookup (bytes_eq k) ts) ≡ true) (sym ((bytes_eq-Decides id t.0).0 same)) (sym (there_found t.0 ts) ∙ e))
        ∙ sym (lookup_append id ts (t ∷ []))

all_join : (id : List ℕ) (ts us : List Subtree) → lookup (bytes_eq id) (with_subtrees ts us) ≡ lookup (bytes_eq id) (ts ++ us)
all_join id ts [] = ap (lookup (bytes_eq id)) (sym (append-nil ts))
all_join id ts (u ∷ us) =
    all_join id (with_subtree ts u) us
    ∙ lookup_append id (with_subtree ts u) us
    ∙ ap (λ (o : Option (List Element)). first_else o (lookup (bytes_eq id) us)) (joins id ts u)
    ∙ sym (lookup_append id (ts ++ u ∷ []) us)
    ∙ ap (lookup (bytes_eq id)) (append_assoc ts (u ∷ []) us)

-- ---- The IDs of printed trees differ

abbrev ids_of : List Subtree → List (List ℕ)
ids_of ts = map (λ (t : Subtree). t.0) ts

there_among : (id : List ℕ) (ts : List Subtree) → is_there id ts ≡ is_among id (ids_of ts)
there_among id [] = refl
there_among id (t ∷ ts) = ap (λ (b : Bool). bytes_eq id t.0 || b) (there_among id ts)

ids_append : (ts us : List Subtree) → ids_of (ts ++ us) ≡ ids_of ts ++ ids_of us
ids_append [] us = refl
ids_append (t ∷ ts) us = ap (λ (z : List (List ℕ)). t.0 ∷ z) (ids_append ts us)

differ_join : (ts : List Subtree) (t : Subtree) → all_differ (ids_of ts) ≡ true → all_differ (ids_of (with_subtree ts t)) ≡ true
differ_join ts t h = by_there (is_there t.0 ts) refl
  where
    by_there : (b : Bool) → is_there t.0 ts ≡ b → all_differ (ids_of (if b then ts else ts ++ t ∷ [])) ≡ true
    by_there true e = h
    by_there false e = ap all_differ (ids_append ts (t ∷ [])) ∙ differ_pushed (ids_of ts) t.0 h (sym (there_among t.0 ts) ∙ e)

differ_joins : (ts us : List Subtree) → all_differ (ids_of ts) ≡ true → all_differ (ids_of (with_subtrees ts us)) ≡ true
differ_joins ts [] h = h
differ_joins ts (u ∷ us) h = differ_joins (with_subtree ts u) us (differ_join ts u h)

-- ---- The trees of the file

-- a tree as its element
record TreeParts (e : Element) (t : Subtree) : Type 0 where
  name : name_of e ≡ codes "BehaviorTree"
  id : id_or_empty (attributes_of e) ≡ t.0
  children : map unplaced (children_of e) ≡ map unplaced t.1

tree_parts : (e : Element) (t : Subtree) → unplaced e ≡ unplaced (subtree_element t) → TreeParts e t
tree_parts e t h =
    let p = has_parts e (codes "BehaviorTree") ((codes "ID", t.0) ∷ []) t.1 h in
    record { name = p.name; id = ap (λ (A : Attributes). id_or_empty A) p.attributes; children = p.children }

-- elements of these trees, in their order
abbrev AreTrees : List Element → List Subtree → Type 0
AreTrees [] [] = Unit {0}
AreTrees (e ∷ es) (t ∷ ts) = TreeParts e t × AreTrees es ts
AreTrees _ _ = ⊥

are_trees : (es : List Element) (ts : List Subtree) → map unplaced es ≡ map unplaced (map subtree_element ts) → AreTrees es ts
are_trees [] [] h = tt
are_trees [] (t ∷ ts) h = absurd (cc)
are_trees (e ∷ es) [] h = absurd (cc)
are_trees (e ∷ es) (t ∷ ts) h =
    let s = heads_same (unplaced e) (unplaced (subtree_element t)) (map unplaced es) (map unplaced (map subtree_element ts)) h in (tree_parts e t s.0, are_trees es ts s.1)

-- the table of the trees
abbrev paired : List Element → List Subtree → Trees
paired [] [] = []
paired (e ∷ es) (t ∷ ts) = (t.0, e) ∷ paired es ts
paired _ _ = []

abbrev tree_ids : Trees → List (List ℕ)
tree_ids trees = map (λ (t : List ℕ × Element). t.0) trees

not_there : (id : List ℕ) (trees : Trees) → is_among id (tree_ids trees) ≡ false → tree_of id trees ≡ None
not_there id [] h = refl
not_there id (t ∷ trees) h =
    let u = neither (bytes_eq id t.0) (is_among id (tree_ids trees)) h in ap (λ (b : Bool). cond b (Some t.1) (tree_of id trees)) u.0 ∙ not_there id trees u.1

tree_ids_append : (xs ys : Trees) → tree_ids (xs ++ ys) ≡ tree_ids xs ++ tree_ids ys
tree_ids_append [] ys = refl
tree_ids_append (x ∷ xs) ys = ap (λ (z : List (List ℕ)). x.0 ∷ z) (tree_ids_append xs ys)

-- there is no tree of these IDs
abbrev NoneThere : Trees → List Subtree → Type 0
NoneThere trees ts = AllByRecursion (λ t. is_among t.0 (tree_ids trees) ≡ false) ts

still_none : (trees : Trees) (id : List ℕ) (e : Element) (ts : List Subtree) → is_among id (ids_of ts) ≡ false → NoneThere trees ts → NoneThere (trees ++ (id, e) ∷ []) ts
still_none trees id e [] d none = tt
still_none trees id e (t ∷ ts) d none =
    let u = neither (bytes_eq id t.0) (is_among id (ids_of ts)) d in (
      ap (is_among t.0) (tree_ids_append trees ((id, e) ∷ [])) ∙ among_pushed t.0 (tree_ids trees) id none.0 (same_either_way t.0 id ∙ u.0),
      still_none trees id e ts u.1 none.1,
    )

one_tree : (trees : Trees) (e : Element) (t : Subtree) → TreeParts e t → is_among t.0 (tree_ids trees) ≡ false → with_tree trees e ≡ Ok (trees ++ (t.0, e) ∷ [])
one_tree trees e t p new =
    ap (λ (name : List ℕ). if is_tree name then with_id trees e (id_or_empty (attributes_of e)) else Ok trees) p.name
    ∙ ap (with_id trees e) p.id
    ∙ ap (λ (o : Option Element). if is_some o then Err (DoubleTree t.0) else Ok (trees ++ (t.0, e) ∷ [])) (not_there t.0 trees new)

trees_are : (trees : Trees) (es : List Element) (ts : List Subtree) → AreTrees es ts → all_differ (ids_of ts) ≡ true → NoneThere trees ts → with_trees trees es ≡ Ok (trees ++ paired es ts)
trees_are trees [] [] are d none = ap (λ (z : Trees). Ok z) (sym (append-nil trees))
trees_are trees [] (t ∷ ts) are d none = absurd are
trees_are trees (e ∷ es) [] are d none = absurd are
trees_are trees (e ∷ es) (t ∷ ts) are d none =
    let u = both (not (is_among t.0 (ids_of ts))) (all_differ (ids_of ts)) d in
    ap (λ (r : Result Trees BuildFault). go_on (λ more. with_trees more es) r) (one_tree trees e t are.0 none.0)
    ∙ trees_are (trees ++ (t.0, e) ∷ []) es ts are.1 u.1 (still_none trees t.0 e ts (not_true (is_among t.0 (ids_of ts)) u.0) none.1)
    ∙ ap (λ (z : Trees). Ok z) (append_assoc trees ((t.0, e) ∷ []) (paired es ts))

none_at_first : (ts : List Subtree) → NoneThere [] ts
none_at_first [] = tt
none_at_first (t ∷ ts) = (refl, none_at_first ts)

-- a tree of these is found, with the elements in it
found_tree : (es : List Element) (ts : List Subtree) (id : List ℕ) (below : List Element) → AreTrees es ts → lookup (bytes_eq id) ts ≡ Some below →
    (e : Element) × (tree_of id (paired es ts) ≡ Some e) × (map unplaced (children_of e) ≡ map unplaced below)
found_tree [] [] id below are h = absurd (cc)
found_tree [] (t ∷ ts) id below are h = absurd are
found_tree (e ∷ es) [] id below are h = absurd are
found_tree (e ∷ es) (t ∷ ts) id below are h = by_first (bytes_eq id t.0) h (λ k. found_tree es ts id below are.1 k)
  where
    by_first : (b : Bool) → cond b (Some t.1) (lookup (bytes_eq id) ts) ≡ Some below →
        (lookup (bytes_eq id) ts ≡ Some below → (x : Element) × (tree_of id (paired es ts) ≡ Some x) × (map unplaced (children_of x) ≡ map unplaced below)) →
        (x : Element) × (cond b (Some e) (tree_of id (paired es ts)) ≡ Some x) × (map unplaced (children_of x) ≡ map unplaced below)
    by_first true k rest = let same : t.1 ≡ below = cc in (e, refl, are.0.children ∙ ap (map unplaced) same)
    by_first false k rest = rest k

-- ---- All opened trees are known

other_by : (id main : List ℕ) → is_among id (main ∷ []) ≡ false → bytes_eq id main ≡ false
other_by id main h = (neither (bytes_eq id main) false h).0

-- no opened tree is one of these
abbrev NoneOf : List (List ℕ) → List Subtree → Type 0
NoneOf opened ts = AllByRecursion (λ t. is_among t.0 opened ≡ false) ts

abbrev KeepsOut : Term → Type 0
KeepsOut t = (opened : List (List ℕ)) → opens_fresh t opened ≡ true → NoneOf opened (said t).opened

abbrev bare : List ((t : Term) × KeepsOut t) → List Term
bare ts = map (λ t. t.0) ts

abbrev parts : Term-F ((t : Term) × KeepsOut t) → Term-F Term
parts y = record { kind = y.kind; id = y.id; name = y.name; ports = y.ports; code = y.code; guards = y.guards; autoremap = y.autoremap; children = bare y.children }

joined : (opened : List (List ℕ)) (ts us : List Subtree) → NoneOf opened ts → NoneOf opened us → NoneOf opened (ts ++ us)
joined opened [] us p q = q
joined opened (t ∷ ts) us p q = (p.0, joined opened ts us p.1 q)

all_out : (ts : List ((t : Term) × KeepsOut t)) (opened : List (List ℕ)) → list_all (λ (child : List (List ℕ) → Bool). child opened) (map opens_fresh (bare ts)) ≡ true → NoneOf opened (opened_in (bare ts))
all_out [] opened h = tt
all_out (t ∷ ts) opened h =
    let u = both (opens_fresh t.0 opened) (list_all (λ (child : List (List ℕ) → Bool). child opened) (map opens_fresh (bare ts))) h in
    joined opened (said t.0).opened (opened_in (bare ts)) (t.1 opened u.0) (all_out ts opened u.1)

-- what is not among more IDs is not among fewer
among_front : (id : List ℕ) (xs ys : List (List ℕ)) → is_among id (xs ++ ys) ≡ false → is_among id xs ≡ false
among_front id [] ys h = refl
among_front id (x ∷ xs) ys h = let u = neither (bytes_eq id x) (is_among id (xs ++ ys)) h in or_false (bytes_eq id x) (is_among id xs) u.0 (among_front id xs ys u.1)

fewer : (opened more : List (List ℕ)) (ts : List Subtree) → NoneOf (opened ++ more) ts → NoneOf opened ts
fewer opened more [] h = tt
fewer opened more (t ∷ ts) h = (among_front t.0 opened more h.0, fewer opened more ts h.1)

out_by : (kind : Kind) (id : List ℕ) (ts : List ((t : Term) × KeepsOut t)) (opened : List (List ℕ)) → fresh_by kind id (map opens_fresh (bare ts)) opened ≡ true →
    NoneOf opened (own_tree kind id (elements_of (bare ts)) ++ opened_in (bare ts))
out_by SubTree id ts opened h =
    let u = both (not (is_among id opened)) (list_all (λ (child : List (List ℕ) → Bool). child (opened ++ id ∷ [])) (map opens_fresh (bare ts))) h in
    (not_true (is_among id opened) u.0, fewer opened (id ∷ []) (opened_in (bare ts)) (all_out ts (opened ++ id ∷ []) u.1))
out_by kind id ts opened h = all_out ts opened h

whole_out : (y : Term-F ((t : Term) × KeepsOut t)) → KeepsOut (roll-Term (parts y))
whole_out y opened h =
    let x = parts y in
    let fresh = sym (ap (λ (f : List (List ℕ) → Bool). f opened) (fold-roll-Term (List (List ℕ) → Bool) fresh_step x)) ∙ h in
    subst (λ (s : Said). NoneOf opened s.opened) (sym (fold-roll-Term Said said_node x)) (out_by x.kind x.id y.children opened fresh)

-- a term opens none of the trees that must not be opened in it
opened_out : (t : Term) → KeepsOut t
opened_out = ind-Term KeepsOut (λ x y is. subst (λ (z : Term-F Term). KeepsOut (roll-Term z)) is (whole_out y))

known_by : (es : List Element) (tree : Tree) (ts : List Subtree) → AreTrees es (subtrees_of tree) → NoneOf (tree.main ∷ []) ts → AllByRecursion (λ t. lookup (bytes_eq t.0) (said tree.term).opened ≡ Some t.1) ts →
    AllByRecursion (Known (paired es (subtrees_of tree))) ts
known_by es tree [] are out alike = tt
known_by es tree (t ∷ ts) are out alike =
    let first = (tree.main, (said tree.term).node ∷ []) ∷ [] in
    let other = other_by t.0 tree.main out.0 in
    let at : lookup (bytes_eq t.0) (subtrees_of tree) ≡ Some t.1 =
    all_join t.0 first (said tree.term).opened
    ∙ ap (λ (b : Bool). cond b (Some ((said tree.term).node ∷ [])) (lookup (bytes_eq t.0) (said tree.term).opened)) other ∙ alike.0 in
    (found_tree es (subtrees_of tree) t.0 t.1 are at, known_by es tree ts are out.1 alike.1)

-- ---- The file

stray_none : (es : List Element) (ts : List Subtree) → AreTrees es ts → stray_place es ≡ None
stray_none [] [] are = refl
stray_none [] (t ∷ ts) are = absurd are
stray_none (e ∷ es) [] are = absurd are
stray_none (e ∷ es) (t ∷ ts) are = ap (λ (name : List ℕ). if may_stand name then stray_place es else Some (place_of e)) are.0.name ∙ stray_none es ts are.1

no_models : (es : List Element) (ts : List Subtree) → AreTrees es ts → models_in es ≡ Ok []
no_models [] [] are = refl
no_models [] (t ∷ ts) are = absurd are
no_models (e ∷ es) [] are = absurd are
no_models (e ∷ es) (t ∷ ts) are = by_name (holds_models (name_of e)) (ap holds_models are.0.name) (no_models es ts are.1)
  where
    by_name : (b : Bool) → b ≡ false → models_in es ≡ Ok [] → (if b then go_on (λ models. no_second models es) (with_models [] (children_of e)) else models_in es) ≡ Ok []
    by_name true h rest = absurd (cc)
    by_name false h rest = rest

within : (tree : Tree) → length (slots tree) ≤ 4096 → work_of tree.term ≤ 100000 → within_limits tree ≡ Ok tree
within tree few little =
    ap (λ (b : Bool). refused_if (not b) TooManyKeys (refused_if (not (nat_le (work_of tree.term) 100000)) TooMuchWork (Ok tree))) (le_test (length (slots tree)) 4096 few)
    ∙ ap (λ (b : Bool). refused_if (not b) TooMuchWork (Ok tree)) (le_test (work_of tree.term) 100000 little)
  where
    le_test : (a b : ℕ) → a ≤ b → nat_le a b ≡ true
    le_test a b h = grind (arith, nat_tests)

given_at_first : (es : List Element) (tree : Tree) → IsValid tree → OpensAlike tree → AreTrees es (subtrees_of tree) → Given (paired es (subtrees_of tree)) most_levels (tree.main ∷ []) no_numbers tree.term
unfolding most_levels
given_at_first es tree valid opens are = record {
  depth = valid.limits.depth;
  nodes = omega (arith, valid.limits.nodes);
  scopes = valid.limits.scopes;
  fit = valid.fit;
  fresh = opens.fresh;
  known = known_by es tree (said tree.term).opened are (opened_out tree.term (tree.main ∷ []) opens.fresh) opens.alike;
}

one_root : (es : List Element) (e : Element) → map unplaced es ≡ unplaced e ∷ [] → (r : Element) × (es ≡ r ∷ []) × (unplaced r ≡ unplaced e)
one_root [] e h = absurd (cc)
one_root (r ∷ []) e h = (r, refl, (heads_same (unplaced r) (unplaced e) [] [] h).0)
one_root (r ∷ s ∷ es) e h = absurd (cc)

main_reads : (es : List Element) (tree : Tree) → IsValid tree → OpensAlike tree → AreTrees es (subtrees_of tree) →
    main_read (plain_file (paired es (subtrees_of tree))) tree.main (tree_of tree.main (paired es (subtrees_of tree))) ≡ Ok tree
main_reads es tree valid opens are =
    let first = (tree.main, (said tree.term).node ∷ []) ∷ [] in
    let file = plain_file (paired es (subtrees_of tree)) in
    let at : lookup (bytes_eq tree.main) (subtrees_of tree) ≡ Some ((said tree.term).node ∷ []) =
    all_join tree.main first (said tree.term).opened
    ∙ ap (λ (b : Bool). cond b (Some ((said tree.term).node ∷ [])) (lookup (bytes_eq tree.main) (said tree.term).opened)) ((bytes_eq-Decides tree.main tree.main).1 refl) in
    let f = found_tree es (subtrees_of tree) tree.main ((said tree.term).node ∷ []) are at in
    let r = one_root (children_of f.0) (said tree.term).node f.2 in
    ap (main_read file tree.main) f.1
    ∙ ap (roots_read file tree.main) r.1
    ∙ ap (λ (q : Result (Term × Numbers) BuildFault). go_on (λ read. within_limits (record { main = tree.main; term = read.0 })) q)
    (term_reads (paired es (subtrees_of tree)) tree.term most_levels (tree.main ∷ []) no_numbers r.0 (given_at_first es tree valid opens are) r.2)
    ∙ within tree valid.limits.slots valid.limits.work

differ_first : (tree : Tree) → all_differ (ids_of (subtrees_of tree)) ≡ true
differ_first tree = differ_joins ((tree.main, (said tree.term).node ∷ []) ∷ []) (said tree.term).opened refl

-- the printed element of a tree, at any places, reads as the tree
pub element_reads : (tree : Tree) (f : Element) → IsValid tree → OpensAlike tree → unplaced f ≡ unplaced (element_of tree) → reads [] None f ≡ Ok tree
element_reads tree f valid opens h =
    let ts = subtrees_of tree in
    let p = has_parts f (codes "root") (root_attributes tree) (map subtree_element ts) h in
    let es = children_of f in
    let are = are_trees es ts p.children in
    let read = λ (A : Attributes). read_in (version_in (value_of (codes "BTCPP_format") A)) (λ version. go_on (trees_read [] None A version) (with_trees [] es)) in
    let root : not_root f ≡ None =
    ap (λ (name : List ℕ). if bytes_eq name (codes "root") then stray_place es else Some (place_of f)) p.name ∙ stray_none es ts are in
    sym (file_same [] None f)
    ∙ ap (λ (o : Option ℕ). root_faults o (read (attributes_of f))) root
    ∙ ap read p.attributes
    ∙ ap (λ (r : Result Trees BuildFault). go_on (trees_read [] None (root_attributes tree) Four) r) (trees_are [] es ts are (differ_first tree) (none_at_first ts))
    ∙ main_reads es tree valid opens are

-- the printed element of a tree has no models
pub element_models : (tree : Tree) (f : Element) → unplaced f ≡ unplaced (element_of tree) → manifest_in f ≡ Ok []
element_models tree f h =
    let ts = subtrees_of tree in
    let p = has_parts f (codes "root") (root_attributes tree) (map subtree_element ts) h in
    no_models (children_of f) ts (are_trees (children_of f) ts p.children)
