-- The world of a tree whose leaves are told what they answer can be run.
use Rattle.std.proofs.Common.{◌≡◌, ℕ, Bool, true, false, ◌&&◌, if◌then◌else◌, List, [], ◌∷◌, ◌++◌, map, filter, length, codes, Option, Some, None, Result, Ok, Err, refl, sym, ap, subst, ◌∙◌, ⊎_elim, arith}
use Rattle.std.specs.Prelude.{IfOk, bytes_eq, nat_eq, nat_le}
use Rattle.std.specs.Cmp.Lexicographic.{nat_list_eq_equiv}
use Rattle.std.specs.List.{AllByRecursion, IsDistinct, flat_map, list_all}
use Rattle.std.proofs.lemmas.Bool.{and_parts, leb-true, or_left, or_right}
use Rattle.std.proofs.lemmas.List.{length-map}
use Rattle.std.proofs.lemmas.List.Elements.{All-from_recursion, All-nil}
use Rattle.std.proofs.lemmas.List.Sorted.{IsNonDecreasingBy-short}
use Rattle.std.proofs.lemmas.Map.Keys.{IsDistinct-cons}
use Rattle.cli_refusals.specs.declared.refusal.Refusal.{Refusal}
use Rattle.spec_program.specs.TreeFiles.{TreeReads}
use Rattle.spec_run.specs.Joins.{is_leaf}
use Rattle.spec_serve.specs.Rows.{are_conditions, each_once, is_condition, is_small_row, model_elements, model_of, ports_given, ports_of, row_for, row_of, told_row, told_rows, told_world, too_many}
use Rattle.spec_tree.specs.declared.term.Kind.{Kind}
use Rattle.spec_tree.specs.declared.term.Kind.TheVariants.{Leaf}
use Rattle.spec_tree.specs.declared.term.Port.{Port}
use Rattle.spec_tree.specs.declared.term.Term.{Term}
use Rattle.spec_tree.specs.declared.term.Tree.{Tree}
use Rattle.spec_tree.specs.BuiltIns.{kind_named}
use Rattle.spec_tree.specs.Limits.{most_made_ports, most_made_rows}
use Rattle.spec_tree.specs.Names.{is_among}
use Rattle.spec_tree.specs.Terms.{leaf_ids, own_leaf_id}
use Rattle.spec_tree.specs.Trees.{IdFits, IsValid, Node, NodeFits, nodes_of}
use Rattle.spec_tree_file.specs.declared.element.Element.{Element}
use Rattle.spec_tree_file.specs.declared.manifest_fault.ManifestFault.{ManifestFault}
use Rattle.spec_tree_file.specs.Elements.{Spells}
use Rattle.spec_tree_file.specs.Models.{Models, children_of, manifest_in, name_of}
use Rattle.spec_program.specs.TreeFiles.{with_models}
use Rattle.spec_world.specs.declared.world.Event.{Event}
use Rattle.spec_world.specs.declared.world.Row.{Row}
use Rattle.spec_world.specs.declared.world.World.{World}
use Rattle.spec_world.specs.Runnable.{IsRunnableRow, IsRunnableWorld}
use Rattle.spec_world.specs.Worlds.{ids_of_rows}
use Rattle.spec_world_file.specs.declared.world_fault.WorldFault.{WorldFault}
use Rattle.cli_serve.specs.Rows.{IsTreeOf, WorldGives}
use Rattle.cli_serve.proofs.Leaves.{apart, ids_in_nodes}
use Rattle.cli_serve.proofs.Models.{IfFoundDiffer, model_ports_differ, no_names}
use Rattle.cli_serve.proofs.Ordered.{distinct_names}

-- ---- IDs

-- an ID is none of a built-in node
abbrev IsFree : List ℕ → Type 0
IsFree id = kind_named id ≡ None

own_free : (kind : Kind) (id : List ℕ) → IdFits kind id → AllByRecursion IsFree (own_leaf_id kind id)
own_free Leaf id fits = (fits, tt)
own_free _ id fits = tt

both_free : (xs ys : List (List ℕ)) → AllByRecursion IsFree xs → AllByRecursion IsFree ys → AllByRecursion IsFree (xs ++ ys)
both_free [] ys all more = more
both_free (x ∷ xs) ys all more = (all.0, both_free xs ys all.1 more)

free_in : (nodes : List Node) → AllByRecursion NodeFits nodes → AllByRecursion IsFree (flat_map (λ (n : Node). own_leaf_id n.kind n.id) nodes)
free_in [] all = tt
free_in (n ∷ nodes) all = both_free (own_leaf_id n.kind n.id) (flat_map (λ (n : Node). own_leaf_id n.kind n.id) nodes) (own_free n.kind n.id all.0.id) (free_in nodes all.1)

free_once : (before names : List (List ℕ)) → AllByRecursion IsFree names → AllByRecursion IsFree (each_once before names)
free_once before [] all = tt
free_once before (name ∷ names) all = by (is_among name before) (free_once before names all.1) (free_once (name ∷ before) names all.1)
  where
    by : (b : Bool) → AllByRecursion IsFree (each_once before names) → AllByRecursion IsFree (each_once (name ∷ before) names)
        → AllByRecursion IsFree (if b then each_once before names else name ∷ each_once (name ∷ before) names)
    by true same more = same
    by false same more = (all.0, more)

once_apart : (x : List ℕ) (before names : List (List ℕ)) → is_among x before ≡ true → AllByRecursion (λ y. bytes_eq x y ≡ false) (each_once before names)
once_apart x before [] there = tt
once_apart x before (name ∷ names) there =
    by (is_among name before) refl (once_apart x before names there) (once_apart x (name ∷ before) names (or_right (bytes_eq x name) (is_among x before) there))
  where
    by : (b : Bool) → is_among name before ≡ b → AllByRecursion (λ y. bytes_eq x y ≡ false) (each_once before names) → AllByRecursion (λ y. bytes_eq x y ≡ false) (each_once (name ∷ before) names)
        → AllByRecursion (λ y. bytes_eq x y ≡ false) (if b then each_once before names else name ∷ each_once (name ∷ before) names)
    by true e same more = same
    by false e same more = (apart name x before there e, more)

-- names once each differ
once_differ : (before names : List (List ℕ)) → IsDistinct bytes_eq (each_once before names)
once_differ before [] = no_names
once_differ before (name ∷ names) = by (is_among name before) (once_differ before names) (once_differ (name ∷ before) names)
  where
    by : (b : Bool) → IsDistinct bytes_eq (each_once before names) → IsDistinct bytes_eq (each_once (name ∷ before) names)
        → IsDistinct bytes_eq (if b then each_once before names else name ∷ each_once (name ∷ before) names)
    by true same more = same
    by false same more =
        IsDistinct-cons bytes_eq name (each_once (name ∷ before) names)
        (once_apart name (name ∷ before) names (or_left (bytes_eq name name) (is_among name before) (nat_list_eq_equiv.refl name))) more

-- ---- Rows

no_numbers : IsDistinct nat_eq []
unfolding IsDistinct
no_numbers = tt

row_runs : (rows : List Row) (id : List ℕ) (condition : Bool) (inputs outputs : List (List ℕ)) → IsDistinct bytes_eq inputs → IsDistinct bytes_eq outputs
    → is_small_row (told_row id condition inputs outputs) ≡ true → IsRunnableRow [] rows (told_row id condition inputs outputs)
row_runs rows id true inputs outputs ins outs small = record {
  ports = record { few = leb-true (length inputs) most_made_ports (and_parts (nat_le (length inputs) most_made_ports) true small).0; distinct = ins };
  sort = tt;
  needs = record { few = omega arith; distinct = no_numbers };
  needed = All-nil _;
  sets = record { few = omega arith; distinct = no_numbers };
  effects = All-nil _;
  outs = record { few = omega arith; distinct = no_names };
  outputs = All-nil _;
  bare = λ h. (refl, refl, refl);
}
row_runs rows id false inputs outputs ins outs small =
    let parts = and_parts (nat_le (length inputs) most_made_ports) (nat_le (length outputs) most_made_ports) small in
    record {
      ports = record { few = leb-true (length inputs) most_made_ports parts.0; distinct = ins };
      sort = record { few = leb-true (length outputs) most_made_ports parts.1; distinct = outs };
      needs = record { few = omega arith; distinct = no_numbers };
      needed = All-nil _;
      sets = record { few = omega arith; distinct = no_numbers };
      effects = All-nil _;
      outs = record { few = omega arith; distinct = no_names };
      outputs = All-nil _;
      bare = λ h. (refl, refl, refl);
    }

module _ (root : Element) (term : Term) (models : Models) (read : manifest_in root ≡ Ok models) where
  abbrev found : List ℕ → Option Element
  found id = model_of id (model_elements (children_of root))

  given_differ : (id : List ℕ) → IsDistinct bytes_eq (ports_given id term)
  given_differ id =
      distinct_names (flat_map (λ (n : Node). map (λ (p : Port). p.name) n.ports) (filter (λ (n : Node). is_leaf n.kind && bytes_eq n.id id) (nodes_of term)))

  one_runs : (rows : List Row) (id : List ℕ) → IsFree id → is_small_row (row_of root term id) ≡ true → IsRunnableRow [] rows (row_of root term id)
  one_runs rows id free small = by (found id) (model_ports_differ root models id read free) small
    where
      by : (o : Option Element) → IfFoundDiffer o → is_small_row (row_for o id (are_conditions id root) (ports_given id term)) ≡ true
          → IsRunnableRow [] rows (row_for o id (are_conditions id root) (ports_given id term))
      by (Some m) differ small =
          row_runs rows id (is_condition (name_of m)) (ports_of (codes "input_port") m) (ports_of (codes "output_port") m) differ.inputs differ.outputs small
      by None differ small =
          row_runs rows id (are_conditions id root) (ports_given id term) (ports_given id term) (given_differ id) (given_differ id) small

  all_run : (rows : List Row) (ids : List (List ℕ)) → AllByRecursion IsFree ids → list_all is_small_row (map (row_of root term) ids) ≡ true → AllByRecursion (IsRunnableRow [] rows) (map (row_of root term) ids)
  all_run rows [] free small = tt
  all_run rows (id ∷ ids) free small =
      let parts = and_parts (is_small_row (row_of root term id)) (list_all is_small_row (map (row_of root term) ids)) small in
      (one_runs rows id free.0 parts.0, all_run rows ids free.1 parts.1)

  own_id : (o : Option Element) (id : List ℕ) (condition : Bool) (ports : List (List ℕ)) → (row_for o id condition ports).id ≡ id
  own_id None id condition ports = refl
  own_id (Some m) id condition ports = refl

  same_ids : (ids : List (List ℕ)) → ids_of_rows (map (row_of root term) ids) ≡ ids
  same_ids [] = refl
  same_ids (id ∷ ids) = λ i. own_id (found id) id (are_conditions id root) (ports_given id term) i ∷ same_ids ids i

  rows_run : (w : World) → AllByRecursion IsFree (leaf_ids term) → told_world root term ≡ Ok w → IsRunnableWorld w
  rows_run w free told = by (nat_le (length rows) most_made_rows && list_all is_small_row rows) refl told
    where
      ids : List (List ℕ)
      ids = each_once [] (leaf_ids term)

      rows : List Row
      rows = told_rows root term

      by : (b : Bool) → (nat_le (length rows) most_made_rows && list_all is_small_row rows) ≡ b
          → (if b then Ok (record { facts = []; rows = rows; goals = []; runners = 1; events = [] }) else Err too_many) ≡ Ok w → IsRunnableWorld w
      by false e told = absurd (cc)
      by true e told =
          let parts = and_parts (nat_le (length rows) most_made_rows) (list_all is_small_row rows) e in
          let is : record { facts = []; rows = rows; goals = []; runners = 1; events = [] } ≡ w = cc in
          subst IsRunnableWorld is (record {
            facts = record { few = omega arith; named = All-nil _; distinct = no_names };
            openings = All-nil _;
            ids = record { few = omega (arith, leb-true (length rows) most_made_rows parts.0, length-map rows (λ (row : Row). row.id)); distinct = subst (IsDistinct bytes_eq) (sym (same_ids ids)) (once_differ [] (leaf_ids term)) };
            rows = All-from_recursion (IsRunnableRow [] rows) rows (all_run rows ids (free_once [] (leaf_ids term) free) parts.1);
            goals = record { few = omega arith; distinct = no_numbers };
            wanted = All-nil _;
            some_runner = omega arith;
            few_runners = omega arith;
            few_events = omega arith;
            events = All-nil _;
            in_order = IsNonDecreasingBy-short (λ (e : Event). e.at) [] (omega arith);
          })

-- ---- The file of a tree

read_models : (main : Option (List ℕ)) (e : Element) (tree : Tree) (r : Result Models ManifestFault) → manifest_in e ≡ r → Ok tree ≡ with_models main e r → (models : Models) × (manifest_in e ≡ Ok models)
read_models main e tree (Ok models) is read = (models, is)
read_models main e tree (Err f) is read = absurd (cc)

-- the world that is made of the elements of the file of a valid tree can be run
pub told_runs : (bytes : List ℕ) (root : Element) (tree : Tree) (w : World) → ((bytes : List ℕ) (a b : Element) → Spells bytes a → Spells bytes b → a ≡ b)
    → IsTreeOf bytes tree → IsValid tree → Spells bytes root → told_world root tree.term ≡ Ok w → IsRunnableWorld w
told_runs bytes root tree w one_element of valid spells told =
    let free : AllByRecursion IsFree (leaf_ids tree.term) = subst (AllByRecursion IsFree) (sym (ids_in_nodes tree.term)) (free_in (nodes_of tree.term) valid.fit) in
    by free of.1
  where
    by : AllByRecursion IsFree (leaf_ids tree.term) → TreeReads of.0 bytes (Ok tree) → IsRunnableWorld w
    by free = ⊎_elim
        (λ read.
        let models = read_models of.0 read.0 tree (manifest_in read.0) refl read.2 in
        rows_run root tree.term models.0 (ap manifest_in (one_element bytes root read.0 spells read.1) ∙ models.1) w free told)
        (λ fault. absurd (cc (fault.2)))

-- so can a world that is answered for it
pub made_runs : (r : Result World Refusal) (wanted : Result World WorldFault) → WorldGives r wanted → ((w : World) → wanted ≡ Ok w → IsRunnableWorld w) → IfOk r IsRunnableWorld
made_runs (Ok w) wanted given runs = runs w given
made_runs (Err e) wanted given runs = tt
