-- The behavior tree of a plan tree is valid.
use Rattle.std.proofs.Common.{◌≡◌, ◌≢◌, ℕ, ◌+◌, ◌*◌, ◌≤◌, true, false, List, [], ◌∷◌, ◌++◌, length, map, None, refl, ap, sym, ◌∙◌, subst, arith, append-nil}
use Rattle.std.specs.Prelude.{codes, sum}
use Rattle.std.specs.List.{AllByRecursion, flat_map}
use Rattle.std.proofs.lemmas.Bool.Decides.{nat_tests}
use Rattle.std.proofs.lemmas.Grind.{flat_map-append}
use Rattle.std.proofs.lemmas.List.{length-map}
use Rattle.std.proofs.lemmas.List.Sums.{sum_by-cons}
use Rattle.spec_script.specs.Numbers.{greatest}
use Rattle.spec_script.specs.Texts.{value_stands}
use Rattle.spec_tree.specs.declared.cell.Cell.{Cell}
use Rattle.spec_tree.specs.declared.cell.Naming.{Naming}
use Rattle.spec_tree.specs.declared.term.Kind.{Kind}
use Rattle.spec_tree.specs.declared.term.Kind.TheVariants.{ReactiveSequence, ReactiveFallback, Leaf}
use Rattle.spec_tree.specs.declared.term.Term.{Term, Term-F, fold-roll-Term, roll-Term}
use Rattle.spec_tree.specs.declared.term.Tree.{Tree as Planned}
use Rattle.spec_world.specs.declared.world.Row.{Row}
use Rattle.spec_world.specs.declared.world.World.{World}
use Rattle.spec_tree.specs.Boards.{Scope, Standing, children_scope, children_scope_number, in_order, main_scope, namings, namings_at, owner, slot_in, slots, standing_all, standing_from, standing_step}
use Rattle.base_tables.specs.SlotTables.{SlotTable, scope_of, slot_table}
use Rattle.spec_tree.specs.BuiltIns.{named_kinds}
use Rattle.spec_tree.specs.Terms.{depth_of, node_count, once_more, own_scopes, scope_count, times_of, work_of}
use Rattle.spec_tree.specs.Trees.{GuardsFit, IsValid, Node, NodeFits, TextsFit, nodes_of, nodes_step}
use Rattle.spec_world.specs.Worlds.{IsValidWorld}
use Rattle.spec_plan.specs.declared.part.Part.{Part}
use Rattle.spec_plan.specs.declared.part.Part.TheVariants.{Goals, Sequence, Fallback, Condition, Action}
use Rattle.plan_tree.specs.declared.tree.PlanTree.{PlanTree}
use Rattle.spec_plan.specs.Forests.{Forest, Empty, Tree, count}
use Rattle.plan_tree.specs.Sizes.{height, size, subtrees}
use Rattle.plan_tree.specs.Planned.{IsPlanned}
use Rattle.spec_plan.specs.Planned.{id_of, kind_of, no_guards, part_id, plain_node, terms_of}
use Rattle.plan_tree.specs.Stands.{PartFits, PartsFit, StandsFor}
use Rattle.plan_tree.proofs.RowTexts.{IsLeafId, identifier_stands, leaf_id}

-- ---- One node

-- a node as it is tested
abbrev plain : Kind → List ℕ → ℕ → Node
plain kind id children = record { kind = kind; id = id; name = id; ports = []; code = None; guards = no_guards; autoremap = false; children = children }

no_guards_fit : GuardsFit no_guards
no_guards_fit = record { failure_if = tt; success_if = tt; skip_if = tt; while_true = tt; on_success = tt; on_failure = tt; post = tt; on_halted = tt }

texts_fit : (kind : Kind) (id : List ℕ) (n : ℕ) → value_stands id ≡ true → TextsFit (plain kind id n)
texts_fit kind id n stands = record { id = stands; name = stands; ports = refl; apart = refl; code = refl; guards = refl }

sequence_fits : (n : ℕ) → 1 ≤ n → NodeFits (plain ReactiveSequence (codes "ReactiveSequence") n)
unfolding named_kinds
sequence_fits n some = record {
  children = grind (arith, nat_tests, some);
  id = refl;
  ports = refl;
  code = tt;
  guards = no_guards_fit;
  autoremap = refl;
  texts = texts_fit ReactiveSequence (codes "ReactiveSequence") n (identifier_stands (codes "ReactiveSequence") refl);
}

fallback_fits : (n : ℕ) → 1 ≤ n → NodeFits (plain ReactiveFallback (codes "ReactiveFallback") n)
unfolding named_kinds
fallback_fits n some = record {
  children = grind (arith, nat_tests, some);
  id = refl;
  ports = refl;
  code = tt;
  guards = no_guards_fit;
  autoremap = refl;
  texts = texts_fit ReactiveFallback (codes "ReactiveFallback") n (identifier_stands (codes "ReactiveFallback") refl);
}

leaf_fits : (id : List ℕ) → IsLeafId id → NodeFits (plain Leaf id 0)
leaf_fits id is = record {
  children = refl;
  id = is.own;
  ports = refl;
  code = tt;
  guards = no_guards_fit;
  autoremap = refl;
  texts = texts_fit Leaf id 0 is.stands;
}

some_trees : (f : Forest) → f ≢ Empty → 1 ≤ count f
some_trees Empty some = absurd (some refl)
some_trees (Tree key part below rest) some = omega arith

-- ---- What is counted of kinds

one_time : (part : Part) → times_of (kind_of part) [] ≡ 1
one_time Goals = refl
one_time (Sequence row) = refl
one_time Fallback = refl
one_time (Condition row) = refl
one_time (Action row) = refl

none_more : (part : Part) (works : List ℕ) → once_more (kind_of part) works ≡ 0
none_more Goals works = refl
none_more (Sequence row) works = refl
none_more Fallback works = refl
none_more (Condition row) works = refl
none_more (Action row) works = refl

no_scope : (part : Part) → own_scopes (kind_of part) ≡ 0
no_scope Goals = refl
no_scope (Sequence row) = refl
no_scope Fallback = refl
no_scope (Condition row) = refl
no_scope (Action row) = refl

-- a node without ports and scripts names no key
none_named : (part : Part) (uid number : ℕ) (scope : Scope) →
    namings_at (record { uid = uid; number = number; scope = scope; kind = kind_of part; ports = []; autoremap = false; scripts = [] }) ≡ []
none_named Goals uid number scope = refl
none_named (Sequence row) uid number scope = refl
none_named Fallback uid number scope = refl
none_named (Condition row) uid number scope = refl
none_named (Action row) uid number scope = refl

module _ (world : World) (valid : IsValidWorld world) where
  abbrev rows : List Row
  rows = world.rows

  length-terms : (f : Forest) → length (terms_of rows f) ≡ count f
  length-terms Empty = refl
  length-terms (Tree key part below rest) = let later = length-terms rest in omega (arith, later)

  part_fits : (part : Part) (below : Forest) → PartFits (length rows) part below → NodeFits (plain (kind_of part) (part_id rows part) (count below))
  part_fits Goals below some = sequence_fits (count below) (some_trees below some)
  part_fits (Sequence row) below some = sequence_fits (count below) (some_trees below some)
  part_fits Fallback below some = fallback_fits (count below) (some_trees below some)
  part_fits (Condition row) below (within, none) =
      subst (λ (f : Forest). NodeFits (plain Leaf (id_of rows row) (count f))) (sym none) (leaf_fits (id_of rows row) (leaf_id world valid row within))
  part_fits (Action row) below (within, none) =
      subst (λ (f : Forest). NodeFits (plain Leaf (id_of rows row) (count f))) (sym none) (leaf_fits (id_of rows row) (leaf_id world valid row within))

  abbrev term_at : Part → Forest → Term-F Term
  term_at part below = plain_node (kind_of part) (part_id rows part) (terms_of rows below)

  all-append : (xs ys : List Node) → AllByRecursion NodeFits xs → AllByRecursion NodeFits ys → AllByRecursion NodeFits (xs ++ ys)
  all-append [] ys one more = more
  all-append (x ∷ xs) ys (fit, fits) more = (fit, all-append xs ys fits more)

  abbrev nodes_all : List Term → List Node
  nodes_all terms = flat_map (λ (nodes : List Node). nodes) (map nodes_of terms)

  nodes_at : (part : Part) (below : Forest) → nodes_of (roll-Term (term_at part below)) ≡ plain (kind_of part) (part_id rows part) (count below) ∷ nodes_all (terms_of rows below)
  nodes_at part below =
      fold-roll-Term (List Node) nodes_step (term_at part below)
      ∙ ap (λ (n : ℕ). plain (kind_of part) (part_id rows part) n ∷ nodes_all (terms_of rows below)) (length-map (terms_of rows below) nodes_of ∙ length-terms below)

  pub all_fit : (f : Forest) → PartsFit (length rows) f → AllByRecursion NodeFits (nodes_all (terms_of rows f))
  all_fit Empty fits = tt
  all_fit (Tree key part below rest) (own, lower, later) =
      all-append (nodes_of (roll-Term (term_at part below))) (nodes_all (terms_of rows rest))
      (subst (λ (l : List Node). AllByRecursion NodeFits l) (sym (nodes_at part below)) (part_fits part below own, all_fit below lower)) (all_fit rest later)

  -- ---- Sums

  sum_first : (n : ℕ) (ns : List ℕ) → sum (n ∷ ns) ≡ n + sum ns
  sum_first n ns = sum_by-cons (λ (x : ℕ). x) n ns

  count_at : (part : Part) (below : Forest) → node_count (roll-Term (term_at part below)) ≡ 1 + sum (map node_count (terms_of rows below))
  count_at part below = fold-roll-Term ℕ (λ node. 1 + sum node.children) (term_at part below)

  pub counts : (f : Forest) → sum (map node_count (terms_of rows f)) ≡ size f
  counts Empty = refl
  counts (Tree key part below rest) =
      let first = sum_first (node_count (roll-Term (term_at part below))) (map node_count (terms_of rows rest)) in
      let here = count_at part below in let lower = counts below in let later = counts rest in
      omega (arith, first, here, lower, later)

  depth_at : (part : Part) (below : Forest) → depth_of (roll-Term (term_at part below)) ≡ 1 + greatest (map depth_of (terms_of rows below))
  depth_at part below = fold-roll-Term ℕ (λ node. 1 + greatest node.children) (term_at part below)

  pub depths : (f : Forest) → greatest (map depth_of (terms_of rows f)) ≡ height f
  depths Empty = refl
  depths (Tree key part below rest) = let here = depth_at part below in let lower = depths below in let later = depths rest in omega (arith, here, lower, later)

  scopes_at : (part : Part) (below : Forest) → scope_count (roll-Term (term_at part below)) ≡ sum (map scope_count (terms_of rows below))
  scopes_at part below =
      fold-roll-Term ℕ (λ node. own_scopes node.kind + sum node.children) (term_at part below) ∙ ap (λ (n : ℕ). n + sum (map scope_count (terms_of rows below))) (no_scope part) ∙ omega arith

  pub no_scopes : (f : Forest) → sum (map scope_count (terms_of rows f)) ≡ 0
  no_scopes Empty = refl
  no_scopes (Tree key part below rest) =
      let first = sum_first (scope_count (roll-Term (term_at part below))) (map scope_count (terms_of rows rest)) in
      let here = scopes_at part below in let lower = no_scopes below in let later = no_scopes rest in
      omega (arith, first, here, lower, later)

  work_at : (part : Part) (below : Forest) → work_of (roll-Term (term_at part below)) ≡ 1 + sum (map work_of (terms_of rows below))
  work_at part below =
      let works : List ℕ = map work_of (terms_of rows below) in
      fold-roll-Term ℕ (λ node. 1 + (times_of node.kind node.ports * sum node.children + once_more node.kind node.children)) (term_at part below)
      ∙ ap (λ (n : ℕ). 1 + (n * sum works + once_more (kind_of part) works)) (one_time part)
      ∙ ap (λ (n : ℕ). 1 + (1 * sum works + n)) (none_more part works) ∙ omega arith

  pub works : (f : Forest) → sum (map work_of (terms_of rows f)) ≡ size f
  works Empty = refl
  works (Tree key part below rest) =
      let first = sum_first (work_of (roll-Term (term_at part below))) (map work_of (terms_of rows rest)) in
      let here = work_at part below in let lower = works below in let later = works rest in
      omega (arith, first, here, lower, later)

  -- ---- No keys

  pub no_names : (f : Forest) (uid number : ℕ) (scope : Scope) → flat_map namings_at (standing_all (map standing_from (terms_of rows f)) uid number scope) ≡ []
  no_names Empty uid number scope = refl
  no_names (Tree key part below rest) uid number scope =
      let term = roll-Term (term_at part below) in
      let first : flat_map namings_at (standing_from term uid number scope) ≡ [] =
      ap (λ (g : ℕ → ℕ → Scope → List Standing). flat_map namings_at (g uid number scope)) (fold-roll-Term (ℕ → ℕ → Scope → List Standing) standing_step (term_at part below))
      ∙ ap (λ (l : List Naming). l ++ flat_map namings_at (standing_all (map standing_from (terms_of rows below)) (uid + 1) (children_scope_number (kind_of part) uid number)
      (children_scope (kind_of part) uid [] false scope))) (none_named part uid number scope)
      ∙ no_names below (uid + 1) (children_scope_number (kind_of part) uid number) (children_scope (kind_of part) uid [] false scope) in
      let later = uid + length (standing_from term uid number scope) in
      flat_map-append namings_at (standing_from term uid number scope) (standing_all (map standing_from (terms_of rows rest)) later number scope)
      ∙ ap (λ (l : List Naming). l ++ flat_map namings_at (standing_all (map standing_from (terms_of rows rest)) later number scope)) first
      ∙ no_names rest later number scope

  -- ---- The tree

  -- no node of it is a SubTree
  pub planned_lone : (tree : Forest) (planned : Planned) → IsPlanned rows tree planned → scope_count planned.term ≡ 0
  planned_lone tree planned is =
      let scopes : sum (map scope_count (planned.term ∷ [])) ≡ 0 = ap (λ (ts : List Term). sum (map scope_count ts)) (sym is.term) ∙ no_scopes tree in
      omega (arith, scopes, sum_first (scope_count planned.term) [])

  unnamed : (tree : Forest) (planned : Planned) → IsPlanned rows tree planned → namings planned ≡ []
  unnamed tree planned is =
      sym (ap (λ (l : List Standing). flat_map namings_at l) (append-nil (standing_from planned.term 1 0 main_scope)))
      ∙ ap (λ (ts : List Term). flat_map namings_at (standing_all (map standing_from ts) 1 0 main_scope)) (sym is.term) ∙ no_names tree 1 0 main_scope

  -- its slots as a table, where this is all that it names
  abbrev table_of : Planned → List Naming → SlotTable
  table_of planned names = record {
    cells = in_order (map (λ (n : Naming). n.cell) names);
    named = map (λ (k : Cell). (k, slot_in (slots planned) (scope_of planned k.scope k.key))) (in_order (map (λ (n : Naming). owner n.number n.key) names));
  }

  -- it names no key, so that it has no slots
  pub planned_nameless : (tree : Forest) (planned : Planned) → IsPlanned rows tree planned → slot_table planned ≡ record { cells = []; named = [] }
  planned_nameless tree planned is = ap (table_of planned) (unnamed tree planned is)

  pub planned_valid : (t : PlanTree) (tree : Forest) (planned : Planned) → StandsFor t world tree → subtrees tree ≤ 120 → IsPlanned rows tree planned → IsValid planned
  planned_valid t tree planned st few is =
      let fit = st.shape.fit in
      let nodes : sum (map node_count (planned.term ∷ [])) ≡ size tree = ap (λ (ts : List Term). sum (map node_count ts)) (sym is.term) ∙ counts tree in
      let deep : greatest (map depth_of (planned.term ∷ [])) ≡ height tree = ap (λ (ts : List Term). greatest (map depth_of ts)) (sym is.term) ∙ depths tree in
      let scopes = planned_lone tree planned is in
      let work : sum (map work_of (planned.term ∷ [])) ≡ size tree = ap (λ (ts : List Term). sum (map work_of ts)) (sym is.term) ∙ works tree in
      let one_node = sum_first (node_count planned.term) [] in
      let one_work = sum_first (work_of planned.term) [] in
      let wide = st.shape.few in
      let low = st.shape.low in
      let no_slots : length (slots planned) ≡ 0 = ap (λ (table : SlotTable). length table.cells) (planned_nameless tree planned is) in
      record {
        limits = record {
          nodes = omega (arith, nodes, one_node, wide, few);
          depth = omega (arith, deep, low, few);
          scopes = omega (arith, scopes);
          slots = omega (arith, no_slots);
          work = omega (arith, work, one_work, wide, few);
        };
        main = ap value_stands is.main ∙ identifier_stands (codes "Plan") refl;
        fit = subst (λ (l : List Node). AllByRecursion NodeFits l) (append-nil (nodes_of planned.term))
            (subst (λ (ts : List Term). AllByRecursion NodeFits (nodes_all ts)) is.term (all_fit tree fit));
      }
