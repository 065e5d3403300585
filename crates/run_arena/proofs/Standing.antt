-- A tree that can be run and for whose leaves nothing is missing can be added to an arena.
use Rattle.std.proofs.Common.{◌≡◌, ℕ, List, [], ◌∷◌, ◌++◌, Bool, true, false, ◌||◌, ◌&&◌, nat_eq, inl, inr, None, map, refl, sym, ap, subst, ◌∙◌, append-nil, arith}
use Rattle.std.specs.List.{All, AllByRecursion, Contains, flat_map, list_any}
use Rattle.std.specs.Str.{bytes_eq}
use Rattle.std.proofs.lemmas.Bool.Decides.{nat_tests}
use Rattle.std.proofs.lemmas.List.Elements.{All-nil, All-cons, All-contains, All-contains_itself, All-weaker, Contains-append_cases}
use Rattle.std.proofs.lemmas.Slice.Eq.{bytes_eq-Decides}
use Rattle.spec_tree.specs.declared.cell.Naming.{Naming}
use Rattle.spec_tree.specs.declared.term.Tree.{Tree}
use Rattle.spec_world.specs.declared.world.World.{World}
use Rattle.spec_tree.specs.Boards.{Scope, Standing, keys_named, makes_scope, named_in, namings, namings_at, scope_below, standing, standing_from}
use Rattle.base_tables.specs.SlotTables.{scope_of}
use Rattle.spec_run.specs.Drivers.{DriverState}
use Rattle.spec_tree.specs.Terms.{leaf_ids}
use Rattle.base_tables.specs.Runnable.{IsRunnable, NodeRuns}
use Rattle.spec_tree.specs.Trees.{nodes_of}
use Rattle.tree_board.proofs.Sound.{main_leads, standings_make, standings_sound}
use Rattle.run_arena.proofs.Parts.{or_left, or_right}
use Rattle.spec_run.specs.Joins.{first_missing}
use Rattle.run_arena.specs.Laying.{CanBeLaid, StandsIn}

module _ (tree : Tree) where
  abbrev Has : List Naming → ℕ → List ℕ → Bool
  Has ns number key = list_any (λ (n : Naming). nat_eq n.number number && bytes_eq n.key key) ns

  here_named : (number : ℕ) (key : List ℕ) → nat_eq number number && bytes_eq key key ≡ true
  here_named number key = grind (arith, nat_tests, bytes_eq-Decides)

  front_by : (a b c : Bool) → a || b ≡ true → (b ≡ true → c ≡ true) → a || c ≡ true
  front_by true b c is more = refl
  front_by false b c is more = more is

  has_front : (xs ys : List Naming) (number : ℕ) (key : List ℕ) → Has xs number key ≡ true → Has (xs ++ ys) number key ≡ true
  has_front [] ys number key has = absurd (cc)
  has_front (x ∷ xs) ys number key has = front_by (nat_eq x.number number && bytes_eq x.key key) (Has xs number key) (Has (xs ++ ys) number key) has (has_front xs ys number key)

  has_following : (xs ys : List Naming) (number : ℕ) (key : List ℕ) → Has ys number key ≡ true → Has (xs ++ ys) number key ≡ true
  has_following [] ys number key has = has
  has_following (x ∷ xs) ys number key has = or_right (nat_eq x.number number && bytes_eq x.key key) _ (has_following xs ys number key has)

  -- each of these keys is among the namings made of them
  key_has : (number : ℕ) (scope : Scope) (keys : List (List ℕ)) (key : List ℕ) → Contains keys key → Has (map (named_in number scope) keys) number key ≡ true
  key_has number scope [] key has = absurd (omega (arith, has.1))
  key_has number scope (k ∷ keys) key has = elim (Contains-append_cases (k ∷ []) keys key has) [
    | inl here ↦
        let same : key ≡ k = All-contains (λ x. x ≡ k) (k ∷ []) key (All-cons (λ x. x ≡ k) k [] refl (All-nil (λ x. x ≡ k))) here in
        or_left (nat_eq number number && bytes_eq k key) (Has (map (named_in number scope) keys) number key) (subst (λ x. nat_eq number number && bytes_eq k x ≡ true) (sym same) (here_named number k))
    | inr there ↦ or_right (nat_eq number number && bytes_eq k key) _ (key_has number scope keys key there)
  ]

  -- each key of some nodes is among all namings, where the namings of these nodes are
  nodes_have : (nodes : List Standing) (all : List Naming) → ((number : ℕ) (key : List ℕ) → Has (flat_map namings_at nodes) number key ≡ true → Has all number key ≡ true)
      → AllByRecursion (λ node. All (λ key. Has all node.number key ≡ true) (keys_named node)) nodes
  nodes_have [] all among = tt
  nodes_have (node ∷ nodes) all among = (
    All-weaker (Contains (keys_named node)) (λ key. Has all node.number key ≡ true)
        (λ key has. among node.number key (has_front (namings_at node) (flat_map namings_at nodes) node.number key (has_front (map (named_in node.number node.scope) (keys_named node)) _ node.number key (key_has node.number node.scope (keys_named node) key has))))
        (keys_named node) (All-contains_itself (keys_named node)),
    nodes_have nodes all (λ number key has. among number key (has_following (namings_at node) (flat_map namings_at nodes) number key has)),
  )

  all_stand : (nodes : List Standing) → AllByRecursion (λ node. scope_of tree node.number ≡ node.scope) nodes
      → AllByRecursion (λ node. makes_scope node.kind ≡ true → scope_of tree node.uid ≡ scope_below node.uid node.ports node.autoremap node.scope) nodes
      → AllByRecursion (λ node. All (λ key. Has (namings tree) node.number key ≡ true) (keys_named node)) nodes → AllByRecursion (StandsIn tree) nodes
  all_stand [] scopes made named = tt
  all_stand (node ∷ nodes) scopes made named = (record { scope = scopes.0; made = made.0; named = named.0 }, all_stand nodes scopes.1 made.1 named.1)

  pub tree_stands : AllByRecursion (StandsIn tree) (standing tree)
  tree_stands = all_stand (standing tree) (standings_sound tree) (standings_make tree) (nodes_have (standing tree) (namings tree) (λ number key has. has))

  pub can_be_laid : (world : World) (drivers : List DriverState) → IsRunnable tree → first_missing world.rows drivers (leaf_ids tree.term) ≡ None → CanBeLaid tree world drivers (tree.term ∷ []) 1 0
  can_be_laid world drivers runnable none = record {
    stand = subst (λ (s : Scope). AllByRecursion (StandsIn tree) (standing_from tree.term 1 0 s ++ [])) (sym (main_leads tree)) (subst (AllByRecursion (StandsIn tree)) (sym (append-nil (standing tree))) tree_stands);
    fit = subst (AllByRecursion NodeRuns) (sym (append-nil (nodes_of tree.term))) runnable.fit;
    joined = ap (first_missing world.rows drivers) (append-nil (leaf_ids tree.term)) ∙ none;
  }
