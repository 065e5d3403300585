-- How many instances each driver needs, as the nodes of an arena show it.
use Rattle.std.proofs.Common.{◌≡◌, ℕ, zero, suc, ◌+◌, ◌*◌, ◌<◌, List, [], ◌∷◌, Bool, true, false, length, get_or, take, refl, sym, ap, ◌∙◌, arith}
use Rattle.std.proofs.lemmas.List.{get_or_default, same_lists}
use Rattle.std.proofs.lemmas.List.Sums.{count_by_more_no, count_by_more_yes}
use Rattle.std.proofs.Math.Nat.{mul-add, mul-one}
use Rattle.spec_tree.specs.declared.term.Tree.{Tree}
use Rattle.spec_world.specs.declared.world.World.{World}
use Rattle.spec_run.specs.Drivers.{DriverState}
use Rattle.spec_tree.specs.Terms.{leaf_ids}
use Rattle.run_arena.specs.declared.arena.Arena.{Arena}
use Rattle.spec_run.specs.Joins.{leaves_served}
use Rattle.run_arena.specs.Made.{IsArenaOf}
use Rattle.run_arena.specs.declared.nodes.Node.{Node}
use Rattle.run_arena.specs.Rosters.{is_served_at, served}
use Rattle.spec_run.specs.Served.{instances_wanted, wanted_from}

module _ (tree : Tree) (world : World) (drivers : List DriverState) where
  abbrev needed : ℕ → ℕ
  needed place = world.runners * leaves_served world.rows drivers place (leaf_ids tree.term)

  from_length : (place : ℕ) (ds : List DriverState) → length (wanted_from tree world drivers place ds) ≡ length ds
  from_length place [] = refl
  from_length place (d ∷ ds) = ap suc (from_length (place + 1) ds)

  from_at : (place : ℕ) (ds : List DriverState) (p : ℕ) → p < length ds → get_or (wanted_from tree world drivers place ds) p 0 ≡ needed (place + p)
  from_at place [] p low = absurd (omega (arith, low))
  from_at place (d ∷ ds) zero low = let same : place ≡ place + 0 = omega arith in ap needed same
  from_at place (d ∷ ds) (suc p) low = let same : place + 1 + p ≡ place + suc p = omega arith in from_at (place + 1) ds p (omega (arith, low)) ∙ ap needed same

  pub wanted_length : length (instances_wanted tree world drivers) ≡ length drivers
  wanted_length = from_length 0 drivers

  pub wanted_at : (place : ℕ) → place < length drivers → get_or (instances_wanted tree world drivers) place 0 ≡ needed place
  wanted_at place low = let same : 0 + place ≡ place = omega arith in from_at 0 drivers place low ∙ ap needed same

  -- counts are those wanted, where each is the number of runners times the leaves that the tree has for the driver
  pub counts_are_wanted : (counts : List ℕ) → length counts ≡ length drivers → ((place : ℕ) → place < length drivers → get_or counts place 0 ≡ needed place) → counts ≡ instances_wanted tree world drivers
  counts_are_wanted counts places are =
      same_lists counts (instances_wanted tree world drivers) (omega (arith, places, wanted_length))
      (λ place d low.
      let there : place < length drivers = omega (arith, low, places) in
      get_or_default counts place d 0 low
      ∙ are place there
      ∙ sym (wanted_at place there)
      ∙ sym (get_or_default (instances_wanted tree world drivers) place d 0 (omega (arith, there, wanted_length))))

  -- counts are those wanted, where each is the number of runners times the leaves that an arena has for the driver
  pub arena_counts_are_wanted : (number : ℕ) (arena : Arena) → IsArenaOf tree world drivers number arena → (counts : List ℕ) → length counts ≡ length drivers →
      ((place : ℕ) → place < length drivers → get_or counts place 0 ≡ world.runners * served place arena.nodes.items) → counts ≡ instances_wanted tree world drivers
  arena_counts_are_wanted number arena is counts places are =
      counts_are_wanted counts places (λ place low. are place low ∙ ap (λ n. world.runners * n) (is.serves place low))

  -- what is wanted of a driver, by the leaves of an arena
  pub wanted_of_arena : (number : ℕ) (arena : Arena) → IsArenaOf tree world drivers number arena → (place : ℕ) → place < length drivers →
      get_or (instances_wanted tree world drivers) place 0 ≡ world.runners * served place arena.nodes.items
  wanted_of_arena number arena is place low = wanted_at place low ∙ ap (λ n. world.runners * n) (sym (is.serves place low))

-- ---- The leaves of the nodes so far

module _ (nodes : List Node) (i runners place : ℕ) (node : Node) (low : i < length nodes) (here : node ≡ get_or nodes i node)
    (before after : ℕ) (so_far : before ≡ runners * served place (take i nodes)) where
  abbrev pub is_own : Node → Bool
  is_own n = is_served_at place n.leaf

  one_more : runners * served place (take i nodes) + runners ≡ runners * (served place (take i nodes) + 1)
  one_more = ap (λ m. runners * served place (take i nodes) + m) (sym (mul-one runners)) ∙ sym (mul-add runners (served place (take i nodes)) 1)

  -- one more node is counted
  pub count_next : (own : Bool) → is_own node ≡ own → (is_own node ≡ true → after ≡ before + runners) → (is_own node ≡ false → after ≡ before) →
      after ≡ runners * served place (take (i + 1) nodes)
  count_next true is more same =
      more is
      ∙ ap (λ n. n + runners) so_far
      ∙ one_more
      ∙ ap (λ n. runners * n) (sym (count_by_more_yes is_own nodes i node low (ap is_own (sym here) ∙ is)))
  count_next false is more same =
      same is
      ∙ so_far
      ∙ ap (λ n. runners * n) (sym (count_by_more_no is_own nodes i node low (ap is_own (sym here) ∙ is)))
