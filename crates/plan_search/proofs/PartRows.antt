-- What holds of the rows of the goals, and of the rows of each action that is added and of what it needs, holds of the rows
-- of all plan trees.
use Rattle.std.proofs.Common.{◌≡◌, ℕ, zero, suc, ◌-◌, ◌==◌, List, [], ◌∷◌, ◌++◌, map, Option, Some, None, subst}
use Rattle.std.specs.Prelude.{option_map}
use Rattle.std.specs.List.{AllByRecursion, find}
use Rattle.std.proofs.lemmas.Bool.{cond_both}
use Rattle.spec_world.specs.declared.world.Row.{Row}
use Rattle.spec_plan.specs.declared.part.Part.{Part}
use Rattle.spec_plan.specs.declared.part.Part.TheVariants.{Fallback, Condition, Action}
use Rattle.spec_plan.specs.Expansion.{NewKeys, expanded, expanded_below, goal_tree, grown, leaves, new_sequence, wrapped}
use Rattle.spec_plan.specs.Forests.{Forest, Empty, Tree, Ancestor, ancestors, changed_below, count, joined}
use Rattle.spec_plan.specs.Achievers.{needs_of}
use Rattle.spec_plan.specs.Raising.{can_move, moved_in, raised, swap_at}

module _ (R : ℕ → Type 0) where
  -- the row of a condition or of an action
  abbrev pub OfRow : Part → Type 0
  OfRow (Condition row) = R row
  OfRow (Action row) = R row
  OfRow _ = Unit {0}

  -- the rows of all conditions and actions of a forest
  abbrev pub OfRows : Forest → Type 0
  OfRows Empty = Unit {0}
  OfRows (Tree key part below rest) = OfRow part × OfRows below × OfRows rest

  -- ---- New nodes

  leaves_of : (keys : List ℕ) (parts : List Part) → AllByRecursion OfRow parts → OfRows (leaves keys parts)
  leaves_of [] parts all = tt
  leaves_of (key ∷ keys) [] all = tt
  leaves_of (key ∷ keys) (part ∷ parts) all = (all.0, tt, leaves_of keys parts all.1)

  conditions_of : (rows : List ℕ) → AllByRecursion R rows → AllByRecursion OfRow (map Condition rows)
  conditions_of [] all = tt
  conditions_of (row ∷ rows) all = (all.0, conditions_of rows all.1)

  one_more : (parts : List Part) (part : Part) → AllByRecursion OfRow parts → OfRow part → AllByRecursion OfRow (parts ++ part ∷ [])
  one_more [] part all own = (own, tt)
  one_more (first ∷ parts) part all own = (all.0, one_more parts part all.1 own)

  -- the first plan tree
  pub goals_of : (root : ℕ) (keys goals : List ℕ) → AllByRecursion R goals → OfRows (goal_tree root keys goals)
  goals_of root keys goals all = (tt, leaves_of keys (map Condition goals) (conditions_of goals all), tt)

  -- ---- Expansions

  joined_of : (f g : Forest) → OfRows f → OfRows g → OfRows (joined f g)
  joined_of Empty g own more = more
  joined_of (Tree key part below rest) g own more = (own.0, own.1, joined_of rest g own.2 more)

  wrapped_of : (k fallback : ℕ) (new f : Forest) → OfRows new → OfRows f → OfRows (wrapped k fallback new f)
  wrapped_of k fallback new Empty more own = tt
  wrapped_of k fallback new (Tree key part below rest) more own =
      cond_both (key == k) (Tree fallback Fallback (Tree key part below new) rest) (Tree key part below (wrapped k fallback new rest)) (λ f. OfRows f)
      (λ _. (tt, (own.0, own.1, more), own.2)) (λ _. (own.0, own.1, wrapped_of k fallback new rest more own.2))

  changed_of : (k : ℕ) (change : Part → Forest → Forest) → ((part : Part) (below : Forest) → OfRows below → OfRows (change part below)) → (f : Forest) → OfRows f → OfRows (changed_below k change f)
  changed_of k change each Empty own = tt
  changed_of k change each (Tree key part below rest) own =
      cond_both (key == k) (Tree key part (change part below) rest) (Tree key part (changed_below k change below) (changed_below k change rest)) (λ f. OfRows f)
      (λ _. (own.0, each part below own.1, own.2)) (λ _. (own.0, changed_of k change each below own.1, changed_of k change each rest own.2))

  grown_of : (part : Part) (k fallback : ℕ) (new f : Forest) → OfRows new → OfRows f → OfRows (grown part k fallback new f)
  grown_of Fallback k fallback new f more own = joined_of f new own more
  grown_of _ k fallback new f more own = wrapped_of k fallback new f more own

  above_of : (above : List Ancestor) (k fallback : ℕ) (new f : Forest) → OfRows new → OfRows f → OfRows (expanded_below above k fallback new f)
  above_of [] k fallback new f more own = own
  above_of (parent ∷ outer) k fallback new f more own = changed_of parent.key (λ part. grown part k fallback new) (λ part below. grown_of part k fallback new below more) f own

  -- the tree after an expansion
  pub expanded_of : (rows : List Row) (keys : NewKeys) (k row : ℕ) (f : Forest) → AllByRecursion R (needs_of rows row) → R row → OfRows f → OfRows (expanded rows keys k row f)
  expanded_of rows keys k row f needs own all =
      above_of (ancestors k f) k keys.fallback (new_sequence rows keys row) f
      (tt, leaves_of keys.leaves (map Condition (needs_of rows row) ++ Action row ∷ []) (one_more (map Condition (needs_of rows row)) (Action row) (conditions_of (needs_of rows row) needs) own), tt) all

  -- ---- Raises

  swap_of : (place : ℕ) (f : Forest) → OfRows f → OfRows (swap_at place f)
  swap_of zero (Tree a x below (Tree b y under rest)) own = (own.2.0, own.2.1, (own.0, own.1, own.2.2))
  swap_of (suc place) (Tree a x below rest) own = (own.0, own.1, swap_of place rest own.2)
  swap_of place f own = own

  -- the tree after a raise
  pub raised_of : (k : ℕ) (f next : Forest) → OfRows f → raised k f ≡ Some next → OfRows next
  raised_of k f next own is =
      elim (find can_move (ancestors k f)) as (λ (o : Option Ancestor). option_map (λ (a : Ancestor). moved_in a f) o ≡ Some next → OfRows next) [
        | None ↦ λ e. absurd (cc e)
        | Some a ↦ λ e.
            let same : moved_in a f ≡ next = cc e in
            subst OfRows same (changed_of a.key (λ part. swap_at (count a.before - 1)) (λ part below. swap_of (count a.before - 1) below) f own)
      ] is
