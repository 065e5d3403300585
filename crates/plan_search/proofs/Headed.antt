-- Each child of the root of a plan tree begins with a condition: it is one, or a fallback whose first child begins with one.
-- So it is in the first tree, and expansions and raises keep it so.
use Rattle.std.proofs.Common.{◌≡◌, inl, inr, ℕ, zero, suc, ◌-◌, ◌≤◌, ◌==◌, ◌&&◌, nat_lt, Bool, true, List, [], ◌∷◌, map, Option, Some, None, refl, sym, ap, subst, ◌∙◌, arith}
use Rattle.std.specs.Prelude.{option_map}
use Rattle.std.specs.List.{AllByRecursion, find}
use Rattle.std.specs.Option.{option_or, option_map_or}
use Rattle.std.proofs.lemmas.Bool.{cond_both}
use Rattle.spec_world.specs.declared.world.Row.{Row}
use Rattle.spec_plan.specs.declared.part.Part.{Part}
use Rattle.spec_plan.specs.declared.part.Part.TheVariants.{Goals, Sequence, Fallback, Condition, Action}
use Rattle.spec_plan.specs.Expansion.{NewKeys, expanded, expanded_below, goal_tree, grown, leaves, new_sequence, wrapped}
use Rattle.spec_plan.specs.Forests.{Forest, Empty, Tree, Ancestor, Place, ancestors, changed_below, count, is_sequence, joined, place_of, times}
use Rattle.spec_plan.specs.Raising.{can_move, moved_in, raised, swap_at}
use Rattle.plan_tree.proofs.Counted.{is_other, is_same, lacks_below, lacks_here, lacks_rest, one_same, tested}
use Rattle.plan_reorder.proofs.Listed.{find-append}
use Rattle.plan_reorder.proofs.Whence.{first_place, other_place}
use Rattle.plan_search.proofs.Nearer.{in_above, only_one}

-- ---- Nodes that a raise changes

-- each node of a forest is so, by its key and by what it is
abbrev pub Nodes : (ℕ → Part → Type 0) → Forest → Type 0
Nodes N Empty = Unit {0}
Nodes N (Tree key part below rest) = N key part × Nodes N below × Nodes N rest

all_nodes : (N : ℕ → Part → Type 0) → ((key : ℕ) (part : Part) → N key part) → (f : Forest) → Nodes N f
all_nodes N each Empty = tt
all_nodes N each (Tree key part below rest) = (each key part, all_nodes N each below, all_nodes N each rest)

-- no fallback has this key
abbrev pub IsOther : ℕ → ℕ → Part → Type 0
IsOther k key part = key ≡ k → part ≡ Fallback → ⊥

lacks_fallback : (k : ℕ) (f : Forest) → times k f ≡ 0 → Nodes (IsOther k) f
lacks_fallback k Empty none = tt
lacks_fallback k (Tree key part below rest) none = (
  λ here fallback. absurd (lacks_here k key part below rest none here),
  lacks_fallback k below (lacks_below k key part below rest none),
  lacks_fallback k rest (lacks_rest k key part below rest none),
)

no_sequence : (part : Part) (more : Bool) → (is_sequence part && more) ≡ true → part ≡ Fallback → ⊥
no_sequence Fallback more moves is = cc moves
no_sequence Goals more moves is = cc is
no_sequence (Sequence row) more moves is = cc is
no_sequence (Condition row) more moves is = cc is
no_sequence (Action row) more moves is = cc is

-- where a raise changes something, there is no fallback
moves_no_fallback : (k : ℕ) (f : Forest) (p : Place) (a : Ancestor) → ((j : ℕ) → times j f ≤ 1) → place_of k f ≡ Some p → find can_move p.above ≡ Some a → Nodes (IsOther a.key) f
moves_no_fallback k Empty p a apart found moves = tt
moves_no_fallback k (Tree key part below rest) p a apart found moves = elim (tested key k) [
  | inl hit ↦ let e = ap (λ (q : Place). find can_move q.above) (first_place k key part below rest p found (is_same key k hit)) in absurd (cc (e, moves))
  | inr miss ↦ elim (other_place k key part below rest p found (is_other key k miss)) [
    | inl i ↦
        let own : Ancestor = record { key = key; part = part; before = i.q.before } in
        let e : option_or (find can_move i.q.above) (find can_move (own ∷ [])) ≡ Some a =
        sym (find-append can_move i.q.above (own ∷ [])) ∙ ap (λ (q : Place). find can_move q.above) (sym i.is) ∙ moves in
        elim (find can_move i.q.above) as (λ (o : Option Ancestor). find can_move i.q.above ≡ o → option_or o (find can_move (own ∷ [])) ≡ Some a → Nodes (IsOther a.key) (Tree key part below rest)) [
          | Some b ↦ λ is e.
              let same : b ≡ a = cc e in
              let first = is ∙ ap (λ (c : Ancestor). Some c) same in
              let inside = in_above k below i.q a i.found first in
              let once = apart a.key in (
                λ at fallback. absurd (omega (arith, once, inside, one_same key a.key at)),
                moves_no_fallback k below i.q a (λ (j : ℕ). let few = apart j in omega (arith, few)) i.found first,
                lacks_fallback a.key rest (omega (arith, once, inside)),
              )
          | None ↦ λ is e.
              let one = only_one own a e in
              let at : key ≡ a.key = ap (λ (c : Ancestor). c.key) one.0 in
              let once = apart a.key in
              let here = one_same key a.key at in (
                λ same fallback. no_sequence part (nat_lt 0 (count i.q.before)) one.1 fallback,
                lacks_fallback a.key below (omega (arith, once, here)),
                lacks_fallback a.key rest (omega (arith, once, here)),
              )
        ] refl e
    | inr i ↦
        let first = ap (λ (q : Place). find can_move q.above) (sym i.is) ∙ moves in
        let inside = in_above k rest i.q a i.found first in
        let once = apart a.key in (
          λ at fallback. absurd (omega (arith, once, inside, one_same key a.key at)),
          lacks_fallback a.key below (omega (arith, once, inside)),
          moves_no_fallback k rest i.q a (λ (j : ℕ). let few = apart j in omega (arith, few)) i.found first,
        )
  ]
]

module _ (R : ℕ → Type 0) where
  -- a node is a condition of such a row, or a fallback below which this holds
  abbrev pub Leads : Part → Type 0 → Type 0
  Leads (Condition row) lower = R row
  Leads Fallback lower = lower
  Leads _ lower = ⊥

  -- the first tree begins with a condition
  abbrev pub IsLed : Forest → Type 0
  IsLed Empty = ⊥
  IsLed (Tree key part below rest) = Leads part (IsLed below)

  -- .. and so does each tree
  abbrev pub AreLed : Forest → Type 0
  AreLed Empty = Unit {0}
  AreLed (Tree key part below rest) = Leads part (IsLed below) × AreLed rest

  -- a sequence of goals below which each tree begins with a condition
  pub record IsLedTree (f : Forest) : Type 0 where
    pub root : ℕ
    pub below : Forest
    pub is : f ≡ Tree root Goals below Empty
    pub led : AreLed below

  leads_as : (part : Part) (A B : Type 0) → (A → B) → Leads part A → Leads part B
  leads_as (Condition row) A B go own = own
  leads_as Fallback A B go own = go own
  leads_as Goals A B go own = absurd own
  leads_as (Sequence row) A B go own = absurd own
  leads_as (Action row) A B go own = absurd own

  -- ---- The first tree

  goals_led : (keys goals : List ℕ) → AllByRecursion R goals → AreLed (leaves keys (map Condition goals))
  goals_led [] goals all = tt
  goals_led (key ∷ keys) [] all = tt
  goals_led (key ∷ keys) (goal ∷ goals) all = (all.0, goals_led keys goals all.1)

  pub first_led : (root : ℕ) (keys goals : List ℕ) → AllByRecursion R goals → IsLedTree (goal_tree root keys goals)
  first_led root keys goals all = record { root = root; below = leaves keys (map Condition goals); is = refl; led = goals_led keys goals all }

  -- ---- Changes below a node

  module _ (k : ℕ) (change : Part → Forest → Forest) (N : ℕ → Part → Type 0) (each : (key : ℕ) (part : Part) (f : Forest) → key ≡ k → N key part → Leads part (IsLed f) → Leads part (IsLed (change part f))) where
    changed_first : (f : Forest) → Nodes N f → IsLed f → IsLed (changed_below k change f)
    changed_first Empty nodes led = led
    changed_first (Tree key part below rest) nodes led =
        cond_both (key == k) (Tree key part (change part below) rest) (Tree key part (changed_below k change below) (changed_below k change rest)) (λ f. IsLed f)
        (λ hit. each key part below (is_same key k hit) nodes.0 led)
        (λ _. leads_as part (IsLed below) (IsLed (changed_below k change below)) (changed_first below nodes.1) led)

    changed_each : (f : Forest) → Nodes N f → AreLed f → AreLed (changed_below k change f)
    changed_each Empty nodes led = tt
    changed_each (Tree key part below rest) nodes led =
        cond_both (key == k) (Tree key part (change part below) rest) (Tree key part (changed_below k change below) (changed_below k change rest)) (λ f. AreLed f)
        (λ hit. (each key part below (is_same key k hit) nodes.0 led.0, led.1))
        (λ _. (leads_as part (IsLed below) (IsLed (changed_below k change below)) (changed_first below nodes.1) led.0, changed_each rest nodes.2 led.1))

    changed_tree : (root : ℕ) (below : Forest) → Nodes N below → AreLed below → AreLed (change Goals below) → IsLedTree (changed_below k change (Tree root Goals below Empty))
    changed_tree root below nodes led goals =
        cond_both (root == k) (Tree root Goals (change Goals below) Empty) (Tree root Goals (changed_below k change below) Empty) (λ f. IsLedTree f)
        (λ _. record { root = root; below = change Goals below; is = refl; led = goals })
        (λ _. record { root = root; below = changed_below k change below; is = refl; led = changed_each below nodes led })

  -- ---- Expansions

  module _ (k fallback : ℕ) (new : Forest) where
    joined_led : (f : Forest) → IsLed f → IsLed (joined f new)
    joined_led Empty led = absurd led
    joined_led (Tree key part below rest) led = led

    grown_led : (part : Part) (f : Forest) → Leads part (IsLed f) → Leads part (IsLed (grown part k fallback new f))
    grown_led (Condition row) f led = led
    grown_led Fallback f led = joined_led f led
    grown_led Goals f led = absurd led
    grown_led (Sequence row) f led = absurd led
    grown_led (Action row) f led = absurd led

    wrapped_led : (f : Forest) → AreLed f → AreLed (wrapped k fallback new f)
    wrapped_led Empty led = tt
    wrapped_led (Tree key part below rest) led =
        cond_both (key == k) (Tree fallback Fallback (Tree key part below new) rest) (Tree key part below (wrapped k fallback new rest)) (λ f. AreLed f)
        (λ _. (led.0, led.1)) (λ _. (led.0, wrapped_led rest led.1))

    above_led : (above : List Ancestor) (root : ℕ) (below : Forest) → AreLed below → IsLedTree (expanded_below above k fallback new (Tree root Goals below Empty))
    above_led [] root below led = record { root = root; below = below; is = refl; led = led }
    above_led (parent ∷ outer) root below led =
        changed_tree parent.key (λ part. grown part k fallback new) (λ key part. Unit {0}) (λ key part f at any own. grown_led part f own) root below (all_nodes (λ key part. Unit {0}) (λ key part. tt) below) led (wrapped_led below led)

  -- the tree after an expansion
  pub expanded_led : (rows : List Row) (keys : NewKeys) (k row : ℕ) (f : Forest) → IsLedTree f → IsLedTree (expanded rows keys k row f)
  expanded_led rows keys k row f led =
      subst (λ (g : Forest). IsLedTree (expanded_below (ancestors k f) k keys.fallback (new_sequence rows keys row) g)) (sym led.is)
      (above_led k keys.fallback (new_sequence rows keys row) (ancestors k f) led.root led.below led.led)

  -- ---- Raises

  swap_led : (place : ℕ) (f : Forest) → AreLed f → AreLed (swap_at place f)
  swap_led zero (Tree a x below (Tree b y under rest)) led = (led.1.0, (led.0, led.1.1))
  swap_led (suc place) (Tree a x below rest) led = (led.0, swap_led place rest led.1)
  swap_led place f led = led

  not_swapped : (k key : ℕ) (part : Part) (A B : Type 0) → key ≡ k → IsOther k key part → Leads part A → Leads part B
  not_swapped k key (Condition row) A B at other own = own
  not_swapped k key Fallback A B at other own = absurd (other at refl)
  not_swapped k key Goals A B at other own = absurd own
  not_swapped k key (Sequence row) A B at other own = absurd own
  not_swapped k key (Action row) A B at other own = absurd own

  moved_led : (a : Ancestor) (f : Forest) → Nodes (IsOther a.key) f → IsLedTree f → IsLedTree (moved_in a f)
  moved_led a f nodes led =
      let change : Part → Forest → Forest = λ part. swap_at (count a.before - 1) in
      let inner : Nodes (IsOther a.key) led.below = (subst (Nodes (IsOther a.key)) led.is nodes).1 in
      subst (λ (g : Forest). IsLedTree (changed_below a.key (λ part. swap_at (count a.before - 1)) g)) (sym led.is)
      (changed_tree a.key (λ part. swap_at (count a.before - 1)) (IsOther a.key)
      (λ key part g at other own. not_swapped a.key key part (IsLed g) (IsLed (swap_at (count a.before - 1) g)) at other own) led.root led.below inner led.led (swap_led (count a.before - 1) led.below led.led))

  -- the tree after a raise
  pub raised_led : (k : ℕ) (f next : Forest) → ((j : ℕ) → times j f ≤ 1) → IsLedTree f → raised k f ≡ Some next → IsLedTree next
  raised_led k f next apart led is =
      elim (place_of k f) as (λ (o : Option Place). place_of k f ≡ o → option_map (λ (a : Ancestor). moved_in a f) (find can_move (option_map_or (λ (p : Place). p.above) o [])) ≡ Some next → IsLedTree next) [
        | None ↦ λ found e. absurd (cc e)
        | Some p ↦ λ found e.
            elim (find can_move p.above) as (λ (o : Option Ancestor). find can_move p.above ≡ o → option_map (λ (a : Ancestor). moved_in a f) o ≡ Some next → IsLedTree next) [
              | None ↦ λ first e. absurd (cc e)
              | Some a ↦ λ first e.
                  let same : moved_in a f ≡ next = cc e in
                  subst IsLedTree same (moved_led a f (moves_no_fallback k f p a apart found first) led)
            ] refl e
      ] refl is
