-- Each raise brings a node nearer to the front: fewer nodes stand before it.
use Rattle.std.proofs.Common.{◌≡◌, ◌≢◌, ℕ, zero, suc, ◌+◌, ◌-◌, ◌<◌, ◌≤◌, ◌==◌, nat_eq, Bool, true, false, if◌then◌else◌, List, [], ◌∷◌, Option, Some, None, refl, ap, sym, ◌∙◌, subst, arith, inl, inr}
use Rattle.std.specs.Prelude.{option_map}
use Rattle.std.specs.List.{find}
use Rattle.std.specs.Option.{option_or, option_map_or}
use Rattle.spec_plan.specs.declared.part.Part.{Part}
use Rattle.spec_plan.specs.Forests.{Forest, Empty, Tree, Ancestor, Place, ancestors, count, place_of, times, total}
use Rattle.plan_tree.specs.Sizes.{size}
use Rattle.plan_tree.proofs.Counted.{changed_here, changed_other, chosen, is_other, is_same, one_of, one_other, one_same, skipped, test_other, test_same, tested, unchanged, zero_or}
use Rattle.plan_tree.proofs.Expansions.{node_found}
use Rattle.plan_tree.proofs.Places.{place_counts, placed}
use Rattle.plan_reorder.proofs.Whence.{first_place, other_place}
use Rattle.spec_plan.specs.Raising.{can_move, moved_in, raised, swap_at}
use Rattle.plan_reorder.proofs.Climbed.{moves_some}
use Rattle.plan_reorder.proofs.Listed.{find-append}
use Rattle.plan_reorder.proofs.Swaps.{total-moved, total-swap}

-- the nodes before a key, in pre-order
abbrev pub front : ℕ → Forest → ℕ
front k Empty = 0
front k (Tree key part below rest) =
    if key == k then 0 else (if nat_eq (times k below) 0 then 1 + (size below + front k rest) else 1 + front k below)

module _ (k key : ℕ) (part : Part) (below rest : Forest) where
  abbrev later : ℕ
  later = 1 + (size below + front k rest)

  abbrev lower : ℕ
  lower = 1 + front k below

  abbrev further : ℕ
  further = if nat_eq (times k below) 0 then later else lower

  front_here : key ≡ k → front k (Tree key part below rest) ≡ 0
  front_here is = chosen (nat_eq key k) 0 further (test_same key k is)

  front_below : key ≢ k → 1 ≤ times k below → front k (Tree key part below rest) ≡ 1 + front k below
  front_below differs has =
      skipped (nat_eq key k) 0 further (test_other key k differs)
      ∙ skipped (nat_eq (times k below) 0) later lower (test_other (times k below) 0 (λ e. absurd (omega (arith, has, e))))

  front_rest : key ≢ k → times k below ≡ 0 → front k (Tree key part below rest) ≡ 1 + (size below + front k rest)
  front_rest differs lacks =
      skipped (nat_eq key k) 0 further (test_other key k differs)
      ∙ chosen (nat_eq (times k below) 0) later lower (test_same (times k below) 0 lacks)

pub front_within : (k : ℕ) (f : Forest) → 1 ≤ times k f → front k f < size f
front_within k Empty has = absurd (omega (arith, has))
front_within k (Tree key part below rest) has = elim (tested key k) [
  | inl hit ↦ let e = front_here k key part below rest (is_same key k hit) in omega (arith, e)
  | inr miss ↦
      let differs = is_other key k miss in
      let none = one_other key k differs in
      elim (zero_or (times k below)) [
        | inl lacks ↦
            let e = front_rest k key part below rest differs lacks in
            let more = front_within k rest (omega (arith, has, none, lacks)) in
            omega (arith, e, more)
        | inr inside ↦
            let e = front_below k key part below rest differs inside in
            let more = front_within k below inside in
            omega (arith, e, more)
      ]
]

-- ---- Two neighbours change places

pair_nearer : (k a : ℕ) (x : Part) (below rest : Forest) → a ≢ k → times k below ≡ 0 → (q : Place) → place_of k rest ≡ Some q → count q.before ≡ 0 →
    front k (Tree a x below rest) ≡ 1 + (size below + front k rest) → front k (swap_at 0 (Tree a x below rest)) < front k (Tree a x below rest)
pair_nearer k a x below Empty differs lacks q found none own = absurd (cc found)
pair_nearer k a x below (Tree b y under others) differs lacks q found none own = elim (tested b k) [
  | inl hit ↦
      let now = front_here k b y under (Tree a x below others) (is_same b k hit) in
      omega (arith, now, own)
  | inr miss ↦
      let other = is_other b k miss in
      elim (other_place k b y under others q found other) [
        | inl i ↦
            let has = place_counts k under i.q i.found in
            let now = front_below k b y under (Tree a x below others) other has in
            let before = front_below k b y under others other has in
            omega (arith, now, before, own)
        | inr i ↦ let e = ap (λ (r : Place). count r.before) i.is in absurd (omega (arith, e, none))
      ]
]

later_nearer : (n k a : ℕ) (x : Part) (below rest : Forest) → a ≢ k → times k below ≡ 0 → (q : Place) → place_of k rest ≡ Some q → count q.before ≡ n →
    front k (Tree a x below rest) ≡ 1 + (size below + front k rest) → ((m : ℕ) → count q.before ≡ suc m → front k (swap_at m rest) < front k rest) →
    front k (swap_at n (Tree a x below rest)) < front k (Tree a x below rest)
later_nearer zero k a x below rest differs lacks q found many own nearer = pair_nearer k a x below rest differs lacks q found many own
later_nearer (suc n) k a x below rest differs lacks q found many own nearer =
    let less = nearer n many in
    let now = front_rest k a x below (swap_at n rest) differs lacks in
    omega (arith, less, now, own)

swap_nearer : (n k : ℕ) (f : Forest) (p : Place) → place_of k f ≡ Some p → count p.before ≡ suc n → front k (swap_at n f) < front k f
swap_nearer n k Empty p found many = absurd (cc found)
swap_nearer n k (Tree a x below rest) p found many = elim (tested a k) [
  | inl hit ↦ let e = ap (λ (q : Place). count q.before) (first_place k a x below rest p found (is_same a k hit)) in absurd (omega (arith, e, many))
  | inr miss ↦
      let differs = is_other a k miss in
      elim (other_place k a x below rest p found differs) [
        | inl i ↦ let e = ap (λ (q : Place). count q.before) i.is in absurd (omega (arith, e, many))
        | inr i ↦
            let e = ap (λ (q : Place). count q.before) i.is in
            later_nearer n k a x below rest differs i.lacks i.q i.found (omega (arith, e, many)) (front_rest k a x below rest differs i.lacks)
            (λ (m : ℕ) more. swap_nearer m k rest i.q i.found more)
      ]
]

-- ---- A raise

pub only_one : (own a : Ancestor) → find can_move (own ∷ []) ≡ Some a → (own ≡ a) × (can_move own ≡ true)
only_one own a e = elim (can_move own) as (λ (b : Bool). can_move own ≡ b → (if b then Some own else None) ≡ Some a → (own ≡ a) × (can_move own ≡ true)) [
  | true ↦ λ is e. (cc e, is)
  | false ↦ λ is e. absurd (cc e)
] refl e

pub in_above : (k : ℕ) (f : Forest) (p : Place) (a : Ancestor) → place_of k f ≡ Some p → find can_move p.above ≡ Some a → 1 ≤ times a.key f
in_above k Empty p a found moves = absurd (cc found)
in_above k (Tree key part below rest) p a found moves = elim (tested key k) [
  | inl hit ↦ let e = ap (λ (q : Place). find can_move q.above) (first_place k key part below rest p found (is_same key k hit)) in absurd (cc (e, moves))
  | inr miss ↦ elim (other_place k key part below rest p found (is_other key k miss)) [
    | inl i ↦
        let own : Ancestor = record { key = key; part = part; before = i.q.before } in
        let e : option_or (find can_move i.q.above) (find can_move (own ∷ [])) ≡ Some a =
        sym (find-append can_move i.q.above (own ∷ [])) ∙ ap (λ (q : Place). find can_move q.above) (sym i.is) ∙ moves in
        elim (find can_move i.q.above) as (λ (o : Option Ancestor). find can_move i.q.above ≡ o → option_or o (find can_move (own ∷ [])) ≡ Some a → 1 ≤ times a.key (Tree key part below rest)) [
          | Some b ↦ λ is e.
              let same : b ≡ a = cc e in
              let has = in_above k below i.q a i.found (is ∙ ap (λ (c : Ancestor). Some c) same) in
              omega (arith, has)
          | None ↦ λ is e.
              let at : key ≡ a.key = ap (λ (c : Ancestor). c.key) (only_one own a e).0 in
              let one = one_same key a.key at in
              omega (arith, one)
        ] refl e
    | inr i ↦
        let has = in_above k rest i.q a i.found (ap (λ (q : Place). find can_move q.above) (sym i.is) ∙ moves) in
        omega (arith, has)
  ]
]

module _ (k : ℕ) (a : Ancestor) where
  abbrev change : Part → Forest → Forest
  change part = swap_at (count a.before - 1)

  raise_nearer : (f : Forest) (p : Place) → ((j : ℕ) → times j f ≤ 1) → place_of k f ≡ Some p → find can_move p.above ≡ Some a → front k (moved_in a f) < front k f
  raise_nearer Empty p apart found moves = absurd (cc found)
  raise_nearer (Tree key part below rest) p apart found moves = elim (tested key k) [
    | inl hit ↦ let e = ap (λ (q : Place). find can_move q.above) (first_place k key part below rest p found (is_same key k hit)) in absurd (cc (e, moves))
    | inr miss ↦
        let differs = is_other key k miss in
        elim (other_place k key part below rest p found differs) [
          | inl i ↦
              let own : Ancestor = record { key = key; part = part; before = i.q.before } in
              let has = place_counts k below i.q i.found in
              let before = front_below k key part below rest differs has in
              let e : option_or (find can_move i.q.above) (find can_move (own ∷ [])) ≡ Some a =
              sym (find-append can_move i.q.above (own ∷ [])) ∙ ap (λ (q : Place). find can_move q.above) (sym i.is) ∙ moves in
              elim (find can_move i.q.above) as (λ (o : Option Ancestor). find can_move i.q.above ≡ o → option_or o (find can_move (own ∷ [])) ≡ Some a →
              front k (moved_in a (Tree key part below rest)) < front k (Tree key part below rest)) [
                | Some b ↦ λ is e.
                    let same : b ≡ a = cc e in
                    let first = is ∙ ap (λ (c : Ancestor). Some c) same in
                    let inside = in_above k below i.q a i.found first in
                    let once = apart a.key in
                    let apart_key : key ≢ a.key = λ at. absurd (omega (arith, once, inside, one_same key a.key at)) in
                    let lacks : times a.key rest ≡ 0 = omega (arith, once, inside) in
                    let one : times a.key below ≡ 1 = omega (arith, once, inside) in
                    let moved : moved_in a (Tree key part below rest) ≡ Tree key part (moved_in a below) rest =
                    changed_other a.key change key part below rest (test_other key a.key apart_key)
                    ∙ ap (λ (g : Forest). Tree key part (moved_in a below) g) (unchanged a.key change rest lacks) in
                    let nearer = raise_nearer below i.q (λ (j : ℕ). let few = apart j in omega (arith, few)) i.found first in
                    let still = total-moved (λ key x. one_of key k) a below one in
                    let after = front_below k key part (moved_in a below) rest differs (omega (arith, has, still)) in
                    subst (λ (g : Forest). front k g < front k (Tree key part below rest)) (sym moved) (omega (arith, after, before, nearer))
                | None ↦ λ is e.
                    let one = only_one own a e in
                    let at : key ≡ a.key = ap (λ (c : Ancestor). c.key) one.0 in
                    let same : count i.q.before ≡ count a.before = ap (λ (c : Ancestor). count c.before) one.0 in
                    let some = moves_some _ (count i.q.before) one.1 in
                    let moved : moved_in a (Tree key part below rest) ≡ Tree key part (swap_at (count a.before - 1) below) rest =
                    changed_here a.key change key part below rest (test_same key a.key at) in
                    let nearer = swap_nearer (count a.before - 1) k below i.q i.found (omega (arith, same, some)) in
                    let still = total-swap (λ key x. one_of key k) (count a.before - 1) below in
                    let after = front_below k key part (swap_at (count a.before - 1) below) rest differs (omega (arith, has, still)) in
                    subst (λ (g : Forest). front k g < front k (Tree key part below rest)) (sym moved) (omega (arith, after, before, nearer))
              ] refl e
          | inr i ↦
              let first = ap (λ (q : Place). find can_move q.above) (sym i.is) ∙ moves in
              let inside = in_above k rest i.q a i.found first in
              let once = apart a.key in
              let apart_key : key ≢ a.key = λ at. absurd (omega (arith, once, inside, one_same key a.key at)) in
              let lacks : times a.key below ≡ 0 = omega (arith, once, inside) in
              let moved : moved_in a (Tree key part below rest) ≡ Tree key part below (moved_in a rest) =
              changed_other a.key change key part below rest (test_other key a.key apart_key)
              ∙ ap (λ (g : Forest). Tree key part g (moved_in a rest)) (unchanged a.key change below lacks) in
              let nearer = raise_nearer rest i.q (λ (j : ℕ). let few = apart j in omega (arith, few)) i.found first in
              let before = front_rest k key part below rest differs i.lacks in
              let after = front_rest k key part below (moved_in a rest) differs i.lacks in
              subst (λ (g : Forest). front k g < front k (Tree key part below rest)) (sym moved) (omega (arith, after, before, nearer))
        ]
  ]

-- a node that is raised has fewer nodes before it
pub raised_nearer : (k : ℕ) (tree next : Forest) → ((j : ℕ) → times j tree ≤ 1) → 1 ≤ times k tree → raised k tree ≡ Some next → front k next < front k tree
raised_nearer k tree next apart has is =
    let node = node_found k tree has in
    let place = placed k tree node.0 node.1 in
    let above : ancestors k tree ≡ place.0.above = ap (λ (o : Option Place). option_map_or (λ (p : Place). p.above) o []) place.1 in
    let e : option_map (λ (a : Ancestor). moved_in a tree) (find can_move place.0.above) ≡ Some next =
    ap (λ (up : List Ancestor). option_map (λ (a : Ancestor). moved_in a tree) (find can_move up)) (sym above) ∙ is in
    elim (find can_move place.0.above) as (λ (o : Option Ancestor). find can_move place.0.above ≡ o → option_map (λ (a : Ancestor). moved_in a tree) o ≡ Some next → front k next < front k tree) [
      | Some a ↦ λ first e.
          let same : moved_in a tree ≡ next = cc e in
          subst (λ (g : Forest). front k g < front k tree) same (raise_nearer k a tree place.0 apart place.1 first)
      | None ↦ λ first e. absurd (cc e)
    ] refl e

-- a raise changes no sum
pub raised_many : (weight : ℕ → Part → ℕ) (k : ℕ) (tree next : Forest) → ((j : ℕ) → times j tree ≤ 1) → raised k tree ≡ Some next → total weight next ≡ total weight tree
raised_many weight k tree next apart is =
    elim (place_of k tree) as (λ (o : Option Place). place_of k tree ≡ o → option_map (λ (a : Ancestor). moved_in a tree) (find can_move (option_map_or (λ (p : Place). p.above) o [])) ≡ Some next → total weight next ≡ total weight tree) [
      | None ↦ λ found e. absurd (cc e)
      | Some p ↦ λ found e.
          elim (find can_move p.above) as (λ (o : Option Ancestor). find can_move p.above ≡ o → option_map (λ (a : Ancestor). moved_in a tree) o ≡ Some next → total weight next ≡ total weight tree) [
            | None ↦ λ first e. absurd (cc e)
            | Some a ↦ λ first e.
                let same : moved_in a tree ≡ next = cc e in
                let has = in_above k tree p a found first in
                let once = apart a.key in
                subst (λ (g : Forest). total weight g ≡ total weight tree) same (total-moved weight a tree (omega (arith, has, once)))
          ] refl e
    ] refl is

-- a raise is a move in some node
pub raised_is : (k : ℕ) (tree next : Forest) → raised k tree ≡ Some next → (a : Ancestor) × (moved_in a tree ≡ next)
raised_is k tree next is =
    elim (find can_move (ancestors k tree)) as (λ (o : Option Ancestor). option_map (λ (a : Ancestor). moved_in a tree) o ≡ Some next → (a : Ancestor) × (moved_in a tree ≡ next)) [
      | None ↦ λ e. absurd (cc e)
      | Some a ↦ λ e. (a, cc e)
    ] is
