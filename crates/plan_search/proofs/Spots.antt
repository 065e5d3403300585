-- The nodes of some trees, tree by tree, and which of them are marked.
use Rattle.std.proofs.Common.{◌≡◌, ℕ, ◌+◌, ◌-◌, ◌<◌, ◌≤◌, Bool, true, false, cond, if◌then◌else◌, List, [], ◌∷◌, ◌++◌, length, max, take, get_or, Option, Some, None, refl, ap, sym, ◌∙◌, arith, append_assoc, append-nil}
use Rattle.std.specs.List.{filter}
use Rattle.std.specs.Option.{option_to_list}
use Rattle.std.proofs.lemmas.List.{length-take, take_more}
use Rattle.std.proofs.lemmas.List.Elements.{filter-append}
use Rattle.slab.specs.Slab.{Slab, get}
use Rattle.plan_tree.specs.declared.node.Node.{Node}
use Rattle.spec_plan.specs.declared.part.Part.{Part}
use Rattle.spec_plan.specs.declared.part.Part.TheVariants.{Goals, Sequence, Fallback, Condition, Action}
use Rattle.spec_plan.specs.Forests.{Forest, Empty, Tree, joined}
use Rattle.plan_tree.specs.Sizes.{height}
use Rattle.plan_tree.specs.Stands.{Stands}
use Rattle.plan_tree.proofs.Split.{split_height, split_last, stands_none}
use Rattle.plan_tree.proofs.Walked.{below_node}
use Rattle.spec_plan.specs.declared.places.Place.{Place}
use Rattle.spec_plan.specs.declared.places.Spot.{Spot}
use Rattle.spec_plan.specs.Failing.{levels, own_place, places_from, spots_from}
use Rattle.plan_search.specs.Marked.{is_marked, marked_part, marked_place}

pub spots-joined : (level : ℕ) (f g : Forest) → spots_from level (joined f g) ≡ spots_from level f ++ spots_from level g
spots-joined level Empty g = refl
spots-joined level (Tree key part below rest) g =
    let own : Spot = record { key = key; part = part; level = level } in
    ap (λ (l : List Spot). own ∷ (spots_from (level + 1) below ++ l)) (spots-joined level rest g)
    ∙ ap (λ (l : List Spot). own ∷ l) (sym (append_assoc (spots_from (level + 1) below) (spots_from level rest) (spots_from level g)))

module _ (s : Slab Node) (keys : List ℕ) (i : ℕ) (within : i < length keys) (levels : ℕ) (some : 1 ≤ levels) (level : ℕ) (first items pushed now : List Spot)
    (before : (parent : Option ℕ) (f : Forest) → Stands s parent (take i keys) f → height f ≤ levels → items ≡ first ++ spots_from level f)
    (node : Node) (there : get s (get_or keys i 0) ≡ Some node)
    (pushed_is : pushed ≡ items ++ record { key = get_or keys i 0; part = node.part; level = level } ∷ [])
    (below_is : (parent : Option ℕ) (f : Forest) → Stands s parent node.children.items f → height f ≤ levels - 1 → now ≡ pushed ++ spots_from (level + 1) f)
  where
    -- one tree more
    pub next_spots : (parent : Option ℕ) (f : Forest) → Stands s parent (take (i + 1) keys) f → height f ≤ levels → now ≡ first ++ spots_from level f
    next_spots parent f stands low =
        let key = get_or keys i 0 in
        let split = split_last s parent keys i f within stands in
        let high = split_height s parent (take i keys) key [] f split in
        let e : split.keeps.node ≡ node = cc (split.keeps.there, there) in
        let own : split.part ≡ node.part = sym split.keeps.part_is ∙ ap (λ (n : Node). n.part) e in
        let left = before parent split.left split.stands_left (omega (arith, low, high)) in
        let below = below_is (Some key) split.below (below_node s keys i within node there parent (take i keys) [] f split) (omega (arith, low, high, some)) in
        let right : spots_from level split.right ≡ [] = ap (spots_from level) (stands_none s parent split.right split.stands_right) in
        let make : Part → Spot = λ part. record { key = key; part = part; level = level } in
        let lower = spots_from (level + 1) split.below in
        let before_it = spots_from level split.left in
        below ∙ ap (λ (l : List Spot). l ++ lower) pushed_is
        ∙ ap (λ (l : List Spot). (l ++ make node.part ∷ []) ++ lower) left
        ∙ ap (λ (p : Part). ((first ++ before_it) ++ make p ∷ []) ++ lower) (sym own)
        ∙ append_assoc (first ++ before_it) (make split.part ∷ []) lower
        ∙ append_assoc first before_it (make split.part ∷ lower)
        ∙ ap (λ (l : List Spot). first ++ (before_it ++ make split.part ∷ l)) (sym (append-nil lower))
        ∙ ap (λ (l : List Spot). first ++ (before_it ++ make split.part ∷ (lower ++ l))) (sym right)
        ∙ ap (λ (l : List Spot). first ++ l) (sym (spots-joined level split.left (Tree key split.part split.below split.right)))
        ∙ ap (λ (g : Forest). first ++ spots_from level g) (sym split.is)

-- ---- Marks

pub places-append : (uid : ℕ) (xs ys : List Spot) → places_from uid (xs ++ ys) ≡ places_from uid xs ++ places_from (uid + length xs) ys
places-append uid [] ys = ap (λ (n : ℕ). places_from n ys) (omega arith)
places-append uid (x ∷ xs) ys =
    ap (λ (l : List Place). own_place uid x.key x.level x.part ++ l) (places-append (uid + 1) xs ys)
    ∙ sym (append_assoc (own_place uid x.key x.level x.part) (places_from (uid + 1) xs) (places_from (uid + 1 + length xs) ys))
    ∙ ap (λ (n : ℕ). (own_place uid x.key x.level x.part ++ places_from (uid + 1) xs) ++ places_from n ys) (omega arith)

module _ (marks : List Bool) where
  abbrev test : Place → Bool
  test c = is_marked marks c.uid

  own_marked : (uid key level : ℕ) (part : Part) → filter test (own_place uid key level part ++ []) ≡ option_to_list (marked_part (is_marked marks uid) uid key level part)
  own_marked uid key level (Condition row) =
      let c : Place = record { key = key; uid = uid; row = row; level = level } in
      elim (is_marked marks uid) as (λ (b : Bool). cond b (c ∷ []) [] ≡ option_to_list (if b then Some c else None)) [ true ↦ refl | false ↦ refl ]
  own_marked uid key level Goals = refl
  own_marked uid key level (Sequence row) = refl
  own_marked uid key level Fallback = refl
  own_marked uid key level (Action row) = refl

  -- the marked conditions of one node more
  pub marked_more : (spots : List Spot) (i : ℕ) (d : Spot) → i < length spots → filter test (places_from 1 (take (i + 1) spots)) ≡ filter test (places_from 1 (take i spots)) ++ option_to_list (marked_place marks (i + 1) (get_or spots i d))
  marked_more spots i d within =
      let x = get_or spots i d in
      let many : length (take i spots) ≡ i = length-take i spots ∙ omega (arith, within) in
      ap (λ (l : List Spot). filter test (places_from 1 l)) (take_more spots i d within)
      ∙ ap (filter test) (places-append 1 (take i spots) (x ∷ []))
      ∙ filter-append test (places_from 1 (take i spots)) (places_from (1 + length (take i spots)) (x ∷ []))
      ∙ ap (λ (n : ℕ). filter test (places_from 1 (take i spots)) ++ filter test (places_from n (x ∷ []))) (omega (arith, many))
      ∙ ap (λ (l : List Place). filter test (places_from 1 (take i spots)) ++ l) (own_marked (i + 1) x.key x.level x.part)

-- ---- Levels

levels-last : (places : List Place) (c : Place) → levels (places ++ c ∷ []) ≡ max (levels places) (c.level + 1)
levels-last [] c = omega arith
levels-last (x ∷ places) c = let more = levels-last places c in omega (arith, more)

pub levels_more : (places : List Place) (i : ℕ) (d : Place) → i < length places → levels (take (i + 1) places) ≡ max (levels (take i places)) ((get_or places i d).level + 1)
levels_more places i d within = ap levels (take_more places i d within) ∙ levels-last (take i places) (get_or places i d)
