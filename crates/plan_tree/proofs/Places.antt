-- Where keys stand in a forest, and how the slab leads from a node to the one above it.
use Rattle.std.proofs.Common.{◌≡◌, ◌≢◌, ℕ, ◌≤◌, nat_eq, true, false, List, [], ◌∷◌, ◌++◌, Option, Some, None, refl, ap, sym, ◌∙◌, subst, arith, inl, inr}
use Rattle.std.specs.Prelude.{option_map}
use Rattle.std.specs.Option.{option_or}
use Rattle.std.proofs.lemmas.Bool.Decides.{nat_tests}
use Rattle.slab.specs.Slab.{Slab}
use Rattle.plan_tree.specs.declared.node.Node.{Node}
use Rattle.spec_plan.specs.declared.part.Part.{Part}
use Rattle.spec_plan.specs.Forests.{Forest, Empty, Tree, Ancestor, Place, after_first, below_first, node_at, place_of, times}
use Rattle.plan_tree.specs.Sizes.{tops}
use Rattle.plan_tree.specs.Stands.{Keeps, Stands}
use Rattle.plan_tree.proofs.Counted.{chosen, is_same, lacks_below, lacks_here, lacks_rest, one_same, only_here, skipped, test_other, tested, zero_or}

-- what the first tree gives, or else the others
abbrev next_place : ℕ → ℕ → Part → Forest → Forest → Option Place
next_place k key part below rest = option_or (option_map (below_first key part) (place_of k below)) (option_map (after_first key part below) (place_of k rest))

abbrev here : Place
here = record { before = Empty; above = [] }

module _ (k key : ℕ) (part : Part) (below rest : Forest) where
  place_here : nat_eq key k ≡ true → place_of k (Tree key part below rest) ≡ Some here
  place_here hit = chosen (nat_eq key k) (Some here) (next_place k key part below rest) hit

  place_other : nat_eq key k ≡ false → place_of k (Tree key part below rest) ≡ next_place k key part below rest
  place_other miss = skipped (nat_eq key k) (Some here) (next_place k key part below rest) miss

pub no_place : (k : ℕ) (f : Forest) → times k f ≡ 0 → place_of k f ≡ None
no_place k Empty lacks = refl
no_place k (Tree key part below rest) lacks =
    let lower = no_place k below (lacks_below k key part below rest lacks) in
    let later = no_place k rest (lacks_rest k key part below rest lacks) in
    place_other k key part below rest (test_other key k (lacks_here k key part below rest lacks))
    ∙ ap (λ (o : Option Place). option_or (option_map (below_first key part) o) (option_map (after_first key part below) (place_of k rest))) lower
    ∙ ap (λ (o : Option Place). option_map (after_first key part below) o) later

-- a key that has a place is one of the forest's
pub place_counts : (k : ℕ) (f : Forest) (place : Place) → place_of k f ≡ Some place → 1 ≤ times k f
place_counts k f place found = elim (zero_or (times k f)) [
  | inl lacks ↦ absurd (cc (no_place k f lacks, found))
  | inr has ↦ has
]

-- ---- One level up

module _ (s : Slab Node) where
  -- the key stands at the top, after these trees
  pub record AtTop (parent : Option ℕ) (keys : List ℕ) (k : ℕ) (before : Forest) : Type 0 where
    pub part : Part
    pub children : List ℕ
    pub others : List ℕ
    pub keys_are : keys ≡ tops before ++ k ∷ others
    pub keeps : Keeps s parent k part children
    pub left : Stands s parent (tops before) before

  -- the key stands below this node, whose own place is this
  pub record Under (f : Forest) (k : ℕ) (before : Forest) (a : Ancestor) (outer : List Ancestor) : Type 0 where
    pub above : Option ℕ
    pub keys : List ℕ
    pub keeps : Keeps s above a.key a.part keys
    pub top : AtTop (Some a.key) keys k a.before
    pub place : place_of a.key f ≡ Some (record { before = before; above = outer })

  abbrev pub Climbs : Option ℕ → List ℕ → Forest → ℕ → Forest → List Ancestor → Type 0
  Climbs parent keys f k before [] = AtTop parent keys k before
  Climbs parent keys f k before (a ∷ outer) = Under f k before a outer

  -- from a place in the trees below a node to that in all
  climbs_below : (parent : Option ℕ) (keys : List ℕ) (key : ℕ) (part : Part) (below rest : Forest) (children : List ℕ) → times key below ≡ 0 → Keeps s parent key part children →
      (k : ℕ) (before : Forest) (above : List Ancestor) → Climbs (Some key) children below k before above →
      Climbs parent keys (Tree key part below rest) k Empty (above ++ record { key = key; part = part; before = before } ∷ [])
  climbs_below parent keys key part below rest children apart keeps k before [] top = record {
    above = parent;
    keys = children;
    keeps = keeps;
    top = top;
    place = place_here key key part below rest (test_of_self key);
  }
    where
      test_of_self : (n : ℕ) → nat_eq n n ≡ true
      test_of_self n = grind (arith, nat_tests)
  climbs_below parent keys key part below rest children apart keeps k before (a ∷ outer) under =
      let has = place_counts a.key below (record { before = before; above = outer }) under.place in
      let differs : key ≢ a.key = λ e. absurd (omega (arith, has, subst (λ (n : ℕ). times n below ≡ 0) e apart)) in
      record {
        above = under.above;
        keys = under.keys;
        keeps = under.keeps;
        top = under.top;
        place = place_other a.key key part below rest (test_other key a.key differs)
            ∙ ap (λ (o : Option Place). option_or (option_map (below_first key part) o) (option_map (after_first key part below) (place_of a.key rest))) under.place;
      }

  -- and in trees that stand after a first one
  climbs_after : (parent : Option ℕ) (key : ℕ) (part : Part) (below rest : Forest) (children keys others : List ℕ) → keys ≡ key ∷ others → Keeps s parent key part children → Stands s (Some key) children below →
      ((n : ℕ) → times n (Tree key part below rest) ≤ 1) → (k : ℕ) (before : Forest) (above : List Ancestor) → Climbs parent others rest k before above →
      Climbs parent keys (Tree key part below rest) k (Tree key part below before) above
  climbs_after parent key part below rest children keys others are keeps stands apart k before [] top = record {
    part = top.part;
    children = top.children;
    others = top.others;
    keys_are = are ∙ ap (λ (l : List ℕ). key ∷ l) top.keys_are;
    keeps = top.keeps;
    left = (children, tops before, refl, keeps, stands, top.left);
  }
  climbs_after parent key part below rest children keys others are keeps stands apart k before (a ∷ outer) under =
      let has = place_counts a.key rest (record { before = before; above = outer }) under.place in
      let once = apart a.key in
      let differs : key ≢ a.key = λ e. absurd (omega (arith, has, once, one_same key a.key e)) in
      record {
        above = under.above;
        keys = under.keys;
        keeps = under.keeps;
        top = under.top;
        place = place_other a.key key part below rest (test_other key a.key differs)
            ∙ ap (λ (o : Option Place). option_or (option_map (below_first key part) o) (option_map (after_first key part below) (place_of a.key rest))) (no_place a.key below (omega (arith, has, once)))
            ∙ ap (λ (o : Option Place). option_map (after_first key part below) o) under.place;
      }

  -- each key of a forest whose keys are apart leads to the node above it
  pub climbs : (k : ℕ) (parent : Option ℕ) (keys : List ℕ) (f : Forest) (place : Place) → ((n : ℕ) → times n f ≤ 1) → Stands s parent keys f → place_of k f ≡ Some place →
      Climbs parent keys f k place.before place.above
  climbs k parent keys Empty place apart is found = absurd (cc found)
  climbs k parent keys (Tree key part below rest) place apart (children, others, is, keeps, stands, later) found = elim (tested key k) [
    | inl hit ↦
        let at : key ≡ k = is_same key k hit in
        let e : place ≡ here = cc (found, place_here k key part below rest hit) in
        subst (λ (q : Place). Climbs parent keys (Tree key part below rest) k q.before q.above) (sym e)
        (record { part = part; children = children; others = others; keys_are = is ∙ ap (λ (n : ℕ). n ∷ others) at; keeps = subst (λ (n : ℕ). Keeps s parent n part children) at keeps; left = refl })
    | inr miss ↦
        elim (place_of k below) as (λ (o : Option Place). place_of k below ≡ o → option_or (option_map (below_first key part) o) (option_map (after_first key part below) (place_of k rest)) ≡ Some place →
        Climbs parent keys (Tree key part below rest) k place.before place.above) [
          | Some q ↦ λ lower e.
              let is_place : place ≡ below_first key part q = cc e in
              subst (λ (r : Place). Climbs parent keys (Tree key part below rest) k r.before r.above) (sym is_place)
              (climbs_below parent keys key part below rest children (only_here key key part below rest (apart key) refl).0 keeps k q.before q.above
              (climbs k (Some key) children below q (λ (n : ℕ). let once = apart n in omega (arith, once)) stands lower))
          | None ↦ λ lower e.
              elim (place_of k rest) as (λ (o : Option Place). place_of k rest ≡ o → option_map (after_first key part below) o ≡ Some place → Climbs parent keys (Tree key part below rest) k place.before place.above) [
                | Some q ↦ λ right e.
                    let is_place : place ≡ after_first key part below q = cc e in
                    subst (λ (r : Place). Climbs parent keys (Tree key part below rest) k r.before r.above) (sym is_place)
                    (climbs_after parent key part below rest children keys others is keeps stands apart k q.before q.above
                    (climbs k parent others rest q (λ (n : ℕ). let once = apart n in omega (arith, once)) later right))
                | None ↦ λ right e. absurd (cc e)
              ] refl e
        ] refl (sym (place_other k key part below rest miss) ∙ found)
  ]

-- a node that is found has a place
pub placed : (k : ℕ) (f : Forest) (node : Part × Forest) → node_at k f ≡ Some node → (place : Place) × (place_of k f ≡ Some place)
placed k Empty node found = absurd (cc found)
placed k (Tree key part below rest) node found = elim (tested key k) [
  | inl hit ↦ (here, place_here k key part below rest hit)
  | inr miss ↦
      elim (node_at k below) as (λ (o : Option (Part × Forest)). node_at k below ≡ o → option_or o (node_at k rest) ≡ Some node → (place : Place) × (place_of k (Tree key part below rest) ≡ Some place)) [
        | Some n ↦ λ lower e.
            let q = placed k below n lower in (
              below_first key part q.0,
              place_other k key part below rest miss
                  ∙ ap (λ (o : Option Place). option_or (option_map (below_first key part) o) (option_map (after_first key part below) (place_of k rest))) q.1,
            )
        | None ↦ λ lower e.
            let q = placed k rest node e in
            elim (place_of k below) as (λ (o : Option Place). place_of k below ≡ o → (place : Place) × (place_of k (Tree key part below rest) ≡ Some place)) [
              | Some r ↦ λ is. (
                below_first key part r,
                place_other k key part below rest miss
                    ∙ ap (λ (o : Option Place). option_or (option_map (below_first key part) o) (option_map (after_first key part below) (place_of k rest))) is,
              )
              | None ↦ λ is. (
                after_first key part below q.0,
                place_other k key part below rest miss
                    ∙ ap (λ (o : Option Place). option_or (option_map (below_first key part) o) (option_map (after_first key part below) (place_of k rest))) is
                    ∙ ap (λ (o : Option Place). option_map (after_first key part below) o) q.1,
              )
            ] refl
      ] refl (sym (skipped (nat_eq key k) (Some (part, below)) (option_or (node_at k below) (node_at k rest)) miss) ∙ found)
]
