-- What a slab of nodes stands for, before and after a change.
use Rattle.std.proofs.Common.{◌≡◌, ◌≢◌, ℕ, ◌≤◌, nat_eq, List, ◌∷◌, ◌++◌, Option, Some, None, refl, ap, sym, ◌∙◌, subst, arith, inl, inr}
use Rattle.std.specs.Option.{option_or}
use Rattle.slab.specs.Slab.{Slab, get}
use Rattle.plan_tree.specs.declared.node.Node.{Node}
use Rattle.spec_plan.specs.declared.part.Part.{Part}
use Rattle.spec_plan.specs.Forests.{Forest, Empty, Tree, changed_below, joined, node_at, times}
use Rattle.plan_tree.specs.Sizes.{tops}
use Rattle.plan_tree.specs.Stands.{Keeps, Stands}
use Rattle.plan_tree.proofs.Counted.{changed_here, changed_other, chosen, is_other, is_same, lacks_below, lacks_here, lacks_rest, one_of, one_other, one_same, only_here, skipped, tested}

-- ---- One slab

module _ (s : Slab Node) where
  pub same_node : (parent parent' : Option ℕ) (key : ℕ) (part part' : Part) (children children' : List ℕ) → Keeps s parent key part children → Keeps s parent' key part' children' →
      (parent ≡ parent') × (part ≡ part') × (children ≡ children')
  same_node parent parent' key part part' children children' one other =
      let e : one.node ≡ other.node = cc (one.there, other.there) in (
        sym one.parent_is ∙ ap (λ (n : Node). n.parent) e ∙ other.parent_is,
        sym one.part_is ∙ ap (λ (n : Node). n.part) e ∙ other.part_is,
        sym one.children_are ∙ ap (λ (n : Node). n.children.items) e ∙ other.children_are,
      )

  -- the keys are those of the trees
  pub tops_are : (parent : Option ℕ) (keys : List ℕ) (f : Forest) → Stands s parent keys f → keys ≡ tops f
  tops_are parent keys Empty is = is
  tops_are parent keys (Tree key part below rest) (children, others, is, keeps, stands, later) =
      is ∙ ap (λ (l : List ℕ). key ∷ l) (tops_are parent others rest later)

  -- a key without a node is no key of the forest
  pub vacant_lacks : (k : ℕ) → get s k ≡ None → (parent : Option ℕ) (keys : List ℕ) (f : Forest) → Stands s parent keys f → times k f ≡ 0
  vacant_lacks k vacant parent keys Empty is = refl
  vacant_lacks k vacant parent keys (Tree key part below rest) (children, others, is, keeps, stands, later) =
      let lower = vacant_lacks k vacant (Some key) children below stands in
      let right = vacant_lacks k vacant parent others rest later in
      let here : one_of key k ≡ 0 = one_other key k (λ e. absurd (cc (e, keeps.there, vacant))) in
      omega (arith, lower, right, here)

  -- trees side by side
  pub stands_joined : (parent : Option ℕ) (keys more : List ℕ) (f g : Forest) → Stands s parent keys f → Stands s parent more g → Stands s parent (keys ++ more) (joined f g)
  stands_joined parent keys more Empty g is after = subst (λ (l : List ℕ). Stands s parent (l ++ more) g) (sym is) after
  stands_joined parent keys more (Tree key part below rest) g (children, others, is, keeps, stands, later) after =
      (children, others ++ more, ap (λ (l : List ℕ). l ++ more) is, keeps, stands, stands_joined parent others more rest g later after)

  -- the node of a key of the forest
  pub kept_at : (k : ℕ) (part : Part) (under : Forest) (parent : Option ℕ) (keys : List ℕ) (f : Forest) → Stands s parent keys f → node_at k f ≡ Some (part, under) →
      (above : Option ℕ) × (children : List ℕ) × Keeps s above k part children × Stands s (Some k) children under
  kept_at k part under parent keys Empty is found = absurd (cc found)
  kept_at k part under parent keys (Tree key x below rest) (children, others, is, keeps, stands, later) found = elim (tested key k) [
    | inl hit ↦
        let e : Some (x, below) ≡ Some (part, under) = sym (chosen (nat_eq key k) (Some (x, below)) (option_or (node_at k below) (node_at k rest)) hit) ∙ found in
        let at : key ≡ k = is_same key k hit in
        let pair : (x, below) ≡ (part, under) = cc e in
        let p : x ≡ part = ap (λ (n : Part × Forest). n.0) pair in
        let b : below ≡ under = ap (λ (n : Part × Forest). n.1) pair in (
          parent,
          children,
          subst (λ (n : ℕ). Keeps s parent n part children) at (subst (λ (y : Part). Keeps s parent key y children) p keeps),
          subst (λ (n : ℕ). Stands s (Some n) children under) at (subst (λ (g : Forest). Stands s (Some key) children g) b stands),
        )
    | inr miss ↦
        let e = sym (skipped (nat_eq key k) (Some (x, below)) (option_or (node_at k below) (node_at k rest)) miss) ∙ found in
        elim (node_at k below) as (λ (o : Option (Part × Forest)). node_at k below ≡ o → option_or o (node_at k rest) ≡ Some (part, under) →
        (above : Option ℕ) × (kids : List ℕ) × Keeps s above k part kids × Stands s (Some k) kids under) [
          | Some n ↦ λ lower found. kept_at k part under (Some key) children below stands (lower ∙ found)
          | None ↦ λ lower found. kept_at k part under parent others rest later found
        ] refl e
  ]

-- ---- Two slabs

module _ (old new : Slab Node) where
  -- nodes that keep their places keep what they stand for
  pub stands_by : (parent : Option ℕ) (keys : List ℕ) (f : Forest) → ((key : ℕ) (node : Node) → 1 ≤ times key f → get old key ≡ Some node → get new key ≡ Some node) →
      Stands old parent keys f → Stands new parent keys f
  stands_by parent keys Empty kept is = is
  stands_by parent keys (Tree key part below rest) kept (children, others, is, keeps, stands, later) = (
    children,
    others,
    is,
    record {
      node = keeps.node;
      there = kept key keeps.node (let one : one_of key key ≡ 1 = one_same key key refl in omega (arith, one)) keeps.there;
      part_is = keeps.part_is;
      parent_is = keeps.parent_is;
      children_are = keeps.children_are;
    },
    stands_by (Some key) children below (λ (k : ℕ) (n : Node) has found. kept k n (omega (arith, has)) found) stands,
    stands_by parent others rest (λ (k : ℕ) (n : Node) has found. kept k n (omega (arith, has)) found) later,
  )

-- A change at one key changes the term at one place: the trees below the node p become others, and each node that is not p
-- and stands not right below it is as it was.
module _ (old new : Slab Node) (p : ℕ)
    (same : (parent : Option ℕ) (key : ℕ) (part : Part) (children : List ℕ) → key ≢ p → parent ≢ Some p → Keeps old parent key part children → Keeps new parent key part children)
  where
    pub stands_elsewhere : (parent : Option ℕ) (keys : List ℕ) (f : Forest) → parent ≢ Some p → times p f ≡ 0 → Stands old parent keys f → Stands new parent keys f
    stands_elsewhere parent keys Empty apart lacks is = is
    stands_elsewhere parent keys (Tree key part below rest) apart lacks (children, others, is, keeps, stands, later) =
        let differs : key ≢ p = lacks_here p key part below rest lacks in (
          children,
          others,
          is,
          same parent key part children differs apart keeps,
          stands_elsewhere (Some key) children below (λ e. differs (cc e)) (lacks_below p key part below rest lacks) stands,
          stands_elsewhere parent others rest apart (lacks_rest p key part below rest lacks) later,
        )

    module _ (change : Part → Forest → Forest)
        (inner : (parent : Option ℕ) (part : Part) (children : List ℕ) (below : Forest) → times p below ≡ 0 → ((k : ℕ) → times k below ≤ 1) → Keeps old parent p part children → Stands old (Some p) children below →
        (changed : List ℕ) × Keeps new parent p part changed × Stands new (Some p) changed (change part below))
      where
        pub stands_changed : (parent : Option ℕ) (keys : List ℕ) (f : Forest) → parent ≢ Some p → ((k : ℕ) → times k f ≤ 1) → Stands old parent keys f → Stands new parent keys (changed_below p change f)
        stands_changed parent keys Empty apart once is = is
        stands_changed parent keys (Tree key part below rest) apart once (children, others, is, keeps, stands, later) = elim (tested key p) [
          | inl hit ↦
              let at : key ≡ p = is_same key p hit in
              let none = only_here p key part below rest (once p) at in
              let here = inner parent part children below none.0 (λ (k : ℕ). let all = once k in omega (arith, all)) (subst (λ (n : ℕ). Keeps old parent n part children) at keeps) (subst (λ (n : ℕ). Stands old (Some n) children below) at stands) in
              subst (λ (g : Forest). Stands new parent keys g) (sym (changed_here p change key part below rest hit)) (
                here.0,
                others,
                is,
                subst (λ (n : ℕ). Keeps new parent n part here.0) (sym at) here.1,
                subst (λ (n : ℕ). Stands new (Some n) here.0 (change part below)) (sym at) here.2,
                stands_elsewhere parent others rest apart none.1 later,
              )
          | inr miss ↦
              let differs = is_other key p miss in
              subst (λ (g : Forest). Stands new parent keys g) (sym (changed_other p change key part below rest miss)) (
                children,
                others,
                is,
                same parent key part children differs apart keeps,
                stands_changed (Some key) children below (λ e. differs (cc e)) (λ (k : ℕ). let all = once k in omega (arith, all)) stands,
                stands_changed parent others rest apart (λ (k : ℕ). let all = once k in omega (arith, all)) later,
              )
        ]
