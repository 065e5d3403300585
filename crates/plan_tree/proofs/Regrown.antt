-- The slab after an expansion stands for the expanded tree.
use Rattle.std.proofs.Common.{◌≡◌, ◌≢◌, ℕ, ◌+◌, ◌≤◌, nat_eq, Bool, true, false, if◌then◌else◌, List, [], ◌∷◌, ◌++◌, length, Option, Some, None, refl, ap, sym, ◌∙◌, subst, arith, inl, inr}
use Rattle.std.specs.Prelude.{option_map}
use Rattle.std.specs.Option.{option_or}
use Rattle.slab.specs.Slab.{Slab, get, slab_len}
use Rattle.spec_world.specs.declared.world.World.{World}
use Rattle.plan_tree.specs.declared.node.Node.{Node}
use Rattle.spec_plan.specs.declared.part.Part.{Part}
use Rattle.spec_plan.specs.declared.part.Part.TheVariants.{Goals, Sequence, Fallback, Condition, Action}
use Rattle.plan_tree.specs.declared.tree.PlanTree.{PlanTree}
use Rattle.spec_plan.specs.Expansion.{grown, wrapped}
use Rattle.spec_plan.specs.Forests.{Forest, Empty, Tree, changed_below, is_fallback, joined, node_at, part_at, times, total}
use Rattle.plan_tree.specs.Sizes.{added_by, height, size, subtrees, tops}
use Rattle.plan_tree.specs.Growth.{AddsLast, Edits, Wraps, blank, branch_tree, replaced}
use Rattle.plan_tree.specs.Stands.{Keeps, PartFits, PartsFit, Stands, StandsFor}
use Rattle.plan_tree.proofs.Counted.{changed_here, changed_other, chosen, height-changed, height-grown, is_other, is_same, one_of, one_other, one_same, skipped, test_other, test_same, tested, total-changed, total-joined, total-wrapped, zero_or}
use Rattle.plan_tree.proofs.Expansions.{Stood, node_counts, node_found, part_node}
use Rattle.plan_tree.proofs.NewNodes.{edited_as, edited_keeps, edited_len, edited_other, kept_by_new, not_new}
use Rattle.plan_tree.proofs.Standing.{kept_at, same_node, stands_by, stands_changed, stands_joined, tops_are}

-- ---- Forests

pub in_tops : (k : ℕ) (f : Forest) (before others : List ℕ) → tops f ≡ before ++ k ∷ others → 1 ≤ times k f
in_tops k Empty [] others is = absurd (cc is)
in_tops k Empty (b ∷ before) others is = absurd (cc is)
in_tops k (Tree key part below rest) [] others is = let one : one_of key k ≡ 1 = one_same key k (cc is) in omega (arith, one)
in_tops k (Tree key part below rest) (b ∷ before) others is = let later = in_tops k rest before others (cc is) in omega (arith, later)

-- a key that stands once does not stand below its own node
pub under_lacks : (k : ℕ) (x : Part) (under f : Forest) → node_at k f ≡ Some (x, under) → times k f ≤ 1 → times k under ≡ 0
under_lacks k x under Empty found once = absurd (cc found)
under_lacks k x under (Tree key part below rest) found once = elim (tested key k) [
  | inl hit ↦
      let both : Some (part, below) ≡ Some (x, under) = sym (chosen (nat_eq key k) (Some (part, below)) (option_or (node_at k below) (node_at k rest)) hit) ∙ found in
      let pair : (part, below) ≡ (x, under) = cc both in
      let one : one_of key k ≡ 1 = one_same key k (is_same key k hit) in
      let none : times k below ≡ 0 = omega (arith, once, one) in
      subst (λ (f : Forest). times k f ≡ 0) (ap (λ (n : Part × Forest). n.1) pair) none
  | inr miss ↦
      elim (node_at k below) as (λ (o : Option (Part × Forest)). node_at k below ≡ o → option_or o (node_at k rest) ≡ Some (x, under) → times k under ≡ 0) [
        | Some n ↦ λ lower e. under_lacks k x under below (lower ∙ e) (omega (arith, once))
        | None ↦ λ lower e. under_lacks k x under rest e (omega (arith, once))
      ] refl (sym (skipped (nat_eq key k) (Some (part, below)) (option_or (node_at k below) (node_at k rest)) miss) ∙ found)
]

-- a key of the forest has a node
pub has_node : (s : Slab Node) (parent : Option ℕ) (keys : List ℕ) (f : Forest) (k : ℕ) → Stands s parent keys f → 1 ≤ times k f →
    (above : Option ℕ) × (part : Part) × (children : List ℕ) × Keeps s above k part children
has_node s parent keys f k is has =
    let n = node_found k f has in
    let kept = kept_at s k n.0.0 n.0.1 parent keys f is n.1 in
    (kept.0, n.0.0, kept.1, kept.2)

grown_wraps : (part : Part) (k fallback : ℕ) (new f : Forest) → is_fallback part ≡ false → grown part k fallback new f ≡ wrapped k fallback new f
grown_wraps Fallback k fallback new f is = absurd (cc is)
grown_wraps Goals k fallback new f is = refl
grown_wraps (Sequence row) k fallback new f is = refl
grown_wraps (Condition row) k fallback new f is = refl
grown_wraps (Action row) k fallback new f is = refl

grown_joins : (part : Part) (k fallback : ℕ) (new f : Forest) → is_fallback part ≡ true → grown part k fallback new f ≡ joined f new
grown_joins Fallback k fallback new f is = refl
grown_joins Goals k fallback new f is = absurd (cc is)
grown_joins (Sequence row) k fallback new f is = absurd (cc is)
grown_joins (Condition row) k fallback new f is = absurd (cc is)
grown_joins (Action row) k fallback new f is = absurd (cc is)

-- ---- Parts

joined_fits : (rows : ℕ) (f g : Forest) → PartsFit rows f → PartsFit rows g → PartsFit rows (joined f g)
joined_fits rows Empty g fits more = more
joined_fits rows (Tree key part below rest) g (own, lower, later) more = (own, lower, joined_fits rows rest g later more)

wrapped_fits : (rows k fallback : ℕ) (new f : Forest) → PartsFit rows f → PartsFit rows new → PartsFit rows (wrapped k fallback new f)
wrapped_fits rows k fallback new Empty fits more = tt
wrapped_fits rows k fallback new (Tree key part below rest) (own, lower, later) more = elim (tested key k) [
  | inl hit ↦ subst (λ (g : Forest). PartsFit rows g) (sym (chosen (nat_eq key k) (Tree fallback Fallback (Tree key part below new) rest) (Tree key part below (wrapped k fallback new rest)) hit))
      (λ e. absurd (cc e), (own, lower, more), later)
  | inr miss ↦ subst (λ (g : Forest). PartsFit rows g) (sym (skipped (nat_eq key k) (Tree fallback Fallback (Tree key part below new) rest) (Tree key part below (wrapped k fallback new rest)) miss))
      (own, lower, wrapped_fits rows k fallback new rest later more)
]

grown_fits : (rows k fallback : ℕ) (new f : Forest) (part : Part) → PartsFit rows f → PartsFit rows new → PartsFit rows (grown part k fallback new f)
grown_fits rows k fallback new f Fallback fits more = joined_fits rows f new fits more
grown_fits rows k fallback new f Goals fits more = wrapped_fits rows k fallback new f fits more
grown_fits rows k fallback new f (Sequence row) fits more = wrapped_fits rows k fallback new f fits more
grown_fits rows k fallback new f (Condition row) fits more = wrapped_fits rows k fallback new f fits more
grown_fits rows k fallback new f (Action row) fits more = wrapped_fits rows k fallback new f fits more

wrapped_some : (k fallback : ℕ) (new f : Forest) → f ≢ Empty → wrapped k fallback new f ≢ Empty
wrapped_some k fallback new Empty some is = some refl
wrapped_some k fallback new (Tree key part below rest) some is = elim (tested key k) [
  | inl hit ↦ absurd (cc (sym (chosen (nat_eq key k) (Tree fallback Fallback (Tree key part below new) rest) (Tree key part below (wrapped k fallback new rest)) hit) ∙ is))
  | inr miss ↦ absurd (cc (sym (skipped (nat_eq key k) (Tree fallback Fallback (Tree key part below new) rest) (Tree key part below (wrapped k fallback new rest)) miss) ∙ is))
]

joined_some : (f new : Forest) → f ≢ Empty → joined f new ≢ Empty
joined_some Empty new some is = some refl
joined_some (Tree key part below rest) new some is = absurd (cc is)

grown_own : (rows k fallback : ℕ) (new f : Forest) (part : Part) → PartFits rows part f → PartFits rows part (grown part k fallback new f)
grown_own rows k fallback new f Fallback some = joined_some f new some
grown_own rows k fallback new f Goals some = wrapped_some k fallback new f some
grown_own rows k fallback new f (Sequence row) some = wrapped_some k fallback new f some
grown_own rows k fallback new f (Condition row) (within, none) = (within, ap (λ (g : Forest). wrapped k fallback new g) none)
grown_own rows k fallback new f (Action row) (within, none) = (within, ap (λ (g : Forest). wrapped k fallback new g) none)

module _ (p : ℕ) (change : Part → Forest → Forest) where
  changed_some : (f : Forest) → f ≢ Empty → changed_below p change f ≢ Empty
  changed_some Empty some is = some refl
  changed_some (Tree key part below rest) some is = elim (tested key p) [
    | inl hit ↦ absurd (cc (sym (changed_here p change key part below rest hit) ∙ is))
    | inr miss ↦ absurd (cc (sym (changed_other p change key part below rest miss) ∙ is))
  ]

  changed_own : (rows : ℕ) (part : Part) (f : Forest) → PartFits rows part f → PartFits rows part (changed_below p change f)
  changed_own rows Goals f some = changed_some f some
  changed_own rows (Sequence row) f some = changed_some f some
  changed_own rows Fallback f some = changed_some f some
  changed_own rows (Condition row) f (within, none) = (within, ap (λ (g : Forest). changed_below p change g) none)
  changed_own rows (Action row) f (within, none) = (within, ap (λ (g : Forest). changed_below p change g) none)

  pub changed_fits : (rows : ℕ) → ((part : Part) (f : Forest) → PartsFit rows f → PartsFit rows (change part f)) →
      ((part : Part) (f : Forest) → PartFits rows part f → PartFits rows part (change part f)) → (f : Forest) → PartsFit rows f → PartsFit rows (changed_below p change f)
  changed_fits rows all own Empty fits = tt
  changed_fits rows all own (Tree key part below rest) (here, lower, later) = elim (tested key p) [
    | inl hit ↦ subst (λ (g : Forest). PartsFit rows g) (sym (changed_here p change key part below rest hit)) (own part below here, all part below lower, later)
    | inr miss ↦ subst (λ (g : Forest). PartsFit rows g) (sym (changed_other p change key part below rest miss))
        (changed_own rows part below here, changed_fits rows all own below lower, changed_fits rows all own rest later)
  ]

-- ---- The whole tree

-- the root stays where it is
root_kept : (p : ℕ) (change : Part → Forest → Forest) (root : ℕ) (below tree : Forest) → tree ≡ Tree root Goals below Empty →
    (under : Forest) × (changed_below p change tree ≡ Tree root Goals under Empty)
root_kept p change root below tree is = elim (tested root p) [
  | inl hit ↦ (change Goals below, ap (λ (f : Forest). changed_below p change f) is ∙ changed_here p change root Goals below Empty hit)
  | inr miss ↦ (changed_below p change below, ap (λ (f : Forest). changed_below p change f) is ∙ changed_other p change root Goals below Empty miss)
]

-- What was added to the slab, and what became of the tree.
pub record Regrown (world : World) (t : PlanTree) (tree : Forest) (new : Slab Node) (p : ℕ) (change : Part → Forest → Forest) (added : Forest) : Type 0 where
  pub stands : Stands new None (t.root ∷ []) (changed_below p change tree)
  pub totals : (weight : ℕ → Part → ℕ) → total weight (changed_below p change tree) ≡ total weight tree + total weight added
  pub fresh : (key : ℕ) (node : Node) → get t.nodes key ≡ Some node → times key added ≡ 0
  pub apart : (key : ℕ) → times key added ≤ 1
  pub len : slab_len new ≡ slab_len t.nodes + size added
  pub few : size added ≤ 19
  pub one : subtrees added ≡ 1
  pub low : (part : Part) (f : Forest) → height (change part f) ≤ height f + 2
  pub fits : (part : Part) (f : Forest) → PartsFit (length world.rows) f → PartsFit (length world.rows) (change part f)
  pub own : (part : Part) (f : Forest) → PartFits (length world.rows) part f → PartFits (length world.rows) part (change part f)
  pub parts : (key : ℕ) (node : Node) → get t.nodes key ≡ Some node → (after : Node) × (get new key ≡ Some after) × (after.part ≡ node.part)

module _ (world : World) (t : PlanTree) (tree : Forest) (st : StandsFor t world tree) (new : Slab Node) (p : ℕ) (change : Part → Forest → Forest) (added : Forest)
    (g : Regrown world t tree new p change added) where
  -- one sequence more
  pub regrown_many : subtrees (changed_below p change tree) ≡ subtrees tree + 1
  regrown_many = let more = g.totals (λ k x. added_by x) in let one = g.one in omega (arith, more, one)

  pub regrown_stands : StandsFor (record t { nodes = new }) world (changed_below p change tree)
  regrown_stands = record {
    valid = st.valid;
    rules = st.rules;
    templates = st.templates;
    achievers = st.achievers;
    nodes = g.stands;
    apart = record {
      once = λ key.
          let all = g.totals (λ k x. one_of k key) in
          let once = st.apart.once key in
          let added_once = g.apart key in
          elim (zero_or (times key tree)) [
            | inl lacks ↦ omega (arith, all, lacks, added_once)
            | inr has ↦
                let node = has_node t.nodes None (t.root ∷ []) tree key st.nodes has in
                let none = g.fresh key node.3.node node.3.there in
                omega (arith, all, once, none)
          ];
    };
    whole = let all = g.totals (λ k x. 1) in let before = st.whole in let after = g.len in omega (arith, all, before, after);
    shape =
        let root = root_kept p change t.root st.shape.below tree st.shape.is in
        let all = g.totals (λ k x. 1) in
        let many = regrown_many in
        let few = st.shape.few in
        let low = st.shape.low in
        let most = g.few in
        let higher = height-changed p change tree g.low in
        record {
          below = root.0;
          is = root.1;
          fit = changed_fits p change (length world.rows) g.fits g.own tree st.shape.fit;
          few = omega (arith, all, many, few, most);
          low = omega (arith, many, low, higher);
        };
  }

  pub regrown_parts : (old : ℕ) (part : Part) → part_at old tree ≡ Some part → part_at old (changed_below p change tree) ≡ Some part
  regrown_parts old part is =
      let node = part_node old tree part is in
      let kept = kept_at t.nodes old part node.0 None (t.root ∷ []) tree st.nodes node.1 in
      let after = g.parts old kept.2.node kept.2.there in
      let has = node_counts old tree (part, node.0) node.1 in
      let all = g.totals (λ k x. one_of k old) in
      let still : 1 ≤ times old (changed_below p change tree) = omega (arith, has, all) in
      let found = node_found old (changed_below p change tree) still in
      let now = kept_at new old found.0.0 found.0.1 None (t.root ∷ []) (changed_below p change tree) g.stands found.1 in
      let same : Some after.0 ≡ Some now.2.node = sym after.1 ∙ now.2.there in
      let node_is : after.0 ≡ now.2.node = cc same in
      let part_is : found.0.0 ≡ part = sym now.2.part_is ∙ ap (λ (n : Node). n.part) (sym node_is) ∙ after.2 ∙ kept.2.part_is in
      ap (λ (o : Option (Part × Forest)). option_map (λ (n : Part × Forest). n.0) o) found.1 ∙ ap (λ (x : Part). Some x) part_is

  -- what a new node is
  pub regrown_new : (k : ℕ) (part : Part) (above : Option ℕ) (children : List ℕ) → 1 ≤ times k added → Keeps new above k part children → part_at k (changed_below p change tree) ≡ Some part
  regrown_new k part above children some keeps =
      let all = g.totals (λ n x. one_of n k) in
      let still : 1 ≤ times k (changed_below p change tree) = omega (arith, some, all) in
      let found = node_found k (changed_below p change tree) still in
      let now = kept_at new k found.0.0 found.0.1 None (t.root ∷ []) (changed_below p change tree) g.stands found.1 in
      let same = same_node new now.0 above k found.0.0 part now.1 children now.2 keeps in
      ap (λ (o : Option (Part × Forest)). option_map (λ (n : Part × Forest). n.0) o) found.1 ∙ ap (λ (x : Part). Some x) same.1

-- ---- In a fallback

module _ (world : World) (t : PlanTree) (tree : Forest) (st : StandsFor t world tree) (key : ℕ) (own : Part) (at : Stood t.nodes tree key own) (fallback : ℕ) where
  -- the node above occurs once
  once_above : times at.a.key tree ≡ 1
  once_above = let once = st.apart.once at.a.key in let has = node_counts at.a.key tree (at.a.part, at.below) at.found in omega (arith, once, has)

  -- the node above, where it is found
  found_above : (part : Part) (f : Forest) → node_at at.a.key tree ≡ Some (part, f) → (part ≡ at.a.part) × (f ≡ at.below)
  found_above part f found =
      let both : Some (part, f) ≡ Some (at.a.part, at.below) = sym found ∙ at.found in
      let pair : (part, f) ≡ (at.a.part, at.below) = cc both in
      (ap (λ (n : Part × Forest). n.0) pair, ap (λ (n : Part × Forest). n.1) pair)

  module _ (seq : ℕ) (part : Part) (parts : List Part) (new : Slab Node) (is : is_fallback at.a.part ≡ true) (g : AddsLast t.nodes new at.a.key seq part parts)
      (few : size (branch_tree seq part g.keys parts) ≤ 19) (one : subtrees (branch_tree seq part g.keys parts) ≡ 1) (low : height (branch_tree seq part g.keys parts) ≤ 2)
      (fits : PartsFit (length world.rows) (branch_tree seq part g.keys parts)) where
    abbrev last_added : Forest
    last_added = branch_tree seq part g.keys parts

    abbrev last_change : Part → Forest → Forest
    last_change x = grown x key fallback last_added

    kept_a : Keeps g.middle at.above at.a.key at.a.part at.children
    kept_a = record {
      node = at.keeps_a.node;
      there = g.adds.kept at.a.key at.keeps_a.node at.keeps_a.there;
      part_is = at.keeps_a.part_is;
      parent_is = at.keeps_a.parent_is;
      children_are = at.keeps_a.children_are;
    }

    last_edit : (node : Node) → get g.middle at.a.key ≡ Some node → Edits g.middle new at.a.key node.parent (node.children.items ++ seq ∷ []) node
    last_edit node there =
        let same : at.keeps_a.node ≡ node = cc (g.adds.kept at.a.key at.keeps_a.node at.keeps_a.there, there) in
        g.edits node (at.keeps_a.there ∙ ap (λ (n : Node). Some n) same)

    last_other : (other : ℕ) → other ≢ at.a.key → get new other ≡ get g.middle other
    last_other other differs =
        let node = at.keeps_a.node in
        let there = g.adds.kept at.a.key node at.keeps_a.there in
        edited_other g.middle new at.a.key node.parent (node.children.items ++ seq ∷ []) node there (last_edit node there) other differs

    -- every node that does not stand right below keeps
    last_same : (f : Forest) → times at.a.key f ≡ 0 → (parent : Option ℕ) (ks : List ℕ) → Stands g.middle parent ks f → Stands new parent ks f
    last_same f lacks parent ks stands = stands_by g.middle new parent ks f
        (λ (k : ℕ) (node : Node) has there. last_other k (λ e. absurd (omega (arith, has, subst (λ (n : ℕ). times n f ≡ 0) (sym e) lacks))) ∙ there) stands

    last_inner : (parent : Option ℕ) (x : Part) (children : List ℕ) (below : Forest) → times at.a.key below ≡ 0 → ((k : ℕ) → times k below ≤ 1) → Keeps g.middle parent at.a.key x children → Stands g.middle (Some at.a.key) children below →
        (changed : List ℕ) × Keeps new parent at.a.key x changed × Stands new (Some at.a.key) changed (last_change x below)
    last_inner parent x children below lacks once keeps stands =
        let same = same_node g.middle parent at.above at.a.key x at.a.part children at.children keeps kept_a in
        let joins = grown_joins x key fallback last_added below (ap is_fallback same.1 ∙ is) in
        let fresh = g.adds.fresh at.a.key at.keeps_a.node at.keeps_a.there in (
          children ++ seq ∷ [],
          edited_as g.middle new at.a.key (λ (o : Option ℕ). o) (λ (ks : List ℕ). ks ++ seq ∷ []) last_edit parent x children keeps,
          subst (λ (f : Forest). Stands new (Some at.a.key) (children ++ seq ∷ []) f) (sym joins)
              (stands_joined new (Some at.a.key) children (seq ∷ []) below last_added (last_same below lacks (Some at.a.key) children stands)
              (last_same last_added fresh (Some at.a.key) (seq ∷ []) g.adds.stands)),
        )

    -- the new sequence itself
    pub last_sequence : Stands new (Some at.a.key) (seq ∷ []) last_added
    last_sequence = last_same last_added (g.adds.fresh at.a.key at.keeps_a.node at.keeps_a.there) (Some at.a.key) (seq ∷ []) g.adds.stands

    pub regrown_last : Regrown world t tree new at.a.key last_change last_added
    regrown_last = record {
      stands = stands_changed g.middle new at.a.key
          (λ (parent : Option ℕ) (k : ℕ) (x : Part) (children : List ℕ) differs apart (keeps : Keeps g.middle parent k x children). record {
            node = keeps.node;
            there = last_other k differs ∙ keeps.there;
            part_is = keeps.part_is;
            parent_is = keeps.parent_is;
            children_are = keeps.children_are;
          })
          last_change last_inner None (t.root ∷ []) tree (λ e. absurd (cc e)) st.apart.once
          (stands_by t.nodes g.middle None (t.root ∷ []) tree (λ (k : ℕ) (node : Node) has there. g.adds.kept k node there) st.nodes);
      totals = λ weight. total-changed weight at.a.key (total weight last_added) last_change tree once_above (λ (x : Part) (f : Forest) found.
          ap (total weight) (grown_joins x key fallback last_added f (ap is_fallback (found_above x f found).0 ∙ is)) ∙ total-joined weight f last_added);
      fresh = g.adds.fresh;
      apart = g.adds.apart;
      len = let node = at.keeps_a.node in let there = g.adds.kept at.a.key node at.keeps_a.there in
          edited_len g.middle new at.a.key node.parent (node.children.items ++ seq ∷ []) node there (last_edit node there) ∙ g.adds.len;
      few = few;
      one = one;
      low = λ x f. height-grown x key fallback last_added f low;
      fits = λ x f ok. grown_fits (length world.rows) key fallback last_added f x ok fits;
      own = λ x f ok. grown_own (length world.rows) key fallback last_added f x ok;
      parts = λ k node there. elim (tested k at.a.key) [
        | inl hit ↦
            let here : k ≡ at.a.key = is_same k at.a.key hit in
            let mid : get g.middle at.a.key ≡ Some node = ap (λ (n : ℕ). get g.middle n) (sym here) ∙ g.adds.kept k node there in
            let e = last_edit node mid in
            let now = edited_keeps g.middle new at.a.key node.parent (node.children.items ++ seq ∷ []) node mid e in
            (now.node, ap (λ (n : ℕ). get new n) here ∙ now.there, now.part_is)
        | inr miss ↦ (node, last_other k (is_other k at.a.key miss) ∙ g.adds.kept k node there, refl)
      ];
    }

-- ---- Elsewhere

-- trees in which one condition gives way to a fallback of itself and what is new
module _ (old new : Slab Node) (p key fallback seq : ℕ) (added : Forest)
    (same : (k : ℕ) (node : Node) → k ≢ p → k ≢ key → get old k ≡ Some node → get new k ≡ Some node)
    (over : Keeps new (Some p) fallback Fallback (key ∷ seq ∷ [])) (after : Stands new (Some fallback) (seq ∷ []) added)
    (moved : (part : Part) (children : List ℕ) → Keeps old (Some p) key part children → Keeps new (Some fallback) key part children)
  where
    still : (f : Forest) → times p f ≡ 0 → times key f ≡ 0 → (parent : Option ℕ) (ks : List ℕ) → Stands old parent ks f → Stands new parent ks f
    still f lacks other parent ks stands = stands_by old new parent ks f
        (λ (k : ℕ) (node : Node) has there. same k node (λ e. absurd (omega (arith, has, subst (λ (n : ℕ). times n f ≡ 0) (sym e) lacks)))
        (λ e. absurd (omega (arith, has, subst (λ (n : ℕ). times n f ≡ 0) (sym e) other))) there) stands

    stands_wrapped : (children : List ℕ) (f : Forest) (before others : List ℕ) → tops f ≡ before ++ key ∷ others → times p f ≡ 0 → times key f ≤ 1 → Stands old (Some p) children f →
        Stands new (Some p) (replaced key fallback children) (wrapped key fallback added f)
    stands_wrapped children Empty [] others is lacks once stands = absurd (cc is)
    stands_wrapped children Empty (b ∷ before) others is lacks once stands = absurd (cc is)
    stands_wrapped children (Tree k part below rest) [] others is lacks once (kids, later_keys, keys_are, keeps, stands, later) =
        let here : k ≡ key = cc is in
        let hit = test_same k key here in
        let one : one_of k key ≡ 1 = one_same k key here in
        let keys_now : replaced key fallback children ≡ fallback ∷ later_keys =
        ap (λ (l : List ℕ). replaced key fallback l) keys_are ∙ chosen (nat_eq k key) (fallback ∷ later_keys) (k ∷ replaced key fallback later_keys) hit in
        subst (λ (l : List ℕ). Stands new (Some p) l (wrapped key fallback added (Tree k part below rest))) (sym keys_now)
        (subst (λ (f : Forest). Stands new (Some p) (fallback ∷ later_keys) f)
        (sym (chosen (nat_eq k key) (Tree fallback Fallback (Tree k part below added) rest) (Tree k part below (wrapped key fallback added rest)) hit)) (
          key ∷ seq ∷ [],
          later_keys,
          refl,
          over,
          (
            kids,
            seq ∷ [],
            ap (λ (n : ℕ). n ∷ seq ∷ []) (sym here),
            subst (λ (n : ℕ). Keeps new (Some fallback) n part kids) (sym here) (moved part kids (subst (λ (n : ℕ). Keeps old (Some p) n part kids) here keeps)),
            still below (omega (arith, lacks)) (omega (arith, once, one)) (Some k) kids stands,
            after,
          ),
          still rest (omega (arith, lacks)) (omega (arith, once, one)) (Some p) later_keys later,
        ))
    stands_wrapped children (Tree k part below rest) (b ∷ before) others is lacks once (kids, later_keys, keys_are, keeps, stands, later) =
        let tops_rest : tops rest ≡ before ++ key ∷ others = cc is in
        let has = in_tops key rest before others tops_rest in
        let differs : k ≢ key = λ e. absurd (omega (arith, once, has, one_same k key e)) in
        let miss = test_other k key differs in
        let not_p : k ≢ p = λ e. absurd (omega (arith, lacks, one_same k p e)) in
        let keys_now : replaced key fallback children ≡ k ∷ replaced key fallback later_keys =
        ap (λ (l : List ℕ). replaced key fallback l) keys_are ∙ skipped (nat_eq k key) (fallback ∷ later_keys) (k ∷ replaced key fallback later_keys) miss in
        let more = stands_wrapped later_keys rest before others tops_rest (omega (arith, lacks)) (omega (arith, once)) later in
        subst (λ (l : List ℕ). Stands new (Some p) l (wrapped key fallback added (Tree k part below rest))) (sym keys_now)
        (subst (λ (f : Forest). Stands new (Some p) (k ∷ replaced key fallback later_keys) f)
        (sym (skipped (nat_eq k key) (Tree fallback Fallback (Tree k part below added) rest) (Tree k part below (wrapped key fallback added rest)) miss)) (
          kids,
          replaced key fallback later_keys,
          refl,
          record { node = keeps.node; there = same k keeps.node not_p differs keeps.there; part_is = keeps.part_is; parent_is = keeps.parent_is; children_are = keeps.children_are },
          still below (omega (arith, lacks)) (omega (arith, once, has)) (Some k) kids stands,
          more,
        ))

module _ (world : World) (t : PlanTree) (tree : Forest) (st : StandsFor t world tree) (key : ℕ) (own : Part) (at : Stood t.nodes tree key own)
    (seq : ℕ) (part : Part) (parts : List Part) (new : Slab Node) (is : is_fallback at.a.part ≡ false) (g : Wraps t.nodes new at.a.key key seq part parts)
    (few : size (branch_tree seq part g.keys parts) ≤ 18) (one : subtrees (branch_tree seq part g.keys parts) ≡ 1) (low : height (branch_tree seq part g.keys parts) ≤ 2)
    (fits : PartsFit (length world.rows) (branch_tree seq part g.keys parts)) where
  abbrev wrap_new : Forest
  wrap_new = branch_tree seq part g.keys parts

  abbrev wrap_change : Part → Forest → Forest
  wrap_change x = grown x key g.fallback wrap_new

  -- all that is new
  abbrev wrap_added : Forest
  wrap_added = Tree g.fallback Fallback wrap_new Empty

  blank_fallback : get g.second g.fallback ≡ Some (blank Fallback (Some at.a.key))
  blank_fallback = g.adds.kept g.fallback (blank Fallback (Some at.a.key)) g.inserted.updates.changed

  fills : Edits g.second g.third g.fallback (Some at.a.key) (key ∷ seq ∷ []) (blank Fallback (Some at.a.key))
  fills = g.filled (blank Fallback (Some at.a.key)) blank_fallback

  third_other : (k : ℕ) → k ≢ g.fallback → get g.third k ≡ get g.second k
  third_other k differs = edited_other g.second g.third g.fallback (Some at.a.key) (key ∷ seq ∷ []) (blank Fallback (Some at.a.key)) blank_fallback fills k differs

  not_fallback : (k : ℕ) (node : Node) → get t.nodes k ≡ Some node → k ≢ g.fallback
  not_fallback k node there = not_new t.nodes g.first g.fallback k (blank Fallback (Some at.a.key)) node g.inserted there

  -- up to here each old node is as it was
  in_third : (k : ℕ) (node : Node) → get t.nodes k ≡ Some node → get g.third k ≡ Some node
  in_third k node there = third_other k (not_fallback k node there) ∙ g.adds.kept k node (kept_by_new t.nodes g.first g.fallback (blank Fallback (Some at.a.key)) g.inserted k node there)

  kept_in_third : (parent : Option ℕ) (k : ℕ) (x : Part) (children : List ℕ) → Keeps t.nodes parent k x children → Keeps g.third parent k x children
  kept_in_third parent k x children keeps = record {
    node = keeps.node;
    there = in_third k keeps.node keeps.there;
    part_is = keeps.part_is;
    parent_is = keeps.parent_is;
    children_are = keeps.children_are;
  }

  third_a : Keeps g.third at.above at.a.key at.a.part at.children
  third_a = kept_in_third at.above at.a.key at.a.part at.children at.keeps_a

  third_key : Keeps g.third (Some at.a.key) key own at.kids
  third_key = kept_in_third (Some at.a.key) key own at.kids at.keeps

  above_differs : at.a.key ≢ key
  above_differs e =
      let lacks = under_lacks at.a.key at.a.part at.below tree at.found (st.apart.once at.a.key) in
      let has = in_tops key at.below (tops at.a.before) at.others at.tops_of in
      absurd (omega (arith, has, subst (λ (k : ℕ). times k at.below ≡ 0) e lacks))

  moves : (node : Node) → get g.third at.a.key ≡ Some node → Edits g.third g.fourth at.a.key node.parent (replaced key g.fallback node.children.items) node
  moves = g.moved

  fourth_other : (k : ℕ) → k ≢ at.a.key → get g.fourth k ≡ get g.third k
  fourth_other k differs =
      edited_other g.third g.fourth at.a.key third_a.node.parent (replaced key g.fallback third_a.node.children.items) third_a.node third_a.there (moves third_a.node third_a.there) k differs

  key_in_fourth : get g.fourth key ≡ Some third_key.node
  key_in_fourth = fourth_other key (λ e. above_differs (sym e)) ∙ third_key.there

  new_other : (k : ℕ) → k ≢ key → get new k ≡ get g.fourth k
  new_other k differs = edited_other g.fourth new key (Some g.fallback) third_key.node.children.items third_key.node key_in_fourth (g.under third_key.node key_in_fourth) k differs

  both_other : (k : ℕ) (node : Node) → k ≢ at.a.key → k ≢ key → get g.third k ≡ Some node → get new k ≡ Some node
  both_other k node not_a not_key there = new_other k not_key ∙ fourth_other k not_a ∙ there

  wrap_over : Keeps new (Some at.a.key) g.fallback Fallback (key ∷ seq ∷ [])
  wrap_over =
      let keeps = edited_keeps g.second g.third g.fallback (Some at.a.key) (key ∷ seq ∷ []) (blank Fallback (Some at.a.key)) blank_fallback fills in
      record {
        node = keeps.node;
        there = both_other g.fallback keeps.node (λ e. not_fallback at.a.key at.keeps_a.node at.keeps_a.there (sym e)) (λ e. not_fallback key at.keeps.node at.keeps.there (sym e)) keeps.there;
        part_is = keeps.part_is;
        parent_is = keeps.parent_is;
        children_are = keeps.children_are;
      }

  -- an old key is no key of what is new
  fresh_new : (k : ℕ) (node : Node) → get t.nodes k ≡ Some node → times k wrap_new ≡ 0
  fresh_new k node there = g.adds.fresh k node (kept_by_new t.nodes g.first g.fallback (blank Fallback (Some at.a.key)) g.inserted k node there)

  fallback_lacks : times g.fallback wrap_new ≡ 0
  fallback_lacks = g.adds.fresh g.fallback (blank Fallback (Some at.a.key)) g.inserted.updates.changed

  pub wrap_after : Stands new (Some g.fallback) (seq ∷ []) wrap_new
  wrap_after = stands_by g.second new (Some g.fallback) (seq ∷ []) wrap_new
      (λ (k : ℕ) (node : Node) has there. both_other k node
      (λ e. absurd (omega (arith, has, subst (λ (n : ℕ). times n wrap_new ≡ 0) (sym e) (fresh_new at.a.key at.keeps_a.node at.keeps_a.there))))
      (λ e. absurd (omega (arith, has, subst (λ (n : ℕ). times n wrap_new ≡ 0) (sym e) (fresh_new key at.keeps.node at.keeps.there))))
      (third_other k (λ e. absurd (omega (arith, has, subst (λ (n : ℕ). times n wrap_new ≡ 0) (sym e) fallback_lacks))) ∙ there)) g.adds.stands

  wrap_moved : (x : Part) (children : List ℕ) → Keeps g.third (Some at.a.key) key x children → Keeps new (Some g.fallback) key x children
  wrap_moved x children keeps =
      let there = fourth_other key (λ e. above_differs (sym e)) ∙ keeps.there in
      let now = edited_keeps g.fourth new key (Some g.fallback) keeps.node.children.items keeps.node there (g.under keeps.node there) in
      record { node = now.node; there = now.there; part_is = now.part_is ∙ keeps.part_is; parent_is = now.parent_is; children_are = now.children_are ∙ keeps.children_are }

  wrap_inner : (parent : Option ℕ) (x : Part) (children : List ℕ) (below : Forest) → times at.a.key below ≡ 0 → ((k : ℕ) → times k below ≤ 1) → Keeps g.third parent at.a.key x children → Stands g.third (Some at.a.key) children below →
      (changed : List ℕ) × Keeps new parent at.a.key x changed × Stands new (Some at.a.key) changed (wrap_change x below)
  wrap_inner parent x children below lacks once keeps stands =
      let same = same_node g.third parent at.above at.a.key x at.a.part children at.children keeps third_a in
      let wraps = grown_wraps x key g.fallback wrap_new below (ap is_fallback same.1 ∙ is) in
      let kept = edited_as g.third g.fourth at.a.key (λ (o : Option ℕ). o) (λ (ks : List ℕ). replaced key g.fallback ks) moves parent x children keeps in
      let old_tops : tops below ≡ tops at.a.before ++ key ∷ at.others = sym (tops_are g.third (Some at.a.key) children below stands) ∙ same.2 ∙ at.children_of in (
        replaced key g.fallback children,
        record { node = kept.node; there = new_other at.a.key above_differs ∙ kept.there; part_is = kept.part_is; parent_is = kept.parent_is; children_are = kept.children_are },
        subst (λ (f : Forest). Stands new (Some at.a.key) (replaced key g.fallback children) f) (sym wraps)
            (stands_wrapped g.third new at.a.key key g.fallback seq wrap_new both_other wrap_over wrap_after wrap_moved children below (tops at.a.before) at.others old_tops lacks (once key) stands),
      )

  in_new : (k : ℕ) (node : Node) → get t.nodes k ≡ Some node → (after : Node) × (get new k ≡ Some after) × (after.part ≡ node.part)
  in_new k node there = elim (tested k key) [
    | inl hit ↦
        let here : k ≡ key = is_same k key hit in
        let mid : get g.fourth key ≡ Some node = fourth_other key (λ e. above_differs (sym e)) ∙ ap (λ (n : ℕ). get g.third n) (sym here) ∙ in_third k node there in
        let now = edited_keeps g.fourth new key (Some g.fallback) node.children.items node mid (g.under node mid) in
        (now.node, ap (λ (n : ℕ). get new n) here ∙ now.there, now.part_is)
    | inr miss ↦
        let differs = is_other k key miss in
        elim (tested k at.a.key) [
          | inl hit ↦
              let here : k ≡ at.a.key = is_same k at.a.key hit in
              let mid : get g.third at.a.key ≡ Some node = ap (λ (n : ℕ). get g.third n) (sym here) ∙ in_third k node there in
              let now = edited_keeps g.third g.fourth at.a.key node.parent (replaced key g.fallback node.children.items) node mid (moves node mid) in
              (now.node, new_other k differs ∙ ap (λ (n : ℕ). get g.fourth n) here ∙ now.there, now.part_is)
          | inr other ↦ (node, both_other k node (is_other k at.a.key other) differs (in_third k node there), refl)
        ]
  ]

  pub regrown_wraps : Regrown world t tree new at.a.key wrap_change wrap_added
  regrown_wraps = record {
    stands = stands_changed g.third new at.a.key
        (λ (parent : Option ℕ) (k : ℕ) (x : Part) (children : List ℕ) differs apart (keeps : Keeps g.third parent k x children).
        let not_key : k ≢ key = λ e. apart (same_node g.third parent (Some at.a.key) key x own children at.kids (subst (λ (n : ℕ). Keeps g.third parent n x children) e keeps) third_key).0 in
        record { node = keeps.node; there = both_other k keeps.node differs not_key keeps.there; part_is = keeps.part_is; parent_is = keeps.parent_is; children_are = keeps.children_are })
        wrap_change wrap_inner None (t.root ∷ []) tree (λ e. absurd (cc e)) st.apart.once
        (stands_by t.nodes g.third None (t.root ∷ []) tree (λ (k : ℕ) (node : Node) has there. in_third k node there) st.nodes);
    totals = λ weight. total-changed weight at.a.key (total weight wrap_added) wrap_change tree (once_above world t tree st key own at g.fallback) (λ (x : Part) (f : Forest) found.
        let above = found_above world t tree st key own at g.fallback x f found in
        ap (total weight) (grown_wraps x key g.fallback wrap_new f (ap is_fallback above.0 ∙ is))
        ∙ total-wrapped weight key g.fallback wrap_new f (tops at.a.before) at.others (ap (λ (h : Forest). tops h) above.1 ∙ at.tops_of) ∙ omega arith);
    fresh = λ k node there.
        let none = fresh_new k node there in
        let here : one_of g.fallback k ≡ 0 = one_other g.fallback k (λ e. not_fallback k node there (sym e)) in
        omega (arith, none, here);
    apart = λ k.
        let once = g.adds.apart k in
        elim (tested g.fallback k) [
          | inl hit ↦
              let at_it : g.fallback ≡ k = is_same g.fallback k hit in
              let none : times k wrap_new ≡ 0 = subst (λ (n : ℕ). times n wrap_new ≡ 0) at_it fallback_lacks in
              let here : one_of g.fallback k ≡ 1 = one_same g.fallback k at_it in
              omega (arith, none, here)
          | inr miss ↦
              let here : one_of g.fallback k ≡ 0 = ap (λ (b : Bool). if b then 1 else 0) miss in
              omega (arith, once, here)
        ];
    len =
        let last = edited_len g.fourth new key (Some g.fallback) third_key.node.children.items third_key.node key_in_fourth (g.under third_key.node key_in_fourth) in
        let fourth = edited_len g.third g.fourth at.a.key third_a.node.parent (replaced key g.fallback third_a.node.children.items) third_a.node third_a.there (moves third_a.node third_a.there) in
        let third = edited_len g.second g.third g.fallback (Some at.a.key) (key ∷ seq ∷ []) (blank Fallback (Some at.a.key)) blank_fallback fills in
        let second = g.adds.len in
        let first = g.inserted.len in
        omega (arith, last, fourth, third, second, first);
    few = let most = few in omega (arith, most);
    one = let this = one in omega (arith, this);
    low = λ x f. height-grown x key g.fallback wrap_new f low;
    fits = λ x f ok. grown_fits (length world.rows) key g.fallback wrap_new f x ok fits;
    own = λ x f ok. grown_own (length world.rows) key g.fallback wrap_new f x ok;
    parts = in_new;
  }
