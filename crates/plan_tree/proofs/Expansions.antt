-- The slab after an expansion stands for the expanded tree.
use Rattle.std.proofs.Common.{◌≡◌, ◌≢◌, ℕ, zero, suc, ◌≤◌, ◌==◌, nat_eq, Bool, false, not, ◌&&◌, ◌||◌, if◌then◌else◌, List, [], ◌∷◌, ◌++◌, map, Option, Some, None, refl, ap, sym, ◌∙◌, subst, arith, inl, inr}
use Rattle.std.specs.Prelude.{slice_get, option_map}
use Rattle.std.specs.List.{filter, find, list_any}
use Rattle.std.specs.Option.{option_and_then, option_map_or, option_or}
use Rattle.slab.specs.Slab.{Slab, get}
use Rattle.spec_world.specs.declared.world.Row.{Row}
use Rattle.spec_world.specs.declared.world.World.{World}
use Rattle.spec_plan.specs.declared.domain.Test.{Test}
use Rattle.spec_plan.specs.declared.domain.Template.{Template}
use Rattle.spec_plan.specs.Effects.{achieves}
use Rattle.spec_plan.specs.Templates.{templates_of, test_in}
use Rattle.plan_tree.specs.declared.node.Node.{Node}
use Rattle.spec_plan.specs.declared.part.Part.{Part}
use Rattle.spec_plan.specs.declared.part.Part.TheVariants.{Goals, Sequence, Fallback, Condition, Action}
use Rattle.plan_tree.specs.declared.tree.PlanTree.{PlanTree}
use Rattle.plan_tree.specs.declared.rule.Rule.{Rule}
use Rattle.plan_tree.specs.Expanded.{is_open}
use Rattle.spec_plan.specs.Expansion.{condition_row, sequence_rows, tried, tried_below, untried, untried_of}
use Rattle.spec_plan.specs.Forests.{Forest, Empty, Tree, Ancestor, Place, ancestors, is_fallback, node_at, part_at, place_of, times}
use Rattle.plan_tree.specs.Sizes.{tops}
use Rattle.plan_tree.specs.Growth.{fallback_children, is_sequence_of, names_sequence, rule_achieves, rule_effects, rule_needs, rule_test, site_in, site_of}
use Rattle.spec_plan.specs.Achievers.{effects_of, needs_of, row_achieves, test_of}
use Rattle.plan_tree.specs.Rules.{rule_of}
use Rattle.plan_tree.specs.Stands.{Keeps, Stands, StandsFor}
use Rattle.plan_tree.proofs.Counted.{chosen, none_at, one_of, skipped, test_same, tested, zero_or}
use Rattle.plan_tree.proofs.Places.{Climbs, climbs, place_counts, placed}
use Rattle.plan_tree.proofs.Searched.{find_alike, first_passing}
use Rattle.plan_tree.proofs.Standing.{kept_at, same_node, tops_are}

-- ---- Keys and nodes

pub node_counts : (k : ℕ) (f : Forest) (n : Part × Forest) → node_at k f ≡ Some n → 1 ≤ times k f
node_counts k f n found = elim (zero_or (times k f)) [
  | inl lacks ↦ absurd (cc (none_at k f lacks, found))
  | inr has ↦ has
]

pub node_found : (k : ℕ) (f : Forest) → 1 ≤ times k f → (n : Part × Forest) × (node_at k f ≡ Some n)
node_found k Empty has = absurd (omega (arith, has))
node_found k (Tree key part below rest) has = elim (tested key k) [
  | inl hit ↦ ((part, below), chosen (nat_eq key k) (Some (part, below)) (option_or (node_at k below) (node_at k rest)) hit)
  | inr miss ↦
      let here = skipped (nat_eq key k) (Some (part, below)) (option_or (node_at k below) (node_at k rest)) miss in
      let none : one_of key k ≡ 0 = ap (λ (b : Bool). if b then 1 else 0) miss in
      elim (zero_or (times k below)) [
        | inl lacks ↦
            let later = node_found k rest (omega (arith, has, none, lacks)) in
            (later.0, here ∙ ap (λ (o : Option (Part × Forest)). option_or o (node_at k rest)) (none_at k below lacks) ∙ later.1)
        | inr lower ↦
            let found = node_found k below lower in
            (found.0, here ∙ ap (λ (o : Option (Part × Forest)). option_or o (node_at k rest)) found.1)
      ]
]

pub part_node : (k : ℕ) (f : Forest) (x : Part) → part_at k f ≡ Some x → (under : Forest) × (node_at k f ≡ Some (x, under))
part_node k f x found =
    elim (node_at k f) as (λ (o : Option (Part × Forest)). node_at k f ≡ o → option_map (λ (n : Part × Forest). n.0) o ≡ Some x → (under : Forest) × (node_at k f ≡ Some (x, under))) [
      | Some n ↦ λ is e. let part_is : n.0 ≡ x = cc e in (n.1, is ∙ ap (λ (y : Part). Some (y, n.1)) part_is)
      | None ↦ λ is e. absurd (cc e)
    ] refl found

-- ---- Rules stand for rows

rule_at : (rows : List Row) (n : ℕ) → slice_get (map rule_of rows) n ≡ option_map rule_of (slice_get rows n)
rule_at [] n = refl
rule_at (row ∷ rows) zero = refl
rule_at (row ∷ rows) (suc n) = rule_at rows n

pub rule_test_is : (rows : List Row) (n : ℕ) → rule_test (map rule_of rows) n ≡ test_of rows n
rule_test_is rows n = ap (λ (o : Option Rule). option_and_then (λ (rule : Rule). rule.test) o) (rule_at rows n)
    ∙ elim (slice_get rows n) as (λ o. option_and_then (λ (rule : Rule). rule.test) (option_map rule_of o) ≡ option_and_then (λ (row : Row). test_in row.sort) o) [ Some row ↦ refl | None ↦ refl ]

pub rule_needs_is : (rows : List Row) (n : ℕ) → rule_needs (map rule_of rows) n ≡ needs_of rows n
rule_needs_is rows n = ap (λ (o : Option Rule). option_map_or (λ (rule : Rule). rule.needs) o []) (rule_at rows n)
    ∙ elim (slice_get rows n) as (λ o. option_map_or (λ (rule : Rule). rule.needs) (option_map rule_of o) [] ≡ option_map_or (λ (row : Row). row.needs) o []) [ Some row ↦ refl | None ↦ refl ]

pub rule_effects_is : (rows : List Row) (n : ℕ) → rule_effects (map rule_of rows) n ≡ effects_of rows n
rule_effects_is rows n = ap (λ (o : Option Rule). option_map_or (λ (rule : Rule). rule.effects) o []) (rule_at rows n)
    ∙ elim (slice_get rows n) as (λ o. option_map_or (λ (rule : Rule). rule.effects) (option_map rule_of o) [] ≡ option_map_or (λ (row : Row). row.sets) o []) [ Some row ↦ refl | None ↦ refl ]

pub rule_achieves_is : (rows : List Row) (condition action : ℕ) → rule_achieves (map rule_of rows) condition action ≡ row_achieves rows condition action
rule_achieves_is rows condition action =
    ap (λ (o : Option Test). option_map_or (λ (test : Test). achieves test (rule_effects (map rule_of rows) action)) o false) (rule_test_is rows condition)
    ∙ ap (λ effects. option_map_or (λ (test : Test). achieves test effects) (test_of rows condition) false) (rule_effects_is rows action)

-- ---- Where a condition stands

pub record Stood (s : Slab Node) (tree : Forest) (key : ℕ) (part : Part) : Type 0 where
  pub a : Ancestor
  pub outer : List Ancestor
  pub above_is : ancestors key tree ≡ a ∷ outer
  pub rest : Forest
  pub place : place_of a.key tree ≡ Some (record { before = rest; above = outer })
  pub below : Forest
  pub found : node_at a.key tree ≡ Some (a.part, below)
  pub others : List ℕ
  pub tops_of : tops below ≡ tops a.before ++ key ∷ others
  pub above : Option ℕ
  pub children : List ℕ
  pub keeps_a : Keeps s above a.key a.part children
  pub children_of : children ≡ tops a.before ++ key ∷ others
  pub kids : List ℕ
  pub keeps : Keeps s (Some a.key) key part kids

only_top : (root key : ℕ) (before others : List ℕ) → root ∷ [] ≡ before ++ key ∷ others → root ≡ key
only_top root key [] others is = cc is
only_top root key (b ∷ []) others is = absurd (cc is)
only_top root key (b ∷ c ∷ before) others is = absurd (cc is)

-- each node but the root stands below another one
pub stood : (world : World) (t : PlanTree) (tree : Forest) → StandsFor t world tree → (key : ℕ) (part : Part) → part ≢ Goals → part_at key tree ≡ Some part → Stood t.nodes tree key part
stood world t tree st key part not_root is =
    let node = part_node key tree part is in
    let place = placed key tree (part, node.0) node.1 in
    let kept = kept_at t.nodes key part node.0 None (t.root ∷ []) tree st.nodes node.1 in
    elim place.0.above as (λ up. place.0.above ≡ up → Climbs t.nodes None (t.root ∷ []) tree key place.0.before up → Stood t.nodes tree key part) [
      | [] ↦ λ e climb.
          let at : t.root ≡ key = only_top t.root key (tops place.0.before) climb.others climb.keys_are in
          let root_is : node_at t.root tree ≡ Some (Goals, st.shape.below) =
          ap (λ (f : Forest). node_at t.root f) st.shape.is
          ∙ chosen (nat_eq t.root t.root) (Some (Goals, st.shape.below)) (option_or (node_at t.root st.shape.below) None) (test_same t.root t.root refl) in
          let both : Some (Goals, st.shape.below) ≡ Some (part, node.0) = sym root_is ∙ ap (λ (k : ℕ). node_at k tree) at ∙ node.1 in
          let pair : (Goals, st.shape.below) ≡ (part, node.0) = cc both in
          absurd (not_root (sym (ap (λ (n : Part × Forest). n.0) pair)))
      | a ∷ outer ↦ λ e climb.
          let has = place_counts a.key tree (record { before = place.0.before; above = outer }) climb.place in
          let found = node_found a.key tree has in
          let kept_a = kept_at t.nodes a.key found.0.0 found.0.1 None (t.root ∷ []) tree st.nodes found.1 in
          let same = same_node t.nodes kept_a.0 climb.above a.key found.0.0 a.part kept_a.1 climb.keys kept_a.2 climb.keeps in
          let own = same_node t.nodes kept.0 (Some a.key) key part climb.top.part kept.1 climb.top.children kept.2 climb.top.keeps in
          record {
            a = a;
            outer = outer;
            above_is = ap (λ (o : Option Place). option_map_or (λ (p : Place). p.above) o []) place.1 ∙ e;
            rest = place.0.before;
            place = climb.place;
            below = found.0.1;
            found = found.1 ∙ ap (λ (x : Part). Some (x, found.0.1)) same.1;
            others = climb.top.others;
            tops_of = sym (tops_are t.nodes (Some a.key) kept_a.1 found.0.1 kept_a.3) ∙ same.2 ∙ climb.top.keys_are;
            above = climb.above;
            children = climb.keys;
            keeps_a = climb.keeps;
            children_of = climb.top.keys_are;
            kids = kept.1;
            keeps = subst (λ (o : Option ℕ). Keeps t.nodes o key part kept.1) own.0 kept.2;
          }
    ] refl (climbs t.nodes key None (t.root ∷ []) tree place.0 st.apart.once st.nodes place.1)

-- ---- Templates that were tried

any_step : (r key : ℕ) (part : Part) (below rest : Forest) (any : Bool) → any ≡ list_any (λ (own : ℕ). own == r) (sequence_rows rest) →
    (is_sequence_of r part || any) ≡ list_any (λ (own : ℕ). own == r) (sequence_rows (Tree key part below rest))
any_step r key (Sequence own) below rest any is = ap (λ (b : Bool). (own == r) || b) is
any_step r key Goals below rest any is = is
any_step r key Fallback below rest any is = is
any_step r key (Condition row) below rest any is = is
any_step r key (Action row) below rest any is = is

any_sequence : (s : Slab Node) (r : ℕ) (parent : Option ℕ) (keys : List ℕ) (f : Forest) → Stands s parent keys f →
    list_any (names_sequence s r) keys ≡ list_any (λ (own : ℕ). own == r) (sequence_rows f)
any_sequence s r parent keys Empty is = ap (λ (l : List ℕ). list_any (names_sequence s r) l) is
any_sequence s r parent keys (Tree key part below rest) (children, others, is, keeps, stands, later) =
    ap (λ (l : List ℕ). list_any (names_sequence s r) l) is
    ∙ ap (λ (o : Option Node). option_map_or (λ (node : Node). is_sequence_of r node.part) o false || list_any (names_sequence s r) others) keeps.there
    ∙ ap (λ (x : Part). is_sequence_of r x || list_any (names_sequence s r) others) keeps.part_is
    ∙ any_step r key part below rest (list_any (names_sequence s r) others) (any_sequence s r parent others rest later)

any_part : (s : Slab Node) (r p : ℕ) (children : List ℕ) (below : Forest) → Stands s (Some p) children below → (part : Part) →
    list_any (names_sequence s r) (fallback_children part children) ≡ list_any (λ (own : ℕ). own == r) (if is_fallback part then sequence_rows below else [])
any_part s r p children below is Fallback = any_sequence s r (Some p) children below is
any_part s r p children below is Goals = refl
any_part s r p children below is (Sequence row) = refl
any_part s r p children below is (Condition row) = refl
any_part s r p children below is (Action row) = refl

module _ (world : World) (t : PlanTree) (tree : Forest) (st : StandsFor t world tree) (key row : ℕ) (is : part_at key tree ≡ Some (Condition row)) (at : Stood t.nodes tree key (Condition row)) where
  tried_is : tried key tree ≡ (if is_fallback at.a.part then sequence_rows at.below else [])
  tried_is = ap (λ (up : List Ancestor). tried_below up tree) at.above_is
      ∙ ap (λ (o : Option (Part × Forest)). if is_fallback at.a.part then sequence_rows (option_map_or (λ (n : Part × Forest). n.1) o Empty) else []) at.found

  stands_below : Stands t.nodes (Some at.a.key) at.children at.below
  stands_below =
      let kept = kept_at t.nodes at.a.key at.a.part at.below None (t.root ∷ []) tree st.nodes at.found in
      let same = same_node t.nodes kept.0 at.above at.a.key at.a.part at.a.part kept.1 at.children kept.2 at.keeps_a in
      subst (λ (ks : List ℕ). Stands t.nodes (Some at.a.key) ks at.below) same.2 kept.3

  any_tried : (r : ℕ) → list_any (names_sequence t.nodes r) (fallback_children at.a.part at.children) ≡ list_any (λ (own : ℕ). own == r) (tried key tree)
  any_tried r = any_part t.nodes r at.a.key at.children at.below stands_below at.a.part ∙ ap (λ (l : List ℕ). list_any (λ (own : ℕ). own == r) l) (sym tried_is)

  pub untried_is : untried world.rows key tree ≡ filter (λ (x : Template). row_achieves world.rows row x.row && not (list_any (λ (own : ℕ). own == x.row) (tried key tree))) (templates_of world.rows)
  untried_is = ap (λ (o : Option Part). untried_of world.rows (condition_row o) (tried key tree)) is

  open_is : (x : Template) → is_open t row (fallback_children at.a.part at.children) x ≡ (row_achieves world.rows row x.row && not (list_any (λ (own : ℕ). own == x.row) (tried key tree)))
  open_is x =
      ap (λ (rules : List Rule). rule_achieves rules row x.row && not (list_any (names_sequence t.nodes x.row) (fallback_children at.a.part at.children))) st.rules
      ∙ ap (λ (b : Bool). b && not (list_any (names_sequence t.nodes x.row) (fallback_children at.a.part at.children))) (rule_achieves_is world.rows row x.row)
      ∙ ap (λ (b : Bool). row_achieves world.rows row x.row && not b) (any_tried x.row)

  -- the template that the search finds is the first untried one
  pub next_is : find (is_open t row (fallback_children at.a.part at.children)) t.templates ≡ slice_get (untried world.rows key tree) 0
  next_is =
      let wanted : Template → Bool = λ x. row_achieves world.rows row x.row && not (list_any (λ (own : ℕ). own == x.row) (tried key tree)) in
      ap (λ (l : List Template). find (is_open t row (fallback_children at.a.part at.children)) l) st.templates
      ∙ find_alike (is_open t row (fallback_children at.a.part at.children)) wanted open_is (templates_of world.rows)
      ∙ sym (first_passing wanted (templates_of world.rows))
      ∙ ap (λ (l : List Template). slice_get l 0) (sym untried_is)

-- what stands at a condition, as its site
pub stood_condition : (world : World) (t : PlanTree) (tree : Forest) → StandsFor t world tree → (key row : ℕ) → part_at key tree ≡ Some (Condition row) → Stood t.nodes tree key (Condition row)
stood_condition world t tree st key row is = stood world t tree st key (Condition row) (λ e. absurd (cc e)) is

pub site_stood : (s : Slab Node) (tree : Forest) (key row : ℕ) (at : Stood s tree key (Condition row)) → option_and_then site_of (get s key) ≡ Some (record { row = row; parent = at.a.key })
site_stood s tree key row at =
    ap (λ (o : Option Node). option_and_then site_of o) at.keeps.there ∙ ap (λ (x : Part). site_in x at.keeps.node.parent) at.keeps.part_is ∙ ap (λ (o : Option ℕ). site_in (Condition row) o) at.keeps.parent_is
