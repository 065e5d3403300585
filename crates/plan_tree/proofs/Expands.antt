-- An expansion, by the template that was chosen.
use Rattle.std.proofs.Common.{◌≡◌, ◌≢◌, ◌==◌, not, ◌&&◌, ℕ, zero, suc, ◌+◌, ◌<◌, ◌≤◌, Bool, true, false, cond, if◌then◌else◌, inl, inr, get_or, List, [], ◌∷◌, ◌++◌, length, map, Option, Some, None, refl, ap, sym, ◌∙◌, subst, arith}
use Rattle.std.specs.Prelude.{slice_get}
use Rattle.std.specs.Option.{option_map_or}
use Rattle.std.specs.List.{All, filter, list_any}
use Rattle.std.proofs.lemmas.List.{length-append, length-map}
use Rattle.std.proofs.lemmas.Option.{slice_get_cases, slice_get_within}
use Rattle.slab.specs.Slab.{Slab, get, slab_len}
use Rattle.spec_world.specs.declared.world.Row.{Row}
use Rattle.spec_world.specs.declared.world.World.{World}
use Rattle.spec_world.specs.Worlds.{IsComparisonIn, IsValidRow, IsValidWorld, comparisons, is_comparison}
use Rattle.spec_plan.specs.declared.domain.Template.{Template}
use Rattle.spec_plan.specs.Templates.{is_template, templates_from, templates_of}
use Rattle.plan_tree.specs.declared.expanding.Choice.{Choice}
use Rattle.plan_tree.specs.declared.node.Node.{Node}
use Rattle.spec_plan.specs.declared.part.Part.{Part}
use Rattle.spec_plan.specs.declared.part.Part.TheVariants.{Goals, Sequence, Fallback, Condition, Action}
use Rattle.plan_tree.specs.declared.tree.PlanTree.{PlanTree}
use Rattle.plan_tree.specs.declared.rule.Rule.{Rule}
use Rattle.plan_tree.specs.Expanded.{Chooses, Expands, GrowsAt}
use Rattle.spec_plan.specs.Expansion.{NewKeys, expanded, expanded_below, goal_tree, grown, leaves, new_sequence, tried}
use Rattle.spec_plan.specs.Forests.{Forest, Empty, Tree, Ancestor, changed_below, is_fallback, part_at}
use Rattle.plan_tree.specs.Sizes.{size, subtrees, height}
use Rattle.plan_tree.specs.Growth.{Adds, all_achievers_by, branch_tree, parts_of, rule_needs}
use Rattle.spec_plan.specs.Achievers.{needs_of, row_achieves}
use Rattle.plan_tree.specs.Rules.{rule_of}
use Rattle.plan_tree.specs.Stands.{IsConditionOf, PartsFit, StandsFor}
use Rattle.plan_tree.proofs.Counted.{height-leaves, one_of, one_same, size-leaves}
use Rattle.plan_tree.proofs.Expansions.{Stood, rule_needs_is, stood_condition, untried_is}
use Rattle.plan_tree.proofs.Indexed.{all_achievers_are}
use Rattle.plan_tree.proofs.Regrown.{last_sequence, regrown_last, regrown_many, regrown_new, regrown_parts, regrown_stands, regrown_wraps, wrap_after}
use Rattle.plan_tree.proofs.Standing.{stands_by}

-- ---- Rows of a valid world

-- each of these numbers is that of a row
abbrev pub AreRows : ℕ → List ℕ → Type 0
AreRows rows numbers = All (λ (n : ℕ). n < rows) numbers

pub rows_within : (rows : List Row) (numbers : List ℕ) → All (IsComparisonIn rows) numbers → AreRows (length rows) numbers
rows_within rows numbers all k d within =
    let there = slice_get_within (comparisons rows) (get_or numbers k d) true (all k d within) in
    let many : length (comparisons rows) ≡ length rows = length-map rows (λ (row : Row). is_comparison row.sort) in
    omega (arith, there, many)

pub conditions_fit : (rows : ℕ) (keys numbers : List ℕ) → AreRows rows numbers → PartsFit rows (leaves keys (map Condition numbers))
conditions_fit rows [] numbers within = tt
conditions_fit rows (key ∷ keys) [] within = tt
conditions_fit rows (key ∷ keys) (n ∷ numbers) within =
    ((within 0 0 (omega arith), refl), tt, conditions_fit rows keys numbers (λ k d w. within (suc k) d (omega (arith, w))))

leaves_fit : (rows : ℕ) (keys numbers : List ℕ) (action : ℕ) → AreRows rows numbers → action < rows → PartsFit rows (leaves keys (map Condition numbers ++ Action action ∷ []))
leaves_fit rows [] numbers action within known = tt
leaves_fit rows (key ∷ []) [] action within known = ((known, refl), tt, tt)
leaves_fit rows (key ∷ other ∷ keys) [] action within known = ((known, refl), tt, tt)
leaves_fit rows (key ∷ keys) (n ∷ numbers) action within known =
    ((within 0 0 (omega arith), refl), tt, leaves_fit rows keys numbers action (λ k d w. within (suc k) d (omega (arith, w))) known)

no_subtrees : (keys numbers : List ℕ) (action : ℕ) → subtrees (leaves keys (map Condition numbers ++ Action action ∷ [])) ≡ 0
no_subtrees [] numbers action = refl
no_subtrees (key ∷ []) [] action = refl
no_subtrees (key ∷ other ∷ keys) [] action = refl
no_subtrees (key ∷ keys) (n ∷ numbers) action = let later = no_subtrees keys numbers action in omega (arith, later)

-- what is known of the needs of a row
pub record KnownNeeds (rows : List Row) (row : ℕ) : Type 0 where
  pub few : length (needs_of rows row) ≤ 16
  pub within : AreRows (length rows) (needs_of rows row)

pub needs_known : (world : World) → IsValidWorld world → (row : ℕ) → KnownNeeds world.rows row
needs_known world valid row = elim (slice_get_cases world.rows row).1 [
  | inl (found, within, there, at) ↦
      let fits : IsValidRow world.facts world.rows found = subst (λ (r : Row). IsValidRow world.facts world.rows r) at (valid.rows row found within) in
      let e : needs_of world.rows row ≡ found.needs = ap (λ (o : Option Row). option_map_or (λ (r : Row). r.needs) o []) there in
      record {
        few = subst (λ (l : List ℕ). length l ≤ 16) (sym e) fits.needs.few;
        within = subst (λ (l : List ℕ). AreRows (length world.rows) l) (sym e) (rows_within world.rows found.needs fits.needed);
      }
  | inr (past, none) ↦
      let e : needs_of world.rows row ≡ [] = ap (λ (o : Option Row). option_map_or (λ (r : Row). r.needs) o []) none in
      record {
        few = subst (λ (l : List ℕ). length l ≤ 16) (sym e) (omega arith);
        within = subst (λ (l : List ℕ). AreRows (length world.rows) l) (sym e) (λ k d w. absurd (omega (arith, w)));
      }
]

module _ (test : Template → Bool) where
  -- the templates after the first row of some
  abbrev after_row : ℕ → Row → List Row → Bool → List Template
  after_row n row rows b = if b then record { row = n } ∷ templates_from (suc n) rows else templates_from (suc n) rows

  abbrev after_test : ℕ → List Row → Bool → List Template
  after_test n rows b = cond b (record { row = n } ∷ filter test (templates_from (suc n) rows)) (filter test (templates_from (suc n) rows))

  template_within : (n i : ℕ) (rows : List Row) (x : Template) → slice_get (filter test (templates_from n rows)) i ≡ Some x → x.row < n + length rows
  template_within n i [] x found = absurd (cc found)
  template_within n zero (row ∷ rows) x found =
      elim (is_template row) as (λ (b : Bool). slice_get (filter test (after_row n row rows b)) zero ≡ Some x → x.row < n + suc (length rows)) [
        | true ↦ λ found.
            elim (test (record { row = n })) as (λ (b : Bool). slice_get (after_test n rows b) zero ≡ Some x → x.row < n + suc (length rows)) [
              | true ↦ λ found. let e : n ≡ x.row = cc found in omega (arith, e)
              | false ↦ λ found. let later = template_within (suc n) zero rows x found in omega (arith, later)
            ] found
        | false ↦ λ found. let later = template_within (suc n) zero rows x found in omega (arith, later)
      ] found
  template_within n (suc i) (row ∷ rows) x found =
      elim (is_template row) as (λ (b : Bool). slice_get (filter test (after_row n row rows b)) (suc i) ≡ Some x → x.row < n + suc (length rows)) [
        | true ↦ λ found.
            elim (test (record { row = n })) as (λ (b : Bool). slice_get (after_test n rows b) (suc i) ≡ Some x → x.row < n + suc (length rows)) [
              | true ↦ λ found. let later = template_within (suc n) i rows x found in omega (arith, later)
              | false ↦ λ found. let later = template_within (suc n) (suc i) rows x found in omega (arith, later)
            ] found
        | false ↦ λ found. let later = template_within (suc n) (suc i) rows x found in omega (arith, later)
      ] found

pub leaves_some : (keys : List ℕ) (parts : List Part) → 1 ≤ length keys → 1 ≤ length parts → leaves keys parts ≢ Empty
leaves_some [] parts some more e = omega (arith, some)
leaves_some (key ∷ keys) [] some more e = omega (arith, more)
leaves_some (key ∷ keys) (part ∷ parts) some more e = cc e

-- ---- The first tree

no_sequences : (keys numbers : List ℕ) → subtrees (leaves keys (map Condition numbers)) ≡ 0
no_sequences [] numbers = refl
no_sequences (key ∷ keys) [] = refl
no_sequences (key ∷ keys) (n ∷ numbers) = let later = no_sequences keys numbers in omega (arith, later)

-- no sequence was added yet
pub first_many : (root : ℕ) (keys goals : List ℕ) → subtrees (goal_tree root keys goals) ≡ 0
first_many root keys goals = let none = no_sequences keys goals in omega (arith, none)

some_length : (xs : List ℕ) → xs ≢ [] → 1 ≤ length xs
some_length [] some = absurd (some refl)
some_length (x ∷ xs) some = omega arith

pub first_stands : (world : World) → IsValidWorld world → world.goals ≢ [] → (t : PlanTree) (keys : List ℕ) (room : Slab Node) → t.rules ≡ map rule_of world.rows → t.templates ≡ templates_of world.rows → t.achievers ≡ all_achievers_by t.rules t.templates →
    slab_len room ≡ 0 → Adds room t.nodes None (t.root ∷ []) (branch_tree t.root Goals keys (map Condition world.goals)) → length keys ≡ length (map Condition world.goals) →
    StandsFor t world (goal_tree t.root keys world.goals)
first_stands world valid goal t keys room rules templates achievers none adds counted =
    let many = length-map world.goals Condition in
    let some = some_length world.goals goal in
    let few = valid.goals.few in
    let most = size-leaves keys (map Condition world.goals) in
    let low = height-leaves keys (map Condition world.goals) in
    let len = adds.len in
    record {
      valid = valid;
      rules = rules;
      templates = templates;
      achievers = all_achievers_are world.rows t achievers rules templates;
      nodes = adds.stands;
      apart = record { once = adds.apart };
      whole = omega (arith, len, none);
      shape = record {
        below = leaves keys (map Condition world.goals);
        is = refl;
        fit = (
          leaves_some keys (map Condition world.goals) (omega (arith, counted, many, some)) (omega (arith, many, some)),
          conditions_fit (length world.rows) keys world.goals (rows_within world.rows world.goals valid.wanted),
          tt,
        );
        few = let no_more = first_many t.root keys world.goals in omega (arith, most, many, few, no_more);
        low = let no_more = first_many t.root keys world.goals in omega (arith, low, no_more);
      };
    }

-- ---- The expansion

module _ (world : World) (t : PlanTree) (tree : Forest) (st : StandsFor t world tree) (key : ℕ) (is : IsConditionOf tree key) (new : Slab Node) (choice : Choice) (chosen : Chooses t world tree key choice)
    (added : ℕ) where
  at : Stood t.nodes tree key (Condition is.0)
  at = stood_condition world t tree st key is.0 is.1

  abbrev row : ℕ
  row = choice.row

  abbrev row_parts : List Part
  row_parts = parts_of (rule_needs t.rules row) (Some row)

  abbrev real_parts : List Part
  real_parts = map Condition (needs_of world.rows row) ++ Action row ∷ []

  parts_now : row_parts ≡ real_parts
  parts_now = ap (λ (ns : List ℕ). map Condition ns ++ Action row ∷ []) (ap (λ (rules : List Rule). rule_needs rules row) st.rules ∙ rule_needs_is world.rows row)

  parts_count : length real_parts ≡ length (needs_of world.rows row) + 1
  parts_count = length-append (map Condition (needs_of world.rows row)) (Action row ∷ []) ∙ ap (λ (n : ℕ). n + 1) (length-map (needs_of world.rows row) Condition)

  parent_at : choice.parent ≡ at.a.key
  parent_at =
      let e : chosen.node ≡ at.keeps.node = cc (chosen.there, at.keeps.there) in
      let p : Some choice.parent ≡ Some at.a.key = sym chosen.parent_is ∙ ap (λ (n : Node). n.parent) e ∙ at.keeps.parent_is in
      cc p

  row_within : row < length world.rows
  row_within =
      let within = template_within (λ (x : Template). row_achieves world.rows is.0 x.row && not (list_any (λ (own : ℕ). own == x.row) (tried key tree))) 0 0 world.rows (record { row = row })
      (ap (λ (l : List Template). slice_get l 0) (sym (untried_is world t tree st key is.0 is.1 at)) ∙ chosen.first) in
      omega (arith, within)

  module _ (keys : List ℕ) (counted : length keys ≡ length real_parts) where
    abbrev branch : Forest
    branch = branch_tree added (Sequence row) keys real_parts

    branch_few : size branch ≤ 18
    branch_few = let few = (needs_known world st.valid row).few in let most = size-leaves keys real_parts in let many = parts_count in omega (arith, few, most, many)

    branch_one : subtrees branch ≡ 1
    branch_one = let none = no_subtrees keys (needs_of world.rows row) row in omega (arith, none)

    branch_low : height branch ≤ 2
    branch_low = let low = height-leaves keys real_parts in omega (arith, low)

    branch_fits : PartsFit (length world.rows) branch
    branch_fits =
        let many = parts_count in
        (leaves_some keys real_parts (omega (arith, counted, many)) (omega (arith, many)), leaves_fit (length world.rows) keys (needs_of world.rows row) row (needs_known world st.valid row).within row_within, tt)

    branch_all : length keys ≡ length (needs_of world.rows row) + 1
    branch_all = counted ∙ parts_count

  by_kind : (b : Bool) → is_fallback at.a.part ≡ b → GrowsAt b t.nodes new at.a.key key added (Sequence row) real_parts → Expands (record t { nodes = new }) world tree key added
  by_kind true kind g =
      let grew = regrown_last world t tree st key (Condition is.0) at 0 added (Sequence row) real_parts new kind g (omega (arith, branch_few g.keys g.counted)) (branch_one g.keys g.counted) (branch_low g.keys g.counted)
      (branch_fits g.keys g.counted) in
      let change : Part → Forest → Forest = λ x. grown x key 0 (branch g.keys g.counted) in
      let keys : NewKeys = record { fallback = 0; sequence = added; leaves = g.keys } in
      let is_changed : expanded world.rows keys key row tree ≡ changed_below at.a.key change tree =
      ap (λ (up : List Ancestor). expanded_below up key 0 (new_sequence world.rows keys row) tree) at.above_is in
      record {
        template = record { row = row };
        first = chosen.first;
        keys = keys;
        all = branch_all g.keys g.counted;
        named = refl;
        stands = subst (λ (f : Forest). StandsFor (record t { nodes = new }) world f) (sym is_changed) (regrown_stands world t tree st new at.a.key change (branch g.keys g.counted) grew);
        many = ap subtrees is_changed ∙ regrown_many world t tree st new at.a.key change (branch g.keys g.counted) grew;
        sequence =
            let keeps = (last_sequence world t tree st key (Condition is.0) at 0 added (Sequence row) real_parts new kind g (omega (arith, branch_few g.keys g.counted)) (branch_one g.keys g.counted) (branch_low g.keys g.counted)
            (branch_fits g.keys g.counted)).3 in
            let one : one_of added added ≡ 1 = one_same added added refl in
            ap (λ (f : Forest). part_at added f) is_changed ∙ regrown_new world t tree st new at.a.key change (branch g.keys g.counted) grew added (Sequence row) (Some at.a.key) _ (omega (arith, one)) keeps;
        kept = λ old x there. ap (λ (f : Forest). part_at old f) is_changed ∙ regrown_parts world t tree st new at.a.key change (branch g.keys g.counted) grew old x there;
      }
  by_kind false kind g =
      let grew = regrown_wraps world t tree st key (Condition is.0) at added (Sequence row) real_parts new kind g (branch_few g.keys g.counted) (branch_one g.keys g.counted) (branch_low g.keys g.counted)
      (branch_fits g.keys g.counted) in
      let change : Part → Forest → Forest = λ x. grown x key g.fallback (branch g.keys g.counted) in
      let more : Forest = Tree g.fallback Fallback (branch g.keys g.counted) Empty in
      let keys : NewKeys = record { fallback = g.fallback; sequence = added; leaves = g.keys } in
      let is_changed : expanded world.rows keys key row tree ≡ changed_below at.a.key change tree =
      ap (λ (up : List Ancestor). expanded_below up key g.fallback (new_sequence world.rows keys row) tree) at.above_is in
      record {
        template = record { row = row };
        first = chosen.first;
        keys = keys;
        all = branch_all g.keys g.counted;
        named = refl;
        stands = subst (λ (f : Forest). StandsFor (record t { nodes = new }) world f) (sym is_changed) (regrown_stands world t tree st new at.a.key change more grew);
        many = ap subtrees is_changed ∙ regrown_many world t tree st new at.a.key change more grew;
        sequence =
            let keeps = (wrap_after world t tree st key (Condition is.0) at added (Sequence row) real_parts new kind g (branch_few g.keys g.counted) (branch_one g.keys g.counted) (branch_low g.keys g.counted)
            (branch_fits g.keys g.counted)).3 in
            let one : one_of added added ≡ 1 = one_same added added refl in
            ap (λ (f : Forest). part_at added f) is_changed ∙ regrown_new world t tree st new at.a.key change more grew added (Sequence row) (Some g.fallback) _ (omega (arith, one)) keeps;
        kept = λ old x there. ap (λ (f : Forest). part_at old f) is_changed ∙ regrown_parts world t tree st new at.a.key change more grew old x there;
      }

  pub expands : ((node : Node) → get t.nodes choice.parent ≡ Some node → GrowsAt (is_fallback node.part) t.nodes new choice.parent key added (Sequence choice.row) row_parts) →
      Expands (record t { nodes = new }) world tree key added
  expands grows =
      let node = at.keeps_a.node in
      let first = grows node (ap (λ (k : ℕ). get t.nodes k) parent_at ∙ at.keeps_a.there) in
      let second = subst (λ (k : ℕ). GrowsAt (is_fallback node.part) t.nodes new k key added (Sequence row) row_parts) parent_at first in
      let third = subst (λ (x : Part). GrowsAt (is_fallback x) t.nodes new at.a.key key added (Sequence row) row_parts) at.keeps_a.part_is second in
      by_kind (is_fallback at.a.part) refl (subst (λ (ps : List Part). GrowsAt (is_fallback at.a.part) t.nodes new at.a.key key added (Sequence row) ps) parts_now third)

-- room alone changes nothing
pub room_stands : (world : World) (t : PlanTree) (tree : Forest) (room : ℕ) → StandsFor t world tree → StandsFor (record t { nodes = record t.nodes { capacity = room } }) world tree
room_stands world t tree room st = record {
  valid = st.valid;
  rules = st.rules;
  templates = st.templates;
  achievers = st.achievers;
  nodes = stands_by t.nodes (record t.nodes { capacity = room }) None (t.root ∷ []) tree (λ (k : ℕ) (node : Node) has there. there) st.nodes;
  apart = st.apart;
  whole = st.whole;
  shape = st.shape;
}
