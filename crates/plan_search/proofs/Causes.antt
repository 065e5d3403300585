-- No cause of a plan's fault has a name in it: the leaves of its trees are conditions that compare a fact, and templates,
-- none of which has an input port.
use Rattle.std.proofs.Common.{◌≡◌, inl, inr, ℕ, zero, suc, ◌+◌, Bool, true, false, not, ◌&&◌, List, [], ◌∷◌, ◌++◌, length, map, Option, Some, None, IfSome, refl, sym, ap, subst, ◌∙◌, arith}
use Rattle.std.specs.Prelude.{codes, cond, decimal, slice_get}
use Rattle.std.specs.List.{All, AllByRecursion, IsDistinct, filter}
use Rattle.std.specs.Option.{option_map_or}
use Rattle.std.specs.Str.{bytes_eq}
use Rattle.std.proofs.lemmas.Bool.{cond_both}
use Rattle.std.proofs.lemmas.List.Elements.{All-head, All-tail}
use Rattle.std.proofs.lemmas.Map.Keys.{IsDistinct-head, IsDistinct-tail}
use Rattle.std.proofs.lemmas.Option.{get_or_from_slice_get, slice_get-map, slice_get_cases, slice_get_within}
use Rattle.std.proofs.lemmas.Slice.Eq.{bytes_eq-Decides}
use Rattle.spec_script.proofs.Bools.{both}
use Rattle.spec_run.specs.declared.fault.Cause.{Cause}
use Rattle.spec_run.specs.declared.fault.Cause.TheVariants.{NoEntry, NoInput}
use Rattle.spec_run.specs.declared.fault.RunFault.{RunFault}
use Rattle.spec_tree.specs.declared.term.Kind.TheVariants.{ReactiveSequence, Leaf}
use Rattle.spec_world.specs.declared.world.Fact.{Fact}
use Rattle.spec_world.specs.declared.world.Row.{Row}
use Rattle.spec_world.specs.declared.world.RowSort.{RowSort}
use Rattle.spec_world.specs.declared.world.RowSort.TheVariants.{Is}
use Rattle.spec_world.specs.declared.world.World.{World}
use Rattle.spec_run.specs.Leaves.{row_of}
use Rattle.spec_output.specs.Lines.{LineNames, cause_words}
use Rattle.spec_run.specs.Visit.{meaning}
use Rattle.spec_world.specs.Worlds.{IsComparisonIn, IsValidRow, IsValidSort, IsValidWorld, ids_of_rows, is_comparison, is_condition}
use Rattle.spec_plan.specs.declared.domain.Template.{Template}
use Rattle.spec_plan.specs.Templates.{is_empty, is_template, templates_from, templates_of}
use Rattle.spec_plan.specs.declared.part.Part.{Part}
use Rattle.spec_plan.specs.declared.part.Part.TheVariants.{Goals, Sequence, Fallback, Condition, Action}
use Rattle.spec_plan.specs.Expansion.{condition_row, tried, untried, untried_of}
use Rattle.spec_plan.specs.Forests.{Forest, Empty, Tree, part_at}
use Rattle.spec_plan.specs.Planned.{id_of, kind_of, part_id, terms_of}
use Rattle.spec_plan.specs.Achievers.{needs_of}
use Rattle.spec_plan.specs.Modelled.{modelled, ticks}
use Rattle.run_laws.proofs.Claims.{TermMeets}
use Rattle.plan_trial.proofs.Portless.{IsPortless, plain_meets, portless, run_meets}
use Rattle.plan_trial.proofs.PortlessRows.{HasNoName}
use Rattle.spec_plan.specs.declared.ending.End.{End}
use Rattle.spec_plan.specs.declared.ending.End.TheVariants.{Faulted}
use Rattle.spec_plan.specs.declared.ending.Limits.{Limits}
use Rattle.spec_plan.specs.declared.ending.PlanEnd.{PlanEnd}
use Rattle.spec_plan.specs.PlanLines.{comment, end_line}
use Rattle.spec_plan.specs.PlanRuns.{Ends, PlanRun, Trial, tree_of}
use Rattle.plan_search.proofs.PartRows.{OfRow, OfRows}
use Rattle.plan_search.proofs.RunRows.{first_rows, lead_rows}

-- ---- Rows by their IDs

-- the ID of none of these rows is this one
other_id : (id : List ℕ) (rows : List Row) (n : ℕ) (row : Row) → AllByRecursion (λ other. bytes_eq id other ≡ false) (ids_of_rows rows) → slice_get rows n ≡ Some row → bytes_eq id row.id ≡ false
other_id id [] n row all there = absurd (cc there)
other_id id (first ∷ rows) zero row all there = let same : first ≡ row = cc there in subst (λ (r : Row). bytes_eq id r.id ≡ false) same all.0
other_id id (first ∷ rows) (suc n) row all there = other_id id rows n row all.1 there

-- where IDs differ, the row of an ID is the one that has it
pub by_id : (rows : List Row) (n : ℕ) (row : Row) → IsDistinct bytes_eq (ids_of_rows rows) → slice_get rows n ≡ Some row → row_of rows row.id ≡ Some row
by_id [] n row apart there = absurd (cc there)
by_id (first ∷ rows) zero row apart there =
    let same : first ≡ row = cc there in
    ap (λ (b : Bool). cond b (Some first) (row_of rows row.id)) ((bytes_eq-Decides first.id row.id).1 (ap (λ (r : Row). r.id) same)) ∙ ap (λ (r : Row). Some r) same
by_id (first ∷ rows) (suc n) row apart there =
    ap (λ (b : Bool). cond b (Some first) (row_of rows row.id)) (other_id first.id rows n row (IsDistinct-head bytes_eq first.id (ids_of_rows rows) apart) there)
    ∙ by_id rows n row (IsDistinct-tail bytes_eq first.id (ids_of_rows rows) apart) there

-- ---- Templates

-- what holds of each row that is a template holds of each template
pub templates_are : (P : ℕ → Type 0) (first : ℕ) (rows : List Row) → ((n : ℕ) (row : Row) → slice_get rows n ≡ Some row → is_template row ≡ true → P (first + n)) → AllByRecursion (λ (t : Template). P t.row) (templates_from first rows)
templates_are P first [] each = tt
templates_are P first (row ∷ rows) each =
    let later : AllByRecursion (λ (t : Template). P t.row) (templates_from (suc first) rows) = templates_are P (suc first) rows (λ n other there is. let e : first + suc n ≡ suc first + n = omega arith in subst P e (each (suc n) other there is)) in
    cond_both (is_template row) (record { row = first } ∷ templates_from (suc first) rows) (templates_from (suc first) rows) (λ ts. AllByRecursion (λ (t : Template). P t.row) ts)
    (λ is. let e : first + 0 ≡ first = omega arith in (subst P e (each zero row refl is), later)) (λ _. later)

-- .. and of the first that passes a test
first_passes : {X : Type 0} (P : X → Type 0) (test : X → Bool) (xs : List X) (x : X) → AllByRecursion P xs → slice_get (filter test xs) 0 ≡ Some x → P x
first_passes P test [] x all is = absurd (cc is)
first_passes {X} P test (first ∷ xs) x all is =
    elim (test first) as (λ b. slice_get (cond b (first ∷ filter test xs) (filter test xs)) 0 ≡ Some x → P x) [
      | true ↦ λ e. let same : first ≡ x = cc e in subst P same all.0
      | false ↦ λ e. first_passes P test xs x all.1 e
    ] is

pub first_untried : (P : ℕ → Type 0) (rows : List Row) → AllByRecursion (λ (t : Template). P t.row) (templates_of rows) → (condition : Option ℕ) (tried : List ℕ) (t : Template) → slice_get (untried_of rows condition tried) 0 ≡ Some t → P t.row
first_untried P rows all None tried t is = absurd (cc is)
first_untried P rows all (Some condition) tried t is = first_passes (λ (t : Template). P t.row) _ (templates_of rows) t all is

-- ---- Rows without input ports

empty_is : {X : Type 0} (xs : List X) → is_empty xs ≡ true → xs ≡ []
empty_is [] is = refl
empty_is (x ∷ xs) is = absurd (cc is)

comparison_portless : (facts : List Fact) (ports : List (List ℕ)) (sort : RowSort) → is_comparison sort ≡ true → IsValidSort facts ports sort → ports ≡ []
comparison_portless facts ports (Is fact op value) is valid = valid.2
comparison_portless facts ports _ is valid = absurd (cc is)

module _ (world : World) (valid : IsValidWorld world) where
  abbrev of : World
  of = modelled world

  -- the row that is found by the ID of the row of this number has no input port
  abbrev HasNoPort : ℕ → Type 0
  HasNoPort n = IfSome (row_of world.rows (id_of world.rows n)) (IsPortless of)

  valid_row : (n : ℕ) (row : Row) → slice_get world.rows n ≡ Some row → IsValidRow world.facts world.rows row
  valid_row n row there =
      subst (λ (r : Row). IsValidRow world.facts world.rows r) (get_or_from_slice_get world.rows n row row there) (valid.rows n row (slice_get_within world.rows n row there))

  no_port : (n : ℕ) (row : Row) → slice_get world.rows n ≡ Some row → row.ports ≡ [] → HasNoPort n
  no_port n row there none =
      let id : id_of world.rows n ≡ row.id = ap (λ (o : Option Row). option_map_or (λ (r : Row). r.id) o []) there in
      let found : row_of world.rows (id_of world.rows n) ≡ Some row = ap (row_of world.rows) id ∙ by_id world.rows n row valid.ids.distinct there in
      subst (λ (o : Option Row). IfSome o (IsPortless of)) (sym found) (record {
        valid = valid_row n row there;
        none = none;
      })

  -- a condition that compares a fact
  compared : (n : ℕ) → IsComparisonIn world.rows n → HasNoPort n
  compared n is = elim (slice_get_cases world.rows n).1 [
    | inl (row, within, there, at) ↦
        let sort : is_comparison row.sort ≡ true = cc (slice_get-map (λ (r : Row). is_comparison r.sort) world.rows n, there, is) in
        no_port n row there (comparison_portless world.facts row.ports row.sort sort (valid_row n row there).sort)
    | inr (past, none) ↦ absurd (cc (slice_get-map (λ (r : Row). is_comparison r.sort) world.rows n, none, is))
  ]

  all_compared : (ns : List ℕ) → All (IsComparisonIn world.rows) ns → AllByRecursion HasNoPort ns
  all_compared [] all = tt
  all_compared (n ∷ ns) all = (compared n (All-head (IsComparisonIn world.rows) n ns all), all_compared ns (All-tail (IsComparisonIn world.rows) n ns all))

  goals_portless : AllByRecursion HasNoPort world.goals
  goals_portless = all_compared world.goals valid.wanted

  needs_portless : (n : ℕ) → AllByRecursion HasNoPort (needs_of world.rows n)
  needs_portless n = elim (slice_get_cases world.rows n).1 [
    | inl (row, within, there, at) ↦
        let e : needs_of world.rows n ≡ row.needs = ap (λ (o : Option Row). option_map_or (λ (r : Row). r.needs) o []) there in
        subst (λ ns. AllByRecursion HasNoPort ns) (sym e) (all_compared row.needs (valid_row n row there).needed)
    | inr (past, none) ↦
        let e : needs_of world.rows n ≡ [] = ap (λ (o : Option Row). option_map_or (λ (r : Row). r.needs) o []) none in
        subst (λ ns. AllByRecursion HasNoPort ns) (sym e) tt
  ]

  template_portless : (n : ℕ) (row : Row) → slice_get world.rows n ≡ Some row → is_template row ≡ true → HasNoPort n
  template_portless n row there is =
      let parts = both (not (is_condition row.sort) && is_empty row.ports) (not (is_empty row.sets)) is in
      no_port n row there (empty_is row.ports (both (not (is_condition row.sort)) (is_empty row.ports) parts.0).1)

  -- the first untried template of a condition
  untried_portless : (k : ℕ) (f : Forest) (t : Template) → slice_get (untried world.rows k f) 0 ≡ Some t → HasNoPort t.row
  untried_portless k f t is =
      let all = templates_are HasNoPort 0 world.rows (λ n row there template. let e : n ≡ 0 + n = omega arith in subst HasNoPort e (template_portless n row there template)) in
      first_untried HasNoPort world.rows all (condition_row (part_at k f)) (tried k f) t is

  -- ---- Trees

  leaf_portless : (part : Part) → OfRow HasNoPort part → kind_of part ≡ Leaf → IfSome (row_of world.rows (part_id world.rows part)) (IsPortless of)
  leaf_portless Goals own is = absurd (cc is)
  leaf_portless (Sequence row) own is = absurd (cc is)
  leaf_portless Fallback own is = absurd (cc is)
  leaf_portless (Condition row) own is = own
  leaf_portless (Action row) own is = own

  terms_meet : (f : Forest) → OfRows HasNoPort f → AllByRecursion (TermMeets (portless of)) (map meaning (terms_of world.rows f))
  terms_meet Empty own = tt
  terms_meet (Tree key part below rest) own =
      (plain_meets of (kind_of part) (part_id world.rows part) (terms_of world.rows below) (leaf_portless part own.0) (terms_meet below own.1), terms_meet rest own.2)

  tree_meets : (f : Forest) → OfRows HasNoPort f → TermMeets (portless of) (meaning (tree_of world.rows f).term)
  tree_meets Empty own = plain_meets of ReactiveSequence (codes "ReactiveSequence") [] (λ e. absurd (cc e)) tt
  tree_meets (Tree key part below rest) own = (terms_meet (Tree key part below rest) own).0

  -- ---- Plan runs

  module _ (limits : Limits) where
    same_words : (names other : LineNames) (uid : ℕ) (cause : Cause) → HasNoName cause → cause_words names uid cause ≡ cause_words other uid cause
    same_words names other uid (NoEntry slot) none = absurd none
    same_words names other uid (NoInput place) none = absurd none
    same_words names other uid _ none = refl

    end_alike : (names other : LineNames) (added : ℕ) (t : Trial) (end : End) → OfRows HasNoPort t.tree → Ends world limits added t end → end_line names end ≡ end_line other end
    end_alike names other added t (Faulted uid cause) own ends =
        let none = run_meets of (tree_of world.rows t.tree) (tree_meets t.tree own) (ticks limits.period (t.before + 1)) in
        let here : HasNoName cause = subst (λ (o : Option RunFault). IfSome o (λ (f : RunFault). HasNoName f.cause)) ends none in
        ap (λ (words : List ℕ). comment (codes "no plan Faulted " ++ decimal uid ++ codes " " ++ words)) (same_words names other uid cause here)
    end_alike names other added t _ own ends = refl

    -- the line of the end is the same by whatever names it is told
    pub ends_alike : (planned : PlanEnd) (trials : List Trial) (last : Trial) (names other : LineNames) → PlanRun world limits planned trials last → end_line names planned.end ≡ end_line other planned.end
    ends_alike planned trials last names other run =
        end_alike names other (length planned.steps) last planned.end (lead_rows HasNoPort world goals_portless needs_portless untried_portless limits trials planned.steps 0 run.first last.tree
        (first_rows HasNoPort world goals_portless needs_portless untried_portless run.first run.is_first) run.lead) run.ends
