-- The leaves of a planned tree all have a row, and a driver where each row has one.
use Rattle.std.proofs.Common.{◌≡◌, ◌≢◌, ℕ, zero, suc, ◌+◌, ◌<◌, Bool, true, false, List, [], ◌∷◌, ◌++◌, length, get_or, map, Option, Some, None, refl, sym, ap, subst, ◌∙◌, arith}
use Rattle.std.specs.Prelude.{bytes_eq, codes, cond, if◌then◌else◌, option_map}
use Rattle.std.specs.List.{All, find, flat_map}
use Rattle.std.specs.Option.{option_or}
use Rattle.std.proofs.lemmas.Slice.Eq.{bytes_eq-Decides}
use Rattle.spec_run.specs.declared.leaf.DriverKind.{DriverKind}
use Rattle.spec_tree.specs.declared.term.Term.{Term, Term-F, fold-roll-Term, roll-Term}
use Rattle.spec_tree.specs.declared.term.Tree.{Tree as Planned}
use Rattle.spec_tree.specs.declared.term.Kind.TheVariants.{ReactiveSequence}
use Rattle.spec_world.specs.declared.world.Row.{Row}
use Rattle.spec_world.specs.declared.world.World.{World}
use Rattle.spec_run.specs.Drivers.{DriverState, driver_at, kind_of_row, place_of_kind, same_kind}
use Rattle.spec_tree.specs.Terms.{leaf_ids, own_leaf_id}
use Rattle.spec_run.specs.declared.join_fault.JoinFault.{JoinFault}
use Rattle.spec_run.specs.Joins.{first_missing, lacks_by, lacks_driver, leaf_lacks}
use Rattle.spec_run.specs.Rosters.{IsSameRoster}
use Rattle.plan_tree.specs.declared.tree.PlanTree.{PlanTree}
use Rattle.spec_plan.specs.declared.part.Part.{Part}
use Rattle.spec_plan.specs.declared.part.Part.TheVariants.{Goals, Sequence, Fallback, Condition, Action}
use Rattle.spec_plan.specs.Forests.{Forest, Empty, Tree}
use Rattle.plan_tree.specs.Planned.{IsPlanned}
use Rattle.spec_plan.specs.Planned.{id_of, kind_of, part_id, plain_node, terms_of}
use Rattle.plan_tree.specs.Stands.{PartFits, PartsFit, StandsFor}
use Rattle.plan_trial.specs.Tasks.{LacksNothing}
use Rattle.plan_search.specs.Served.{AreServed}
use Rattle.spec_plan.specs.PlanRuns.{tree_of}
use Rattle.plan_search.proofs.Trials.{planned_is}

none_of : (a b : Option JoinFault) → option_or a b ≡ None → (a ≡ None) × (b ≡ None)
none_of None b e = (refl, e)
none_of (Some fault) b e = cc e

has_driver : (place : Option ℕ) (kind : DriverKind) → place ≢ None → lacks_driver place kind ≡ None
has_driver (Some place) kind some = refl
has_driver None kind some = absurd (some refl)

module _ (drivers : List DriverState) where
  abbrev IsFound : List Row → List ℕ → Type 0
  IsFound rows id = lacks_by (find (λ (r : Row). bytes_eq r.id id) rows) drivers id ≡ None

  not_first : (r : Row) (rows : List Row) (id : List ℕ) (row : ℕ) → ((k : ℕ) → k < length rows → id_of rows k ≡ id → IsFound rows id) → row < length (r ∷ rows) → id_of (r ∷ rows) row ≡ id → bytes_eq r.id id ≡ false → IsFound rows id
  not_first r rows id zero others low is e = absurd (let same : bytes_eq r.id id ≡ true = (bytes_eq-Decides r.id id).1 is in let w : true ≡ false = sym same ∙ e in cc)
  not_first r rows id (suc k) others low is e = others k (omega (arith, low)) is

  -- a row of this ID is found among some that have a driver each
  is_found : (rows : List Row) (id : List ℕ) (row : ℕ) → row < length rows → id_of rows row ≡ id → All (λ (r : Row). place_of_kind drivers (kind_of_row r) ≢ None) rows → IsFound rows id
  is_found [] id row low is served = absurd (omega (arith, low))
  is_found (r ∷ rows) id row low is served =
      let others : (k : ℕ) → k < length rows → id_of rows k ≡ id → IsFound rows id = λ k below e. is_found rows id k below e (λ i d within. served (suc i) d (omega (arith, within))) in
      elim (bytes_eq r.id id) as (λ (b : Bool). bytes_eq r.id id ≡ b → lacks_by (cond b (Some r) (find (λ (x : Row). bytes_eq x.id id) rows)) drivers id ≡ None) [
        | true ↦ λ e. has_driver (place_of_kind drivers (kind_of_row r)) (kind_of_row r) (served 0 r (omega arith))
        | false ↦ λ e. not_first r rows id row others low is e
      ] refl

  module _ (rows : List Row) (served : All (λ (r : Row). place_of_kind drivers (kind_of_row r) ≢ None) rows) where
    abbrev missing : List (List ℕ) → Option JoinFault
    missing ids = first_missing rows drivers ids

    missing_both : (xs ys : List (List ℕ)) → missing xs ≡ None → missing ys ≡ None → missing (xs ++ ys) ≡ None
    missing_both [] ys p q = q
    missing_both (x ∷ xs) ys p q =
        let none = none_of (leaf_lacks rows drivers x) (missing xs) p in
        ap (λ (o : Option JoinFault). option_or o (missing (xs ++ ys))) none.0 ∙ missing_both xs ys none.1 q

    row_there : (row : ℕ) → row < length rows → missing (id_of rows row ∷ []) ≡ None
    row_there row low = ap (λ (o : Option JoinFault). option_or o None) (is_found rows (id_of rows row) row low refl served)

    own_there : (part : Part) (below : Forest) → PartFits (length rows) part below → missing (own_leaf_id (kind_of part) (part_id rows part)) ≡ None
    own_there Goals below fits = refl
    own_there (Sequence row) below fits = refl
    own_there Fallback below fits = refl
    own_there (Condition row) below fits = row_there row fits.0
    own_there (Action row) below fits = row_there row fits.0

    abbrev term_at : Part → Forest → Term-F Term
    term_at part below = plain_node (kind_of part) (part_id rows part) (terms_of rows below)

    abbrev all_ids : List Term → List (List ℕ)
    all_ids terms = flat_map (λ (ids : List (List ℕ)). ids) (map leaf_ids terms)

    ids_at : (x : Term-F Term) → leaf_ids (roll-Term x) ≡ own_leaf_id x.kind x.id ++ all_ids x.children
    ids_at x = fold-roll-Term (List (List ℕ)) (λ node. own_leaf_id node.kind node.id ++ flat_map (λ ids. ids) node.children) x

    all_there : (f : Forest) → PartsFit (length rows) f → missing (all_ids (terms_of rows f)) ≡ None
    all_there Empty fits = refl
    all_there (Tree key part below rest) (own, lower, later) =
        missing_both (leaf_ids (roll-Term (term_at part below))) (all_ids (terms_of rows rest))
        (ap missing (ids_at (term_at part below)) ∙ missing_both (own_leaf_id (kind_of part) (part_id rows part)) (all_ids (terms_of rows below)) (own_there part below own) (all_there below lower))
        (all_there rest later)

    first_there : (f : Forest) → PartsFit (length rows) f → missing (leaf_ids (tree_of rows f).term) ≡ None
    first_there Empty fits = ap missing (ids_at (plain_node ReactiveSequence (codes "ReactiveSequence") []))
    first_there (Tree key part below rest) (own, lower, later) =
        ap missing (ids_at (term_at part below)) ∙ missing_both (own_leaf_id (kind_of part) (part_id rows part)) (all_ids (terms_of rows below)) (own_there part below own) (all_there below lower)

-- nothing is missing for a planned tree, in a world that may have another name
pub lacks_nothing : (world of : World) → world ≡ of → (drivers : List DriverState) (t : PlanTree) (f : Forest) (tree : Planned) → AreServed world drivers → StandsFor t world f → IsPlanned world.rows f tree → LacksNothing tree of drivers
lacks_nothing world of same drivers t f tree served st p =
    subst (λ (w : World). LacksNothing tree w drivers) same
    (ap (λ (x : Planned). first_missing world.rows drivers (leaf_ids x.term)) (planned_is world f tree p) ∙ first_there drivers world.rows served f st.shape.fit)

-- ---- The drivers after a run

same_place : (old new : List DriverState) (kind : DriverKind) → length new ≡ length old → ((place : ℕ) → (driver_at new place).kind ≡ (driver_at old place).kind) → place_of_kind new kind ≡ place_of_kind old kind
same_place [] [] kind many same = refl
same_place [] (d ∷ new) kind many same = absurd (omega (arith, many))
same_place (c ∷ old) [] kind many same = absurd (omega (arith, many))
same_place (c ∷ old) (d ∷ new) kind many same =
    let own : d.kind ≡ c.kind = same 0 in
    let others : place_of_kind new kind ≡ place_of_kind old kind = same_place old new kind (omega (arith, many)) (λ place. same (suc place)) in
    (λ i. if same_kind (own i) kind then Some 0 else option_map (λ (place : ℕ). place + 1) (others i))

-- rows that have a driver keep it
pub still_served : (world : World) (old new : List DriverState) → IsSameRoster old new → AreServed world old → AreServed world new
still_served world old new same served = λ i d within none. served i d within (sym (same_place old new (kind_of_row (get_or world.rows i d)) same.as_many same.kind) ∙ none)
