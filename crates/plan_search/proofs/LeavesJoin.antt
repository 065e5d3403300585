-- No leaf of a planned tree lacks its row or a driver.
use Rattle.std.proofs.Common.{◌≡◌, ◌≢◌, ℕ, true, false, cond, List, [], ◌∷◌, ◌++◌, length, map, Option, Some, None, refl, sym, ap, subst, ◌∙◌}
use Rattle.std.specs.List.{All, flat_map}
use Rattle.std.specs.Option.{option_or}
use Rattle.std.specs.Str.{bytes_eq}
use Rattle.std.proofs.lemmas.List.Elements.{All-head, All-tail}
use Rattle.spec_run.specs.declared.join_fault.JoinFault.{JoinFault}
use Rattle.spec_run.specs.declared.leaf.DriverKind.{DriverKind}
use Rattle.spec_run.specs.Drivers.{DriverState, kind_of_row, place_of_kind}
use Rattle.spec_run.specs.Joins.{first_missing, lacks_by, lacks_driver, leaf_lacks}
use Rattle.spec_run.specs.Leaves.{row_of}
use Rattle.spec_tree.specs.declared.term.Term.{fold-roll-Term, roll-Term}
use Rattle.spec_tree.specs.declared.term.Tree.{Tree as Planned}
use Rattle.spec_tree.specs.Terms.{leaf_ids, own_leaf_id}
use Rattle.spec_world.specs.declared.world.Row.{Row}
use Rattle.spec_world.specs.declared.world.World.{World}
use Rattle.spec_world.specs.Worlds.{IsValidWorld}
use Rattle.spec_plan.specs.declared.ending.End.{End}
use Rattle.spec_plan.specs.declared.ending.End.TheVariants.{Reached, NoTemplate, NoOrder, Expansions, StillRunning, Faulted}
use Rattle.spec_plan.specs.declared.ending.Limits.{Limits}
use Rattle.spec_plan.specs.declared.ending.PlanEnd.{PlanEnd}
use Rattle.spec_plan.specs.declared.part.Part.{Part}
use Rattle.spec_plan.specs.declared.part.Part.TheVariants.{Goals, Sequence, Fallback, Condition, Action}
use Rattle.spec_plan.specs.Forests.{Forest, Empty, Tree}
use Rattle.spec_plan.specs.Planned.{id_of, kind_of, part_id, plain_node, terms_of}
use Rattle.spec_plan.specs.PlanRuns.{Ends, PlanRun, Trial, tree_of}
use Rattle.plan_search.specs.Joining.{JoinsWorld}
use Rattle.plan_search.specs.Served.{AreServed}
use Rattle.plan_search.proofs.PartRows.{OfRow, OfRows}
use Rattle.plan_search.proofs.RowsThere.{HasRow, goals_there, needs_there, templates_there}
use Rattle.plan_search.proofs.RunRows.{first_rows, lead_rows}

module _ (rows : List Row) (drivers : List DriverState) (served : All (λ (row : Row). place_of_kind drivers (kind_of_row row) ≢ None) rows) where
  abbrev IsServed : Row → Type 0
  IsServed row = place_of_kind drivers (kind_of_row row) ≢ None

  found_served : (id : List ℕ) (some : List Row) → All IsServed some → (row : Row) → row_of some id ≡ Some row → IsServed row
  found_served id [] all row is = absurd (cc is)
  found_served id (first ∷ some) all row is =
      elim (bytes_eq first.id id) as (λ b. cond b (Some first) (row_of some id) ≡ Some row → IsServed row) [
        | true ↦ λ e. let same : first ≡ row = cc e in subst IsServed same (All-head IsServed first some all)
        | false ↦ λ e. found_served id some (All-tail IsServed first some all) row e
      ] is

  lacks_nothing : (place : Option ℕ) (kind : DriverKind) → place ≢ None → lacks_driver place kind ≡ None
  lacks_nothing (Some place) kind some = refl
  lacks_nothing None kind some = absurd (some refl)

  row_lacks : (n : ℕ) → HasRow rows n → leaf_lacks rows drivers (id_of rows n) ≡ None
  row_lacks n has =
      ap (λ (o : Option Row). lacks_by o drivers (id_of rows n)) has.1
      ∙ lacks_nothing (place_of_kind drivers (kind_of_row has.0)) (kind_of_row has.0) (found_served (id_of rows n) rows served has.0 has.1)

  abbrev missing : List (List ℕ) → Option JoinFault
  missing ids = first_missing rows drivers ids

  missing_both : (xs ys : List (List ℕ)) → missing xs ≡ None → missing ys ≡ None → missing (xs ++ ys) ≡ None
  missing_both [] ys one other = other
  missing_both (x ∷ xs) ys one other =
      elim (leaf_lacks rows drivers x) as (λ (o : Option JoinFault). option_or o (missing xs) ≡ None → option_or o (missing (xs ++ ys)) ≡ None) [
        | None ↦ λ e. missing_both xs ys e other
        | Some fault ↦ λ e. absurd (cc e)
      ] one

  own_missing : (part : Part) → OfRow (HasRow rows) part → missing (own_leaf_id (kind_of part) (part_id rows part)) ≡ None
  own_missing Goals own = refl
  own_missing (Sequence row) own = refl
  own_missing Fallback own = refl
  own_missing (Condition row) own = ap (λ (o : Option JoinFault). option_or o None) (row_lacks row own)
  own_missing (Action row) own = ap (λ (o : Option JoinFault). option_or o None) (row_lacks row own)

  abbrev ids_below : Forest → List (List ℕ)
  ids_below f = flat_map (λ ids. ids) (map leaf_ids (terms_of rows f))

  node_missing : (part : Part) (below : Forest) → OfRow (HasRow rows) part → missing (ids_below below) ≡ None → missing (leaf_ids (roll-Term (plain_node (kind_of part) (part_id rows part) (terms_of rows below)))) ≡ None
  node_missing part below own lower =
      ap missing (fold-roll-Term (List (List ℕ)) (λ node. own_leaf_id node.kind node.id ++ flat_map (λ ids. ids) node.children) (plain_node (kind_of part) (part_id rows part) (terms_of rows below)))
      ∙ missing_both (own_leaf_id (kind_of part) (part_id rows part)) (ids_below below) (own_missing part own) lower

  none_missing : (f : Forest) → OfRows (HasRow rows) f → missing (ids_below f) ≡ None
  none_missing Empty own = refl
  none_missing (Tree key part below rest) own =
      missing_both (leaf_ids (roll-Term (plain_node (kind_of part) (part_id rows part) (terms_of rows below)))) (ids_below rest)
      (node_missing part below own.0 (none_missing below own.1)) (none_missing rest own.2)

  tree_missing : (f : Forest) → OfRows (HasRow rows) f → missing (leaf_ids (tree_of rows f).term) ≡ None
  tree_missing Empty own = node_missing Goals Empty tt refl
  tree_missing (Tree key part below rest) own = node_missing part below own.0 (none_missing below own.1)

module _ (world : World) (valid : IsValidWorld world) (limits : Limits) (drivers : List DriverState) (served : AreServed world drivers) where
  end_joins : (added : ℕ) (t : Trial) (end : End) → OfRows (HasRow world.rows) t.tree → Ends world limits added t end → JoinsWorld world drivers end
  end_joins added t (Reached tree tick) own ends =
      subst (λ (x : Planned). first_missing world.rows drivers (leaf_ids x.term) ≡ None) (sym ends.1) (tree_missing world.rows drivers served t.tree own)
  end_joins added t (NoTemplate names) own ends = tt
  end_joins added t (NoOrder action condition) own ends = tt
  end_joins added t (Expansions n) own ends = tt
  end_joins added t (StillRunning n) own ends = tt
  end_joins added t (Faulted uid cause) own ends = tt

  pub ends_join : (planned : PlanEnd) (trials : List Trial) (last : Trial) → PlanRun world limits planned trials last → JoinsWorld world drivers planned.end
  ends_join planned trials last run =
      end_joins (length planned.steps) last planned.end
      (lead_rows (HasRow world.rows) world (goals_there world valid) (needs_there world valid) (templates_there world valid) limits trials planned.steps 0 run.first last.tree
      (first_rows (HasRow world.rows) world (goals_there world valid) (needs_there world valid) (templates_there world valid) run.first run.is_first) run.lead) run.ends
