-- After calls the roster is the same: as many drivers, of the same kinds and marks, and no total has fallen.
use Rattle.std.proofs.Common.{◌≡◌, ◌⊎◌, inl, inr, ℕ, List, [], ◌∷◌, Option, Some, None, length, refl, sym, ap, subst, ◌∙◌, arith}
use Rattle.std.proofs.lemmas.Bool.{cases_eq, cases_lt}
use Rattle.std.proofs.lemmas.List.{get_or-set_same, get_or-set_other, length-set}
use Rattle.std.proofs.Math.Seq.{set_out}
use Rattle.spec_run.specs.declared.leaf.DriverKind.TheVariants as driver
use Rattle.spec_run.specs.declared.leaf.Instance.{Instance}
use Rattle.spec_run.specs.declared.leaf.Phase.{Phase}
use Rattle.spec_run.specs.declared.leaf.Phase.TheVariants as phase
use Rattle.spec_run.specs.declared.leaf.Totals.{Totals}
use Rattle.spec_run.specs.Done.{Call}
use Rattle.spec_run.specs.Drivers.{DriverState, after_call, counted, driver_at, new_driver, raised, roster_called}
use Rattle.spec_run.specs.Run.{RunnerCall}
use Rattle.run_arena.specs.declared.nodes.Node.{Node}
use Rattle.run_arena.specs.declared.nodes.ReadyLeaf.{ReadyLeaf}
use Rattle.run_arena.specs.Nodes.{leaf_at}
use Rattle.run_arena.specs.Rosters.{leaf_called}
use Rattle.run_loop.specs.Runs.{nodes_of_runner, roster_over}
use Rattle.spec_run.specs.Served.{call_made, calls_made, instance_number, place_called}
use Rattle.spec_run.specs.Rosters.{HasNotFallen, HasRisen, IsSameRoster}

raised_more : (n : ℕ) → HasNotFallen n (raised n)
raised_more n few = (omega (arith, few), omega (arith, few))

kept : (n : ℕ) → HasNotFallen n n
kept n few = (omega arith, few)

both : (a b c : ℕ) → HasNotFallen a b → HasNotFallen b c → HasNotFallen a c
both a b c ab bc few = (omega (arith, (ab few).0, (bc (ab few).1).0), (bc (ab few).1).1)

risen_same : (t : Totals) → HasRisen t t
risen_same t = record { starts = kept t.starts; runnings = kept t.runnings; haltings = kept t.haltings }

risen_both : (a b c : Totals) → HasRisen a b → HasRisen b c → HasRisen a c
risen_both a b c ab bc = record { starts = both a.starts b.starts c.starts ab.starts bc.starts; runnings = both a.runnings b.runnings c.runnings ab.runnings bc.runnings; haltings = both a.haltings b.haltings c.haltings ab.haltings bc.haltings }

risen_counted : (t : Totals) (phase : Phase) (instance : ℕ) → HasRisen t (counted t phase instance)
risen_counted t phase.Start instance = record { starts = raised_more t.starts; runnings = kept t.runnings; haltings = kept t.haltings }
risen_counted t phase.Running instance = record { starts = kept t.starts; runnings = raised_more t.runnings; haltings = kept t.haltings }
risen_counted t phase.Halted instance = record { starts = kept t.starts; runnings = kept t.runnings; haltings = raised_more t.haltings }
risen_counted t phase.Told instance = record { starts = kept t.starts; runnings = kept t.runnings; haltings = kept t.haltings }

pub same_roster : (ds : List DriverState) → IsSameRoster ds ds
same_roster ds = record { as_many = refl; kind = λ place. refl; mark = λ place. refl; totals = λ place. risen_same (driver_at ds place).totals }

pub roster_both : (a b c : List DriverState) → IsSameRoster a b → IsSameRoster b c → IsSameRoster a c
roster_both a b c ab bc = record {
  as_many = bc.as_many ∙ ab.as_many;
  kind = λ place. bc.kind place ∙ ab.kind place;
  mark = λ place. bc.mark place ∙ ab.mark place;
  totals = λ place. risen_both (driver_at a place).totals (driver_at b place).totals (driver_at c place).totals (ab.totals place) (bc.totals place);
}

module _ (ds : List DriverState) (place : ℕ) (p : Phase) (instance : ℕ) (left : Instance) where
  abbrev called : List DriverState
  called = roster_called ds place p instance left

  -- each driver is as it was, or is the one that was called
  one_driver : (other : ℕ) → (driver_at called other ≡ driver_at ds other) ⊎ (driver_at called other ≡ after_call (driver_at ds other) p instance left)
  one_driver other = elim (cases_eq other place) [
    | inl same ↦ elim (cases_lt place (length ds)) [
      | inl there ↦ inr (subst (λ k. driver_at called k ≡ after_call (driver_at ds k) p instance left) (sym same) (get_or-set_same ds place (after_call (driver_at ds place) p instance left) (new_driver driver.Condition) there))
      | inr beyond ↦ inl (ap (λ (xs : List DriverState). driver_at xs other) (set_out ds place (after_call (driver_at ds place) p instance left) beyond))
    ]
    | inr apart ↦ inl (get_or-set_other ds place other (after_call (driver_at ds place) p instance left) (new_driver driver.Condition) apart)
  ]

  called_same : IsSameRoster ds called
  called_same = record {
    as_many = length-set ds place (after_call (driver_at ds place) p instance left);
    kind = λ other. elim (one_driver other) [ inl e ↦ ap (λ (d : DriverState). d.kind) e | inr e ↦ ap (λ (d : DriverState). d.kind) e ];
    mark = λ other. elim (one_driver other) [ inl e ↦ ap (λ (d : DriverState). d.mark) e | inr e ↦ ap (λ (d : DriverState). d.mark) e ];
    totals = λ other. elim (one_driver other) [
      | inl e ↦ subst (λ (d : DriverState). HasRisen (driver_at ds other).totals d.totals) (sym e) (risen_same (driver_at ds other).totals)
      | inr e ↦ subst (λ (d : DriverState). HasRisen (driver_at ds other).totals d.totals) (sym e) (risen_counted (driver_at ds other).totals p instance)
    ];
  }

leaf_same : (found : Option ReadyLeaf) (call : Call) (ds : List DriverState) → IsSameRoster ds (leaf_called found call ds)
leaf_same None call ds = same_roster ds
leaf_same (Some leaf) call ds = called_same ds leaf.driver call.phase leaf.instance call.left

-- a call of the definition
made_same : (place : Option ℕ) (places : List (Option ℕ)) (c : RunnerCall) (ds : List DriverState) → IsSameRoster ds (call_made place places c ds)
made_same None places c ds = same_roster ds
made_same (Some place) places c ds = called_same ds place c.call.phase (instance_number places c.runner place c.call.uid) c.call.left

pub all_made_same : (runners : ℕ) (places : List (Option ℕ)) (calls : List RunnerCall) (ds : List DriverState) → IsSameRoster ds (calls_made runners places calls ds)
all_made_same runners places [] ds = same_roster ds
all_made_same runners places (c ∷ calls) ds =
    let next : List DriverState = call_made (place_called runners places c) places c ds in
    roster_both ds next (calls_made runners places calls next) (made_same (place_called runners places c) places c ds) (all_made_same runners places calls next)

-- calls for leaves of runners
pub over_same : (arenas : List (List Node)) (calls : List RunnerCall) (ds : List DriverState) → IsSameRoster ds (roster_over arenas calls ds)
over_same arenas [] ds = same_roster ds
over_same arenas (c ∷ calls) ds =
    let next : List DriverState = leaf_called (leaf_at (nodes_of_runner arenas c.runner) c.call.uid) c.call ds in
    roster_both ds next (roster_over arenas calls next) (leaf_same (leaf_at (nodes_of_runner arenas c.runner) c.call.uid) c.call ds) (over_same arenas calls next)
