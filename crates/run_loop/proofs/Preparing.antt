-- After drivers are prepared they are the same drivers, and none of their instances is held.
use Rattle.std.proofs.Common.{◌≡◌, inl, inr, ℕ, zero, suc, List, [], ◌∷◌, length, get_or, replicate, refl, sym, ap, subst, arith}
use Rattle.std.proofs.lemmas.Bool.{cases_lt}
use Rattle.std.proofs.lemmas.List.{get_or-replicate, get_or_past, length-replicate}
use Rattle.spec_run.specs.declared.leaf.Instance.{Instance}
use Rattle.spec_run.specs.declared.leaf.Totals.{Totals}
use Rattle.spec_tree.specs.declared.term.Tree.{Tree}
use Rattle.spec_world.specs.declared.world.World.{World}
use Rattle.spec_run.specs.Drivers.{DriverState, NothingHeld, driver_at, is_held, roster_prepared}
use Rattle.base_tables.specs.DriverCalls.{instance_at}
use Rattle.spec_run.specs.Leaf.{fresh}
use Rattle.spec_run.specs.Run.{RunnerCall}
use Rattle.spec_run.specs.Served.{instances_wanted}
use Rattle.spec_run.specs.Served.{roster_after_run, serving_places}
use Rattle.spec_run.specs.Rosters.{HasRisen, IsSameRoster}
use Rattle.run_loop.proofs.Rising.{all_made_same, roster_both, same_roster}

-- ---- However many were prepared

pub prepared_length : (ds : List DriverState) (counts : List ℕ) → length (roster_prepared ds counts) ≡ length ds
prepared_length ds [] = refl
prepared_length [] (n ∷ ns) = refl
prepared_length (d ∷ ds) (n ∷ ns) = ap suc (prepared_length ds ns)

abbrev IsSame : DriverState → DriverState → Type 0
IsSame old new = (new.kind ≡ old.kind) × (new.mark ≡ old.mark) × (new.totals ≡ old.totals)

same_at : (ds : List DriverState) (counts : List ℕ) (place : ℕ) → IsSame (driver_at ds place) (driver_at (roster_prepared ds counts) place)
same_at ds [] place = (refl, refl, refl)
same_at [] (n ∷ ns) place = (refl, refl, refl)
same_at (d ∷ ds) (n ∷ ns) zero = (refl, refl, refl)
same_at (d ∷ ds) (n ∷ ns) (suc place) = same_at ds ns place

-- no total changes
pub prepared_totals : (ds : List DriverState) (counts : List ℕ) (place : ℕ) → (driver_at (roster_prepared ds counts) place).totals ≡ (driver_at ds place).totals
prepared_totals ds counts place = (same_at ds counts place).2

-- they are the same roster
pub prepared_same : (ds : List DriverState) (counts : List ℕ) → IsSameRoster ds (roster_prepared ds counts)
prepared_same ds counts = record {
  as_many = prepared_length ds counts;
  kind = λ place. (same_at ds counts place).0;
  mark = λ place. (same_at ds counts place).1;
  totals = λ place. subst (λ (t : Totals). HasRisen (driver_at ds place).totals t) (sym (prepared_totals ds counts place)) ((same_roster ds).totals place);
}

-- .. also after the calls of a run
pub run_same : (tree : Tree) (world : World) (drivers : List DriverState) (calls : List RunnerCall) → IsSameRoster drivers (roster_after_run tree world drivers calls)
run_same tree world drivers calls =
    let prepared : List DriverState = roster_prepared drivers (instances_wanted tree world drivers) in
    roster_both drivers prepared (roster_after_run tree world drivers calls) (prepared_same drivers (instances_wanted tree world drivers))
    (all_made_same world.runners (serving_places tree world drivers) calls prepared)

-- in a table of instances that were never held, and past its end, each instance is fresh
fresh_at : (count instance : ℕ) → get_or (replicate count fresh) instance fresh ≡ fresh
fresh_at count instance = elim (cases_lt instance count) [
  | inl there ↦ get_or-replicate {A = Instance} count instance fresh fresh there
  | inr past ↦ get_or_past (replicate {A = Instance} count fresh) instance fresh (omega (arith, past, length-replicate {A = Instance} count fresh))
]

-- nothing is held where nothing was
pub prepared_hold_nothing : (ds : List DriverState) (counts : List ℕ) → NothingHeld ds → NothingHeld (roster_prepared ds counts)
prepared_hold_nothing ds [] none place instance = none place instance
prepared_hold_nothing [] (n ∷ ns) none place instance = none place instance
prepared_hold_nothing (d ∷ ds) (n ∷ ns) none zero instance = ap is_held (fresh_at n instance)
prepared_hold_nothing (d ∷ ds) (n ∷ ns) none (suc place) instance = prepared_hold_nothing ds ns (λ p. none (suc p)) place instance

-- ---- Where all were prepared

-- where each driver was prepared, each instance is one that was never held
pub prepared_fresh : (ds : List DriverState) (counts : List ℕ) → length counts ≡ length ds → (place instance : ℕ) → instance_at (roster_prepared ds counts) place instance ≡ fresh
prepared_fresh [] [] all place instance = refl
prepared_fresh [] (n ∷ ns) all place instance = refl
prepared_fresh (d ∷ ds) [] all place instance = absurd (omega (arith, all))
prepared_fresh (d ∷ ds) (n ∷ ns) all zero instance = fresh_at n instance
prepared_fresh (d ∷ ds) (n ∷ ns) all (suc place) instance = prepared_fresh ds ns (omega (arith, all)) place instance
