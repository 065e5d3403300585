-- Each row of a world that can be run can be made ready.
use Rattle.std.proofs.Common.{◌≡◌, ℕ, ◌≤◌, List, length, Bool, true, false, if◌then◌else◌, refl, subst, arith}
use Rattle.std.proofs.lemmas.List.{length-map}
use Rattle.spec_world.specs.declared.world.Fact.{Fact}
use Rattle.spec_world.specs.declared.world.Out.{Out}
use Rattle.spec_world.specs.declared.world.Row.{Row}
use Rattle.spec_world.specs.declared.world.RowSort.{RowSort}
use Rattle.spec_world.specs.declared.world.RowSort.TheVariants as sort
use Rattle.spec_world.specs.Runnable.{IsRunnableRow, IsRunnableSort, most_ports_of}
use Rattle.spec_world.specs.Worlds.{is_modelled, is_told}
use Rattle.run_driver.specs.Places.{CanBeReady, IsSortOver}

sort_over : (facts : List Fact) (ports : List (List ℕ)) (s : RowSort) → IsRunnableSort facts ports s → IsSortOver ports facts s
sort_over facts ports (sort.Is fact op value) can = can.0
sort_over facts ports (sort.When test) can = can
sort_over facts ports (sort.Timed ms fails) can = can.1
sort_over facts ports (sort.TimedBy length fails) can = can
sort_over facts ports (sort.Replay ms outcomes) can = tt
sort_over facts ports (sort.Gate test) can = can
sort_over facts ports sort.Sensed can = tt
sort_over facts ports (sort.Told outs) can = tt

-- any other row has as few ports as a valid one
few_ports_of : (s : RowSort) (ports : List (List ℕ)) → length ports ≤ most_ports_of s → is_told s ≡ false → length ports ≤ 8
few_ports_of s ports few other = subst (λ (told : Bool). length ports ≤ (if told then 64 else 8)) other few

-- a row whose leaves are told what they answer is not modelled
pub told_not_modelled : (s : RowSort) → is_told s ≡ true → is_modelled s ≡ false
told_not_modelled sort.Sensed told = refl
told_not_modelled (sort.Told outs) told = refl
told_not_modelled _ told = absurd (cc)

pub can_be_ready : (facts : List Fact) (rows : List Row) (row : Row) → length facts ≤ 1024 → IsRunnableRow facts rows row → CanBeReady facts row
can_be_ready facts rows row few can = record {
  few_facts = few;
  few_ports = few_ports_of row.sort row.ports can.ports.few;
  bare = λ told. (can.bare (told_not_modelled row.sort told)).2;
  sort = sort_over facts row.ports row.sort can.sort;
  effects = λ k d within. (can.effects k d within).0;
  few_outs = omega (arith, can.outs.few, length-map row.outs (λ (out : Out). out.port));
  outputs = can.outputs;
}
