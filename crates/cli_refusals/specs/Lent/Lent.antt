-- What a command is lent, as it finds it and as it leaves it.
use Rattle.std.specs.Prelude.{ℕ, ◌≡◌, ◌≤◌, List, Option}
use Rattle.spec_run.specs.Drivers.{DriverState}
use Rattle.spec_outside.specs.Moments.{Moments}
use Rattle.cli_refusals.specs.declared.lent.outside.Outside.{Outside}
use Rattle.spec_program.specs.Answers.{Side, side}
use Rattle.text_trace.specs.Traces.{AreKept}

-- what is seen of the sink, the clock and the drivers that are lent
abbrev pub seen : {S K C D : Type 0} → (K → Option (List ℕ)) → (K → ℕ) → (C → Option Moments) → (D → List DriverState) → Outside S K C D → Side
seen written faults moments states o = side (written o.out.now) (faults o.out.now) (moments o.clock.now) (states o.drivers.now)

-- What stays of what is lent: it is the same shelf, sink, clock and drivers; the drivers are the same in the same places,
-- and none holds anything; and no count has fallen.
pub record Stays {S K C D : Type 0} (shelf_faults : S → ℕ) (sink_faults : K → ℕ) (states : D → List DriverState) (old new : Outside S K C D) : Type 0 where
  pub shelf : new.shelf.ghost_name ≡ old.shelf.ghost_name
  pub out : new.out.ghost_name ≡ old.out.ghost_name
  pub clock : new.clock.ghost_name ≡ old.clock.ghost_name
  pub drivers : new.drivers.ghost_name ≡ old.drivers.ghost_name
  pub kept : AreKept (states old.drivers.now) (states new.drivers.now)
  pub read_count : shelf_faults old.shelf.now ≤ shelf_faults new.shelf.now
  pub count : sink_faults old.out.now ≤ sink_faults new.out.now
