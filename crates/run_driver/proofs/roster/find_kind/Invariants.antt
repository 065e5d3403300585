use Rattle.std.proofs.Common.{◌≡◌, ◌+◌, map, drop}
use Rattle.std.specs.Prelude.{option_map}
use Rattle.spec_run.specs.Drivers.{place_of_kind}
use Rattle.run_driver.proofs.roster.find_kind.Given as goal

-- the drivers still to come decide
abbrev pub invariant-loop-place : goal.invariant-loop-place
invariant-loop-place g l =
    let state = λ (b : _). (goal.Driver-dyn g (b.vtable, b.value)).state b.value in
    place_of_kind (map state l.roster) l.kind ≡ option_map (λ k. l.place + k) (place_of_kind (map state (drop l.place l.roster)) l.kind)
