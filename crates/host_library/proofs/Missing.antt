-- Events of runners that are not there, which are misuse whatever else is wrong.
use Rattle.std.proofs.Common.{◌≡◌, ℕ, ◌<◌, Bool, true, false, ◌&&◌, Option, Some, None, Err, inl, refl, sym, subst, arith}
use Rattle.std.specs.Prelude.{nat_le}
use Rattle.std.specs.Option.{option_or}
use Rattle.std.proofs.lemmas.Bool.Decides.{nat_tests}
use Rattle.spec_session.specs.declared.ended.Ended.TheVariants.{Misused}
use Rattle.spec_session.specs.declared.ended.Misuse.{Misuse}
use Rattle.spec_session.specs.declared.ended.Misuse.TheVariants.{NoRunner, Over}
use Rattle.spec_session.specs.Events.{Gives, event_step, finish_misuse, finish_step, misuse, moment_misuse, runner_misuse, unless, what_misuse}
use Rattle.spec_session.specs.Sessions.{Sitting}
use Rattle.spec_world.specs.declared.world.Event.{Event}
use Rattle.spec_world.specs.declared.world.Telling.{Telling}
use Rattle.spec_world.specs.declared.world.What.TheVariants.{Tick, Halt, Tell}
use Rattle.spec_world.specs.declared.world.World.{World}
use Rattle.host_library.specs.declared.hosted.Hosted.{Hosted}
use Rattle.host_library.specs.Events.{EventTold, FinishTold, TellTold, Tells, telling_of}

-- something is wrong
abbrev Wrong : Option Misuse → Type 0
Wrong wrong = (why : Misuse) × (wrong ≡ Some why)

before_wrong : (first later : Option Misuse) → Wrong later → Wrong (option_or first later)
before_wrong None later wrong = wrong
before_wrong (Some why) later wrong = (why, refl)

and_wrong : (first later : Option Misuse) → Wrong first → Wrong (option_or first later)
and_wrong None later wrong = absurd (cc)
and_wrong (Some why) later wrong = (why, refl)

too_large : (first : Bool) (runner runners : ℕ) → runners < runner → Wrong (unless (first && nat_le runner runners) NoRunner)
too_large first runner runners large =
    let not : nat_le runner runners ≡ false = grind (arith, nat_tests) in
    subst (λ (b : Bool). Wrong (unless (first && b) NoRunner)) (sym not) (none first)
  where
    none : (b : Bool) → Wrong (unless (b && false) NoRunner)
    none true = (NoRunner, refl)
    none false = (NoRunner, refl)

no_runner : (world : World) (runner : ℕ) → world.runners < runner → Wrong (runner_misuse world runner)
no_runner world runner large = too_large (nat_le 1 runner) runner world.runners large

event_misused : (s : Sitting) (e : Event) → Wrong (what_misuse s.tree s.world e.what) → EventTold s e 3 s
event_misused s e wrong =
    let why = before_wrong (unless s.usable Over) (option_or (moment_misuse s.state.last e.at) (what_misuse s.tree s.world e.what))
    (before_wrong (moment_misuse s.state.last e.at) (what_misuse s.tree s.world e.what) wrong) in
    (Err (Misused why.0), subst (λ (w : Option Misuse). Gives w s (event_step s e) (Err (Misused why.0)) s) (sym why.1) (refl, refl), refl)

pub tick_misused : (s : Sitting) (runner at : ℕ) → s.world.runners < runner → EventTold s (record { at = at; what = Tick runner }) 3 s
tick_misused s runner at large = event_misused s (record { at = at; what = Tick runner }) (no_runner s.world runner large)

pub halt_misused : (s : Sitting) (runner at : ℕ) → s.world.runners < runner → EventTold s (record { at = at; what = Halt runner }) 3 s
halt_misused s runner at large = event_misused s (record { at = at; what = Halt runner }) (no_runner s.world runner large)

pub tell_misused : (s : Sitting) (runner uid at : ℕ) (telling : Telling) → s.world.runners < runner
    → EventTold s (record { at = at; what = Tell runner uid telling }) 3 s
tell_misused s runner uid at telling large =
    event_misused s (record { at = at; what = Tell runner uid telling }) (and_wrong (runner_misuse s.world runner) _ (no_runner s.world runner large))

pub finish_misused : (s : Sitting) (runner : ℕ) → s.world.runners < runner → FinishTold s runner 3 s
finish_misused s runner large =
    let why = before_wrong (unless s.usable Over) (runner_misuse s.world runner) (no_runner s.world runner large) in
    (Err (Misused why.0), subst (λ (w : Option Misuse). Gives w s (finish_step s runner) (Err (Misused why.0)) s) (sym why.1) (refl, refl), refl)

-- a telling for such a runner
told_missing : (wanted : Option Telling) (before : Hosted) (runner uid at : ℕ) → before.session.world.runners < runner
    → TellTold wanted before runner uid at 3 before
told_missing None before runner uid at large = (refl, (refl, refl))
told_missing (Some telling) before runner uid at large = inl (tell_misused before.session runner uid at telling large, refl)

pub tells_missing : (before : Hosted) (runner uid status at : ℕ) → before.session.world.runners < runner → Tells before runner uid status at 3 before
tells_missing before runner uid status at large = told_missing (telling_of status before.outs.items) before runner uid at large
