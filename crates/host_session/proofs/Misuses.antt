-- Events that are taken: what is known of one of which nothing is wrong.
use Rattle.std.proofs.Common.{◌≡◌, ℕ, ◌≤◌, ◌<◌, Bool, true, false, ◌&&◌, List, length, Option, Some, None, refl, sym, ◌∙◌, arith}
use Rattle.std.specs.Prelude.{IfNone, IsTrue, nat_le, nat_lt}
use Rattle.std.specs.Option.{option_or}
use Rattle.std.proofs.lemmas.Bool.Decides.{nat_tests}
use Rattle.spec_script.proofs.Bools.{both}
use Rattle.spec_run.specs.declared.join_fault.JoinFault.{JoinFault}
use Rattle.spec_run.specs.declared.join_fault.JoinFault.TheVariants as lack
use Rattle.spec_run.specs.Joins.{event_lacks}
use Rattle.spec_run.specs.Run.{Stepped}
use Rattle.spec_tree.specs.declared.term.Tree.{Tree}
use Rattle.spec_tree.specs.Trees.{nodes_of}
use Rattle.spec_world.specs.declared.world.Event.{Event}
use Rattle.spec_world.specs.declared.world.Telling.{Telling}
use Rattle.spec_world.specs.declared.world.Telling.TheVariants as telling
use Rattle.spec_world.specs.declared.world.What.{What}
use Rattle.spec_world.specs.declared.world.What.TheVariants.{Tick, Halt, Change, Tell}
use Rattle.spec_world.specs.declared.world.World.{World}
use Rattle.spec_world.specs.Worlds.{IsValidTelling, IsValidWhat}
use Rattle.spec_session.specs.declared.ended.Misuse.{Misuse}
use Rattle.spec_session.specs.declared.ended.Misuse.TheVariants as misuses
use Rattle.spec_session.specs.Events.{can_be_told, lack_misuse, moment_misuse, runner_misuse, telling_misuse, unless, what_misuse}
use Rattle.spec_session.specs.Sessions.{Sitting}
use Rattle.run_loop.specs.Steps.{CanCome}
use Rattle.host_session.specs.Sittings.{setup_of}
use Rattle.host_session.specs.Typed.{IsTyped}
use Rattle.host_session.proofs.Tellings.{told_valid}

pub holds : (b : Bool) (m : Misuse) → unless b m ≡ None → b ≡ true
holds true m h = refl
holds false m h = absurd (cc)

pub neither : (a b : Option Misuse) → option_or a b ≡ None → (a ≡ None) × (b ≡ None)
neither None b h = (refl, h)
neither (Some m) b h = absurd (cc)

pub moment_fits : (last at : ℕ) → moment_misuse last at ≡ None → last ≤ at
moment_fits last at h =
    let first : nat_le last at ≡ true = holds (nat_le last at) misuses.MomentBack (neither (unless (nat_le last at) misuses.MomentBack) (unless (nat_le at 1000000000000) misuses.MomentLate) h).0 in
    grind (arith, nat_tests)

lack_fits : (o : Option JoinFault) → lack_misuse o ≡ None → o ≡ None
lack_fits None h = refl
lack_fits (Some (lack.NoRow id)) h = absurd (cc)
lack_fits (Some (lack.NoDriver kind)) h = absurd (cc)
lack_fits (Some (lack.NoLeaf uid)) h = absurd (cc)
lack_fits (Some (lack.NoOutput uid)) h = absurd (cc)

pub runner_fits : (world : World) (runner : ℕ) → runner_misuse world runner ≡ None → (1 ≤ runner) × (runner ≤ world.runners)
runner_fits world runner h =
    let k = both (nat_le 1 runner) (nat_le runner world.runners) (holds (nat_le 1 runner && nat_le runner world.runners) misuses.NoRunner h) in
    (grind (arith, nat_tests), grind (arith, nat_tests))

telling_fits : (t : Telling) → telling_misuse t ≡ None → IsValidTelling t
telling_fits (telling.Success outs) h = told_valid outs (holds (can_be_told outs) misuses.BadTelling h)
telling_fits telling.Failure h = tt

what_fits : (tree : Tree) (world : World) (what : What) → IsTyped what → what_misuse tree world what ≡ None →
    IsValidWhat world.facts world.runners what × (event_lacks world.rows (nodes_of tree.term) what ≡ None)
what_fits tree world (Tick runner) typed h = (runner_fits world runner h, refl)
what_fits tree world (Halt runner) typed h = (runner_fits world runner h, refl)
what_fits tree world (Change fact value) typed h =
    let there : nat_lt fact (length world.facts) ≡ true = holds (nat_lt fact (length world.facts)) misuses.NoFact h in
    ((grind (arith, nat_tests), typed), refl)
what_fits tree world (Tell runner uid telling) typed h =
    let lacks = event_lacks world.rows (nodes_of tree.term) (Tell runner uid telling) in
    let k = neither (runner_misuse world runner) (option_or (lack_misuse lacks) (telling_misuse telling)) h in
    let m = neither (lack_misuse lacks) (telling_misuse telling) k.1 in
    let r = runner_fits world runner k.0 in
    ((r.0, r.1, typed, telling_fits telling m.1), lack_fits lacks m.0)

-- an event of which nothing is wrong can come
pub can_come : (s : Sitting) (e : Event) (wrong : Option Misuse) → IsTyped e.what → moment_misuse s.state.last e.at ≡ None →
    wrong ≡ what_misuse s.tree s.world e.what → IfNone wrong (CanCome (setup_of s) s.state.last e)
can_come s e None typed moment is = let k = what_fits s.tree s.world e.what typed (sym is) in (k.0, moment_fits s.state.last e.at moment, k.1)
can_come s e (Some m) typed moment is = tt
