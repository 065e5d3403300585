-- The calls of `bt` and of `serve_files` over the outside of the host.
use Rattle.std.proofs.Common.{◌≡◌, ◌++◌, ◌∙◌, ℕ, List, [], ◌∷◌, map, Option, None, ap, subst}
use Rattle.base_outside.specs.InLines.{InState}
use Rattle.base_outside.specs.OutSink.{OutState}
use Rattle.bt_main.specs.Ends.{HasRun, HasServed, HostReads, out_of, side_of}
use Rattle.cli_serve.specs.Ends.{IsAnswered}
use Rattle.spec_outside.specs.Counts.{Rose}
use Rattle.spec_outside.specs.Moments.{Moments}
use Rattle.spec_program.specs.declared.exit.Exit.{Exit}
use Rattle.spec_program.specs.Answered.{WordsAnswered}
use Rattle.spec_program.specs.Words.{Served, command_of}
use Rattle.spec_run.specs.declared.leaf.DriverKind.TheVariants.{Condition, Timed, Replay, Gate, Told}
use Rattle.spec_run.specs.Drivers.{DriverState, new_driver}
use Rattle.spec_serve.specs.Served.{IsHeard}
use Rattle.spec_session.specs.Opening.{new_drivers}

module _ (result : Exit) (old new : OutState) (shelf failures : ℕ) (fresh : shelf ≡ 0) where
  pub served_so : (served : Served) (before after : InState) → before.faults ≡ 0
      → IsAnswered HostReads None served (IsHeard before.ahead (Rose before.faults after.faults)) (Rose shelf failures) shelf failures result (out_of old) (out_of new)
      → HasServed served result old new
  served_so served before after unread answered = record {
    failures = failures;
    ahead = before.ahead;
    unheard = after.faults;
    answered =
        subst (λ (k : ℕ). IsAnswered HostReads None served (IsHeard before.ahead (Rose k after.faults)) (Rose 0 failures) 0 failures result (out_of old) (out_of new)) unread
        (subst (λ (n : ℕ). IsAnswered HostReads None served (IsHeard before.ahead (Rose before.faults after.faults)) (Rose n failures) n failures result (out_of old) (out_of new)) fresh answered);
  }

  pub ran_so : (words : List (List ℕ)) (before after : Option Moments) (drivers left : List DriverState) → drivers ≡ new_drivers
      → WordsAnswered HostReads None (command_of words) (Rose shelf failures) shelf failures result (side_of old before drivers) (side_of new after left)
      → HasRun words result old new
  ran_so words before after drivers left uncalled answered = record {
    failures = failures;
    before = before;
    after = after;
    drivers = left;
    answered =
        subst (λ (ds : List DriverState). WordsAnswered HostReads None (command_of words) (Rose 0 failures) 0 failures result (side_of old before ds) (side_of new after left)) uncalled
        (subst (λ (n : ℕ). WordsAnswered HostReads None (command_of words) (Rose n failures) n failures result (side_of old before drivers) (side_of new after left)) fresh answered);
  }

-- five drivers that were added one after another
module _ {B : Type 0} (state_of : B → DriverState) (r0 r1 r2 r3 r4 r5 : List B) (b1 b2 b3 b4 b5 : B) where
  pub five_added : r0 ≡ []
      → map state_of r1 ≡ map state_of r0 ++ state_of b1 ∷ []
      → map state_of r2 ≡ map state_of r1 ++ state_of b2 ∷ []
      → map state_of r3 ≡ map state_of r2 ++ state_of b3 ∷ []
      → map state_of r4 ≡ map state_of r3 ++ state_of b4 ∷ []
      → map state_of r5 ≡ map state_of r4 ++ state_of b5 ∷ []
      → state_of b1 ≡ new_driver Condition → state_of b2 ≡ new_driver Timed → state_of b3 ≡ new_driver Replay
      → state_of b4 ≡ new_driver Gate → state_of b5 ≡ new_driver Told
      → map state_of r5 ≡ new_drivers
  five_added none a1 a2 a3 a4 a5 s1 s2 s3 s4 s5 =
      a5
      ∙ ap (λ (l : List DriverState). l ++ state_of b5 ∷ []) (a4
      ∙ ap (λ (l : List DriverState). l ++ state_of b4 ∷ []) (a3
      ∙ ap (λ (l : List DriverState). l ++ state_of b3 ∷ []) (a2
      ∙ ap (λ (l : List DriverState). l ++ state_of b2 ∷ []) (a1
      ∙ ap (λ (l : List B). map state_of l ++ state_of b1 ∷ []) none))))
      ∙ (λ i. s1 i ∷ s2 i ∷ s3 i ∷ s4 i ∷ s5 i ∷ [])
