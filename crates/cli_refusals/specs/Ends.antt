-- What calls come to, of which a refusal has written nothing yet.
use Rattle.std.specs.Prelude.{◌≡◌, Result, Ok, Err, IfSome}
use Rattle.spec_program.specs.declared.exit.Exit.{Exit}
use Rattle.cli_refusals.specs.declared.refusal.Refusal.{Refusal}
use Rattle.spec_program.specs.Output.{AreUncalled, Begun, Output, Ending}
use Rattle.cli_refusals.specs.Refusing.{refused_as}
use Rattle.spec_program.specs.Answers.{Answers, AtMoments, Side, WritesAt}
use Rattle.spec_outside.specs.Writes.{Writing}

-- nothing was written, the clock was not asked, and no driver was called
pub record IsUntouched (old new : Side) : Type 0 where
  pub written : new.written ≡ old.written
  pub faults : new.faults ≡ old.faults
  pub clock : new.clock ≡ old.clock
  pub drivers : AreUncalled old.drivers new.drivers

-- one of these outputs was given, with this exit, or memory ran out before one was known and no more was begun than this; or
-- the command is refused, which is one of these outputs unless memory ran out, and nothing was done yet
abbrev pub Ends : (Output → Type 0) → Begun → Result Exit Refusal → Side → Side → Type 0
Ends IsOutput HaveBegun (Ok exit) old new = Answers IsOutput HaveBegun exit old new
Ends IsOutput HaveBegun (Err refusal) old new = IfSome (refused_as refusal) IsOutput × IsUntouched old new

-- so it ends at the moments that the clock tells, or at some where it tells none
abbrev pub EndsAt : Ending → Begun → Result Exit Refusal → Side → Side → Type 0
EndsAt Gives HaveBegun result old new = AtMoments old.clock (λ moments. Ends (Gives moments old.drivers) HaveBegun result old new)

-- whole lines were written by a command with this exit; of a refusal nothing was written yet
abbrev pub EndWrites : {Sink Fault : Type 0} → Writing Sink Fault → Result Exit Refusal → Sink → Sink → Type 0
EndWrites gives (Ok exit) old new = WritesAt gives exit old new
EndWrites gives (Err refusal) old new = new ≡ old
