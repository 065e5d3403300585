-- What calls come to.
use Rattle.std.proofs.Common.{List, inl, inr, Option, Some, None, refl, Result, Ok, Err}
use Rattle.std.specs.Prelude.{IfSome}
use Rattle.spec_program.specs.declared.exit.Exit.{Exit}
use Rattle.spec_run.specs.Drivers.{DriverState}
use Rattle.spec_outside.specs.Moments.{Moments}
use Rattle.cli_refusals.specs.declared.refusal.Refusal.{Refusal}
use Rattle.spec_program.specs.Answers.{Side}
use Rattle.cli_refusals.specs.Refusing.{refused_as}
use Rattle.cli_refusals.specs.Ends.{Ends, EndsAt, IsUntouched}
use Rattle.spec_program.specs.Output.{Begun, Ending, Output}
use Rattle.cli_refusals.proofs.AboutLent.Moments.{at_any}

-- nothing was done
pub still : (s : Side) → IsUntouched s s
still s = record { written = refl; faults = refl; clock = refl; drivers = λ place. refl }

some_more : (o : Option Output) (P Q : Output → Type 0) → ((o : Output) → P o → Q o) → IfSome o P → IfSome o Q
some_more None P Q more x = tt
some_more (Some o) P Q more x = more o x

pub ends_more : (P Q : Output → Type 0) (H K : Begun) → ((o : Output) → P o → Q o) → ((old new : List DriverState) → H old new → K old new) → (result : Result Exit Refusal) (a b : Side) → Ends P H result a b → Ends Q K result a b
ends_more P Q H K more further (Ok exit) a b (inl x) = inl (x.0, more x.0 x.1, x.2)
ends_more P Q H K more further (Ok exit) a b (inr x) = inr (record { exit = x.exit; written = x.written; clock = x.clock; drivers = further a.drivers b.drivers x.drivers })
ends_more P Q H K more further (Err r) a b x = (some_more (refused_as r) P Q more x.0, x.1)

-- a refusal whose output is one of these, or that has none
pub refused_ends : (P : Ending) (H : Begun) (r : Refusal) (a : Side) → ((moments : Moments) → IfSome (refused_as r) (P moments a.drivers)) → EndsAt P H (Err r) a a
refused_ends P H r a p = at_any a.clock (λ moments. Ends (P moments a.drivers) H (Err r) a a) (λ moments. (p moments, still a))
