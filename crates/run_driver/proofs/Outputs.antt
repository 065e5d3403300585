-- Outputs added after those made so far.
use Rattle.std.proofs.Common.{ℤ, List, ◌++◌, Result, Ok, Err}
use Rattle.spec_run.specs.declared.fault.Cause.{Cause}

-- the outputs made so far, then the others, or the first fault of these
abbrev pub following : List ℤ → Result (List ℤ) Cause → Result (List ℤ) Cause
following made (Ok left) = Ok (made ++ left)
following made (Err cause) = Err cause
