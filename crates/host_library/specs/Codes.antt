-- How calls of C end, as numbers.
use Rattle.std.specs.Prelude.{ℕ, Result, Ok, Err}
use Rattle.spec_session.specs.declared.ended.Ended.{Ended}
use Rattle.spec_session.specs.declared.ended.Ended.TheVariants as ended

abbrev pub ok : ℕ
ok = 0

abbrev pub fault : ℕ
fault = 1

abbrev pub no_memory : ℕ
no_memory = 2

abbrev pub misuse : ℕ
misuse = 3

abbrev pub refused : ℕ
refused = 4

abbrev pub no_event : ℕ
no_event = 5

-- the code of how an event has ended
abbrev pub code_of : Result (Unit {0}) Ended → ℕ
code_of (Ok done) = ok
code_of (Err (ended.Fault f)) = fault
code_of (Err ended.NoMemory) = no_memory
code_of (Err (ended.Misused why)) = misuse
