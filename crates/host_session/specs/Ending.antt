-- How an event of a session ends, by how that of its runs has ended.
use Rattle.std.specs.Prelude.{Result, Ok, Err}
use Rattle.base_texts.specs.declared.stop.Stop.{Stop}
use Rattle.base_texts.specs.declared.stop.Stop.TheVariants as stop
use Rattle.spec_run.specs.declared.fault.RunFault.{RunFault}
use Rattle.spec_session.specs.declared.ended.Ended.{Ended}
use Rattle.spec_session.specs.declared.ended.Ended.TheVariants as ended

abbrev pub ended_of : Result (Unit {0}) (Stop RunFault) → Result (Unit {0}) Ended
ended_of (Ok done) = Ok done
ended_of (Err (stop.Fault fault)) = Err (ended.Fault fault)
ended_of (Err stop.NoMemory) = Err ended.NoMemory
