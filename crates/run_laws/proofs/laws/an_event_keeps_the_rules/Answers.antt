use Rattle.run_laws.proofs.Events.{finish_steady, later_steady, step_steady}
use Rattle.run_laws.proofs.Runs.{opening_steady}
use Rattle.run_laws.proofs.laws.an_event_keeps_the_rules.Goals as goal

pub returns : goal.returns
returns c = record {
  opening = opening_steady;
  step = λ tree world event run steady ahead. step_steady tree world run steady event.at ahead event.what;
  finish = finish_steady;
  time = λ tree rows run at steady ahead. later_steady tree rows run steady at ahead run.facts;
}
