use Rattle.host_session.specs.Five.{states_of}
use Rattle.run_driver.proofs.Quiet.{none_total, total_none}
use Rattle.host_session.proofs.five.FiveDrivers.holds_nothing.Goals as goal

pub returns : goal.returns
returns c =
    let states = states_of c.args.self.now in
    (λ none. total_none states (c.count_none.ensures.0 none), λ none. c.count_none.ensures.1 (none_total states none))
