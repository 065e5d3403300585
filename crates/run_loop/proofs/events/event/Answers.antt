use Rattle.run_loop.proofs.events.event.Goals as goal

pub handle_event-ended-requires-clause-runs : goal.handle_event-ended-requires-clause-runs
handle_event-ended-requires-clause-runs g c =
    let r = c.requires.runs in
    (r.0, rw c.replace.ensures.value r.1, r.2)

pub returns : goal.returns
returns g c = λ of are can. rw (← c.replace.ensures.value) (c.handle_event-ended.ensures of (rw c.replace.ensures.value are) can)
