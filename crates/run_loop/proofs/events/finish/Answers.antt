use Rattle.run_loop.proofs.events.finish.Goals as goal

pub finish_runner-ended-requires-clause-runs : goal.finish_runner-ended-requires-clause-runs
finish_runner-ended-requires-clause-runs g c =
    let r = c.requires.runs in
    (r.0, rw c.replace.ensures.value r.1, r.2)

pub returns : goal.returns
returns g c = λ of are last. rw (← c.replace.ensures.value) (c.finish_runner-ended.ensures of (rw c.replace.ensures.value are) last)
