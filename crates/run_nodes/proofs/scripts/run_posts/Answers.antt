use Rattle.run_nodes.proofs.scripts.run_posts.Goals as goal

pub returns-in-Success-clause-settles : goal.returns-in-Success-clause-settles
returns-in-Success-clause-settles g c = λ term view s k. rw c.in-Success.is (c.both_if_there.ensures.settles term view _ _ s k.on_success k.post)

pub returns-in-Failure-clause-settles : goal.returns-in-Failure-clause-settles
returns-in-Failure-clause-settles g c = λ term view s k. rw c.in-Failure.is (c.both_if_there-in-Failure.ensures.settles term view _ _ s k.on_failure k.post)
