use Rattle.host_session.proofs.opening.join.Given as goal

abbrev pub ghost-first_block : goal.ghost-first_block
ghost-first_block g a = g.of
