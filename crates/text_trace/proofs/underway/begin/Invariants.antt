use Rattle.text_trace.proofs.underway.begin.Given as goal

abbrev pub ghost-leaves : goal.ghost-leaves
ghost-leaves g a = g.of
