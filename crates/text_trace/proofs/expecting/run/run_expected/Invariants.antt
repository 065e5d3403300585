use Rattle.text_trace.proofs.expecting.run.run_expected.Given as goal

abbrev pub ghost-run_events : goal.ghost-run_events
ghost-run_events g a = g.wanted.of
