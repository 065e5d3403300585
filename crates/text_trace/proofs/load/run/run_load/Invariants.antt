use Rattle.text_trace.proofs.load.run.run_load.Given as goal

abbrev pub ghost-run_events : goal.ghost-run_events
ghost-run_events g a = g.of

abbrev pub ghost-nodes : goal.ghost-nodes
ghost-nodes g a = g.of
