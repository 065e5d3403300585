use Rattle.text_trace.proofs.finishes.finish_one.Given as goal

abbrev pub ghost-run_finish : goal.ghost-run_finish
ghost-run_finish g a = g.of
