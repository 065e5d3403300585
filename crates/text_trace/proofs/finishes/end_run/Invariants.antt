use Rattle.text_trace.proofs.finishes.end_run.Given as goal

abbrev pub ghost-finish_all : goal.ghost-finish_all
ghost-finish_all g a = g.of

abbrev pub ghost-finish_unwritten : goal.ghost-finish_unwritten
ghost-finish_unwritten g a = g.of
