use Rattle.text_trace.proofs.rounds.run_rounds.Given as goal

abbrev pub ghost-begin : goal.ghost-begin
ghost-begin g a = g.of

abbrev pub ghost-follow_clock : goal.ghost-follow_clock
ghost-follow_clock g a = g.of

abbrev pub ghost-end_run : goal.ghost-end_run
ghost-end_run g a = g.of
