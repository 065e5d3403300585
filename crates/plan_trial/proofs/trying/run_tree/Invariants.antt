use Rattle.plan_trial.proofs.trying.run_tree.Given as goal

abbrev pub ghost-begin : goal.ghost-begin
ghost-begin g a = g.of

abbrev pub ghost-make_run : goal.ghost-make_run
ghost-make_run g a = g.of
