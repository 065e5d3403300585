use Rattle.plan_search.proofs.planning.go_on.Given as goal

abbrev pub ghost-run_tree : goal.ghost-run_tree
ghost-run_tree g a = record { tree = a.tree.now; world = g.of }
