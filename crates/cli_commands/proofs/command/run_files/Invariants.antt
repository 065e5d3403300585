use Rattle.cli_commands.proofs.command.run_files.Given as goal

abbrev pub ghost-join_and_run : goal.ghost-join_and_run
ghost-join_and_run g a = record { tree = a.tree.now; world = a.world.now }
