use Rattle.cli_commands.proofs.command.expect_files.Given as goal

abbrev pub ghost-join_and_expect : goal.ghost-join_and_expect
ghost-join_and_expect g a = record { tree = a.tree.now; world = a.world.now }
