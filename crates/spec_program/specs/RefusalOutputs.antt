-- The output of each refusal, which is one line.
use Rattle.std.specs.Prelude.{ℕ, List, ◌++◌, codes}
use Rattle.spec_run.specs.declared.join_fault.JoinFault.{JoinFault}
use Rattle.spec_program.specs.declared.file.File.{File}
use Rattle.spec_program.specs.declared.tree_fault.TreeFault.{TreeFault}
use Rattle.spec_world_file.specs.declared.ground_fault.GroundFault.{GroundFault}
use Rattle.spec_expect.specs.declared.expect_fault.ExpectFault.{ExpectFault}
use Rattle.spec_program.specs.Refusals.{ground_words, join_words, no_leaf_words, rules_words, tree_words, world_words, expect_words}
use Rattle.spec_tree_file.specs.declared.mock_fault.MockFault.{MockFault}
use Rattle.spec_world_file.specs.declared.world_fault.WorldFault.{WorldFault}
use Rattle.spec_program.specs.Output.{Output, refused}
use Rattle.spec_program.specs.declared.exit.Exit.TheVariants as exit
use Rattle.spec_program.specs.declared.file.File.TheVariants as file

abbrev pub words_refused : Output
words_refused = refused (codes "refused words") exit.Words

-- a file that could not be read
abbrev pub unread : File → Output
unread file.Tree = refused (codes "refused read tree") exit.Read
unread file.World = refused (codes "refused read world") exit.Read
unread file.Rules = refused (codes "refused read rules") exit.Read
unread file.Expect = refused (codes "refused read expect") exit.Read

-- a file of too many bytes
abbrev pub too_long : File → Output
too_long file.Tree = refused (codes "refused tree TooLong") exit.Tree
too_long file.World = refused (codes "refused world TooLong") exit.World
too_long file.Rules = refused (codes "refused rules TooLong") exit.Rules
too_long file.Expect = refused (codes "refused expect TooLong 0") exit.Expect

abbrev pub tree_refused : TreeFault → Output
tree_refused fault = refused (codes "refused tree " ++ tree_words fault) exit.Tree

-- no leaf of the tree has an ID that is listed
abbrev pub no_leaf : List ℕ → Output
no_leaf id = refused (codes "refused tree " ++ no_leaf_words id) exit.Tree

abbrev pub world_refused : WorldFault → Output
world_refused fault = refused (codes "refused world " ++ world_words fault) exit.World

-- the rules file is refused, or the tree that its rules make
abbrev pub rules_refused : MockFault → Output
rules_refused fault = refused (codes "refused rules " ++ rules_words fault) exit.Rules

-- the file of expectations is refused
abbrev pub expect_refused : ExpectFault → Output
expect_refused fault = refused (codes "refused expect " ++ expect_words fault) exit.Expect

-- the ground file is refused, or the world script that it stands for
abbrev pub ground_refused : GroundFault → Output
ground_refused fault = refused (codes "refused ground " ++ ground_words fault) exit.World

-- a plan is asked for, and there is no goal
abbrev pub no_goal : Output
no_goal = refused (codes "refused world NoGoal") exit.World

-- a leaf lacks a row, or a driver for its row
abbrev pub join_refused : JoinFault → Output
join_refused fault = refused (codes "refused world " ++ join_words fault) exit.World
