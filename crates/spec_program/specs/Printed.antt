-- What is printed of a tree, and of a ground file.
use Rattle.std.specs.Prelude.{ℕ, ◌-◌, List, [], ◌∷◌, ◌++◌, codes, decimal, length, map, slice_index_or, Result, Ok, Err}
use Rattle.std.specs.List.{concat, flat_map}
use Rattle.spec_dead.specs.Dead.{dead_nodes}
use Rattle.spec_program.specs.declared.exit.Exit.TheVariants as exit
use Rattle.spec_program.specs.declared.print.Print.{Print}
use Rattle.spec_program.specs.declared.print.Print.TheVariants as print
use Rattle.spec_program.specs.declared.tree_fault.TreeFault.{TreeFault}
use Rattle.spec_tree_file.specs.declared.mock_fault.MockFault.{MockFault}
use Rattle.spec_world_file.specs.declared.ground_fault.GroundFault.{GroundFault}
use Rattle.spec_tree.specs.declared.term.Term.{Term, fold-Term}
use Rattle.spec_tree.specs.declared.term.Tree.{Tree}
use Rattle.spec_output.specs.Lines.{quoted}
use Rattle.spec_tree.specs.PrintedTree.{tree_lines}
use Rattle.spec_tree.specs.Terms.{node_count, work_of}
use Rattle.spec_program.specs.Output.{Never, NoCalls, Output}
use Rattle.spec_program.specs.RefusalOutputs.{ground_refused, rules_refused, tree_refused}
use Rattle.spec_world_file.specs.GroundFile.{Grounded}

-- the last line of a check: how many nodes the tree has, and its work
abbrev pub count_line : Tree → List ℕ
count_line tree = codes "<!-- nodes " ++ decimal (node_count tree.term) ++ codes " work " ++ decimal (work_of tree.term) ++ codes " -->\n"

-- the IDs of the nodes of a term, in pre-order
abbrev pub node_ids : Term → List (List ℕ)
node_ids = fold-Term (List (List ℕ)) (λ node. node.id ∷ flat_map (λ ids. ids) node.children)

-- the ID of the node with this uid
abbrev pub id_of : List (List ℕ) → ℕ → List ℕ
id_of ids uid = slice_index_or ids (uid - 1) []

-- the line of a dead node, of nodes with these IDs
abbrev pub dead_line : List (List ℕ) → ℕ → List ℕ
dead_line ids uid = codes "dead " ++ decimal uid ++ codes " " ++ quoted (id_of ids uid) ++ codes "\n"

-- the last line: how many of the nodes are dead
abbrev pub dead_count_line : Tree → List ℕ
dead_count_line tree = codes "dead " ++ decimal (length (dead_nodes tree)) ++ codes " of " ++ decimal (node_count tree.term) ++ codes "\n"

-- a tree as it was read with its counts, or a line for each of its dead nodes and how many they are
abbrev pub printed_bytes : Print → Tree → List ℕ
printed_bytes print.Whole tree = concat (tree_lines tree) ++ count_line tree
printed_bytes print.Dead tree = concat (map (dead_line (node_ids tree.term)) (dead_nodes tree)) ++ dead_count_line tree

-- what is printed of a tree that was read, or its refusal
abbrev pub print_output : Print → Result Tree TreeFault → Output
print_output print (Ok tree) = record { bytes = printed_bytes print tree; exit = exit.Done; calls = NoCalls; asked = Never }
print_output print (Err fault) = tree_refused fault

-- what is printed of a tree that rules make, or their refusal
abbrev pub print_made : Result Tree MockFault → Output
print_made (Ok tree) = record { bytes = printed_bytes print.Whole tree; exit = exit.Done; calls = NoCalls; asked = Never }
print_made (Err fault) = rules_refused fault

-- the text of a ground file, or its refusal
abbrev pub ground_output : Result Grounded GroundFault → Output
ground_output (Ok g) = record { bytes = g.text; exit = exit.Done; calls = NoCalls; asked = Never }
ground_output (Err fault) = ground_refused fault
