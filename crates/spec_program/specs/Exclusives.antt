-- What is printed of leaves that may be held together.
use Rattle.std.specs.Prelude.{ℕ, ◌≡◌, List, [], ◌++◌, codes, decimal, length, map, take, Option, Some, None, Result, Ok, Err}
use Rattle.std.specs.List.{concat}
use Rattle.spec_exclusive.specs.declared.meeting.Meeting.{Meeting}
use Rattle.spec_exclusive.specs.declared.meeting.Meeting.TheVariants.{Never, Handover, Together}
use Rattle.spec_exclusive.specs.declared.pair.Pair.{Pair}
use Rattle.spec_exclusive.specs.Pairs.{meeting_pairs, missing_leaf}
use Rattle.spec_tree.specs.declared.term.Tree.{Tree}
use Rattle.spec_program.specs.declared.exit.Exit.TheVariants as exit
use Rattle.spec_program.specs.declared.file.File.TheVariants as file
use Rattle.spec_program.specs.declared.tree_fault.TreeFault.{TreeFault}
use Rattle.spec_program.specs.Gives.{Giving, OrTooLong}
use Rattle.spec_program.specs.Output.{Never as Unasked, NoCalls, Output, line_of}
use Rattle.spec_program.specs.RefusalOutputs.{no_leaf, too_long, tree_refused}
use Rattle.spec_program.specs.TreeFiles.{TreeReads}

-- at most so many pairs have lines
abbrev pub most_pairs : ℕ
most_pairs = 100

-- how two leaves may meet, in a word
abbrev pub meeting_word : Meeting → List ℕ
meeting_word Never = codes "never"
meeting_word Handover = codes "handover"
meeting_word Together = codes "together"

-- the line of a pair: how its leaves may meet, and the leaves by their uids
abbrev pub pair_line : Pair → List ℕ
pair_line pair = meeting_word pair.meeting ++ codes " " ++ decimal pair.earlier ++ codes " " ++ decimal pair.later ++ codes "\n"

-- the last line: how many pairs there are
abbrev pub pairs_line : ℕ → List ℕ
pairs_line count = codes "pairs " ++ decimal count ++ codes "\n"

-- there is no pair
abbrev pub no_pairs : Output
no_pairs = line_of (codes "exclusive\n") exit.Done

-- these are the first of so many pairs
abbrev pub some_pairs : List Pair → ℕ → Output
some_pairs first count = record { bytes = concat (map pair_line first) ++ pairs_line count; exit = exit.NotExclusive; calls = NoCalls; asked = Unasked }

-- what is printed of these pairs: where there is none, that the leaves are exclusive; else the lines of the first ones, and
-- how many there are
abbrev pub pairs_output : List Pair → Output
pairs_output [] = no_pairs
pairs_output pairs = some_pairs (take most_pairs pairs) (length pairs)

-- .. of the leaves of a tree, where each listed ID is that of a leaf
abbrev pub leaves_output : Option (List ℕ) → List (List ℕ) → Tree → Output
leaves_output (Some id) ids tree = no_leaf id
leaves_output None ids tree = pairs_output (meeting_pairs ids tree)

-- .. of what a tree file reads as
abbrev pub exclusive_output : List (List ℕ) → Result Tree TreeFault → Output
exclusive_output ids (Ok tree) = leaves_output (missing_leaf ids tree) ids tree
exclusive_output ids (Err fault) = tree_refused fault

-- .. over the bytes of its file
abbrev pub ExclusiveGives : List (List ℕ) → Option (List ℕ) → List ℕ → Output → Type 0
ExclusiveGives ids main tree output =
    OrTooLong tree (too_long file.Tree) output
    ((read : Result Tree TreeFault) × TreeReads main tree read × (output ≡ exclusive_output ids read))

abbrev pub Exclusives : List (List ℕ) → Option (List ℕ) → Giving
Exclusives ids main = λ files moments drivers. ExclusiveGives ids main files.tree
