-- What is printed of leaves that may be held together: by what was counted, and whole with the exit of its output.
use Rattle.std.proofs.Common.{◌≡◌, ℕ, List, [], ◌∷◌, length, take, Option, Some, None, Ok, refl, sym, subst, ◌∙◌, arith}
use Rattle.cli_refusals.specs.Printing.{Printed}
use Rattle.spec_exclusive.specs.declared.pair.Pair.{Pair}
use Rattle.spec_exclusive.specs.Pairs.{meeting_pairs, missing_leaf}
use Rattle.spec_outside.specs.Appending.{Appended}
use Rattle.spec_program.specs.declared.exit.Exit.{Exit}
use Rattle.spec_program.specs.declared.exit.Exit.TheVariants.{Done}
use Rattle.spec_program.specs.Exclusives.{exclusive_output, leaves_output, no_pairs, pairs_output, some_pairs}
use Rattle.spec_tree.specs.declared.term.Tree.{Tree}
use Rattle.tree_exclusive.specs.Runs.{AreApart}

-- where none was counted there is none
pub none_found : (pairs : List Pair) → length pairs ≡ 0 → pairs_output pairs ≡ no_pairs
none_found [] none = refl
none_found (pair ∷ pairs) none = absurd (omega (arith, none))

-- where some were counted, the first of them and how many they are
pub some_found : (pairs : List Pair) → (length pairs ≡ 0 → ⊥) → pairs_output pairs ≡ some_pairs (take 100 pairs) (length pairs)
some_found [] some = absurd (some refl)
some_found (pair ∷ pairs) some = refl

pairs_done : (pairs : List Pair) → (pairs_output pairs).exit ≡ Done → pairs ≡ []
pairs_done [] done = refl
pairs_done (pair ∷ pairs) done = absurd (cc)

leaves_done : (missing : Option (List ℕ)) (ids : List (List ℕ)) (tree : Tree) → (leaves_output missing ids tree).exit ≡ Done → meeting_pairs ids tree ≡ []
leaves_done (Some id) ids tree done = absurd (cc)
leaves_done None ids tree done = pairs_done (meeting_pairs ids tree) done

-- where the exit is that of a whole answer there is no pair, and all leaves with these IDs are apart
pub apart_where_done : (ids : List (List ℕ)) (tree : Tree) (exit : Exit) → AreApart ids tree (meeting_pairs ids tree) → exit ≡ (exclusive_output ids (Ok tree)).exit → exit ≡ Done → AreApart ids tree []
apart_where_done ids tree exit apart is done = subst (λ (pairs : List Pair). AreApart ids tree pairs) (leaves_done (missing_leaf ids tree) ids tree (sym is ∙ done)) apart

module _ (written : Option (List ℕ)) (faults : ℕ) (written_after : Option (List ℕ)) (faults_after : ℕ) where
  pairs_printed : (pairs : List Pair) → Appended written written_after (pairs_output pairs).bytes → Printed (pairs_output pairs) (pairs_output pairs).exit written faults written_after faults_after
  pairs_printed [] appended = λ clock old new same. (refl, appended, same, refl)
  pairs_printed (pair ∷ pairs) appended = λ clock old new same. (refl, appended, same, refl)

  leaves_printed : (missing : Option (List ℕ)) (ids : List (List ℕ)) (tree : Tree) → Appended written written_after (leaves_output missing ids tree).bytes →
      Printed (leaves_output missing ids tree) (leaves_output missing ids tree).exit written faults written_after faults_after
  leaves_printed (Some id) ids tree appended = λ clock old new same. (refl, appended, same, refl)
  leaves_printed None ids tree appended = pairs_printed (meeting_pairs ids tree) appended

  -- the whole output was written, and this is its exit
  pub exclusive_printed : (ids : List (List ℕ)) (tree : Tree) (exit : Exit) → exit ≡ (exclusive_output ids (Ok tree)).exit → Appended written written_after (exclusive_output ids (Ok tree)).bytes →
      Printed (exclusive_output ids (Ok tree)) exit written faults written_after faults_after
  exclusive_printed ids tree exit is appended =
      subst (λ (x : Exit). Printed (exclusive_output ids (Ok tree)) x written faults written_after faults_after) (sym is) (leaves_printed (missing_leaf ids tree) ids tree appended)
