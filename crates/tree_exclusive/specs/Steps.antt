-- The steps of the search for pairs, for private functions alone.
use Rattle.std.specs.Prelude.{ℕ, ◌+◌, ◌≡◌, ◌≤◌, List, [], ◌∷◌, ◌++◌, filter, length, take, nat_eq, nat_lt, not, Bool, if◌then◌else◌, sum_by}
use Rattle.std.specs.List.{list_any}
use Rattle.spec_exclusive.specs.declared.meeting.Meeting.{Meeting}
use Rattle.spec_exclusive.specs.declared.meeting.Meeting.TheVariants.{Together}
use Rattle.spec_exclusive.specs.declared.pair.Pair.{Pair}
use Rattle.spec_exclusive.specs.Meetings.{meeting_at}
use Rattle.spec_exclusive.specs.Pairs.{marked, pairs_with}
use Rattle.spec_tree.specs.declared.term.Kind.{Kind}
use Rattle.spec_tree.specs.declared.term.Term.{Term, Term-F, fold-Term}
use Rattle.tree_exclusive.specs.declared.pairs.Found.{Found}
use Rattle.tree_exclusive.specs.declared.steps.Step.{Step}

-- the nodes that are marked and not among the dead ones
abbrev pub living_marked : List ℕ → ℕ → List Bool → List ℕ
living_marked dead uid marks = filter (λ p. not (list_any (nat_eq p) dead)) (marked uid marks)

-- each of these is at least so much, and they rise
abbrev pub Rising : ℕ → List ℕ → Type 0
Rising least [] = Unit {0}
Rising least (x ∷ xs) = (least ≤ x) × Rising (x + 1) xs

-- how an earlier node and a later one meet, by the steps that lead down to the earlier one: the first child that has not
-- the later one too
abbrev pub by_steps : List Step → ℕ → Meeting
by_steps [] later = Together
by_steps (step ∷ steps) later = if nat_lt later step.end then by_steps steps later else step.meeting

-- the first of some nodes that stand before a uid, and those after them
abbrev pub below : ℕ → List ℕ → List ℕ
below end [] = []
below end (x ∷ xs) = if nat_lt x end then x ∷ below end xs else []

abbrev pub beyond : ℕ → List ℕ → List ℕ
beyond end [] = []
beyond end (x ∷ xs) = if nat_lt x end then beyond end xs else x ∷ xs

-- what is known of a term: how many nodes it has, and the steps that lead down to a node of it, where its first node has
-- this uid
pub record Ways : Type 0 where
  pub size : ℕ
  pub steps : ℕ → ℕ → List Step

-- .. of children of a node of this kind, of which the first has this place and this uid
abbrev pub steps_below : Kind → ℕ → ℕ → List Ways → ℕ → List Step
steps_below kind place uid [] earlier = []
steps_below kind place uid (child ∷ children) earlier =
    if nat_lt earlier (uid + child.size)
    then record { end = uid + child.size; meeting = meeting_at kind place } ∷ child.steps uid earlier
    else steps_below kind (place + 1) (uid + child.size) children earlier

abbrev pub ways_of_node : Term-F Ways → Ways
ways_of_node node = record {
  size = 1 + sum_by (λ (child : Ways). child.size) node.children;
  steps = λ uid earlier. if nat_lt uid earlier then steps_below node.kind 0 (uid + 1) node.children earlier else [];
}

abbrev pub ways : Term → Ways
ways = fold-Term Ways ways_of_node

-- the steps that lead down to a node of a term, after those that lead to the term
abbrev pub steps_after : List Step → ℕ → Term → ℕ → List Step
steps_after steps uid t u = steps ++ (ways t).steps uid u

-- the pairs of some leaves, to each of which these steps lead, with one another and with those after them
abbrev pub pairs_from : (ℕ → List Step) → List ℕ → List ℕ → List Pair
pairs_from steps [] after = []
pairs_from steps (u ∷ us) after = pairs_with (λ w. by_steps (steps w)) u (us ++ after) ++ pairs_from steps us after

-- these pairs were found: the first 100 are kept, and all are counted
pub record IsFound (found : Found) (pairs : List Pair) : Type 0 where
  pub first : found.pairs.items ≡ take 100 pairs
  pub count : found.count ≡ length pairs
