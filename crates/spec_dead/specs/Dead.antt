-- The dead nodes of a tree: those that no visit can reach.
use Rattle.std.specs.Prelude.{ℕ, ◌+◌, List, [], ◌∷◌, ◌++◌, map, Bool, true, false, ◌&&◌}
use Rattle.spec_tree.specs.declared.term.Term.{Term, Term-F, fold-Term}
use Rattle.spec_tree.specs.declared.term.Tree.{Tree}
use Rattle.spec_dead.specs.declared.answers.Answers.{Answers}
use Rattle.spec_dead.specs.Guards.{answers_after, before_rule}
use Rattle.spec_dead.specs.Reached.{reaches}
use Rattle.spec_dead.specs.Rules.{rule_answers}

-- what is known of a term: what a visit of it may answer, and whether each of its nodes may be visited, in pre-order,
-- where its first node may be or not
pub record Outlook : Type 0 where
  pub answers : Answers
  pub marks : Bool → List Bool

-- what some terms may answer
abbrev pub answers_of : List Outlook → List Answers
answers_of children = map (λ (child : Outlook). child.answers) children

-- the marks of children in order, of which the first has this place, where it is known which of them may be visited
abbrev pub marks_below : (ℕ → Bool) → ℕ → List Outlook → List Bool
marks_below reached place [] = []
marks_below reached place (child ∷ children) = child.marks (reached place) ++ marks_below reached (place + 1) children

-- whether a node that is reached, or not, may visit the child at a place
abbrev pub reaches_child : Bool → Term-F Outlook → ℕ → Bool
reaches_child reached node place = reached && (before_rule node.guards).goes_on && reaches node.kind node.ports (answers_of node.children) place

-- what is known of a node above what is known of its children
abbrev pub outlook_of_node : Term-F Outlook → Outlook
outlook_of_node node = record {
  answers = answers_after (before_rule node.guards) (rule_answers node.kind node.ports (answers_of node.children));
  marks = λ reached. reached ∷ marks_below (reaches_child reached node) 0 node.children;
}

-- what is known of a term
abbrev pub outlook : Term → Outlook
outlook = fold-Term Outlook outlook_of_node

-- the uids of the nodes that are not marked, of nodes in pre-order of which the first has this uid
abbrev pub unmarked : ℕ → List Bool → List ℕ
unmarked uid [] = []
unmarked uid (true ∷ marks) = unmarked (uid + 1) marks
unmarked uid (false ∷ marks) = uid ∷ unmarked (uid + 1) marks

-- The dead nodes of a tree, by their uids in rising order. Its root is visited.
abbrev pub dead_nodes : Tree → List ℕ
dead_nodes tree = unmarked 1 ((outlook tree.term).marks true)
