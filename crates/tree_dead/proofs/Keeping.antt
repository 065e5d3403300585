-- Every term keeps what is asked of it.
use Rattle.std.proofs.Common.{◌≡◌, ℕ, List, [], map, Bool, true, refl, ap, subst}
use Rattle.spec_tree.specs.declared.term.Term.{Term, Term-F}
use Rattle.spec_world.specs.declared.world.Row.{Row}
use Rattle.spec_tree.specs.Boards.{main_scope}
use Rattle.spec_run.specs.Sites.{View}
use Rattle.spec_run.specs.Visit.{meaning}
use Rattle.spec_dead.specs.declared.answers.Answers.{Answers}
use Rattle.spec_dead.specs.Dead.{Outlook, outlook}
use Rattle.tree_dead.proofs.Fits.{Stands, about_of, by_visit, stands_of_node}
use Rattle.run_laws.proofs.Induction.{map_twice, node_means}
use Rattle.tree_dead.proofs.Induction.{every_term, node_outlook}
use Rattle.tree_dead.proofs.Parts.{Leaves}
use Rattle.tree_dead.proofs.Seats.{Family, Keeps}
use Rattle.tree_dead.proofs.Sets.{Has}
use Rattle.tree_dead.proofs.Visits.{own_lives, reset_left, settled_left, visit_left}

module _ (is_dead : ℕ → Bool) (rows : List Row) where
  -- a view of these rows
  abbrev only_rows : View
  only_rows = record { rows = rows; facts = []; slots = []; scope = main_scope }

  abbrev TermKeeps : Term → Type 0
  TermKeeps t = Keeps is_dead rows (meaning t) (outlook t).answers (Stands is_dead rows t)

  -- terms that keep what is asked of them
  abbrev pub family : {X : Type 0} (term : X → Term) → ((c : X) → TermKeeps (term c)) → Family is_dead rows
  family {X} term keeps = record { Child = X; meaning = λ c. meaning (term c); answers = λ c. (outlook (term c)).answers; stands = λ c. Stands is_dead rows (term c); keeps = keeps }

  node_keeps : (X : Type 0) (term : X → Term) → ((c : X) → TermKeeps (term c)) → (node : Term-F X) → Keeps is_dead rows (node_means term node) (node_outlook term node).answers (stands_of_node is_dead rows X term (λ c. Stands is_dead rows (term c)) node)
  node_keeps X term keeps node =
      let F : Family is_dead rows = family term keeps in
      let same : by_visit (about_of is_dead rows node (map F.answers node.children)) ≡ (node_outlook term node).answers = ap (λ (children : List Answers). by_visit (about_of is_dead rows node children)) (map_twice (λ c. outlook (term c)) (λ (o : Outlook). o.answers) node.children) in
      record {
        reset = λ view is reached uid m s stands. reset_left is_dead rows F node view is uid reached m s stands;
        visit = λ view is uid m s stands. subst (λ (answers : Answers). Leaves is_dead (λ a m1. Has a answers × stands_of_node is_dead rows X term (λ c. Stands is_dead rows (term c)) node true uid m1) s ((node_means term node).visit view uid m s)) same
            (visit_left is_dead rows F node view is uid m s stands);
        settles = λ uid m stands. settled_left is_dead rows F node only_rows refl uid m stands;
        lives = λ uid m stands. own_lives is_dead rows F node only_rows refl uid m stands;
      }

  pub term_keeps : (t : Term) → TermKeeps t
  term_keeps = every_term is_dead rows (λ t c o stands. Keeps is_dead rows c o.answers stands) node_keeps
