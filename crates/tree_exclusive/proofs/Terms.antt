-- A visit of every term leaves the leaves apart that are never held together.
use Rattle.std.proofs.Common.{◌≡◌, ℕ, ◌+◌, List, [], ◌∷◌, map, false, None, refl, sym, ap, subst, ◌∙◌}
use Rattle.std.proofs.lemmas.List.Sums.{sum_by-cons}
use Rattle.std.specs.Prelude.{sum_by}
use Rattle.base_tables.specs.Sound.{Sound, States, states_of_node}
use Rattle.run_laws.proofs.Claims.{TermMeets}
use Rattle.run_laws.proofs.Induction.{above, every_term, map_twice, node_means}
use Rattle.run_laws.proofs.ReadNotes.{noted, term_reads}
use Rattle.spec_exclusive.specs.Meetings.{Meetings, meetings, meetings_of_node}
use Rattle.spec_run.specs.Sites.{Meaning, sizes}
use Rattle.spec_run.specs.Visit.{meaning}
use Rattle.spec_tree.specs.declared.term.Term.{Term, Term-F, fold-roll-Term}
use Rattle.spec_tree.specs.declared.term.Term.TheFolds.{map-Term}
use Rattle.tree_exclusive.proofs.Held.{follows_leaf}
use Rattle.tree_exclusive.proofs.Visits.{visit_parts}
use Rattle.tree_exclusive.proofs.Words.{PartsOf, TermParts}

-- what is known of a node above its children
pub meetings_of_terms : {X : Type 0} (term : X → Term) (node : Term-F X) → meetings_of_node (map-Term X Meetings (λ c. meetings (term c)) node) ≡ meetings (above term node)
meetings_of_terms {X} term node =
    ap (λ (cs : List Meetings). meetings_of_node (record (map-Term X Meetings (λ c. meetings (term c)) node) { children = cs })) (map_twice term meetings node.children)
    ∙ sym (fold-roll-Term Meetings meetings_of_node (map-Term X Term term node))

module _ (runner : ℕ) where
  -- the notes of visits and resets of a term say which leaves are held after them
  abbrev Reading : Meaning → Type 0
  Reading c = (p count : ℕ) → TermMeets (noted (follows_leaf runner p runner count false)) c

  pub reading : (t : Term) → Reading (meaning t)
  reading t = λ p count. term_reads (follows_leaf runner p runner count false) t

  same_sizes : {X : Type 0} (term : X → Term) → ((c : X) → PartsOf runner (term c)) → (cs : List X) →
      sum_by (λ (m : Meetings). m.size) (map (λ c. meetings (term c)) cs) ≡ sizes (map (λ c. meaning (term c)) cs)
  same_sizes term parts [] = refl
  same_sizes term parts (c ∷ cs) =
      sum_by-cons (λ (m : Meetings). m.size) (meetings (term c)) (map (λ d. meetings (term d)) cs)
      ∙ ap (λ n. n + sum_by (λ (m : Meetings). m.size) (map (λ d. meetings (term d)) cs)) (parts c).size
      ∙ ap (λ n. (meaning (term c)).size + n) (same_sizes term parts cs)
      ∙ sym (sum_by-cons (λ (k : Meaning). k.size) (meaning (term c)) (map (λ d. meaning (term d)) cs))

  -- visits of a term, where notes are read
  abbrev Claim : Term → Meaning → States → Type 0
  Claim t c rules = Reading c → TermParts runner (meetings t) c (λ view uid m s. rules view.rows None uid m s)

  node_parts : (X : Type 0) (term : X → Term) → ((c : X) → Claim (term c) (meaning (term c)) (Sound (term c))) → (node : Term-F X) → Claim (above term node) (node_means term node) (states_of_node X term (λ c. Sound (term c)) node)
  node_parts X term each node reads =
      let parts : (c : X) → PartsOf runner (term c) = λ c. each c (reading (term c)) in
      subst (λ (m : Meetings). TermParts runner m (node_means term node) (λ view uid mem s. states_of_node X term (λ c. Sound (term c)) node view.rows None uid mem s)) (meetings_of_terms term node) (record {
        size = ap (λ n. 1 + n) (same_sizes term parts node.children);
        visit = λ view uid m s sound room free. visit_parts runner term parts node view uid reads m s sound room free;
      })

  pub term_parts : (t : Term) → PartsOf runner t
  term_parts t = every_term Claim node_parts t (reading t)
