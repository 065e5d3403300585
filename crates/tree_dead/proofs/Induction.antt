-- Every term keeps what is asked of it, and its memory before the first visit has it.
use Rattle.std.proofs.Common.{◌≡◌, ℕ, ◌+◌, List, [], ◌∷◌, map, Bool, refl, sym, ap, subst, ◌∙◌}
use Rattle.spec_run.specs.declared.memory.Memory.{Memory, out-Memory}
use Rattle.spec_tree.specs.declared.term.Term.{Term, Term-F, fold-roll-Term, ind-Term, roll-Term}
use Rattle.spec_tree.specs.declared.term.Term.TheFolds.{map-Term, rec-roll-Term}
use Rattle.spec_world.specs.declared.world.Row.{Row}
use Rattle.spec_run.specs.Sites.{Meaning}
use Rattle.spec_run.specs.Visit.{meaning, meaning_of_node}
use Rattle.run_laws.proofs.Induction.{above, map_twice, node_means}
use Rattle.spec_dead.specs.Dead.{Outlook, outlook, outlook_of_node}
use Rattle.tree_dead.proofs.Fits.{Claims, NodeStands, StandAll, Stands, about_of, may_visit, stands_of_node}

-- what is known of a node above what is known of these children
abbrev pub node_outlook : {X : Type 0} (term : X → Term) → Term-F X → Outlook
node_outlook {X} term node = outlook_of_node (map-Term X Outlook (λ c. outlook (term c)) node)

module _ {X : Type 0} (term : X → Term) where
  meaning_of_terms : (node : Term-F X) → node_means term node ≡ meaning (above term node)
  meaning_of_terms node =
      ap (λ (cs : List Meaning). meaning_of_node (record (map-Term X Meaning (λ c. meaning (term c)) node) { children = cs })) (map_twice term meaning node.children)
      ∙ sym (fold-roll-Term Meaning meaning_of_node (map-Term X Term term node))

  outlook_of_terms : (node : Term-F X) → node_outlook term node ≡ outlook (above term node)
  outlook_of_terms node =
      ap (λ (cs : List Outlook). outlook_of_node (record (map-Term X Outlook (λ c. outlook (term c)) node) { children = cs })) (map_twice term outlook node.children)
      ∙ sym (fold-roll-Term Outlook outlook_of_node (map-Term X Term term node))

module _ (is_dead : ℕ → Bool) (rows : List Row) where
  module _ {X : Type 0} (term : X → Term) where
    stand_of_terms : (stands : Term → Claims is_dead rows) (visits : ℕ → Bool) (cs : List X) (uid place : ℕ) (ms : List Memory) →
        StandAll is_dead rows (λ c. (meaning (term c)).size) (λ c. stands (term c)) visits cs uid place ms ≡ StandAll is_dead rows (λ t. (meaning t).size) stands visits (map term cs) uid place ms
    stand_of_terms stands visits [] uid place [] = refl
    stand_of_terms stands visits [] uid place (m ∷ ms) = refl
    stand_of_terms stands visits (c ∷ cs) uid place [] = refl
    stand_of_terms stands visits (c ∷ cs) uid place (m ∷ ms) = λ i. stands (term c) (visits place) uid m × stand_of_terms stands visits cs (uid + (meaning (term c)).size) (place + 1) ms i

    pub claims_of_terms : (stands : Term → Claims is_dead rows) (node : Term-F X) → stands_of_node is_dead rows X term (λ c. stands (term c)) node ≡ stands_of_node is_dead rows Term (λ t. t) stands (map-Term X Term term node)
    claims_of_terms stands node = λ i reached uid m.
        NodeStands is_dead rows (about_of is_dead rows node (map_twice term (λ (t : Term). (outlook t).answers) node.children i)) reached uid (out-Memory m).status (out-Memory m).memo
        × stand_of_terms stands (may_visit (about_of is_dead rows node (map_twice term (λ (t : Term). (outlook t).answers) node.children i)) reached) node.children (uid + 1) 0 (out-Memory m).children i

  claim_of_terms : {X : Type 0} (term : X → Term) (Claim : Term → Meaning → Outlook → Claims is_dead rows → Type 0) (node : Term-F X) →
      Claim (above term node) (node_means term node) (node_outlook term node) (stands_of_node is_dead rows X term (λ c. Stands is_dead rows (term c)) node) →
      Claim (above term node) (meaning (above term node)) (outlook (above term node)) (Stands is_dead rows (above term node))
  claim_of_terms {X} term Claim node holds =
      subst (λ (r : Claims is_dead rows). Claim (above term node) (meaning (above term node)) (outlook (above term node)) r)
      (claims_of_terms term (Stands is_dead rows) node ∙ sym (rec-roll-Term (Claims is_dead rows) (stands_of_node is_dead rows) (λ Y v k x. claims_of_terms v k x) (map-Term X Term term node)))
      (subst (λ (o : Outlook). Claim (above term node) (meaning (above term node)) o (stands_of_node is_dead rows X term (λ c. Stands is_dead rows (term c)) node)) (outlook_of_terms term node)
      (subst (λ (c : Meaning). Claim (above term node) c (node_outlook term node) (stands_of_node is_dead rows X term (λ c. Stands is_dead rows (term c)) node)) (meaning_of_terms term node) holds))

  -- a statement on a term, its meaning, what is known of it and what is asked of it holds of every term if it holds of
  -- each node whenever it holds of its children
  pub every_term :
      (Claim : Term → Meaning → Outlook → Claims is_dead rows → Type 0) →
      ((X : Type 0) (term : X → Term) → ((c : X) → Claim (term c) (meaning (term c)) (outlook (term c)) (Stands is_dead rows (term c))) → (node : Term-F X) →
      Claim (above term node) (node_means term node) (node_outlook term node) (stands_of_node is_dead rows X term (λ c. Stands is_dead rows (term c)) node)) →
      (t : Term) → Claim t (meaning t) (outlook t) (Stands is_dead rows t)
  every_term Claim step = ind-Term (λ t. Claim t (meaning t) (outlook t) (Stands is_dead rows t)) (λ x y is.
      subst (λ (z : Term-F Term). Claim (roll-Term z) (meaning (roll-Term z)) (outlook (roll-Term z)) (Stands is_dead rows (roll-Term z))) is (claim_of_terms (λ e. e.0) Claim y (step _ (λ e. e.0) (λ e. e.1) y)))
