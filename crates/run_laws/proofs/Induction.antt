-- What holds of each node whenever it holds of its children, holds of every term.
use Rattle.std.proofs.Common.{◌≡◌, ℕ, ◌+◌, List, [], ◌∷◌, map, Option, refl, sym, ap, subst, ◌∙◌}
use Rattle.spec_run.specs.declared.memory.Memo.TheVariants.{Nothing}
use Rattle.spec_run.specs.declared.memory.Memory.{Memory, out-Memory}
use Rattle.spec_run.specs.declared.status.Status.TheVariants.{Idle}
use Rattle.spec_tree.specs.declared.term.Term.{Term, Term-F, fold-roll-Term, ind-Term, roll-Term}
use Rattle.spec_tree.specs.declared.term.Term.TheFolds.{map-Term, rec-roll-Term}
use Rattle.spec_world.specs.declared.world.Row.{Row}
use Rattle.spec_run.specs.Done.{State}
use Rattle.spec_run.specs.Leaves.{row_of}
use Rattle.spec_run.specs.Sites.{Meaning, remembered, sizes}
use Rattle.base_tables.specs.Sound.{NodeRule, OffPath, Sound, Sounds, States, states_of_node}
use Rattle.spec_run.specs.Visit.{idle, meaning, meaning_of_node}

pub map_twice : {A B C : Type 0} (f : A → B) (g : B → C) (xs : List A) → map (λ x. g (f x)) xs ≡ map g (map f xs)
map_twice f g [] = refl
map_twice f g (x ∷ xs) = ap (λ ys. g (f x) ∷ ys) (map_twice f g xs)

module _ {X : Type 0} (term : X → Term) where
  -- the rules of some terms are those of the values in their place
  sounds_of_terms : (rules : Term → States) (cs : List X) (rows : List Row) (fault : Option ℕ) (uid : ℕ) (ms : List Memory) (s : State) →
      Sounds (λ c. (meaning (term c)).size) (λ c. rules (term c)) cs rows fault uid ms s ≡ Sounds (λ t. (meaning t).size) rules (map term cs) rows fault uid ms s
  sounds_of_terms rules [] rows fault uid [] s = refl
  sounds_of_terms rules [] rows fault uid (m ∷ ms) s = refl
  sounds_of_terms rules (c ∷ cs) rows fault uid [] s = refl
  sounds_of_terms rules (c ∷ cs) rows fault uid (m ∷ ms) s = λ i. rules (term c) rows fault uid m s × sounds_of_terms rules cs rows fault (uid + (meaning (term c)).size) ms s i

  pub rules_of_terms : (rules : Term → States) (node : Term-F X) → states_of_node X term (λ c. rules (term c)) node ≡ states_of_node Term (λ t. t) rules (map-Term X Term term node)
  rules_of_terms rules node = λ i rows fault uid m s.
      OffPath fault uid (1 + sizes (map_twice term meaning node.children i))
      (NodeRule node.kind node.ports (row_of rows node.id) uid (out-Memory m).status (out-Memory m).memo (out-Memory m).children s)
      × sounds_of_terms rules node.children rows fault (uid + 1) (out-Memory m).children s i

  -- the term of a node above these children
  abbrev pub above : Term-F X → Term
  above node = roll-Term (map-Term X Term term node)

  -- what a node means above children of these meanings
  abbrev pub node_means : Term-F X → Meaning
  node_means node = meaning_of_node (map-Term X Meaning (λ c. meaning (term c)) node)

  meaning_of_terms : (node : Term-F X) → node_means node ≡ meaning (above node)
  meaning_of_terms node =
      ap (λ (cs : List Meaning). meaning_of_node (record (map-Term X Meaning (λ c. meaning (term c)) node) { children = cs })) (map_twice term meaning node.children)
      ∙ sym (fold-roll-Term Meaning meaning_of_node (map-Term X Term term node))

claim_of_terms : {X : Type 0} (term : X → Term) (Claim : Term → Meaning → States → Type 0) (node : Term-F X) →
    Claim (above term node) (node_means term node) (states_of_node X term (λ c. Sound (term c)) node) → Claim (above term node) (meaning (above term node)) (Sound (above term node))
claim_of_terms {X} term Claim node holds =
    subst (λ (r : States). Claim (above term node) (meaning (above term node)) r) (rules_of_terms term Sound node ∙ sym (rec-roll-Term States states_of_node (λ Y v k x. rules_of_terms v k x) (map-Term X Term term node)))
    (subst (λ (c : Meaning). Claim (above term node) c (states_of_node X term (λ c. Sound (term c)) node)) (meaning_of_terms term node) holds)

-- a statement on a term, its meaning and its rules holds of every term if it holds of each node whenever it holds of
-- its children
pub every_term :
    (Claim : Term → Meaning → States → Type 0) →
    ((X : Type 0) (term : X → Term) → ((c : X) → Claim (term c) (meaning (term c)) (Sound (term c))) → (node : Term-F X) → Claim (above term node) (node_means term node) (states_of_node X term (λ c. Sound (term c)) node)) →
    (t : Term) → Claim t (meaning t) (Sound t)
every_term Claim step = ind-Term (λ t. Claim t (meaning t) (Sound t)) (λ x y is.
    subst (λ (z : Term-F Term). Claim (roll-Term z) (meaning (roll-Term z)) (Sound (roll-Term z))) is (claim_of_terms (λ e. e.0) Claim y (step _ (λ e. e.0) (λ e. e.1) y)))

-- the memory of a term before its first visit
pub idle_of_terms : {X : Type 0} (term : X → Term) (node : Term-F X) → idle (above term node) ≡ remembered Idle Nothing (map (λ c. idle (term c)) node.children)
idle_of_terms term node =
    fold-roll-Term Memory (λ n. remembered Idle Nothing n.children) (map-Term _ Term term node)
    ∙ ap (λ (ms : List Memory). remembered Idle Nothing ms) (sym (map_twice term idle node.children))
