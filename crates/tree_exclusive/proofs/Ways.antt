-- The steps that lead down to a node say how it and a later one may meet.
use Rattle.std.proofs.Common.{◌≡◌, ℕ, ◌+◌, ◌<◌, List, [], ◌∷◌, map, sum, nat_lt, cond, Bool, true, false, refl, sym, ap, subst, ◌∙◌, arith}
use Rattle.std.specs.Prelude.{sum_by}
use Rattle.std.proofs.lemmas.Bool.{cond-false, le-ltb, ltb-false}
use Rattle.std.proofs.lemmas.List.Sums.{sum_by-cons}
use Rattle.run_laws.proofs.Induction.{above, every_term, map_twice}
use Rattle.spec_exclusive.specs.declared.meeting.Meeting.{Meeting}
use Rattle.spec_exclusive.specs.declared.meeting.Meeting.TheVariants.{Together}
use Rattle.spec_exclusive.specs.declared.pair.Pair.{Pair}
use Rattle.spec_exclusive.specs.Meetings.{Meetings, meeting_at, meeting_below, meetings}
use Rattle.spec_exclusive.specs.Pairs.{may_meet, pair_of, pairs_with}
use Rattle.spec_tree.specs.declared.term.Kind.{Kind}
use Rattle.spec_tree.specs.declared.term.Term.{Term, Term-F, fold-roll-Term}
use Rattle.spec_tree.specs.declared.term.Term.TheFolds.{map-Term}
use Rattle.spec_tree.specs.Terms.{node_count}
use Rattle.tree_exclusive.specs.declared.steps.Step.{Step}
use Rattle.tree_exclusive.specs.Steps.{Rising, Ways, by_steps, steps_below, ways, ways_of_node}
use Rattle.tree_exclusive.proofs.Terms.{meetings_of_terms}

-- what is known of a term by its steps is what is known of how its leaves meet
pub record SameAs (w : Ways) (m : Meetings) (nodes : ℕ) : Type 0 where
  pub size : w.size ≡ m.size
  pub count : w.size ≡ nodes
  pub meets : (uid u v : ℕ) → u < v → by_steps (w.steps uid u) v ≡ m.meeting uid u v

abbrev pub Same : Term → Type 0
Same t = SameAs (ways t) (meetings t) (node_count t)

module _ {X : Type 0} (term : X → Term) (each : (c : X) → Same (term c)) where
  ways_of_terms : (node : Term-F X) → ways_of_node (map-Term X Ways (λ c. ways (term c)) node) ≡ ways (above term node)
  ways_of_terms node =
      ap (λ (cs : List Ways). ways_of_node (record (map-Term X Ways (λ c. ways (term c)) node) { children = cs })) (map_twice term ways node.children)
      ∙ sym (fold-roll-Term Ways ways_of_node (map-Term X Term term node))

  all_sizes : (cs : List X) → sum_by (λ (w : Ways). w.size) (map (λ c. ways (term c)) cs) ≡ sum_by (λ (m : Meetings). m.size) (map (λ c. meetings (term c)) cs)
  all_sizes [] = refl
  all_sizes (c ∷ cs) =
      sum_by-cons (λ (w : Ways). w.size) (ways (term c)) (map (λ d. ways (term d)) cs)
      ∙ ap (λ n. n + sum_by (λ (w : Ways). w.size) (map (λ d. ways (term d)) cs)) (each c).size
      ∙ ap (λ n. (meetings (term c)).size + n) (all_sizes cs)
      ∙ sym (sum_by-cons (λ (m : Meetings). m.size) (meetings (term c)) (map (λ d. meetings (term d)) cs))

  all_counts : (cs : List X) → sum_by (λ (w : Ways). w.size) (map (λ c. ways (term c)) cs) ≡ sum (map node_count (map term cs))
  all_counts [] = refl
  all_counts (c ∷ cs) =
      sum_by-cons (λ (w : Ways). w.size) (ways (term c)) (map (λ d. ways (term d)) cs)
      ∙ ap (λ n. n + sum_by (λ (w : Ways). w.size) (map (λ d. ways (term d)) cs)) (each c).count
      ∙ ap (λ n. node_count (term c) + n) (all_counts cs)
      ∙ sym (sum_by-cons (λ (k : ℕ). k) (node_count (term c)) (map node_count (map term cs)))

  below_same : (kind : Kind) (cs : List X) (place uid u v : ℕ) → u < v →
      by_steps (steps_below kind place uid (map (λ c. ways (term c)) cs) u) v ≡ meeting_below kind place uid (map (λ c. meetings (term c)) cs) u v
  below_same kind [] place uid u v less = refl
  below_same kind (c ∷ cs) place uid u v less =
      subst (λ (w : ℕ). by_steps (cond (nat_lt u (uid + w)) (first (uid + w)) (later (uid + w))) v ≡ goal) (sym (each c).size) (split (below_same kind cs (place + 1) (uid + (meetings (term c)).size) u v less) (nat_lt u n) refl)
    where
      n : ℕ
      n = uid + (meetings (term c)).size

      first : ℕ → List Step
      first end = record { end = end; meeting = meeting_at kind place } ∷ (ways (term c)).steps uid u

      later : ℕ → List Step
      later end = steps_below kind (place + 1) end (map (λ d. ways (term d)) cs) u

      rest : Meeting
      rest = meeting_below kind (place + 1) n (map (λ d. meetings (term d)) cs) u v

      goal : Meeting
      goal = cond (nat_lt v n) ((meetings (term c)).meeting uid u v) (cond (nat_lt u n) (meeting_at kind place) rest)

      split : by_steps (later n) v ≡ rest → (b : Bool) → nat_lt u n ≡ b → by_steps (cond (nat_lt u n) (first n) (later n)) v ≡ goal
      split after true e =
          ap (λ x. by_steps (cond x (first n) (later n)) v) e
          ∙ ap (λ m. cond (nat_lt v n) m (meeting_at kind place)) ((each c).meets uid u v less)
          ∙ ap (λ x. cond (nat_lt v n) ((meetings (term c)).meeting uid u v) (cond x (meeting_at kind place) rest)) (sym e)
      split after false e =
          ap (λ x. by_steps (cond x (first n) (later n)) v) e
          ∙ after
          ∙ sym (cond-false (nat_lt v n) _ _ (le-ltb v n (omega (arith, less, ltb-false u n e))) ∙ ap (λ x. cond x (meeting_at kind place) rest) e)

  counted : (node : Term-F X) → 1 + sum_by (λ (w : Ways). w.size) (map (λ c. ways (term c)) node.children) ≡ node_count (above term node)
  counted node = ap (λ n. 1 + n) (all_counts node.children) ∙ sym (fold-roll-Term ℕ (λ n. 1 + sum n.children) (map-Term X Term term node))

  node_same : (node : Term-F X) → Same (above term node)
  node_same node =
      subst (λ (w : Ways). SameAs w (meetings (above term node)) (node_count (above term node))) (ways_of_terms node)
      (subst (λ (m : Meetings). SameAs (ways_of_node (map-Term X Ways (λ c. ways (term c)) node)) m (node_count (above term node))) (meetings_of_terms term node) (record {
        size = ap (λ n. 1 + n) (all_sizes node.children);
        count = counted node;
        meets = λ uid u v less. meets_here uid u v less (nat_lt uid u);
      }))
    where
      meets_here : (uid u v : ℕ) → u < v → (b : Bool) →
          by_steps (cond b (steps_below node.kind 0 (uid + 1) (map (λ c. ways (term c)) node.children) u) []) v
          ≡ cond b (meeting_below node.kind 0 (uid + 1) (map (λ c. meetings (term c)) node.children) u v) Together
      meets_here uid u v less true = below_same node.kind node.children 0 (uid + 1) u v less
      meets_here uid u v less false = refl

pub same : (t : Term) → Same t
same = every_term (λ t c rules. Same t) (λ X term each node. node_same term each node)

-- ---- Pairs

-- the later ones of a leaf that is before all of them are met by the steps that lead to it as it is known
pub with_same : (meets meeting : ℕ → ℕ → Meeting) (u least : ℕ) (later : List ℕ) → u < least → Rising least later → ((v : ℕ) → u < v → meets u v ≡ meeting u v) →
    pairs_with meets u later ≡ pairs_with meeting u later
with_same meets meeting u least [] less rising same = refl
with_same meets meeting u least (v ∷ later) less rising same =
    ap (λ (m : Meeting). cond (may_meet m) (pair_of u v m ∷ pairs_with meets u later) (pairs_with meets u later)) (same v (omega (arith, less, rising.0)))
    ∙ ap (λ (ps : List Pair). cond (may_meet (meeting u v)) (pair_of u v (meeting u v) ∷ ps) ps) (with_same meets meeting u (v + 1) later (omega (arith, less, rising.0)) rising.1 same)
