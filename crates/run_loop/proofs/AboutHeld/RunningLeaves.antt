-- What is held is that of a leaf that runs below nodes that all do.
use Rattle.std.proofs.Common.{◌≡◌, ◌⊎◌, inl, inr, ℕ, ◌+◌, ◌<◌, ◌≤◌, List, [], ◌∷◌, map, Bool, true, false, Option, Some, None, refl, sym, ap, subst, ◌∙◌, arith, ⊎_elim}
use Rattle.std.proofs.lemmas.Bool.{cases_eq, cases_lt}
use Rattle.spec_run.specs.declared.memory.Memory.{Memory, out-Memory}
use Rattle.spec_run.specs.declared.status.Status.{Status}
use Rattle.spec_run.specs.declared.status.Status.TheVariants.{Idle, Running, Success, Failure}
use Rattle.spec_tree.specs.declared.term.Kind.{Kind}
use Rattle.spec_tree.specs.declared.term.Kind.TheVariants.{Leaf}
use Rattle.spec_tree.specs.declared.term.Term.{Term, Term-F}
use Rattle.spec_tree.specs.declared.term.Term.TheFolds.{map-Term, rec-roll-Term}
use Rattle.spec_world.specs.declared.world.Row.{Row}
use Rattle.spec_run.specs.Done.{State}
use Rattle.base_tables.specs.Shapes.{is_running}
use Rattle.spec_run.specs.Sites.{Meaning}
use Rattle.base_tables.specs.Sound.{Sound, States, held_at, is_held, states_of_node}
use Rattle.spec_run.specs.Visit.{meaning}
use Rattle.run_laws.proofs.Children.{Family, SoundAll, size_all, size_cons, status_in}
use Rattle.run_laws.proofs.Induction.{above, every_term, node_means}
use Rattle.run_laws.proofs.Keeping.{family, only_rows, term_keeps}
use Rattle.run_laws.proofs.Quiet.{rests_hold_nothing}
use Rattle.run_laws.proofs.Whole.{NodeKeeps}
use Rattle.run_loop.specs.Held.RunningLeaves.{InOne, Places, RunsDownTo, node_runs_down}

-- ---- A node above children

module _ {X : Type 0} (term : X → Term) where
  in_one_of_terms : (says : Term → Places) (cs : List X) (uid : ℕ) (ms : List Memory) (p : ℕ) →
      InOne (λ c. (meaning (term c)).size) (λ c. says (term c)) cs uid ms p ≡ InOne (λ t. (meaning t).size) says (map term cs) uid ms p
  in_one_of_terms says [] uid ms p = refl
  in_one_of_terms says (c ∷ cs) uid [] p = refl
  in_one_of_terms says (c ∷ cs) uid (m ∷ ms) p = λ i. says (term c) uid m p ⊎ in_one_of_terms says cs (uid + (meaning (term c)).size) ms p i

  runs_of_terms : (says : Term → Places) (node : Term-F X) → node_runs_down X term (λ c. says (term c)) node ≡ node_runs_down Term (λ t. t) says (map-Term X Term term node)
  runs_of_terms says node = λ i uid m p.
      ((out-Memory m).status ≡ Running)
      × (((node.kind ≡ Leaf) × (p ≡ uid)) ⊎ in_one_of_terms says node.children (uid + 1) (out-Memory m).children p i)

-- how a node runs down to a leaf, by its children
runs_above : {X : Type 0} (term : X → Term) (node : Term-F X) → RunsDownTo (above term node) ≡ node_runs_down X term (λ c. RunsDownTo (term c)) node
runs_above {X} term node = rec-roll-Term Places node_runs_down (λ Y v k x. runs_of_terms v k x) (map-Term X Term term node) ∙ sym (runs_of_terms term RunsDownTo node)

-- ---- Small facts

running_of : (st : Status) → (is_running st ≡ false → ⊥) → st ≡ Running
running_of Running rests = refl
running_of Idle rests = absurd (rests refl)
running_of Success rests = absurd (rests refl)
running_of Failure rests = absurd (rests refl)

leaf_of : (st : Status) (kind : Kind) → is_held st kind ≡ true → kind ≡ Leaf
leaf_of Running Leaf e = refl
leaf_of _ _ e = cc

not_both : (o : Option Bool) → o ≡ Some true → o ≡ Some false → ⊥
not_both o held free = let e : Some true ≡ Some false = sym held ∙ free in cc

said : (b : Bool) → Some b ≡ Some true → b ≡ true
said true e = refl
said false e = cc

following : (uid p : ℕ) → (p ≡ uid → ⊥) → uid ≤ p → uid + 1 ≤ p
following uid p other low = ⊎_elim (λ below. omega (arith, below)) (λ reached. absurd (other (omega (arith, low, reached)))) (cases_lt uid p)

-- ---- What is held runs

abbrev HeldRuns : Term → Meaning → States → Type 0
HeldRuns t c rules =
    (rows : List Row) (uid : ℕ) (m : Memory) (s : State) → Sound t rows None uid m s → rules rows None uid m s →
    (p : ℕ) → uid ≤ p → p < uid + c.size → p < uid + (meaning t).size → held_at s p ≡ Some true → RunsDownTo t uid m p

module _ {X : Type 0} (term : X → Term) (runs : (c : X) → HeldRuns (term c) (meaning (term c)) (Sound (term c))) where
  abbrev F : Family
  F = family term (λ c. term_keeps (term c))

  in_one : (rows : List Row) (cs : List X) (uid : ℕ) (ms : List Memory) (s : State) → SoundAll F rows cs None uid ms s →
      (p : ℕ) → uid ≤ p → p < uid + size_all F cs → held_at s p ≡ Some true → InOne (λ c. (meaning (term c)).size) (λ c. RunsDownTo (term c)) cs uid ms p
  in_one rows [] uid ms s all p low high held = absurd (omega (arith, low, high))
  in_one rows (c ∷ cs) uid [] s all p low high held = absurd all
  in_one rows (c ∷ cs) uid (m ∷ ms) s all p low high held =
      let next : ℕ = uid + (meaning (term c)).size in
      ⊎_elim
      (λ here. inl (runs c rows uid m s all.0 all.0 p low here here held))
      (λ there. inr (in_one rows cs next ms s all.1 p there (omega (arith, high, size_cons F c cs)) held))
      (cases_lt p next)

  node_held : (node : Term-F X) → HeldRuns (above term node) (node_means term node) (states_of_node X term (λ c. Sound (term c)) node)
  node_held node = λ rows uid m s sound parts p low high high_above held.
      let own : NodeKeeps F node (only_rows rows) uid (status_in m) (out-Memory m).memo (out-Memory m).children s = parts.0 in
      subst (λ (says : Places). says uid m p) (sym (runs_above term node)) (
        running_of (status_in m) (λ rests. not_both (held_at s p) held (rests_hold_nothing (above term node) rows uid m s sound rests p low high_above)),
        ⊎_elim
            (λ here. inl (leaf_of (status_in m) node.kind (said (is_held (status_in m) node.kind) (sym own.held ∙ ap (held_at s) (sym here) ∙ held)), here))
            (λ other. inr (in_one rows node.children (uid + 1) (out-Memory m).children s parts.1 p (following uid p other low) (omega (arith, high)) held))
            (cases_eq p uid),
      )

pub held_runs : (t : Term) (rows : List Row) (uid : ℕ) (m : Memory) (s : State) → Sound t rows None uid m s →
    (p : ℕ) → uid ≤ p → p < uid + (meaning t).size → held_at s p ≡ Some true → RunsDownTo t uid m p
held_runs t rows uid m s sound p low high held = every_term HeldRuns (λ X term runs node. node_held term runs node) t rows uid m s sound sound p low high high held

-- ---- What runs is held

abbrev RunsHeld : Term → Meaning → States → Type 0
RunsHeld t c rules = (rows : List Row) (uid : ℕ) (m : Memory) (s : State) → rules rows None uid m s → (p : ℕ) → RunsDownTo t uid m p → held_at s p ≡ Some true

module _ {X : Type 0} (term : X → Term) (holds : (c : X) → RunsHeld (term c) (meaning (term c)) (Sound (term c))) where
  abbrev G : Family
  G = family term (λ c. term_keeps (term c))

  one_holds : (rows : List Row) (cs : List X) (uid : ℕ) (ms : List Memory) (s : State) → SoundAll G rows cs None uid ms s →
      (p : ℕ) → InOne (λ c. (meaning (term c)).size) (λ c. RunsDownTo (term c)) cs uid ms p → held_at s p ≡ Some true
  one_holds rows [] uid ms s all p runs = absurd runs
  one_holds rows (c ∷ cs) uid [] s all p runs = absurd all
  one_holds rows (c ∷ cs) uid (m ∷ ms) s all p runs =
      ⊎_elim (λ here. holds c rows uid m s all.0 p here) (λ there. one_holds rows cs (uid + (meaning (term c)).size) ms s all.1 p there) runs

  node_holds : (node : Term-F X) → RunsHeld (above term node) (node_means term node) (states_of_node X term (λ c. Sound (term c)) node)
  node_holds node = λ rows uid m s parts p runs.
      let own : NodeKeeps G node (only_rows rows) uid (status_in m) (out-Memory m).memo (out-Memory m).children s = parts.0 in
      let down : node_runs_down X term (λ c. RunsDownTo (term c)) node uid m p = subst (λ (says : Places). says uid m p) (runs_above term node) runs in
      ⊎_elim
      (λ leaf. ap (held_at s) leaf.1 ∙ own.held ∙ (λ i. Some (is_held (down.0 i) (leaf.0 i))))
      (λ child. one_holds rows node.children (uid + 1) (out-Memory m).children s parts.1 p child)
      down.1

pub runs_held : (t : Term) (rows : List Row) (uid : ℕ) (m : Memory) (s : State) → Sound t rows None uid m s → (p : ℕ) → RunsDownTo t uid m p → held_at s p ≡ Some true
runs_held = every_term RunsHeld (λ X term holds node. node_holds term holds node)
