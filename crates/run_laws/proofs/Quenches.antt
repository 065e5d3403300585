-- An IDLE term of which nothing is held keeps its rules, and a quench makes every term so.
use Rattle.std.proofs.Common.{◌≡◌, ℕ, ℤ, zero, suc, ◌+◌, ◌<◌, ◌≤◌, List, [], ◌∷◌, map, length, sum, Some, None, false, option_map, is_some, slice_get, refl, sym, ap, subst, ◌∙◌, arith}
use Rattle.std.proofs.lemmas.List.{length-map}
use Rattle.std.proofs.lemmas.List.Sums.{sum_by-cons}
use Rattle.spec_run.specs.declared.leaf.Instance.{Instance}
use Rattle.spec_run.specs.declared.memory.Memo.TheVariants.{Nothing}
use Rattle.spec_run.specs.declared.memory.Memory.{Memory}
use Rattle.spec_run.specs.declared.status.Status.TheVariants.{Idle}
use Rattle.spec_tree.specs.declared.term.Term.{Term, Term-F, fold-roll-Term}
use Rattle.spec_tree.specs.declared.term.Term.TheFolds.{map-Term}
use Rattle.spec_tree.specs.declared.term.Tree.{Tree}
use Rattle.spec_world.specs.declared.world.Row.{Row}
use Rattle.spec_run.specs.Done.{State}
use Rattle.spec_run.specs.Leaf.{let_go}
use Rattle.spec_run.specs.Run.{Runner, quenched_runner, settled, state_of}
use Rattle.base_tables.specs.Shapes.{status_at}
use Rattle.spec_run.specs.Sites.{Meaning, sizes}
use Rattle.base_tables.specs.Sound.{Sound, States, Steady, held_at, states_of_node, statuses}
use Rattle.spec_tree.specs.Terms.{node_count}
use Rattle.spec_run.specs.Visit.{idle, meaning}
use Rattle.run_laws.proofs.Children.{Family, SoundAll, status_in, status_kept}
use Rattle.run_laws.proofs.Whole.{Own, as_kept}
use Rattle.run_laws.proofs.Induction.{above, every_term, idle_of_terms, node_means}
use Rattle.run_laws.proofs.Keeping.{family, only_rows, term_keeps}

-- ---- The number of nodes

module _ {X : Type 0} (term : X → Term) (counted : (c : X) → (meaning (term c)).size ≡ node_count (term c)) where
  all_counted : (cs : List X) → sizes (map (λ c. meaning (term c)) cs) ≡ sum (map node_count (map term cs))
  all_counted [] = refl
  all_counted (c ∷ cs) =
      let size_of_all : sizes (map (λ d. meaning (term d)) (c ∷ cs)) ≡ (meaning (term c)).size + sizes (map (λ d. meaning (term d)) cs) = sum_by-cons (λ (k : Meaning). k.size) (meaning (term c)) (map (λ d. meaning (term d)) cs) in
      let count_of_all : sum (map node_count (map term (c ∷ cs))) ≡ node_count (term c) + sum (map node_count (map term cs)) = sum_by-cons (λ (k : ℕ). k) (node_count (term c)) (map node_count (map term cs)) in
      omega (arith, size_of_all, count_of_all, counted c, all_counted cs)

  node_counted : (node : Term-F X) → (node_means term node).size ≡ node_count (above term node)
  node_counted node = ap (λ (n : ℕ). 1 + n) (all_counted node.children) ∙ sym (fold-roll-Term ℕ (λ n. 1 + sum n.children) (map-Term X Term term node))

-- the meaning of a term has the size that is its number of nodes
pub size_is_count : (t : Term) → (meaning t).size ≡ node_count t
size_is_count = every_term (λ t c rules. c.size ≡ node_count t) (λ X term counted node. node_counted term counted node)

-- ---- A term that rests

-- no instance of these nodes is held
abbrev pub NoneHeld : ℕ → ℕ → State → Type 0
NoneHeld uid size s = (p : ℕ) → uid ≤ p → p < uid + size → held_at s p ≡ Some false

record RestsSound (t : Term) (c : Meaning) (rules : States) : Type 0 where
  rests : status_in (idle t) ≡ Idle
  sound : (rows : List Row) (uid : ℕ) (s : State) → NoneHeld uid c.size s → rules rows None uid (idle t) s

-- ---- A quench

no_since : (instances : List Instance) (p t : ℕ) → option_map (λ (i : Instance). i.since) (slice_get (map let_go instances) p) ≡ Some (Some t) → ⊥
no_since [] p t e = cc
no_since (i ∷ instances) zero t e = cc
no_since (i ∷ instances) (suc p) t e = no_since instances p t e

nothing_held : (instances : List Instance) (p : ℕ) → p < length instances → option_map (λ (i : Instance). is_some i.since) (slice_get (map let_go instances) p) ≡ Some false
nothing_held [] p within = absurd (omega (arith, within))
nothing_held (i ∷ instances) zero within = refl
nothing_held (i ∷ instances) (suc p) within = nothing_held instances p (omega (arith, within))

module _ {X : Type 0} (term : X → Term) (rest : (c : X) → RestsSound (term c) (meaning (term c)) (Sound (term c))) where
  abbrev F : Family
  F = family term (λ c. term_keeps (term c))

  all_rest : (cs : List X) (k : ℕ) → status_at (statuses (map (λ c. idle (term c)) cs)) k ≡ Idle
  all_rest [] k = refl
  all_rest (c ∷ cs) zero = (rest c).rests
  all_rest (c ∷ cs) (suc k) = all_rest cs k

  all_rest_sound : (rows : List Row) (cs : List X) (uid : ℕ) (s : State) → NoneHeld uid (sizes (map (λ c. meaning (term c)) cs)) s → SoundAll F rows cs None uid (map (λ c. idle (term c)) cs) s
  all_rest_sound rows [] uid s free = tt
  all_rest_sound rows (c ∷ cs) uid s free =
      let cons : sizes (map (λ d. meaning (term d)) (c ∷ cs)) ≡ (meaning (term c)).size + sizes (map (λ d. meaning (term d)) cs) = sum_by-cons (λ (k : Meaning). k.size) (meaning (term c)) (map (λ d. meaning (term d)) cs) in (
        (rest c).sound rows uid s (λ p a b. free p a (omega (arith, b, cons))),
        all_rest_sound rows cs (uid + (meaning (term c)).size) s (λ p a b. free p (omega (arith, a)) (omega (arith, b, cons))),
      )

  node_rests : (node : Term-F X) → RestsSound (above term node) (node_means term node) (states_of_node X term (λ c. Sound (term c)) node)
  node_rests node =
      let ms : List Memory = map (λ c. idle (term c)) node.children in
      record {
        rests = ap status_in (idle_of_terms term node) ∙ status_kept Idle Nothing ms;
        sound = λ rows uid s free. subst (λ (m : Memory). Own F node (only_rows rows) uid None m s) (sym (idle_of_terms term node))
            (as_kept F node (only_rows rows) uid None Idle Nothing ms s (
              record { shape = λ k from. all_rest node.children k; held = free uid (omega arith) (omega arith) },
              all_rest_sound rows node.children (uid + 1) s (λ p a b. free p (omega (arith, a)) (omega (arith, b))),
            ));
      }

term_rests : (t : Term) → RestsSound t (meaning t) (Sound t)
term_rests = every_term RestsSound (λ X term rest node. node_rests term rest node)

-- an IDLE term of which nothing is held keeps its rules
pub idle_sound : (t : Term) (rows : List Row) (uid : ℕ) (s : State) → NoneHeld uid (meaning t).size s → Sound t rows None uid (idle t) s
idle_sound t rows uid s free = (term_rests t).sound rows uid s free

pub idle_settled : (t : Term) → settled (status_in (idle t)) ≡ status_in (idle t)
idle_settled t = ap settled (term_rests t).rests ∙ sym (term_rests t).rests

-- a quench makes what holds between events
pub quench_steady : (tree : Tree) (rows : List Row) (r : Runner) (facts : List ℤ) (at : ℕ) → 1 + (meaning tree.term).size ≤ length r.instances →
    Steady tree.term rows (quenched_runner tree r).memory (state_of (quenched_runner tree r) facts at)
quench_steady tree rows r facts at room = record {
  sound = idle_sound tree.term rows 1 (state_of (quenched_runner tree r) facts at) (λ p a b. nothing_held r.instances p (omega (arith, b, room)));
  root = idle_settled tree.term;
  room = omega (arith, room, length-map r.instances let_go);
  dated = λ p since e. absurd (no_since r.instances p since e);
}
