-- Below a node that is not RUNNING no instance is held.
use Rattle.std.proofs.Common.{◌≡◌, ℕ, suc, ◌+◌, ◌≤◌, List, [], ◌∷◌, false, Some, None, sym, ap, subst, ◌∙◌, arith, ⊎_elim}
use Rattle.std.proofs.lemmas.Bool.{cases_eq, cases_lt}
use Rattle.spec_run.specs.declared.memory.Memo.{Memo}
use Rattle.spec_run.specs.declared.memory.Memo.TheVariants.{Nothing, Index, Finished, Rotation as Rotating, Pace as Paced}
use Rattle.spec_run.specs.declared.memory.Memory.{Memory, out-Memory}
use Rattle.spec_run.specs.declared.status.Status.{Status}
use Rattle.spec_tree.specs.declared.term.Kind.{Kind}
use Rattle.spec_tree.specs.declared.term.Kind.TheVariants.{RateController, RoundRobin, RunOnce, SequenceWithMemory}
use Rattle.spec_tree.specs.declared.term.Port.{Port}
use Rattle.spec_tree.specs.declared.term.Term.{Term, Term-F}
use Rattle.spec_world.specs.declared.world.Row.{Row}
use Rattle.spec_run.specs.Done.{State}
use Rattle.base_tables.specs.Shapes.{IdleFrom, NoneRunsBefore, RestingShape, is_running, status_at}
use Rattle.spec_run.specs.Sites.{Meaning}
use Rattle.base_tables.specs.Sound.{Sound, States, held_at, states_of_node, statuses}
use Rattle.spec_run.specs.Visit.{meaning}
use Rattle.run_laws.proofs.Children.{Family, SoundAll, size_all, size_cons, status_in}
use Rattle.run_laws.proofs.Whole.{NodeKeeps}
use Rattle.run_laws.proofs.NodeRules.{rests_free}
use Rattle.run_laws.proofs.Visits.{resting_shape}
use Rattle.run_laws.proofs.Induction.{above, every_term, node_means}
use Rattle.run_laws.proofs.Keeping.{family, only_rows, term_keeps}
use Rattle.run_laws.proofs.Quenches.{NoneHeld}

-- ---- No child runs

-- no child is RUNNING
abbrev NoneRuns : List Status → Type 0
NoneRuns ss = (k : ℕ) → is_running (status_at ss k) ≡ false

idle_rests : (first : ℕ) (ss : List Status) → NoneRunsBefore first ss → IdleFrom first ss → NoneRuns ss
idle_rests first ss before following = λ k. ⊎_elim (λ low. before k low) (λ high. ap is_running (following k high)) (cases_lt k first)

none_runs : (ports : List Port) (moment : ℕ) (memo : Memo) (kind : Kind) (ss : List Status) → RestingShape ports moment memo kind ss → NoneRuns ss
none_runs ports moment Nothing kind ss shape = λ k. ap is_running (shape k (omega arith))
none_runs ports moment (Index at false) SequenceWithMemory ss shape = idle_rests at ss shape.1 shape.2
none_runs ports moment (Finished (Some a)) RunOnce ss shape = λ k. ap is_running (shape.1 k (omega arith))
none_runs ports moment (Rotating r) RoundRobin ss shape = λ k. ap is_running (shape.2 k (omega arith))
none_runs ports moment (Paced p) RateController ss shape = λ k. ap is_running (shape.2 k (omega arith))
none_runs ports moment _ kind ss shape = absurd shape

-- ---- Every term

following : (uid p : ℕ) → (p ≡ uid → ⊥) → uid ≤ p → uid + 1 ≤ p
following uid p other low = ⊎_elim (λ below. omega (arith, below)) (λ reached. absurd (other (omega (arith, low, reached)))) (cases_lt uid p)

-- where the rules hold and the node is not RUNNING, none of its instances is held
abbrev RestsFree : Term → Meaning → States → Type 0
RestsFree t c rules = (rows : List Row) (uid : ℕ) (m : Memory) (s : State) → rules rows None uid m s → is_running (status_in m) ≡ false → NoneHeld uid c.size s

module _ {X : Type 0} (term : X → Term) (free : (c : X) → RestsFree (term c) (meaning (term c)) (Sound (term c))) where
  abbrev F : Family
  F = family term (λ c. term_keeps (term c))

  all_free : (rows : List Row) (cs : List X) (uid : ℕ) (ms : List Memory) (s : State) → SoundAll F rows cs None uid ms s → NoneRuns (statuses ms) → NoneHeld uid (size_all F cs) s
  all_free rows [] uid ms s all rests = λ p low high. absurd (omega (arith, low, high))
  all_free rows (c ∷ cs) uid [] s all rests = absurd all
  all_free rows (c ∷ cs) uid (m ∷ ms) s all rests = λ p low high.
      let next : ℕ = uid + (meaning (term c)).size in
      ⊎_elim
      (λ here. free c rows uid m s all.0 (rests 0) p low here)
      (λ there. all_free rows cs next ms s all.1 (λ k. rests (suc k)) p there (omega (arith, high, size_cons F c cs)))
      (cases_lt p next)

  node_free : (node : Term-F X) → RestsFree (above term node) (node_means term node) (states_of_node X term (λ c. Sound (term c)) node)
  node_free node = λ rows uid m s sound rests p low high.
      let own : NodeKeeps F node (only_rows rows) uid (status_in m) (out-Memory m).memo (out-Memory m).children s = sound.0 in
      let shape : RestingShape node.ports s.moment (out-Memory m).memo node.kind (statuses (out-Memory m).children) = resting_shape (status_in m) node.kind node.ports _ s.moment (out-Memory m).memo (statuses (out-Memory m).children) rests own.shape in
      ⊎_elim
      (λ here. subst (λ (x : ℕ). held_at s x ≡ Some false) (sym here) (own.held ∙ ap Some (rests_free (status_in m) node.kind rests)))
      (λ other. all_free rows node.children (uid + 1) (out-Memory m).children s sound.1 (none_runs node.ports s.moment (out-Memory m).memo node.kind (statuses (out-Memory m).children) shape) p (following uid p other low) (omega (arith, high)))
      (cases_eq p uid)

pub rests_hold_nothing : (t : Term) → RestsFree t (meaning t) (Sound t)
rests_hold_nothing = every_term RestsFree (λ X term free node. node_free term free node)
