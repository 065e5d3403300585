-- Leaves that one child hands over to another one are not both held where the rules of states hold.
use Rattle.std.proofs.Common.{◌≡◌, ◌⊎◌, ⊎_elim, inl, inr, ℕ, zero, suc, ◌+◌, ◌<◌, ◌≤◌, List, [], ◌∷◌, nat_lt, cond, Bool, true, false, Option, None, refl, sym, ap, subst, ◌∙◌, arith}
use Rattle.std.proofs.lemmas.Bool.{cases_eq, cases_lt, cond-false, cond-true, le-ltb, lt-ltb, ltb-true}
use Rattle.base_tables.specs.Shapes.{OneRuns, RestingShape, RunningShape, Shape, is_running, status_at}
use Rattle.base_tables.specs.Sound.{Sound, States, states_of_node, statuses}
use Rattle.run_laws.proofs.Children.{SoundAll}
use Rattle.run_laws.proofs.Induction.{every_term, node_means}
use Rattle.run_laws.proofs.KindRules.{rests_idle, rests_whole}
use Rattle.spec_exclusive.specs.declared.meeting.Meeting.{Meeting}
use Rattle.spec_exclusive.specs.declared.meeting.Meeting.TheVariants.{Handover, Together}
use Rattle.spec_exclusive.specs.Meetings.{Meetings, meeting_at, meetings, meetings_of_node}
use Rattle.spec_run.specs.declared.memory.Memo.{Memo}
use Rattle.spec_run.specs.declared.memory.Memo.TheVariants.{Index}
use Rattle.spec_run.specs.declared.memory.Memory.{Memory, out-Memory}
use Rattle.spec_run.specs.declared.status.Status.{Status}
use Rattle.spec_run.specs.declared.status.Status.TheVariants as status
use Rattle.spec_run.specs.Done.{State}
use Rattle.spec_run.specs.Leaves.{row_of}
use Rattle.spec_run.specs.Sites.{Meaning}
use Rattle.spec_run.specs.Visit.{meaning}
use Rattle.spec_tree.specs.declared.term.Kind.{Kind}
use Rattle.spec_tree.specs.declared.term.Kind.TheVariants.{Sequence, SequenceWithMemory, ReactiveSequence, Fallback, ReactiveFallback, Parallel, Switch, IfThenElse, WhileDoElse, RecoveryNode, PipelineSequence, RoundRobin, Inverter, ForceSuccess, ForceFailure, KeepRunningUntilFailure, Retry, Repeat, Timeout, Delay, RunOnce, RateController, SubTree, AlwaysSuccess, AlwaysFailure, ScriptNode, ScriptCondition, Leaf}
use Rattle.spec_tree.specs.declared.term.Port.{Port}
use Rattle.spec_tree.specs.declared.term.Term.{Term, Term-F}
use Rattle.spec_tree.specs.declared.term.Term.TheFolds.{map-Term}
use Rattle.spec_world.specs.declared.world.Row.{Row}
use Rattle.tree_exclusive.proofs.Held.{held_among}
use Rattle.tree_exclusive.proofs.Places.{Has, SameSize, below, had_by_some, has_from, held_runs, in_order, kept, meets_apart, size_of, sizes_of}
use Rattle.tree_exclusive.proofs.Terms.{meetings_of_terms, term_parts}

-- a kind whose children hand over is reactive
abbrev IsReactive : Kind → Type 0
IsReactive kind = (kind ≡ ReactiveSequence) ⊎ (kind ≡ ReactiveFallback)

hands_over : (kind : Kind) (k : ℕ) → meeting_at kind k ≡ Handover → IsReactive kind
hands_over ReactiveSequence k e = inl refl
hands_over ReactiveFallback k e = inr refl
hands_over Sequence k e = cc
hands_over SequenceWithMemory k e = cc
hands_over Fallback k e = cc
hands_over (Switch cases) k e = cc
hands_over IfThenElse k e = cc
hands_over RecoveryNode k e = cc
hands_over RoundRobin k e = cc
hands_over WhileDoElse zero e = cc
hands_over WhileDoElse (suc k) e = cc
hands_over Parallel k e = cc
hands_over PipelineSequence k e = cc
hands_over Inverter k e = cc
hands_over ForceSuccess k e = cc
hands_over ForceFailure k e = cc
hands_over KeepRunningUntilFailure k e = cc
hands_over Retry k e = cc
hands_over Repeat k e = cc
hands_over Timeout k e = cc
hands_over Delay k e = cc
hands_over RunOnce k e = cc
hands_over RateController k e = cc
hands_over SubTree k e = cc
hands_over AlwaysSuccess k e = cc
hands_over AlwaysFailure k e = cc
hands_over ScriptNode k e = cc
hands_over ScriptCondition k e = cc
hands_over Leaf k e = cc

-- of two children of such a node at most one is RUNNING
idle_runs : (st : Status) → st ≡ status.Idle → is_running st ≡ true → ⊥
idle_runs st idle runs = not_so (sym (ap is_running idle) ∙ runs)
  where
    not_so : false ≡ true → ⊥
    not_so e = cc

one_of_two : (at j k : ℕ) (ss : List Status) → OneRuns at ss → j < k → is_running (status_at ss j) ≡ true → is_running (status_at ss k) ≡ true → ⊥
one_of_two at j k ss one less first second = ⊎_elim
    (λ same. idle_runs (status_at ss k) (one.others k (λ e. omega (arith, e, same, less))) second)
    (λ other. idle_runs (status_at ss j) (one.others j other) first)
    (cases_eq j at)

sequence_one : (ports : List Port) (row : Option Row) (moment : ℕ) (memo : Memo) (ss : List Status) (j k : ℕ) → RunningShape ReactiveSequence ports row moment memo ss → j < k → is_running (status_at ss j) ≡ true → is_running (status_at ss k) ≡ true → ⊥
sequence_one ports row moment (Index at true) ss j k shape less first second = one_of_two at j k ss shape less first second
sequence_one ports row moment _ ss j k shape less first second = absurd shape

fallback_one : (ports : List Port) (row : Option Row) (moment : ℕ) (memo : Memo) (ss : List Status) (j k : ℕ) → RunningShape ReactiveFallback ports row moment memo ss → j < k → is_running (status_at ss j) ≡ true → is_running (status_at ss k) ≡ true → ⊥
fallback_one ports row moment (Index at true) ss j k shape less first second = one_of_two at j k ss shape less first second
fallback_one ports row moment _ ss j k shape less first second = absurd shape

module _ (ports : List Port) (row : Option Row) (moment : ℕ) (memo : Memo) (ss : List Status) (j k : ℕ) (less : j < k) (first : is_running (status_at ss j) ≡ true) (second : is_running (status_at ss k) ≡ true) where
  rests_none : (kind : Kind) → rests_whole kind ≡ true → RestingShape ports moment memo kind ss → ⊥
  rests_none kind whole shape = idle_runs (status_at ss j) (rests_idle ports moment memo kind ss whole shape j (omega arith)) first

  sequence_shape : (st : Status) → Shape st ReactiveSequence ports row moment memo ss → ⊥
  sequence_shape status.Running shape = sequence_one ports row moment memo ss j k shape less first second
  sequence_shape status.Idle shape = rests_none ReactiveSequence refl shape
  sequence_shape status.Success shape = rests_none ReactiveSequence refl shape
  sequence_shape status.Failure shape = rests_none ReactiveSequence refl shape

  fallback_shape : (st : Status) → Shape st ReactiveFallback ports row moment memo ss → ⊥
  fallback_shape status.Running shape = fallback_one ports row moment memo ss j k shape less first second
  fallback_shape status.Idle shape = rests_none ReactiveFallback refl shape
  fallback_shape status.Success shape = rests_none ReactiveFallback refl shape
  fallback_shape status.Failure shape = rests_none ReactiveFallback refl shape

  -- where both are RUNNING the node is not reactive
  not_reactive : (kind : Kind) (st : Status) → Shape st kind ports row moment memo ss → IsReactive kind → ⊥
  not_reactive kind st shape reactive = ⊎_elim
      (λ is. sequence_shape st (subst (λ (x : Kind). Shape st x ports row moment memo ss) is shape))
      (λ is. fallback_shape st (subst (λ (x : Kind). Shape st x ports row moment memo ss) is shape))
      reactive

-- where the rules hold, two leaves of a term that only meet in a handover are not both held
abbrev Apart : Meetings → Meaning → States → Type 0
Apart m c rules =
    (rows : List Row) (uid : ℕ) (mem : Memory) (s : State) → rules rows None uid mem s → (p q : ℕ) → uid ≤ p → p < q → q < uid + c.size → m.meeting uid p q ≡ Handover →
    held_among s.instances p ≡ true → held_among s.instances q ≡ true → ⊥

module _ {X : Type 0} (term : X → Term) (each : (c : X) → Apart (meetings (term c)) (meaning (term c)) (Sound (term c))) (node : Term-F X) where
  same : (c : X) → SameSize (term c)
  same c = (term_parts 1 (term c)).size

  parted_by : (b : Bool) (m : Meeting) → cond b m Together ≡ Handover → (b ≡ true) × (m ≡ Handover)
  parted_by true m e = (refl, e)
  parted_by false m e = absurd (not_so e)
    where
      not_so : Together ≡ Handover → ⊥
      not_so e = cc

  module _ (rows : List Row) (uid : ℕ) (mem : Memory) (s : State) (sound : states_of_node X term (λ c. Sound (term c)) node rows None uid mem s) where
    abbrev ms : List Memory
    ms = (out-Memory mem).children

    in_two : (j k p q : ℕ) → j < k → Has term same node.children (uid + 1) j p → Has term same node.children (uid + 1) k q → below term same node.kind 0 (uid + 1) node.children p q ≡ Handover →
        held_among s.instances p ≡ true → held_among s.instances q ≡ true → ⊥
    in_two j k p q less first second meets held_p held_q =
        not_reactive node.ports (row_of rows node.id) s.moment (out-Memory mem).memo (statuses ms) j k less
        (held_runs term same rows node.children (uid + 1) j p ms s sound.1 first held_p)
        (held_runs term same rows node.children (uid + 1) k q ms s sound.1 second held_q)
        node.kind (out-Memory mem).status sound.0.shape
        (hands_over node.kind (0 + j) (sym (meets_apart term same node.kind node.children 0 (uid + 1) j k p q less first second) ∙ meets))

    in_one : (cs : List X) (place at k p q : ℕ) (mems : List Memory) → SoundAll (kept term same) rows cs None at mems s → Has term same cs at k p → Has term same cs at k q → p < q →
        below term same node.kind place at cs p q ≡ Handover → held_among s.instances p ≡ true → held_among s.instances q ≡ true → ⊥
    in_one [] place at k p q mems all has_p has_q less meets held_p held_q = has_p
    in_one (c ∷ cs) place at k p q [] all has_p has_q less meets held_p held_q = all
    in_one (c ∷ cs) place at zero p q (m ∷ mems) all has_p has_q less meets held_p held_q =
        let size : at + (meetings (term c)).size ≡ at + size_of term same c = ap (λ n. at + n) (same c) in
        each c rows at m s all.0 p q has_p.0 less has_q.1
        (sym (cond-true (nat_lt q (at + (meetings (term c)).size)) _ _ (lt-ltb q (at + (meetings (term c)).size) (omega (arith, has_q.1, size)))) ∙ meets) held_p held_q
    in_one (c ∷ cs) place at (suc k) p q (m ∷ mems) all has_p has_q less meets held_p held_q =
        let size : at + (meetings (term c)).size ≡ at + size_of term same c = ap (λ n. at + n) (same c) in
        let from_p : at + size_of term same c ≤ p = has_from term same cs (at + size_of term same c) k p has_p in
        let from_q : at + size_of term same c ≤ q = has_from term same cs (at + size_of term same c) k q has_q in
        in_one cs (place + 1) (at + size_of term same c) k p q mems all.1 has_p has_q less
        (sym (cond-false (nat_lt q (at + (meetings (term c)).size)) _ _ (le-ltb q (at + (meetings (term c)).size) (omega (arith, from_q, size)))
        ∙ cond-false (nat_lt p (at + (meetings (term c)).size)) _ _ (le-ltb p (at + (meetings (term c)).size) (omega (arith, from_p, size)))
        ∙ ap (λ (n : ℕ). below term same node.kind (place + 1) n cs p q) size) ∙ meets) held_p held_q

    node_apart : (p q : ℕ) → uid ≤ p → p < q → q < uid + (1 + sizes_of term same node.children) → (meetings_of_node (map-Term X Meetings (λ c. meetings (term c)) node)).meeting uid p q ≡ Handover →
        held_among s.instances p ≡ true → held_among s.instances q ≡ true → ⊥
    node_apart p q low less high meets held_p held_q =
        let by : (nat_lt uid p ≡ true) × (below term same node.kind 0 (uid + 1) node.children p q ≡ Handover) = parted_by (nat_lt uid p) _ meets in
        let from : uid < p = ltb-true uid p by.0 in
        let first : (k : ℕ) × Has term same node.children (uid + 1) k p = had_by_some term same node.children (uid + 1) p (omega (arith, from)) (omega (arith, high, less)) in
        let second : (k : ℕ) × Has term same node.children (uid + 1) k q = had_by_some term same node.children (uid + 1) q (omega (arith, from, less)) (omega (arith, high)) in
        let order : first.0 ≤ second.0 = in_order term same node.children (uid + 1) first.0 second.0 p q first.1 second.1 less in
        ⊎_elim
        (λ earlier. in_two first.0 second.0 p q earlier first.1 second.1 by.1 held_p held_q)
        (λ reached. let one : second.0 ≡ first.0 = omega (arith, order, reached) in
        in_one node.children 0 (uid + 1) first.0 p q ms sound.1 first.1 (subst (λ (k : ℕ). Has term same node.children (uid + 1) k q) one second.1) less by.1 held_p held_q)
        (cases_lt first.0 second.0)

pub handed_apart : (t : Term) → Apart (meetings t) (meaning t) (Sound t)
handed_apart = every_term (λ t c rules. Apart (meetings t) c rules) (λ X term each node.
    subst (λ (m : Meetings). Apart m (node_means term node) (states_of_node X term (λ c. Sound (term c)) node)) (meetings_of_terms term node)
    (λ rows uid mem s sound p q low less high. node_apart term each node rows uid mem s sound p q low less high))
