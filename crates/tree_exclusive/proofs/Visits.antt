-- A visit of a node leaves the leaves apart that are never held together, where visits of its children do.
use Rattle.std.proofs.Common.{◌≡◌, ⊎_elim, ℕ, ◌+◌, List, [], ◌∷◌, map, length, nat_eq, nat_lt, cond, slice_set, Bool, true, false, Option, Some, None, Result, Ok, Err, IfOk, refl, sym, ap, subst, ◌∙◌, arith}
use Rattle.std.proofs.lemmas.Bool.{cond-false, cond-true, lt-ltb, ne_eqb, ltb-true}
use Rattle.base_tables.specs.Shapes.{is_running}
use Rattle.base_tables.specs.Sound.{statuses}
use Rattle.run_laws.proofs.AfterScripts.{fields_still}
use Rattle.run_laws.proofs.Beginnings.{Begins, site_here}
use Rattle.run_laws.proofs.Children.{Family, SoundAll, status_in}
use Rattle.run_laws.proofs.Claims.{Meets, TermMeets}
use Rattle.run_laws.proofs.Induction.{node_means}
use Rattle.run_laws.proofs.ReadNotes.{noted}
use Rattle.run_laws.proofs.NodeRules.{Ready}
use Rattle.run_laws.proofs.Scripts.{goes_on_leaves, guards_leave, posts_leave, script_holds_leaves, script_run_leaves}
use Rattle.run_laws.proofs.Visits.{new_begins, ready_kept, ready_new, ready_running, rests_as_well, starts_with_rule}
use Rattle.run_laws.proofs.Whole.{NodeKeeps, Own, size_here}
use Rattle.spec_exclusive.specs.declared.meeting.Meeting.{Meeting}
use Rattle.spec_exclusive.specs.declared.meeting.Meeting.TheVariants.{Never, Together}
use Rattle.spec_exclusive.specs.Meetings.{Meetings, meeting_below, meetings, meetings_of_node}
use Rattle.spec_run.specs.declared.fault.NumericPort.{NumericPort}
use Rattle.spec_run.specs.declared.leaf.Instance.{Instance}
use Rattle.spec_run.specs.declared.leaf.Phase.{Phase}
use Rattle.spec_run.specs.declared.leaf.Phase.TheVariants as phase
use Rattle.spec_run.specs.declared.leaf.Reply.{Reply}
use Rattle.spec_run.specs.declared.leaf.Reply.TheVariants as reply
use Rattle.spec_run.specs.declared.memory.Memo.{Memo}
use Rattle.spec_run.specs.declared.memory.Memory.{Memory, out-Memory}
use Rattle.spec_run.specs.declared.note.Note.{Note}
use Rattle.spec_run.specs.declared.status.Answer.{Answer}
use Rattle.spec_run.specs.declared.status.Answer.TheVariants as answer
use Rattle.spec_run.specs.declared.status.Status.{Status}
use Rattle.spec_run.specs.declared.status.Status.TheVariants as status
use Rattle.spec_run.specs.Done.{Done, State, done, ends, follow}
use Rattle.spec_run.specs.Leaf.{Answered}
use Rattle.spec_run.specs.Leaves.{called, gives, leaf_answered, leaf_call, phase_of, reply_notes, row_of, script_condition, script_node}
use Rattle.spec_run.specs.NodeScripts.{goes_on, guards_answer, posts, script_holds, script_run}
use Rattle.spec_run.specs.Ports.{new_memo, picked}
use Rattle.spec_run.specs.Rules.Kinds.{rule}
use Rattle.spec_run.specs.Sites.{Meaning, Site, View, children_of, remembered, view_below}
use Rattle.spec_run.specs.Steps.{Given}
use Rattle.spec_run.specs.Visit.{begun, change, continued, ended, guarded, halt, kind_rule, meaning, node_rule, or_bad_port, remembers, reset_by, ruled, started, starts, status_of, visit_by}
use Rattle.spec_script.specs.declared.syntax.Script.{Script}
use Rattle.spec_tree.specs.BuiltIns.{has_rule}
use Rattle.spec_tree.specs.declared.term.Kind.{Kind}
use Rattle.spec_tree.specs.declared.term.Kind.TheVariants.{AlwaysSuccess, AlwaysFailure, ScriptNode, ScriptCondition, Leaf}
use Rattle.spec_tree.specs.declared.term.Term.{Term, Term-F}
use Rattle.spec_tree.specs.declared.term.Term.TheFolds.{map-Term}
use Rattle.spec_world.specs.declared.world.Row.{Row}
use Rattle.tree_exclusive.proofs.Apart.{Stays, change_stays, frees_apart, other_call, stays_frees}
use Rattle.tree_exclusive.proofs.Freeing.{Freeing, children_free, halting_freed}
use Rattle.tree_exclusive.proofs.Held.{follows_leaf, held_among, set_held}
use Rattle.tree_exclusive.proofs.KindRules.{rule_splits}
use Rattle.tree_exclusive.proofs.Parted.{Free, Pairs, Parts, after_stays, follow_each, follow_parts, freed_parted, more_parted, nothing_parted, parted_both, parted_free, silent_parted, told_parted}
use Rattle.tree_exclusive.proofs.Places.{SameSize, kept, sizes_of}
use Rattle.tree_exclusive.proofs.Silent.{goes_on_silent, guards_silent, holds_silent, posts_silent}
use Rattle.tree_exclusive.proofs.Words.{NeverBelow, NeverIn, PartsOf, Room, reads_as}

module _ (runner : ℕ) {X : Type 0} (term : X → Term) (parts : (c : X) → PartsOf runner (term c)) (node : Term-F X) (view : View) (uid : ℕ) where
  abbrev same : (c : X) → SameSize (term c)
  same c = (parts c).size

  abbrev F : Family
  F = kept term same

  abbrev here : Site
  here = site_here F node view uid

  abbrev size : ℕ
  size = size_here F node view uid

  abbrev row : Option Row
  row = row_of view.rows node.id

  abbrev All : Option ℕ → List Memory → State → Type 0
  All f ms s = SoundAll F view.rows node.children f (uid + 1) ms s

  abbrev Keeps : Status → Memo → List Memory → State → Type 0
  Keeps st memo ms s = NodeKeeps F node view uid st memo ms s

  abbrev Holds : Option ℕ → Memory → State → Type 0
  Holds f m s = Own F node view uid f m s

  -- ---- The pairs

  -- what is known of the node
  abbrev pub known : Meetings
  known = meetings_of_node (map-Term X Meetings (λ c. meetings (term c)) node)

  abbrev pub Here : Pairs
  Here = NeverIn known size uid

  abbrev Below : Pairs
  Below = NeverBelow runner term parts (view_below here) node.children (uid + 1) node.kind

  together : Together ≡ Never → ⊥
  together e = cc

  parted_by : (b : Bool) (m : Meeting) → cond b m Together ≡ Never → (b ≡ true) × (m ≡ Never)
  parted_by true m e = (refl, e)
  parted_by false m e = absurd (together e)

  to_below : (p q : ℕ) → Here p q → Below p q
  to_below p q pair =
      let by : (nat_lt uid p ≡ true) × (meeting_below node.kind 0 (uid + 1) (map (λ c. meetings (term c)) node.children) p q ≡ Never) = parted_by (nat_lt uid p) _ pair.3 in
      (omega (arith, ltb-true uid p by.0), pair.1, omega (arith, pair.2), by.1)

  from_below : (p q : ℕ) → Below p q → Here p q
  from_below p q pair = (omega (arith, pair.0), pair.1, omega (arith, pair.2), cond-true (nat_lt uid p) _ _ (lt-ltb uid p (omega (arith, pair.0))) ∙ pair.3)

  -- neither of two such leaves is the node itself
  others_first : (p q : ℕ) → Here p q → p ≡ uid → ⊥
  others_first p q pair e = let below : Below p q = to_below p q pair in omega (arith, below.0, e)

  others_second : (p q : ℕ) → Here p q → q ≡ uid → ⊥
  others_second p q pair e = let below : Below p q = to_below p q pair in omega (arith, below.0, below.1, e)

  -- what a part leaves of the node
  abbrev pub PartsHere : {A M : Type 0} → State → Done A M → Type 0
  PartsHere s d = Parts runner Here uid size s d

  abbrev HasRoom : State → Type 0
  HasRoom s = Room (uid + size) s

  -- notes of scripts are none
  scripts : {A : Type 0} (s : State) (d : Done A (Unit {0})) → d.notes ≡ [] → d.state.instances ≡ s.instances → Free Here s → PartsHere s d
  scripts s d silent still free = silent_parted runner s d.state d.notes silent still free

  free_still : (s s1 : State) → s1.instances ≡ s.instances → Free Here s → Free Here s1
  free_still s s1 still free = λ p q pair a b. free p q pair (ap (λ (is : List Instance). held_among is p) (sym still) ∙ a) (ap (λ (is : List Instance). held_among is q) (sym still) ∙ b)

  -- ---- A leaf

  module _ (row1 : Row) (st : Status) (ms : List Memory) (s : State) (room : HasRoom s) (free : Free Here s) where
    abbrev a : Answered
    a = leaf_answered here row1 st s

    called_stays : (p : ℕ) (ph : Phase) (an : Answer) → (p ≡ uid → ⊥) → Stays runner p (called ph uid an ∷ [])
    called_stays p phase.Start an other = ((λ known1. other_call runner p uid _ known1 other), tt)
    called_stays p phase.Running an other = ((λ known1. other_call runner p uid _ known1 other), tt)
    called_stays p phase.Halted an other = ((λ known1. other_call runner p uid _ known1 other), tt)
    called_stays p phase.Told an other = ((λ known1. other_call runner p uid _ known1 other), tt)

    reply_stays : (p : ℕ) (r : Reply) → (p ≡ uid → ⊥) → Stays runner p (reply_notes (phase_of st) uid r)
    reply_stays p reply.Running other = called_stays p (phase_of st) answer.Running other
    reply_stays p reply.Success other = called_stays p (phase_of st) answer.Success other
    reply_stays p reply.Failure other = called_stays p (phase_of st) answer.Failure other
    reply_stays p (reply.Broken cause) other = tt

    reads_other : (p : ℕ) → (p ≡ uid → ⊥) → held_among (slice_set s.instances uid a.instance) p ≡ held_among s.instances p
    reads_other p other =
        set_held s.instances uid p a.instance (omega (arith, room))
        ∙ cond-false (nat_eq p uid) _ _ (ne_eqb p uid other)

    call_parts : PartsHere s (leaf_call (Some row1) here st ms s)
    call_parts =
        let ns : List Note = reply_notes (phase_of st) uid a.reply in
        record {
          stays = λ p out. reply_stays p a.reply (λ e. ⊎_elim (λ low. omega (arith, low, e)) (λ past. omega (arith, past, e)) out);
          reads = λ p q pair. (
            after_stays runner p ns (held_among s.instances p) (reply_stays p a.reply (others_first p q pair)) ∙ sym (reads_other p (others_first p q pair)),
            after_stays runner q ns (held_among s.instances q) (reply_stays q a.reply (others_second p q pair)) ∙ sym (reads_other q (others_second p q pair)),
          );
          apart = λ p q pair. frees_apart runner p q ns (held_among s.instances p) (held_among s.instances q)
              (stays_frees runner p ns (reply_stays p a.reply (others_first p q pair)))
              (stays_frees runner q ns (reply_stays q a.reply (others_second p q pair)))
              (free p q pair);
        }

  leaf_parts : (o : Option Row) (st : Status) (ms : List Memory) (s : State) → HasRoom s → Free Here s → PartsHere s (leaf_call o here st ms s)
  leaf_parts None st ms s room free = nothing_parted runner s s refl free
  leaf_parts (Some row1) st ms s room free = call_parts row1 st ms s room free

  -- ---- The rule

  module _ (memo : Memo) (ms : List Memory) (s : State) (all : All None ms s) (room : HasRoom s) (free : Free Here s) where
    free_below : Free Below s
    free_below p q pair = free p q (from_below p q pair)

    ruled_by : (r : Result ℕ NumericPort) → Begins node.kind node.ports s.moment memo (statuses ms) →
        PartsHere s (follow (ends (or_bad_port uid r) ms s) (λ ms1. ms1) (λ place ms1 s1. rule node.kind (length here.node.children) memo place s1.moment (children_of here) ms1 s1))
    ruled_by (Ok place) begins =
        more_parted runner Below Here uid size (uid + 1) (sizes_of term same node.children) s _ _ (omega arith) (omega arith) to_below
        (rule_splits runner term parts (view_below here) node.children (uid + 1) (length here.node.children) place s.moment node.ports (statuses ms) node.kind memo begins ms s refl all (omega (arith, room)) free_below)
    ruled_by (Err bad) begins = nothing_parted runner s s refl free

    kind_parts : Begins node.kind node.ports s.moment memo (statuses ms) → PartsHere s (kind_rule here memo ms s)
    kind_parts begins = ruled_by (picked node.kind here memo s) begins

    script_parts : (code : Option Script) → PartsHere s (script_node code here ms s)
    script_parts None = nothing_parted runner s s refl free
    script_parts (Some code) =
        follow_each runner Here uid size (script_run here code s) (λ _. ms) (λ value _ s1. gives answer.Success ms s1) s
        (scripts s (script_run here code s) refl (script_run_leaves here code s).sound free)
        (λ value. nothing_parted runner (script_run here code s).state (script_run here code s).state refl (free_still s (script_run here code s).state (script_run_leaves here code s).sound free))

    condition_parts : (code : Option Script) → PartsHere s (script_condition code here ms s)
    condition_parts None = nothing_parted runner s s refl free
    condition_parts (Some code) =
        let d : Done Bool (Unit {0}) = script_holds here code s in
        follow_each runner Here uid size d (λ _. ms) (λ b _ s1. gives (cond b answer.Success answer.Failure) ms s1) s
        (scripts s d (holds_silent here code s) (script_holds_leaves here code s).sound free)
        (λ b. nothing_parted runner d.state d.state refl (free_still s d.state (script_holds_leaves here code s).sound free))

    node_rule_parts : (st : Status) (kind : Kind) → node.kind ≡ kind → Ready F node view uid kind st memo ms s → PartsHere s (node_rule kind here st memo ms s)
    node_rule_parts st Leaf is ready = leaf_parts row st ms s room free
    node_rule_parts st ScriptNode is ready = script_parts node.code
    node_rule_parts st ScriptCondition is ready = condition_parts node.code
    node_rule_parts st AlwaysSuccess is ready = nothing_parted runner s s refl free
    node_rule_parts st AlwaysFailure is ready = nothing_parted runner s s refl free
    node_rule_parts st kind is ready = kind_parts (subst (λ (k : Kind). Begins k node.ports s.moment memo (statuses ms)) (sym is) (ready.begins refl))

  -- ---- The visit

  ended_parts : (old : Status) (g : Given) (ms : List Memory) (s : State) → Free Here s → PartsHere s (ended here old g ms s)
  ended_parts old g ms s free =
      let d : Done (Unit {0}) (Unit {0}) = posts here g.answer s in
      follow_each runner Here uid size d (λ _. remembered old g.memo ms) _ s
      (scripts s d (posts_silent here g.answer s) (posts_leave here g.answer s).sound free)
      (λ _. let free1 : Free Here d.state = free_still s d.state (posts_leave here g.answer s).sound free in
      parted_both runner (told_parted runner d.state (change uid old (status_of g.answer)) (λ p. change_stays runner p uid old (status_of g.answer)) free1) (nothing_parted runner d.state d.state refl free1))

  ruled_parts : (st : Status) (memo : Memo) (ms : List Memory) (s : State) → Ready F node view uid node.kind st memo ms s → All None ms s → HasRoom s → Free Here s → PartsHere s (ruled here st memo ms s)
  ruled_parts st memo ms s ready all room free =
      let d : Done Given (List Memory) = node_rule node.kind here st memo ms s in
      let first : PartsHere s d = node_rule_parts memo ms s all room free st node.kind refl ready in
      follow_each runner Here uid size d (λ ms1. remembered st memo ms1) (λ g ms1 s1. ended here st g ms1 s1) s first
      (λ g. ended_parts st g d.memory d.state (parted_free runner first))

  started_by : (m : Memory) (s : State) (r : Result Memo NumericPort) → has_rule node.kind ≡ true → (memo : Memo) → r ≡ Ok memo → Begins node.kind node.ports s.moment memo (statuses (out-Memory m).children) →
      Keeps status.Idle (out-Memory m).memo (out-Memory m).children s → All None (out-Memory m).children s → HasRoom s → Free Here s →
      PartsHere s (ruled here status.Running memo (out-Memory m).children s)
  started_by m s r has memo is begins own all room free =
      ruled_parts status.Running memo (out-Memory m).children s (ready_new F node view uid memo m s has begins own) all room free

  started_with : (m : Memory) (s : State) (r : Result Memo NumericPort) → has_rule node.kind ≡ true → IfOk r (λ memo. Begins node.kind node.ports s.moment memo (statuses (out-Memory m).children)) →
      Keeps status.Idle (out-Memory m).memo (out-Memory m).children s → All None (out-Memory m).children s → HasRoom s → Free Here s →
      PartsHere s (follow (ends (or_bad_port uid r) (out-Memory m).children s) (λ ms. remembered status.Running (out-Memory m).memo ms) (λ memo ms s1. ruled here status.Running memo ms s1))
  started_with m s (Ok memo) has begins own all room free = started_by m s (Ok memo) has memo refl begins own all room free
  started_with m s (Err port) has begins own all room free = nothing_parted runner s s refl free

  started_parts : (m : Memory) (s : State) → starts node.kind (out-Memory m).memo ≡ true → Keeps status.Idle (out-Memory m).memo (out-Memory m).children s → All None (out-Memory m).children s → HasRoom s → Free Here s → PartsHere s (started here m s)
  started_parts m s is own all room free =
      let has : has_rule node.kind ≡ true = starts_with_rule node.kind (out-Memory m).memo is in
      parted_both runner (told_parted runner s (change uid (status_in m) status.Running) (λ p. change_stays runner p uid (status_in m) status.Running) free)
      (started_with m s (new_memo node.kind here (remembers (status_in m) (out-Memory m).memo) s) has (new_begins F node view uid m s has own all) own all room free)

  begun_parts : (b : Bool) (m : Memory) (s : State) → starts node.kind (out-Memory m).memo ≡ b → is_running (status_in m) ≡ false → Holds None m s → HasRoom s → Free Here s → PartsHere s (begun b here m s)
  begun_parts true m s is rests sound room free = started_parts m s is (rests_as_well F node view uid (status_in m) status.Idle (out-Memory m).memo (out-Memory m).children s rests refl sound.0) sound.1 room free
  begun_parts false m s is rests sound room free = ruled_parts (status_in m) (out-Memory m).memo (out-Memory m).children s (ready_kept F node view uid m s is rests sound) sound.1 room free

  guarded_parts : (o : Option Answer) (m : Memory) (s : State) → is_running (status_in m) ≡ false → Holds None m s → HasRoom s → Free Here s → PartsHere s (guarded o here m s)
  guarded_parts None m s rests sound room free = begun_parts (starts node.kind (out-Memory m).memo) m s refl rests sound room free
  guarded_parts (Some a) m s rests sound room free =
      ended_parts (status_in m) (record { answer = a; memo = remembers (status_in m) (out-Memory m).memo }) (out-Memory m).children s free

  room_still : (s s1 : State) → s1.instances ≡ s.instances → HasRoom s → HasRoom s1
  room_still s s1 still room = omega (arith, room, ap length still)

  rests_parts : (m : Memory) (s : State) → is_running (status_in m) ≡ false → Holds None m s → HasRoom s → Free Here s →
      PartsHere s (follow (guards_answer here s) (λ _. m) (λ a _ s1. guarded a here m s1))
  rests_parts m s rests sound room free =
      let d : Done (Option Answer) (Unit {0}) = guards_answer here s in
      let still : d.state.instances ≡ s.instances = (guards_leave here s).sound in
      follow_parts runner Here uid size d (λ _. m) (λ a _ s1. guarded a here m s1) s (guards_leave here s) (scripts s d (guards_silent here s) still free)
      (λ a fit same1 w. guarded_parts a m d.state rests
      (fields_still (record { instances = same1; moment = w.moment }) F node view uid None (status_in m) (out-Memory m).memo (out-Memory m).children sound)
      (room_still s d.state still room) (free_still s d.state still free))

  continued_parts : (b : Bool) (m : Memory) (s : State) → status_in m ≡ status.Running → Holds None m s → HasRoom s → Free Here s → PartsHere s (halt here m s) → PartsHere s (continued b here m s)
  continued_parts true m s is sound room free halts = ruled_parts status.Running (out-Memory m).memo (out-Memory m).children s (ready_running F node view uid m s is sound) sound.1 room free
  continued_parts false m s is sound room free halts =
      let d : Done (Unit {0}) Memory = halt here m s in
      follow_each runner Here uid size d (λ m1. m1) (λ _ m1 s1. done answer.Skipped m1 s1) s halts (λ _. nothing_parted runner d.state d.state refl (parted_free runner halts))

  -- the notes of a reset of the node say which leaves are held after it
  module _ (reads : (p count : ℕ) → TermMeets (noted (follows_leaf runner p runner count false)) (node_means term node)) where
    halt_parts : (m : Memory) (s : State) → status_in m ≡ status.Running → HasRoom s → Free Here s → PartsHere s (halt here m s)
    halt_parts m s is room free =
        let d : Done (Unit {0}) Memory = halt here m s in
        let freed : Freeing runner uid size d.notes = halting_freed runner (map-Term X Meaning (λ c. meaning (term c)) node) view uid (children_free runner term node.children) m s in
        freed_parted runner s d.state d.notes freed.stays freed.frees
        (λ p. reads_as runner p (length s.instances) s d
        (subst (λ (st : Status). Meets (noted (follows_leaf runner p runner (length s.instances) false)) s (reset_by st here m s)) is ((reads p (length s.instances)).reset view tt uid room m s refl)))
        free

    runs_parts : (m : Memory) (s : State) → status_in m ≡ status.Running → Holds None m s → HasRoom s → Free Here s →
        PartsHere s (follow (goes_on here s) (λ _. m) (λ b _ s1. continued b here m s1))
    runs_parts m s is sound room free =
        let d : Done Bool (Unit {0}) = goes_on here s in
        let still : d.state.instances ≡ s.instances = (goes_on_leaves here s).sound in
        follow_parts runner Here uid size d (λ _. m) (λ b _ s1. continued b here m s1) s (goes_on_leaves here s) (scripts s d (goes_on_silent here s) still free)
        (λ b fit same1 w.
        let room1 : HasRoom d.state = room_still s d.state still room in
        let free1 : Free Here d.state = free_still s d.state still free in
        continued_parts b m d.state is
        (fields_still (record { instances = same1; moment = w.moment }) F node view uid None (status_in m) (out-Memory m).memo (out-Memory m).children sound)
        room1 free1 (halt_parts m d.state is room1 free1))

    visit_cases : (st : Status) (m : Memory) (s : State) → status_in m ≡ st → Holds None m s → HasRoom s → Free Here s → PartsHere s (visit_by st here m s)
    visit_cases status.Running m s is sound room free = runs_parts m s is sound room free
    visit_cases status.Idle m s is sound room free = rests_parts m s (ap is_running is) sound room free
    visit_cases status.Success m s is sound room free = rests_parts m s (ap is_running is) sound room free
    visit_cases status.Failure m s is sound room free = rests_parts m s (ap is_running is) sound room free

    -- a visit of the node
    pub visit_parts : (m : Memory) (s : State) → Holds None m s → HasRoom s → Free Here s → PartsHere s (visit_by (out-Memory m).status here m s)
    visit_parts m s sound room free = visit_cases (status_in m) m s refl sound room free
