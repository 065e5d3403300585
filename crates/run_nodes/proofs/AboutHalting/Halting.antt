-- A reset and a halt of a term that stands in an arena.
use Rattle.std.proofs.Common.{◌≡◌, ◌≢◌, ℕ, ◌+◌, ◌<◌, List, [], ◌++◌, length, slice_set, refl, sym, ap, subst, ◌∙◌, append-nil, arith, Result, Ok, Err}
use Rattle.std.proofs.lemmas.List.{get_or-set_other, get_or-set_same, set-get_or}
use Rattle.base_texts.specs.declared.stop.Stop.{Stop}
use Rattle.spec_run.specs.declared.fault.NodeFault.{NodeFault}
use Rattle.spec_run.specs.declared.memory.Memory.{Memory, out-Memory, out-roll-Memory}
use Rattle.spec_run.specs.declared.moves.Span.TheVariants.{All}
use Rattle.spec_run.specs.declared.note.Note.{Note}
use Rattle.spec_run.specs.declared.status.Status.{Status}
use Rattle.spec_run.specs.declared.status.Status.TheVariants as status
use Rattle.spec_tree.specs.declared.term.Term.{Term, fold_out-Term, out-Term}
use Rattle.spec_run.specs.Done.{Done, State, following, done, follow}
use Rattle.spec_run.specs.Sites.{Meaning, View, children_of, remembered}
use Rattle.spec_run.specs.Steps.{resets}
use Rattle.spec_run.specs.Visit.{change, cleared, halt, halted, meaning, meaning_of_node, reset_by}
use Rattle.run_arena.specs.declared.nodes.Kept.{Kept}
use Rattle.run_arena.specs.declared.nodes.Node.{Node}
use Rattle.run_arena.specs.Nodes.{at_rest, kept_at}
use Rattle.run_arena.specs.Noted.{calls_named}
use Rattle.run_arena.specs.Scenes.{Scene, state_in}
use Rattle.run_arena.specs.Stands.{Beside, memories_of, memory_of}
use Rattle.run_arena.proofs.Opened.{memory_out}
use Rattle.run_arena.specs.Ends.{Meets}
use Rattle.run_nodes.specs.Here.{site_at}
use Rattle.run_arena.proofs.Follows.{followed, stopped}
use Rattle.run_nodes.proofs.AboutHalting.Memories.{memory_above}

module _ (t : Term) (view : View) (uid : ℕ) (kept : List Kept) (s : State) where
  abbrev ts : List Term
  ts = (out-Term t).children

  abbrev ms : List Memory
  ms = memories_of ts (uid + 1) kept

  -- a reset, according to what the node keeps
  reset_is : (meaning t).reset view uid (memory_of t uid kept) s ≡ reset_by (kept_at kept uid).status (site_at view uid t) (remembered (kept_at kept uid).status (kept_at kept uid).memo ms) s
  reset_is =
      ap (λ (x : Meaning). x.reset view uid (memory_of t uid kept) s) (fold_out-Term Meaning meaning_of_node t)
      ∙ ap (λ (m : Memory). reset_by (out-Memory m).status (site_at view uid t) m s) (memory_out t uid kept)
      ∙ simp out-roll-Memory

  -- the reset of a RUNNING node is its halt
  pub reset_of_running : (kept_at kept uid).status ≡ status.Running → (meaning t).reset view uid (memory_of t uid kept) s ≡ halt (site_at view uid t) (memory_of t uid kept) s
  reset_of_running running =
      reset_is
      ∙ ap (λ (st : Status). reset_by st (site_at view uid t) (remembered (kept_at kept uid).status (kept_at kept uid).memo ms) s) running
      ∙ ap (λ (m : Memory). halt (site_at view uid t) m s) (sym (memory_out t uid kept))

  -- a halt: the children are reset, and then the node is halted
  halt_is : halt (site_at view uid t) (memory_of t uid kept) s ≡
      follow (resets All (children_of (site_at view uid t)) 0 ms s) (λ ms1. remembered status.Running (kept_at kept uid).memo ms1) (λ _ ms1 s1. halted (site_at view uid t) (remembered status.Idle (cleared (kept_at kept uid).memo) ms1) s1)
  halt_is = ap (λ (m : Memory). halt (site_at view uid t) m s) (memory_out t uid kept) ∙ simp out-roll-Memory

  resting : (st : Status) → st ≢ status.Running → reset_by st (site_at view uid t) (remembered (kept_at kept uid).status (kept_at kept uid).memo ms) s ≡
      following (change uid st status.Idle) [] (done tt (remembered status.Idle (kept_at kept uid).memo ms) s)
  resting status.Running other = absurd (other refl)
  resting status.Idle other = simp out-roll-Memory
  resting status.Success other = simp out-roll-Memory
  resting status.Failure other = simp out-roll-Memory

  -- the reset of any other node: it becomes IDLE
  pub reset_of_resting : (kept_at kept uid).status ≢ status.Running → (meaning t).reset view uid (memory_of t uid kept) s ≡
      following (change uid (kept_at kept uid).status status.Idle) [] (done tt (remembered status.Idle (kept_at kept uid).memo ms) s)
  reset_of_resting other = reset_is ∙ resting (kept_at kept uid).status other

-- a change of a status names no call
none_named : (uid : ℕ) (st : Status) → 0 ≡ calls_named (change uid st status.Idle ++ [])
none_named uid status.Idle = refl
none_named uid status.Running = refl
none_named uid status.Success = refl
none_named uid status.Failure = refl

module _ (nodes : List Node) (moment : ℕ) (t : Term) (view : View) (uid : ℕ) (s0 : Scene) (n0 : List Note) where
  abbrev whole : Done (Unit {0}) Memory
  whole = (meaning t).reset view uid (memory_of t uid s0.kept) (state_in nodes s0 moment)

  abbrev halt_whole : Done (Unit {0}) Memory
  halt_whole = halt (site_at view uid t) (memory_of t uid s0.kept) (state_in nodes s0 moment)

  abbrev children : Done (Unit {0}) (List Memory)
  children = resets All (children_of (site_at view uid t)) 0 (memories_of (out-Term t).children (uid + 1) s0.kept) (state_in nodes s0 moment)

  module _ (running : (kept_at s0.kept uid).status ≡ status.Running) (s1 : Scene) (n1 : List Note) (size : ℕ) (beside : Beside (uid + 1) size s0.kept s1.kept) where
    here : kept_at s1.kept uid ≡ kept_at s0.kept uid
    here = beside.below uid (omega arith)

    memory_here : remembered status.Running (kept_at s0.kept uid).memo (memories_of (out-Term t).children (uid + 1) s1.kept) ≡ memory_of t uid s1.kept
    memory_here =
        let ms1 = memories_of (out-Term t).children (uid + 1) s1.kept in
        ap (λ (st : Status). remembered st (kept_at s0.kept uid).memo ms1) (sym running)
        ∙ ap (λ (k : Kept). remembered k.status k.memo ms1) (sym here)
        ∙ sym (memory_out t uid s1.kept)

    -- a halt that stopped at one of the children
    pub halt_stopped : (e : Stop NodeFault) → Meets {A = Unit {0}} nodes moment (memories_of (out-Term t).children (uid + 1)) (Err e) s0 s1 n0 n1 children → Meets {A = Unit {0}} nodes moment (memory_of t uid) (Err e) s0 s1 n0 n1 halt_whole
    halt_stopped e m =
        subst (λ (d : Done (Unit {0}) Memory). Meets {A = Unit {0}} nodes moment (memory_of t uid) (Err e) s0 s1 n0 n1 d) (sym (halt_is t view uid s0.kept (state_in nodes s0 moment)))
        (stopped nodes moment (memories_of (out-Term t).children (uid + 1)) (memory_of t uid) s0 s1 n0 n1 children (λ ms1. remembered status.Running (kept_at s0.kept uid).memo ms1) (λ _ ms1 s. halted (site_at view uid t) (remembered status.Idle (cleared (kept_at s0.kept uid).memo) ms1) s) e memory_here m)

    -- a halt that came to its end
    pub halt_ended : (r : Result (Unit {0}) (Stop NodeFault)) (s2 : Scene) (n2 : List Note) → Meets nodes moment (memories_of (out-Term t).children (uid + 1)) (Ok tt) s0 s1 n0 n1 children →
        Meets nodes moment (memory_of t uid) r s1 s2 n1 n2 (halted (site_at view uid t) (remembered status.Idle (cleared (kept_at s1.kept uid).memo) (memories_of (out-Term t).children (uid + 1) s1.kept)) (state_in nodes s1 moment)) →
        Meets nodes moment (memory_of t uid) r s0 s2 n0 n2 halt_whole
    halt_ended r s2 n2 m end =
        subst (λ (d : Done (Unit {0}) Memory). Meets nodes moment (memory_of t uid) r s0 s2 n0 n2 d) (sym (halt_is t view uid s0.kept (state_in nodes s0 moment)))
        (followed nodes moment (memories_of (out-Term t).children (uid + 1)) (memory_of t uid) s0 s1 n0 n1 children (λ ms1. remembered status.Running (kept_at s0.kept uid).memo ms1) (λ _ ms1 s. halted (site_at view uid t) (remembered status.Idle (cleared (kept_at s0.kept uid).memo) ms1) s) tt r s2 n2 m
        (subst (λ (k : Kept). Meets nodes moment (memory_of t uid) r s1 s2 n1 n2 (halted (site_at view uid t) (remembered status.Idle (cleared k.memo) (memories_of (out-Term t).children (uid + 1) s1.kept)) (state_in nodes s1 moment))) here end))

  -- a node that was not RUNNING has become IDLE
  module _ (other : (kept_at s0.kept uid).status ≢ status.Running) (s1 : Scene) (n1 : List Note) (within : uid < length s0.kept) (is : s1.kept ≡ slice_set s0.kept uid (record (kept_at s0.kept uid) { status = status.Idle })) (same_state : state_in nodes s0 moment ≡ state_in nodes s1 moment) (same_drivers : s1.drivers ≡ s0.drivers) (noted : n1 ≡ n0 ++ change uid (kept_at s0.kept uid).status status.Idle) where
    memory_idle : remembered status.Idle (kept_at s0.kept uid).memo (memories_of (out-Term t).children (uid + 1) s0.kept) ≡ memory_of t uid s1.kept
    memory_idle =
        let ms0 = memories_of (out-Term t).children (uid + 1) s0.kept in
        let now : kept_at s1.kept uid ≡ record (kept_at s0.kept uid) { status = status.Idle } = ap (λ (k : List Kept). kept_at k uid) is ∙ get_or-set_same s0.kept uid (record (kept_at s0.kept uid) { status = status.Idle }) at_rest within in
        ap (λ (k : Kept). remembered k.status k.memo ms0) (sym now)
        ∙ sym (memory_above t uid s0.kept s1.kept (λ p low high. sym (ap (λ (k : List Kept). kept_at k p) is ∙ get_or-set_other s0.kept uid p (record (kept_at s0.kept uid) { status = status.Idle }) at_rest (λ e. absurd (omega (arith, low, e))))))

    pub idle_met : Meets nodes moment (memory_of t uid) (Ok tt) s0 s1 n0 n1 whole
    idle_met =
        subst (λ (d : Done (Unit {0}) Memory). Meets nodes moment (memory_of t uid) (Ok tt) s0 s1 n0 n1 d) (sym (reset_of_resting t view uid s0.kept (state_in nodes s0 moment) other))
        (record { answer = refl; memory = memory_idle; state = same_state; notes = noted ∙ ap (λ (l : List Note). n0 ++ l) (sym (append-nil (change uid (kept_at s0.kept uid).status status.Idle))); drivers = same_drivers }, none_named uid (kept_at s0.kept uid).status)

  -- a node that is IDLE is left as it is
  pub idle_left : (kept_at s0.kept uid).status ≡ status.Idle → uid < length s0.kept → Meets nodes moment (memory_of t uid) (Ok tt) s0 s0 n0 n0 whole
  idle_left is within =
      let same : record (kept_at s0.kept uid) { status = status.Idle } ≡ kept_at s0.kept uid = λ i. record (kept_at s0.kept uid) { status = sym is i } in
      idle_met (λ running. (let e : status.Idle ≡ status.Running = sym is ∙ running in cc)) s0 n0 within
      (sym (ap (slice_set s0.kept uid) same ∙ set-get_or s0.kept uid at_rest))
      refl refl
      (sym (append-nil n0) ∙ ap (λ (st : Status). n0 ++ change uid st status.Idle) (sym is))
