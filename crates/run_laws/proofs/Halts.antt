-- A halt and a reset of a node above children that keep their rules.
use Rattle.std.proofs.Common.{◌≡◌, ℕ, ◌+◌, List, true, false, Option, Some, None, slice_get, refl, sym, ap, subst, ◌∙◌, arith, option_map, is_some}
use Rattle.spec_run.specs.declared.leaf.Instance.{Instance}
use Rattle.spec_run.specs.declared.memory.Memo.{Memo}
use Rattle.spec_run.specs.declared.memory.Memo.TheVariants.{Finished}
use Rattle.spec_run.specs.declared.memory.Memory.{Memory, Memory-F, out-Memory, out-roll-Memory}
use Rattle.spec_run.specs.declared.moves.Span.TheVariants as span
use Rattle.spec_run.specs.declared.status.Answer.{Answer}
use Rattle.spec_run.specs.declared.status.Status.{Status}
use Rattle.spec_run.specs.declared.status.Status.TheVariants as status
use Rattle.spec_tree.specs.declared.term.Kind.{Kind}
use Rattle.spec_tree.specs.declared.term.Kind.TheVariants.{Sequence, Leaf}
use Rattle.spec_tree.specs.declared.term.Port.{Port}
use Rattle.spec_tree.specs.declared.term.Term.{Term-F}
use Rattle.spec_world.specs.declared.world.Row.{Row}
use Rattle.spec_run.specs.Done.{Done, State, done, follow}
use Rattle.spec_run.specs.Leaf.{released}
use Rattle.spec_run.specs.Leaves.{instance_at, row_of}
use Rattle.spec_run.specs.NodeScripts.{script_if_there}
use Rattle.base_tables.specs.Shapes.{AllIdle, RestingShape, RunningShape, is_running}
use Rattle.spec_run.specs.Sites.{Site, View, children_of, remembered, view_below}
use Rattle.base_tables.specs.Sound.{Leaves, Within, held_at, is_held, statuses}
use Rattle.spec_run.specs.Steps.{resets}
use Rattle.spec_run.specs.Visit.{cleared, halt, halt_state, halted, reset_by}
use Rattle.run_laws.proofs.Parts.{follow_leaves, held_same, left_into, within_both, within_same}
use Rattle.run_laws.proofs.Children.{Family, SoundAll, all_move, size_all, status_in, status_kept}
use Rattle.run_laws.proofs.Resting.{Rested, span_leaves}
use Rattle.run_laws.proofs.Beginnings.{site_here}
use Rattle.run_laws.proofs.Instances.{set_here, set_within}
use Rattle.run_laws.proofs.Scripts.{script_if_there_leaves}
use Rattle.run_laws.proofs.Whole.{NodeKeeps, Own, as_kept, on_path, size_here}

-- ---- The node alone

-- a RUNNING node has no mark
no_mark : (a : Answer) (ports : List Port) (row : Option Row) (moment : ℕ) (ss : List Status) (kind : Kind) → RunningShape kind ports row moment (Finished (Some a)) ss → ⊥
no_mark a ports row moment ss Sequence shape = absurd shape
no_mark a ports row moment ss _ shape = absurd shape

-- above IDLE children, a memo after a halt is one of a node that is not RUNNING
cleared_rests : (ports : List Port) (row : Option Row) (moment later : ℕ) (kind : Kind) (memo : Memo) (before ss : List Status) → RunningShape kind ports row moment memo before → AllIdle ss → RestingShape ports later (cleared memo) kind ss
cleared_rests ports row moment later kind (Finished (Some a)) before ss shape idle = absurd (no_mark a ports row moment before kind shape)
cleared_rests ports row moment later kind _ before ss shape idle = idle

-- after a halt the instance of the node is not held
halt_frees : (kind : Kind) (uid : ℕ) (s : State) → held_at s uid ≡ Some (is_held status.Running kind) → held_at (halt_state kind uid s) uid ≡ Some false
halt_frees Leaf uid s held = set_here s (halt_state Leaf uid s) uid (released (instance_at s uid)) refl true held
halt_frees _ uid s held = held

halt_within : (kind : Kind) (uid : ℕ) (s : State) → Within uid 1 s (halt_state kind uid s)
halt_within Leaf uid s = set_within s (halt_state Leaf uid s) uid (released (instance_at s uid)) refl refl refl refl (λ dated t e. cc)
halt_within _ uid s = within_same uid 1 s

-- ---- The node and its children

-- a memory of a node that was halted
abbrev pub IsHalted : Memory → Type 0
IsHalted m = (status_in m ≡ status.Idle) × AllIdle (statuses (out-Memory m).children)

module _ (F : Family) (node : Term-F F.Child) (view : View) (uid : ℕ) where
  abbrev here : Site
  here = site_here F node view uid

  abbrev Holds : Option ℕ → Memory → State → Type 0
  Holds f m s = Own F node view uid f m s

  abbrev size : ℕ
  size = size_here F node view uid

  abbrev All : Option ℕ → List Memory → State → Type 0
  All f ms s = SoundAll F view.rows node.children f (uid + 1) ms s

  -- the children stay as they are where only the node's own instance has changed
  beside : (fault : Option ℕ) (ms : List Memory) (s s1 : State) → All None ms s → Within uid 1 s s1 → All fault ms s1
  beside fault ms s s1 all w = all_move F view.rows node.children fault (uid + 1) ms s s1 all (λ p a b. held_same s s1 p (w.above p a)) (omega (arith, w.moment))

  -- the memory that a halt makes
  rests_idle : (memo : Memo) (ms : List Memory) (s : State) → RestingShape node.ports s.moment memo node.kind (statuses ms) → held_at s uid ≡ Some false → All None ms s → Holds None (remembered status.Idle memo ms) s
  rests_idle memo ms s shape free all = as_kept F node view uid None status.Idle memo ms s (record { shape = shape; held = free }, all)

  is_halted : (memo : Memo) (ms : List Memory) → AllIdle (statuses ms) → IsHalted (remembered status.Idle memo ms)
  is_halted memo ms idle =
      (status_kept status.Idle memo ms, subst (λ (x : Memory-F Memory). AllIdle (statuses x.children)) (sym (out-roll-Memory (record { status = status.Idle; memo = memo; children = ms }))) idle)

  -- the end of a halt, above children that are IDLE
  halted_leaves : (memo : Memo) (ms : List Memory) (s : State) → ((now : ℕ) → RestingShape node.ports now memo node.kind (statuses ms)) → AllIdle (statuses ms) → held_at s uid ≡ Some (is_held status.Running node.kind) → All None ms s →
      Leaves Holds (λ _ m1 s1. IsHalted m1) uid size s (halted here (remembered status.Idle memo ms) s)
  halted_leaves memo ms s shape idle held all =
      let m : Memory = remembered status.Idle memo ms in
      let freed : State = halt_state node.kind uid s in
      let d : Done (Unit {0}) (Unit {0}) = script_if_there here node.guards.on_halted freed in
      let w0 : Within uid 1 s freed = halt_within node.kind uid s in
      let left : Leaves Holds (λ _ m1 s1. IsHalted m1) uid size freed (follow d (λ _. m) (λ _ _ s1. done tt m s1)) =
      follow_leaves {rules = λ _ _ s1. s1.instances ≡ freed.instances} {fits = λ _ _ s1. Unit {0}} {rules2 = Holds} {fits2 = λ _ m1 s1. IsHalted m1}
      d (λ _. m) (λ _ _ s1. done tt m s1) uid size uid 1 freed (omega arith) (omega arith) (script_if_there_leaves here node.guards.on_halted freed)
      (λ _ _ same w. record {
        sound = rests_idle memo ms d.state (shape d.state.moment) (ap (λ x. option_map (λ (i : Instance). is_some i.since) (slice_get x uid)) same ∙ halt_frees node.kind uid s held) (beside None ms s d.state all (within_both w0 w (omega arith) (omega arith) (omega arith) (omega arith)));
        within = within_same uid size d.state;
        ends = is_halted memo ms idle;
      })
      (λ f low high same w. on_path F node view uid f status.Idle memo ms d.state low (omega (arith, high)) (beside (Some f) ms s d.state all (within_both w0 w (omega arith) (omega arith) (omega arith) (omega arith))))
      in
      record { sound = left.sound; within = within_both w0 left.within (omega arith) (omega arith) (omega arith) (omega arith); ends = left.ends }

  -- a halt of a RUNNING node
  pub halt_leaves : (m : Memory) (s : State) → NodeKeeps F node view uid status.Running (out-Memory m).memo (out-Memory m).children s → All None (out-Memory m).children s →
      Leaves Holds (λ _ m1 s1. IsHalted m1) uid size s (halt here m s)
  halt_leaves m s own all =
      let memo : Memo = (out-Memory m).memo in
      let ms : List Memory = (out-Memory m).children in
      let d : Done (Unit {0}) (List Memory) = resets span.All (children_of here) 0 ms s in
      follow_leaves {rules = All} {fits = λ _ ms1 s1. Rested span.All (statuses ms) (statuses ms1)} {rules2 = Holds} {fits2 = λ _ m1 s1. IsHalted m1}
      d (λ ms1. remembered status.Running memo ms1) (λ _ ms1 s1. halted here (remembered status.Idle (cleared memo) ms1) s1) uid size (uid + 1) (size_all F node.children) s (omega arith) (omega arith)
      (span_leaves F (view_below here) node.children (uid + 1) span.All ms s all)
      (λ _ rested all1 w.
      let idle : AllIdle (statuses d.memory) = λ k from. rested.away k refl in
      halted_leaves (cleared memo) d.memory d.state (λ now. cleared_rests node.ports (row_of view.rows node.id) s.moment now node.kind memo (statuses ms) (statuses d.memory) own.shape idle) idle
      (ap (λ x. option_map (λ (i : Instance). is_some i.since) x) (w.below uid (omega arith)) ∙ own.held) all1)
      (λ f low high all1 w. on_path F node view uid f status.Running memo d.memory d.state (omega (arith, low)) (omega (arith, high)) all1)

  -- a halt of a node whose memory says that it is RUNNING
  pub halts : (m : Memory) (s : State) → status_in m ≡ status.Running → Holds None m s → Leaves Holds (λ _ m1 s1. status_in m1 ≡ status.Idle) uid size s (halt here m s)
  halts m s is sound =
      let d : Done (Unit {0}) Memory = halt here m s in
      left_into uid size uid size s d.answer d.memory d.memory d.state (omega arith) (omega arith)
      (halt_leaves m s (subst (λ (st : Status). NodeKeeps F node view uid st (out-Memory m).memo (out-Memory m).children s) is sound.0) sound.1)
      (λ f own w. own)
      (λ _ halted own w. halted.0)

  -- a node that is not RUNNING becomes IDLE
  rest_leaves : (memo : Memo) (ms : List Memory) (s : State) → RestingShape node.ports s.moment memo node.kind (statuses ms) → held_at s uid ≡ Some false → All None ms s →
      let d : Done (Unit {0}) Memory = done tt (remembered status.Idle memo ms) s in
      Leaves Holds (λ _ m1 s1. status_in m1 ≡ status.Idle) uid size s d
  rest_leaves memo ms s shape free all = record {
    sound = rests_idle memo ms s shape free all;
    within = within_same uid size s;
    ends = status_kept status.Idle memo ms;
  }

  reset_by_leaves : (st : Status) (m : Memory) (s : State) → NodeKeeps F node view uid st (out-Memory m).memo (out-Memory m).children s → All None (out-Memory m).children s →
      Leaves Holds (λ _ m1 s1. status_in m1 ≡ status.Idle) uid size s (reset_by st here m s)
  reset_by_leaves status.Running m s own all =
      let d : Done (Unit {0}) Memory = halt here m s in
      left_into uid size uid size s d.answer d.memory d.memory d.state (omega arith) (omega arith) (halt_leaves m s own all)
      (λ f sound w. sound)
      (λ _ is sound w. is.0)
  reset_by_leaves status.Idle m s own all = rest_leaves (out-Memory m).memo (out-Memory m).children s own.shape own.held all
  reset_by_leaves status.Success m s own all = rest_leaves (out-Memory m).memo (out-Memory m).children s own.shape own.held all
  reset_by_leaves status.Failure m s own all = rest_leaves (out-Memory m).memo (out-Memory m).children s own.shape own.held all

  -- a reset of the node
  pub reset_leaves : (m : Memory) (s : State) → Holds None m s → Leaves Holds (λ _ m1 s1. status_in m1 ≡ status.Idle) uid size s (reset_by (out-Memory m).status here m s)
  reset_leaves m s sound = reset_by_leaves (out-Memory m).status m s sound.0 sound.1

  settles_by : (st : Status) (m : Memory) (s : State) → is_running st ≡ false → NodeKeeps F node view uid st (out-Memory m).memo (out-Memory m).children s → All None (out-Memory m).children s →
      Holds None (remembered status.Idle (out-Memory m).memo (out-Memory m).children) s
  settles_by status.Running m s rests own all = cc
  settles_by status.Idle m s rests own all = rests_idle (out-Memory m).memo (out-Memory m).children s own.shape own.held all
  settles_by status.Success m s rests own all = rests_idle (out-Memory m).memo (out-Memory m).children s own.shape own.held all
  settles_by status.Failure m s rests own all = rests_idle (out-Memory m).memo (out-Memory m).children s own.shape own.held all

  -- a node that is not RUNNING can become IDLE
  pub here_settles : (m : Memory) (s : State) → Holds None m s → is_running (status_in m) ≡ false → Holds None (remembered status.Idle (out-Memory m).memo (out-Memory m).children) s
  here_settles m s sound rests = settles_by (status_in m) m s rests sound.0 sound.1
