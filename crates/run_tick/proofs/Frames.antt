-- Visits that wait for a child, one on top of the other.
use Rattle.std.proofs.Common.{◌≡◌, ℕ, ◌+◌, ◌≤◌, List, [], ◌∷◌, slice_set, refl, sym, ap, subst, ◌∙◌, arith, Err}
use Rattle.base_texts.specs.declared.stop.Stop.{Stop}
use Rattle.base_texts.specs.declared.stop.Stop.TheVariants as stop
use Rattle.spec_run.specs.declared.fault.NodeFault.{NodeFault}
use Rattle.spec_run.specs.declared.memory.Memory.{Memory}
use Rattle.spec_run.specs.declared.moves.Heard.TheVariants.{Answered}
use Rattle.spec_run.specs.declared.note.Note.{Note}
use Rattle.spec_run.specs.declared.status.Answer.{Answer}
use Rattle.spec_tree.specs.declared.term.Term.{Term, out-Term}
use Rattle.spec_run.specs.Done.{Call, Done, following}
use Rattle.base_tables.specs.Moves.{after}
use Rattle.spec_run.specs.Sites.{View, placed, remembered}
use Rattle.spec_run.specs.Visit.{meaning}
use Rattle.run_arena.specs.declared.nodes.Kept.{Kept}
use Rattle.run_arena.specs.declared.nodes.Node.{Node}
use Rattle.run_arena.specs.Nodes.{kept_at}
use Rattle.run_arena.specs.Scenes.{Scene}
use Rattle.run_arena.specs.Stands.{Beside, memory_of, uid_of}
use Rattle.run_arena.proofs.Framed.{memory_set}
use Rattle.run_arena.proofs.Opened.{memory_out, size_out}
use Rattle.run_arena.specs.Ends.{Meets, StaysFit}
use Rattle.run_arena.proofs.Follows.{stopped}
use Rattle.run_arena.specs.declared.frame.Frame.{Frame}
use Rattle.run_arena.proofs.Staged.{beside_both, beside_more}
use Rattle.run_nodes.specs.Here.{children_in}
use Rattle.run_tick.specs.Turns.{AllLeave, Comes, StackIs, Waiting, WaitsFor, child_of_waiting, goes_following, kind_of, number, resume, ruled_by}
use Rattle.run_tick.proofs.Children.{child_inside}
use Rattle.run_tick.proofs.Passing.{follow_after}

-- ---- What comes after notes and calls

module _ (ns : List Note) (cs : List Call) where
  -- what a waiting visit does after its child
  pub waiting_after : (w : Waiting) (d : Done Answer Memory) → goes_following w (following ns cs d) ≡ following ns cs (goes_following w d)
  waiting_after w d =
      follow_after ns cs (placed w.frame.place (children_in w.term w.frame.uid w.kept) d)
      (λ ms1. remembered (kept_at w.kept w.frame.uid).status (kept_at w.kept w.frame.uid).memo ms1)
      (λ a ms1 s1. ruled_by w.term w.view w.frame.uid (kept_at w.kept w.frame.uid).status (kept_at w.kept w.frame.uid).memo (after (kind_of w.term) (number w.term) w.state.moment w.frame.memo (Answered w.frame.place a)) ms1 s1)

  pub resume_after : (ws : List Waiting) (d : Done Answer Memory) → resume ws (following ns cs d) ≡ following ns cs (resume ws d)
  resume_after [] d = refl
  resume_after (w ∷ ws) d = ap (resume ws) (waiting_after w d) ∙ resume_after ws (goes_following w d)

  leave_after : (ws : List Waiting) (d : Done Answer Memory) → AllLeave ws (following ns cs d) → AllLeave ws d
  leave_after [] d k = tt
  leave_after (w ∷ ws) d k = (k.0, leave_after ws (goes_following w d) (subst (λ (x : Done Answer Memory). AllLeave ws x) (waiting_after w d) k.1))

module _ {nodes : List Node} {s0 s1 : Scene} {n0 n1 : List Note} {d e : Done Answer Memory} (k : Comes nodes s0 s1 n0 n1 d e) where
  -- what is still to come of a part is still to come of the whole
  pub resume_comes : (ws : List Waiting) → Comes nodes s0 s1 n0 n1 (resume ws d) (resume ws e)
  resume_comes ws = record {
    told = k.told;
    made = k.made;
    all = ap (resume ws) k.all ∙ resume_after k.told k.made ws e;
    named = k.named;
    notes = k.notes;
    drivers = k.drivers;
  }

  pub leave_comes : (ws : List Waiting) → AllLeave ws d → AllLeave ws e
  leave_comes ws all = leave_after k.told k.made ws e (subst (λ (x : Done Answer Memory). AllLeave ws x) k.all all)

-- ---- Scenes that change

module _ (nodes : List Node) (moment : ℕ) (root : Term) (first : ℕ) where
  module _ {s : Scene} {w : Waiting} {term : Term} {view : View} {uid : ℕ} (k : WaitsFor nodes moment s w term view uid) where
    -- the nodes of the child are among those of its node
    pub within_node : (w.frame.uid + 1 ≤ w.frame.child) × (w.frame.child + (meaning (child_of_waiting w)).size ≤ w.frame.uid + (meaning w.term).size)
    within_node =
        let inside = child_inside (out-Term w.term).children w.frame.place (w.frame.uid + 1) w.term k.there in
        (omega (arith, inside.0, k.child), omega (arith, inside.1, k.child, size_out w.term))

    beside_here : {a b : List Kept} → Beside uid (meaning term).size a b → Beside w.frame.child (meaning (child_of_waiting w)).size a b
    beside_here {a} {b} beside =
        subst (λ (u : ℕ). Beside u (meaning (child_of_waiting w)).size a b) (sym k.uid_is)
        (subst (λ (t : Term). Beside uid (meaning t).size a b) (sym k.child_is) beside)

    -- a node keeps what it kept while its child is visited
    pub node_kept : kept_at s.kept w.frame.uid ≡ kept_at w.kept w.frame.uid
    node_kept = k.beside.below w.frame.uid (omega (arith, within_node.0))

    -- the memories of its children, while a child is visited
    pub children_now : slice_set (children_in w.term w.frame.uid w.kept) w.frame.place (memory_of term uid s.kept) ≡ children_in w.term w.frame.uid s.kept
    children_now =
        let at : memory_of term uid s.kept ≡ memory_of (child_of_waiting w) (uid_of (out-Term w.term).children (w.frame.uid + 1) w.frame.place) s.kept =
        (λ i. memory_of (sym k.child_is i) ((sym k.uid_is ∙ k.child) i) s.kept) in
        ap (λ (m : Memory). slice_set (children_in w.term w.frame.uid w.kept) w.frame.place m) at
        ∙ memory_set (out-Term w.term).children w.frame.place (w.frame.uid + 1) w.term w.kept s.kept k.there
        (subst (λ (u : ℕ). Beside u (meaning (child_of_waiting w)).size w.kept s.kept) k.child k.beside)

    -- and the memory of the node itself
    pub memory_now : remembered (kept_at w.kept w.frame.uid).status (kept_at w.kept w.frame.uid).memo (slice_set (children_in w.term w.frame.uid w.kept) w.frame.place (memory_of term uid s.kept)) ≡ memory_of w.term w.frame.uid s.kept
    memory_now = (λ i. remembered (sym node_kept i).status (sym node_kept i).memo (children_now i)) ∙ sym (memory_out w.term w.frame.uid s.kept)

    module _ (s1 : Scene) (beside : Beside uid (meaning term).size s.kept s1.kept) (stays : StaysFit nodes s s1) where
      pub waits_still : WaitsFor nodes moment s1 w term view uid
      waits_still = record {
        child_is = k.child_is;
        view_is = k.view_is;
        uid_is = k.uid_is;
        fits = stays w.term w.view w.frame.uid k.fits;
        beside = beside_both k.beside (beside_here beside) (omega arith) (omega arith) (omega arith) (omega arith);
        sound = k.sound;
        dated = k.dated;
        moment_is = k.moment_is;
        ruled = k.ruled;
        moves = k.moves;
        there = k.there;
        child = k.child;
      }

      pub beside_above : Beside w.frame.uid (meaning w.term).size s.kept s1.kept
      beside_above = beside_more (beside_here beside) (omega (arith, within_node.0)) (omega (arith, within_node.1))

  -- where only nodes of the term have changed that the topmost visit waits for, the frames are still those of the
  -- visits that wait
  pub stack_stays : (s s1 : Scene) (stack : List Frame) (ws : List Waiting) (term : Term) (view : View) (uid : ℕ) → StackIs nodes moment s root first stack ws term view uid →
      Beside uid (meaning term).size s.kept s1.kept → StaysFit nodes s s1 → StackIs nodes moment s1 root first stack ws term view uid
  stack_stays s s1 stack [] term view uid k beside stays = k
  stack_stays s s1 stack (w ∷ ws) term view uid (below, is, waits, more) beside stays =
      (below, is, waits_still waits s1 beside stays, stack_stays s s1 below ws w.term w.view w.frame.uid more (beside_above waits s1 beside stays) stays)

  -- nor has any node beside the root
  pub beside_root : (s s1 : Scene) (stack : List Frame) (ws : List Waiting) (term : Term) (view : View) (uid : ℕ) → StackIs nodes moment s root first stack ws term view uid →
      Beside uid (meaning term).size s.kept s1.kept → StaysFit nodes s s1 → Beside first (meaning root).size s.kept s1.kept
  beside_root s s1 stack [] term view uid k beside stays =
      subst (λ (t : Term). Beside first (meaning t).size s.kept s1.kept) k.1 (subst (λ (u : ℕ). Beside u (meaning term).size s.kept s1.kept) k.2 beside)
  beside_root s s1 stack (w ∷ ws) term view uid (below, is, waits, more) beside stays =
      beside_root s s1 below ws w.term w.view w.frame.uid more (beside_above waits s1 beside stays) stays

  -- ---- Stops

  placed_stops : {A : Type 0} (memory : List Kept → Memory) (place : ℕ) (ms : List Memory) (e : Stop NodeFault) (s0 s1 : Scene) (n0 n1 : List Note) (d : Done A Memory) →
      Meets nodes moment memory (Err e) s0 s1 n0 n1 d → Meets nodes moment (λ (k : List Kept). slice_set ms place (memory k)) (Err e) s0 s1 n0 n1 (placed place ms d)
  placed_stops memory place ms (stop.Fault f) s0 s1 n0 n1 d m = record { answer = m.answer; memory = ap (λ (x : Memory). slice_set ms place x) m.memory; state = m.state; notes = m.notes; drivers = m.drivers }
  placed_stops memory place ms stop.NoMemory s0 s1 n0 n1 d m = record { told = m.told; untold = m.untold; made = m.made; unmade = m.unmade; all_notes = m.all_notes; all_calls = m.all_calls; named = m.named; notes = m.notes; drivers = m.drivers }

  waiting_stops : (e : Stop NodeFault) (s0 s1 : Scene) (n0 n1 : List Note) (w : Waiting) (term : Term) (view : View) (uid : ℕ) (d : Done Answer Memory) → WaitsFor nodes moment s1 w term view uid →
      Meets nodes moment (memory_of term uid) (Err e) s0 s1 n0 n1 d → Meets {A = Answer} nodes moment (memory_of w.term w.frame.uid) (Err e) s0 s1 n0 n1 (goes_following w d)
  waiting_stops e s0 s1 n0 n1 w term view uid d k m =
      stopped nodes moment (λ (kept : List Kept). slice_set (children_in w.term w.frame.uid w.kept) w.frame.place (memory_of term uid kept)) (memory_of w.term w.frame.uid) s0 s1 n0 n1
      (placed w.frame.place (children_in w.term w.frame.uid w.kept) d)
      (λ ms1. remembered (kept_at w.kept w.frame.uid).status (kept_at w.kept w.frame.uid).memo ms1)
      (λ a ms1 s. ruled_by w.term w.view w.frame.uid (kept_at w.kept w.frame.uid).status (kept_at w.kept w.frame.uid).memo (after (kind_of w.term) (number w.term) w.state.moment w.frame.memo (Answered w.frame.place a)) ms1 s)
      e (memory_now k) (placed_stops (memory_of term uid) w.frame.place (children_in w.term w.frame.uid w.kept) e s0 s1 n0 n1 d m)

  -- a part ended with a fault or for want of memory, and so did the whole
  pub all_stops : (e : Stop NodeFault) (s0 s1 : Scene) (n0 n1 : List Note) (stack : List Frame) (ws : List Waiting) (term : Term) (view : View) (uid : ℕ) (d : Done Answer Memory) → StackIs nodes moment s1 root first stack ws term view uid →
      Meets {A = Answer} nodes moment (memory_of term uid) (Err e) s0 s1 n0 n1 d → Meets {A = Answer} nodes moment (memory_of root first) (Err e) s0 s1 n0 n1 (resume ws d)
  all_stops e s0 s1 n0 n1 stack [] term view uid d k m =
      subst (λ (t : Term). Meets {A = Answer} nodes moment (memory_of t first) (Err e) s0 s1 n0 n1 d) k.1
      (subst (λ (u : ℕ). Meets {A = Answer} nodes moment (memory_of term u) (Err e) s0 s1 n0 n1 d) k.2 m)
  all_stops e s0 s1 n0 n1 stack (w ∷ ws) term view uid d (below, is, waits, more) m =
      all_stops e s0 s1 n0 n1 below ws w.term w.view w.frame.uid (goes_following w d) more (waiting_stops e s0 s1 n0 n1 w term view uid d waits m)
