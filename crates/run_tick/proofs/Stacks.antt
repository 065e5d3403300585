-- The turns of a tick: a child is entered, its answer is heard, and the root has answered.
use Rattle.std.proofs.Common.{◌≡◌, ℕ, ◌+◌, List, [], ◌∷◌, ◌++◌, refl, sym, ap, subst, ◌∙◌, arith, None, Result, Ok, Err}
use Rattle.std.proofs.lemmas.List.{same_from_push}
use Rattle.base_texts.specs.declared.stop.Stop.{Stop}
use Rattle.base_texts.specs.declared.stop.Stop.TheVariants as stop
use Rattle.spec_run.specs.declared.fault.NodeFault.{NodeFault}
use Rattle.spec_run.specs.declared.memory.Memo.{Memo}
use Rattle.spec_run.specs.declared.memory.Memory.{Memory}
use Rattle.spec_run.specs.declared.moves.Heard.TheVariants.{Answered}
use Rattle.spec_run.specs.declared.note.Note.{Note}
use Rattle.spec_run.specs.declared.status.Answer.{Answer}
use Rattle.spec_run.specs.declared.status.Status.{Status}
use Rattle.spec_tree.specs.declared.term.Term.{Term, out-Term}
use Rattle.spec_run.specs.Done.{Done, State, done, follow}
use Rattle.base_tables.specs.Moves.{after}
use Rattle.spec_run.specs.Sites.{View, child_of, children_of, memory_at, placed, remembered}
use Rattle.spec_run.specs.Steps.{Child, Rule, child_at, visit}
use Rattle.base_tables.specs.Sound.{Dated, Sound, fault_of}
use Rattle.spec_run.specs.Visit.{ended, meaning}
use Rattle.run_arena.specs.declared.nodes.Node.{Node}
use Rattle.run_arena.specs.Nodes.{kept_at}
use Rattle.run_arena.specs.Scenes.{Scene, state_in}
use Rattle.run_arena.specs.Stands.{Beside, Stands, memory_of, view_under, written}
use Rattle.run_arena.proofs.Framed.{memory_at_place}
use Rattle.run_arena.proofs.Opened.{opened}
use Rattle.run_arena.specs.Ends.{Meets, StaysFit}
use Rattle.run_arena.proofs.Follows.{done_met}
use Rattle.run_arena.proofs.Staged.{beside_both, beside_none}
use Rattle.run_laws.proofs.Children.{Keeps}
use Rattle.run_laws.proofs.Seats.{Seat}
use Rattle.run_arena.specs.declared.frame.Frame.{Frame}
use Rattle.run_tick.specs.Machine.{Step}
use Rattle.run_tick.specs.Machine.{Turn}
use Rattle.run_tick.specs.Machine as turn
use Rattle.run_nodes.specs.Here.{children_in, site_at}
use Rattle.run_tick.specs.Turns.{AllLeave, CanGoOn, CanVisit, ChildLeaves, ChildrenSound, Comes, Goes, Going, GoesOnBy, StackIs, Waiting, WaitsBy, WaitsFor, child_of_waiting, goes_following, kind_of, memory_in, number, resume, ruled_by, visit_in}
use Rattle.run_tick.proofs.Children.{child_seen, child_stands, seat_at, terms}
use Rattle.run_tick.proofs.Frames.{all_stops, beside_root, children_now, leave_comes, node_kept, resume_comes, stack_stays}
use Rattle.run_tick.proofs.Passing.{comes_both, comes_same, follow_follow, met_after, none_told}

none_from_push : {X : Type 0} (xs : List X) (x : X) → [] ≡ xs ++ x ∷ [] → ⊥
none_from_push [] x is = cc
none_from_push (y ∷ xs) x is = cc

-- ---- A child is entered

-- a rule that visits a child first
visit_opened : (term : Term) (view : View) (uid : ℕ) (st : Status) (memo : Memo) (place : ℕ) (go : Answer → Rule) (ms : List Memory) (s : State) →
    ruled_by term view uid st memo (visit place go) ms s
    ≡ follow ((child_at (children_of (site_at view uid term)) place).visit ms s) (λ ms1. remembered st memo ms1) (λ a ms1 s1. ruled_by term view uid st memo (go a) ms1 s1)
unfolding visit
visit_opened term view uid st memo place go ms s =
    follow_follow ((child_at (children_of (site_at view uid term)) place).visit ms s) (λ ms1. ms1) (λ a ms1 s1. go a (children_of (site_at view uid term)) ms1 s1)
    (λ ms1. remembered st memo ms1) (λ g ms1 s1. ended (site_at view uid term) st g ms1 s1)

module _ (keeps : (t : Term) → Keeps (meaning t) (Sound t)) (nodes : List Node) (moment : ℕ) where
  module _ (term : Term) (view : View) (frame : Frame) (s : Scene) (next : Done Answer Memory) (k : WaitsBy nodes moment term view frame.uid frame s next) where
    state : State
    state = state_in nodes s moment

    -- the visit that waits
    abbrev pub now_waiting : Waiting
    now_waiting = record { frame = frame; term = term; view = view; kept = s.kept; state = state_in nodes s moment }

    abbrev child : Term
    child = child_of_waiting now_waiting

    abbrev below : View
    below = view_under view frame.uid (written (out-Term term))

    abbrev ms : List Memory
    ms = children_in term frame.uid s.kept

    child_memory : memory_at ms frame.place ≡ memory_of child frame.child s.kept
    child_memory =
        memory_at_place (out-Term term).children frame.place (frame.uid + 1) term s.kept k.there
        ∙ ap (λ (u : ℕ). memory_of child u s.kept) (sym k.child)

    -- the visit of the child, as its node sees it, is that of the term
    child_visit : (child_at (children_of (site_at view frame.uid term)) frame.place).visit ms (state_in nodes s moment) ≡ placed frame.place ms (visit_in nodes moment child below frame.child s)
    child_visit =
        let index : 0 + frame.place ≡ frame.place = omega arith in
        let seen = child_seen below (out-Term term).children frame.place (frame.uid + 1) 0 term k.there in
        ap (λ (c : Child). c.visit ms (state_in nodes s moment))
        (seen ∙ (λ i. child_of below (meaning child) (sym k.child i) (index i)))
        ∙ ap (λ (m : Memory). placed frame.place ms ((meaning child).visit below frame.child m (state_in nodes s moment))) child_memory

    -- what is still to come is the visit of the child, followed by what comes after it
    pub waits_as : next ≡ goes_following now_waiting (visit_in nodes moment child below frame.child s)
    waits_as =
        k.next_is
        ∙ visit_opened term view frame.uid (kept_at s.kept frame.uid).status (kept_at s.kept frame.uid).memo frame.place (λ a. after (kind_of term) (number term) moment frame.memo (Answered frame.place a)) ms (state_in nodes s moment)
        ∙ ap (λ (d : Done Answer (List Memory)). follow d (λ ms1. remembered (kept_at s.kept frame.uid).status (kept_at s.kept frame.uid).memo ms1)
        (λ a ms1 s1. ruled_by term view frame.uid (kept_at s.kept frame.uid).status (kept_at s.kept frame.uid).memo (after (kind_of term) (number term) moment frame.memo (Answered frame.place a)) ms1 s1)) child_visit

    child_sound : Sound child view.rows None frame.child (memory_of child frame.child s.kept) (state_in nodes s moment)
    child_sound =
        let seat = seat_at keeps view.rows (out-Term term).children frame.place (frame.uid + 1) term k.there in
        subst (λ (m : Memory). Sound child view.rows None frame.child m (state_in nodes s moment)) child_memory
        (subst (λ (u : ℕ). Sound child view.rows None u (memory_at ms frame.place) (state_in nodes s moment)) (sym k.child) (seat.sound ms (state_in nodes s moment) k.can.sound))

    pub child_can : CanVisit nodes moment child below frame.child s
    child_can =
        let stand = opened term nodes view frame.uid k.can.fits.stands in
        record {
          fits = record {
            stands = subst (λ (u : ℕ). Stands child nodes below u) (sym k.child) (child_stands nodes below (out-Term term).children frame.place (frame.uid + 1) term k.there stand.2);
            few = k.can.fits.few;
            marks = k.can.fits.marks;
            leaves = k.can.fits.leaves;
            slots = k.can.fits.slots;
            facts = k.can.fits.facts;
          };
          sound = child_sound;
          dated = k.can.dated;
        }

    pub child_leaves : ChildLeaves now_waiting (visit_in nodes moment child below frame.child s)
    child_leaves = (keeps child).visit below frame.child (memory_of child frame.child s.kept) (state_in nodes s moment) child_sound

    pub now_waits : WaitsFor nodes moment s now_waiting child below frame.child
    now_waits = record {
      child_is = refl;
      view_is = refl;
      uid_is = refl;
      fits = k.can.fits;
      beside = beside_none frame.child (meaning child).size s.kept;
      sound = k.can.sound;
      dated = k.can.dated;
      moment_is = refl;
      ruled = k.ruled;
      moves = k.fits;
      there = k.there;
      child = k.child;
    }

  -- ---- An answer is heard

  module _ (w : Waiting) (term : Term) (view : View) (uid : ℕ) (s : Scene) (a : Answer) (k : WaitsFor nodes moment s w term view uid) where
    abbrev pub heard_of : Step
    heard_of = record { uid = w.frame.uid; memo = w.frame.memo; heard = Answered w.frame.place a }

    abbrev answered : Done Answer Memory
    answered = done a (memory_of term uid s.kept) (state_in nodes s moment)

    module _ (leaves : ChildLeaves w answered) where
      children_sound : CanGoOn nodes moment w.term w.view w.frame.uid s
      children_sound =
          let seat = seat_at keeps w.view.rows (out-Term w.term).children w.frame.place (w.frame.uid + 1) w.term k.there in
          let back = subst (λ (u : ℕ). Seat (terms keeps) w.view.rows (out-Term w.term).children (w.frame.uid + 1) w.frame.place (child_of_waiting w) u) (sym k.child) seat in
          record {
            fits = k.fits;
            sound =
                subst (λ (ms : List Memory). ChildrenSound w.term w.view w.frame.uid ms (state_in nodes s moment)) (children_now nodes moment w.term 0 k)
                (back.back None (children_in w.term w.frame.uid w.kept) (memory_of term uid s.kept) w.state (state_in nodes s moment) k.sound leaves.within leaves.sound);
            dated = leaves.within.dated k.dated;
          }

      pub goes_on_by : GoesOnBy nodes moment w.term w.view w.frame.uid heard_of s (goes_following w answered)
      goes_on_by = record {
        here = refl;
        can = children_sound;
        ruled = k.ruled;
        fits = k.moves a;
        next_is = (λ i. ruled_by w.term w.view w.frame.uid (sym (node_kept nodes moment w.term 0 k) i).status (sym (node_kept nodes moment w.term 0 k) i).memo
            (after (kind_of w.term) (number w.term) (k.moment_is i) w.frame.memo (Answered w.frame.place a)) (children_now nodes moment w.term 0 k i) (state_in nodes s moment));
      }

  -- ---- The turns

  module _ {root : Term} {first : ℕ} {s0 : Scene} {n0 : List Note} where
    -- a visit of the root begins
    pub begins : (view : View) → CanVisit nodes moment root view first s0 → Going nodes moment root first (turn.Enter first) [] s0 s0 n0 n0 (visit_in nodes moment root view first s0)
    begins view can = record {
      waiting = [];
      term = root;
      view = view;
      uid = first;
      next = visit_in nodes moment root view first s0;
      does = (refl, can, refl);
      stands = (refl, refl, refl);
      leaves = tt;
      comes = comes_same nodes s0 s0 n0 (visit_in nodes moment root view first s0) (visit_in nodes moment root view first s0) refl refl;
      beside = beside_none first (meaning root).size s0.kept;
    }

  module _ {root : Term} {first : ℕ} {s0 s : Scene} {n0 n : List Note} {whole : Done Answer Memory} where
    -- the answer of the root
    pub answers : {a : Answer} → Going nodes moment root first (turn.Back a) [] s0 s n0 n whole → Meets nodes moment (memory_of root first) (Ok a) s0 s n0 n whole
    answers {a} g = by g.waiting g.stands g.comes where
      by : (ws : List Waiting) → StackIs nodes moment s root first [] ws g.term g.view g.uid → Comes nodes s0 s n0 n whole (resume ws g.next) → Meets nodes moment (memory_of root first) (Ok a) s0 s n0 n whole
      by [] stands comes =
          let d : Done Answer Memory = done a (memory_of root first s.kept) (state_in nodes s moment) in
          let is : g.next ≡ d = g.does ∙ (λ i. done a (memory_of (stands.1 i) (stands.2 i) s.kept) (state_in nodes s moment)) in
          met_after nodes moment (memory_of root first) s0 s s n0 n n whole d (Ok a) (subst (λ (x : Done Answer Memory). Comes nodes s0 s n0 n whole x) is comes)
          (done_met nodes moment (memory_of root first) a s n)
      by (w ∷ ws) (under, is, waits, more) comes = absurd (none_from_push under w.frame is)

  module _ {root : Term} {first : ℕ} {stack : List Frame} {s0 s : Scene} {n0 n : List Note} {whole : Done Answer Memory} where
    -- no node beside the root has changed in a turn
    pub turn_beside : {t : Turn} (g : Going nodes moment root first t stack s0 s n0 n whole) (s1 : Scene) (n1 : List Note) (r : Result Turn (Stop NodeFault)) →
        Goes nodes moment g.term g.view g.uid r s s1 n n1 g.next → Beside first (meaning root).size s0.kept s1.kept
    turn_beside g s1 n1 r goes =
        beside_both g.beside (beside_root nodes moment root first s s1 stack g.waiting g.term g.view g.uid g.stands goes.beside goes.stays) (omega arith) (omega arith) (omega arith) (omega arith)

    -- a turn was made
    pub made : {t t1 : Turn} (g : Going nodes moment root first t stack s0 s n0 n whole) (s1 : Scene) (n1 : List Note) →
        Goes nodes moment g.term g.view g.uid (Ok t1) s s1 n n1 g.next → Going nodes moment root first t1 stack s0 s1 n0 n1 whole
    made {t1 = t1} g s1 n1 goes = record {
      waiting = g.waiting;
      term = g.term;
      view = g.view;
      uid = g.uid;
      next = goes.ends.next;
      does = goes.ends.does;
      stands = stack_stays nodes moment root first s s1 stack g.waiting g.term g.view g.uid g.stands goes.beside goes.stays;
      leaves = leave_comes goes.ends.comes g.waiting g.leaves;
      comes = comes_both nodes s0 s s1 n0 n n1 whole (resume g.waiting g.next) (resume g.waiting goes.ends.next) g.comes (resume_comes goes.ends.comes g.waiting);
      beside = turn_beside g s1 n1 (Ok t1) goes;
    }

    -- a turn ended with a fault or for want of memory, and so did the visit of the root
    pub stops : {t : Turn} (g : Going nodes moment root first t stack s0 s n0 n whole) (s1 : Scene) (n1 : List Note) (e : Stop NodeFault) →
        Goes nodes moment g.term g.view g.uid (Err e) s s1 n n1 g.next → Meets {A = Answer} nodes moment (memory_of root first) (Err e) s0 s1 n0 n1 whole
    stops g s1 n1 e goes =
        met_after nodes moment (memory_of root first) s0 s s1 n0 n n1 whole (resume g.waiting g.next) (Err e) g.comes
        (all_stops nodes moment root first e s s1 n n1 stack g.waiting g.term g.view g.uid g.next
        (stack_stays nodes moment root first s s1 stack g.waiting g.term g.view g.uid g.stands goes.beside goes.stays) goes.ends)

    -- a frame is put on the stack, and the child is entered
    pub entered : {frame : Frame} (g : Going nodes moment root first (turn.Wait frame) stack s0 s n0 n whole) → Going nodes moment root first (turn.Enter frame.child) (stack ++ frame ∷ []) s0 s n0 n whole
    entered {frame} g =
        let by : WaitsBy nodes moment g.term g.view frame.uid frame s g.next =
        subst (λ (u : ℕ). WaitsBy nodes moment g.term g.view u frame s g.next) (sym g.does.here) g.does in
        let under : StackIs nodes moment s root first stack g.waiting g.term g.view frame.uid =
        subst (λ (u : ℕ). StackIs nodes moment s root first stack g.waiting g.term g.view u) (sym g.does.here) g.stands in
        let w : Waiting = now_waiting g.term g.view frame s g.next by in
        let next : Done Answer Memory = visit_in nodes moment (child_of_waiting w) (view_under g.view frame.uid (written (out-Term g.term))) frame.child s in
        let come = waits_as g.term g.view frame s g.next by in
        record {
          waiting = w ∷ g.waiting;
          term = child_of_waiting w;
          view = view_under g.view frame.uid (written (out-Term g.term));
          uid = frame.child;
          next = next;
          does = (refl, child_can g.term g.view frame s g.next by, refl);
          stands = (stack, refl, now_waits g.term g.view frame s g.next by, under);
          leaves = (child_leaves g.term g.view frame s g.next by, subst (λ (d : Done Answer Memory). AllLeave g.waiting d) come g.leaves);
          comes = subst (λ (d : Done Answer Memory). Comes nodes s0 s n0 n whole (resume g.waiting d)) come g.comes;
          beside = g.beside;
        }

    -- a frame is taken from the stack, and its node hears the answer
    pub heard : {a : Answer} (frame : Frame) → Going nodes moment root first (turn.Back a) (stack ++ frame ∷ []) s0 s n0 n whole →
        Going nodes moment root first (turn.GoOn (record { uid = frame.uid; memo = frame.memo; heard = Answered frame.place a })) stack s0 s n0 n whole
    heard {a} frame g = by g.waiting g.stands g.leaves g.comes where
      by : (ws : List Waiting) → StackIs nodes moment s root first (stack ++ frame ∷ []) ws g.term g.view g.uid → AllLeave ws g.next → Comes nodes s0 s n0 n whole (resume ws g.next) →
          Going nodes moment root first (turn.GoOn (record { uid = frame.uid; memo = frame.memo; heard = Answered frame.place a })) stack s0 s n0 n whole
      by [] stands leaves comes = absurd (none_from_push stack frame (sym stands.0))
      by (w ∷ ws) (under, is, waits, more) leaves comes =
          let same = same_from_push stack under frame w.frame is in
          let d : Done Answer Memory = answered w g.term g.view g.uid s a waits in
          let here : ChildLeaves w d = subst (λ (x : Done Answer Memory). ChildLeaves w x) g.does leaves.0 in
          let step = goes_on_by w g.term g.view g.uid s a waits here in
          subst (λ (f : Frame). Going nodes moment root first (turn.GoOn (record { uid = f.uid; memo = f.memo; heard = Answered f.place a })) stack s0 s n0 n whole) (sym same.1)
          (record {
            waiting = ws;
            term = w.term;
            view = w.view;
            uid = w.frame.uid;
            next = goes_following w d;
            does = step;
            stands = subst (λ (fs : List Frame). StackIs nodes moment s root first fs ws w.term w.view w.frame.uid) (sym same.0) more;
            leaves = subst (λ (x : Done Answer Memory). AllLeave ws (goes_following w x)) g.does leaves.1;
            comes = subst (λ (x : Done Answer Memory). Comes nodes s0 s n0 n whole (resume ws (goes_following w x))) g.does comes;
            beside = g.beside;
          })

  -- ---- The turns, as the loop makes them

  module _ {root : Term} {first : ℕ} {stack : List Frame} {s0 s : Scene} {n0 n : List Note} {whole : Done Answer Memory} where
    abbrev enter_at : {u : ℕ} → Going nodes moment root first (turn.Enter u) stack s0 s n0 n whole → Going nodes moment root first (turn.Enter u) stack s0 s n0 n whole
    enter_at {u} g =
        let here : g.uid ≡ u = sym g.does.0 in
        let come : g.next ≡ visit_in nodes moment g.term g.view u s = g.does.2 ∙ ap (λ (x : ℕ). visit_in nodes moment g.term g.view x s) here in
        record {
          waiting = g.waiting;
          term = g.term;
          view = g.view;
          uid = u;
          next = visit_in nodes moment g.term g.view u s;
          does = (refl, subst (λ (x : ℕ). CanVisit nodes moment g.term g.view x s) here g.does.1, refl);
          stands = subst (λ (x : ℕ). StackIs nodes moment s root first stack g.waiting g.term g.view x) here g.stands;
          leaves = subst (λ (d : Done Answer Memory). AllLeave g.waiting d) come g.leaves;
          comes = subst (λ (d : Done Answer Memory). Comes nodes s0 s n0 n whole (resume g.waiting d)) come g.comes;
          beside = g.beside;
        }

    abbrev step_at : {step : Step} → Going nodes moment root first (turn.GoOn step) stack s0 s n0 n whole → Going nodes moment root first (turn.GoOn step) stack s0 s n0 n whole
    step_at {step} g = record {
      waiting = g.waiting;
      term = g.term;
      view = g.view;
      uid = step.uid;
      next = g.next;
      does = subst (λ (x : ℕ). GoesOnBy nodes moment g.term g.view x step s g.next) (sym g.does.here) g.does;
      stands = subst (λ (x : ℕ). StackIs nodes moment s root first stack g.waiting g.term g.view x) (sym g.does.here) g.stands;
      leaves = g.leaves;
      comes = g.comes;
      beside = g.beside;
    }

    abbrev pub as_turn : {t t1 : Turn} → t ≡ t1 → Going nodes moment root first t stack s0 s n0 n whole → Going nodes moment root first t1 stack s0 s n0 n whole
    as_turn is g = subst (λ (x : Turn). Going nodes moment root first x stack s0 s n0 n whole) is g

    pub on_stack : {t : Turn} {stack1 : List Frame} → stack ≡ stack1 → Going nodes moment root first t stack s0 s n0 n whole → Going nodes moment root first t stack1 s0 s n0 n whole
    on_stack {t} is g = subst (λ (fs : List Frame). Going nodes moment root first t fs s0 s n0 n whole) is g

    pub can_enter : {t : Turn} {u : ℕ} → t ≡ turn.Enter u → Going nodes moment root first t stack s0 s n0 n whole → (term : Term) × (view : View) × CanVisit nodes moment term view u s
    can_enter is g = let h = enter_at (as_turn is g) in (h.term, h.view, h.does.1)

    pub can_step : {t : Turn} {step : Step} → t ≡ turn.GoOn step → Going nodes moment root first t stack s0 s n0 n whole → (term : Term) × (view : View) × (next : Done Answer Memory) × GoesOnBy nodes moment term view step.uid step s next
    can_step is g = let h = step_at (as_turn is g) in (h.term, h.view, h.next, h.does)

    module _ (s1 : Scene) (n1 : List Note) where
      pub enter_made : {t t1 : Turn} {u : ℕ} → t ≡ turn.Enter u → Going nodes moment root first t stack s0 s n0 n whole →
          ((term : Term) (view : View) → CanVisit nodes moment term view u s → Goes nodes moment term view u (Ok t1) s s1 n n1 (visit_in nodes moment term view u s)) → Going nodes moment root first t1 stack s0 s1 n0 n1 whole
      enter_made is g goes = let h = enter_at (as_turn is g) in made h s1 n1 (goes h.term h.view h.does.1)

      pub enter_stops : {t : Turn} {u : ℕ} (e : Stop NodeFault) → t ≡ turn.Enter u → Going nodes moment root first t stack s0 s n0 n whole →
          ((term : Term) (view : View) → CanVisit nodes moment term view u s → Goes nodes moment term view u (Err e) s s1 n n1 (visit_in nodes moment term view u s)) → Meets {A = Answer} nodes moment (memory_of root first) (Err e) s0 s1 n0 n1 whole
      enter_stops e is g goes = let h = enter_at (as_turn is g) in stops h s1 n1 e (goes h.term h.view h.does.1)

      pub step_made : {t t1 : Turn} {step : Step} → t ≡ turn.GoOn step → Going nodes moment root first t stack s0 s n0 n whole →
          ((term : Term) (view : View) (next : Done Answer Memory) → GoesOnBy nodes moment term view step.uid step s next → Goes nodes moment term view step.uid (Ok t1) s s1 n n1 next) → Going nodes moment root first t1 stack s0 s1 n0 n1 whole
      step_made is g goes = let h = step_at (as_turn is g) in made h s1 n1 (goes h.term h.view h.next h.does)

      pub step_stops : {t : Turn} {step : Step} (e : Stop NodeFault) → t ≡ turn.GoOn step → Going nodes moment root first t stack s0 s n0 n whole →
          ((term : Term) (view : View) (next : Done Answer Memory) → GoesOnBy nodes moment term view step.uid step s next → Goes nodes moment term view step.uid (Err e) s s1 n n1 next) → Meets {A = Answer} nodes moment (memory_of root first) (Err e) s0 s1 n0 n1 whole
      step_stops e is g goes = let h = step_at (as_turn is g) in stops h s1 n1 e (goes h.term h.view h.next h.does)

      pub step_stays : {t : Turn} {step : Step} (r : Result Turn (Stop NodeFault)) → t ≡ turn.GoOn step → Going nodes moment root first t stack s0 s n0 n whole →
          ((term : Term) (view : View) (next : Done Answer Memory) → GoesOnBy nodes moment term view step.uid step s next → Goes nodes moment term view step.uid r s s1 n n1 next) → StaysFit nodes s s1
      step_stays r is g goes = let h = step_at (as_turn is g) in (goes h.term h.view h.next h.does).stays

      pub enter_beside : {t : Turn} {u : ℕ} (r : Result Turn (Stop NodeFault)) → t ≡ turn.Enter u → Going nodes moment root first t stack s0 s n0 n whole →
          ((term : Term) (view : View) → CanVisit nodes moment term view u s → Goes nodes moment term view u r s s1 n n1 (visit_in nodes moment term view u s)) → Beside first (meaning root).size s0.kept s1.kept
      enter_beside r is g goes = let h = enter_at (as_turn is g) in turn_beside h s1 n1 r (goes h.term h.view h.does.1)

      pub step_beside : {t : Turn} {step : Step} (r : Result Turn (Stop NodeFault)) → t ≡ turn.GoOn step → Going nodes moment root first t stack s0 s n0 n whole →
          ((term : Term) (view : View) (next : Done Answer Memory) → GoesOnBy nodes moment term view step.uid step s next → Goes nodes moment term view step.uid r s s1 n n1 next) → Beside first (meaning root).size s0.kept s1.kept
      step_beside r is g goes = let h = step_at (as_turn is g) in turn_beside h s1 n1 r (goes h.term h.view h.next h.does)

    -- want of memory for the stack
    pub cut_here : {t : Turn} → Going nodes moment root first t stack s0 s n0 n whole → Meets {A = Answer} nodes moment (memory_of root first) (Err stop.NoMemory) s0 s n0 n whole
    cut_here g = met_after nodes moment (memory_of root first) s0 s s n0 n n whole (resume g.waiting g.next) (Err stop.NoMemory) g.comes (none_told nodes s n (resume g.waiting g.next))

    pub back_made : {t : Turn} {a : Answer} (frame : Frame) (stack1 : List Frame) (step : Step) → t ≡ turn.Back a → stack ≡ stack1 ++ frame ∷ [] →
        step ≡ record { uid = frame.uid; memo = frame.memo; heard = Answered frame.place a } → Going nodes moment root first t stack s0 s n0 n whole → Going nodes moment root first (turn.GoOn step) stack1 s0 s n0 n whole
    back_made {a = a} frame stack1 step is popped hears g =
        subst (λ (x : Step). Going nodes moment root first (turn.GoOn x) stack1 s0 s n0 n whole) (sym hears)
        (heard frame (subst (λ (fs : List Frame). Going nodes moment root first (turn.Back a) fs s0 s n0 n whole) popped (as_turn is g)))

    pub back_answers : {t : Turn} {a : Answer} → t ≡ turn.Back a → stack ≡ [] → Going nodes moment root first t stack s0 s n0 n whole → Meets nodes moment (memory_of root first) (Ok a) s0 s n0 n whole
    back_answers {a = a} is empty g = answers (subst (λ (fs : List Frame). Going nodes moment root first (turn.Back a) fs s0 s n0 n whole) empty (as_turn is g))

-- ---- After a visit

-- after a visit the term can be visited again, and its status is that of its answer
pub can_again : (keeps : (t : Term) → Keeps (meaning t) (Sound t)) (nodes : List Node) (moment : ℕ) (term : Term) (view : View) (uid : ℕ) (s s1 : Scene) (n0 n1 : List Note) (a : Answer) →
    CanVisit nodes moment term view uid s → StaysFit nodes s s1 → Meets nodes moment (memory_of term uid) (Ok a) s s1 n0 n1 (visit_in nodes moment term view uid s) → CanVisit nodes moment term view uid s1
can_again keeps nodes moment term view uid s s1 n0 n1 a can stays m =
    let d : Done Answer Memory = visit_in nodes moment term view uid s in
    let left = (keeps term).visit view uid (memory_in term uid s) (state_in nodes s moment) can.sound in
    let sound : Sound term view.rows None uid d.memory d.state = subst (λ (r : Result Answer NodeFault). Sound term view.rows (fault_of r) uid d.memory d.state) m.0.answer left.sound in
    record {
      fits = stays term view uid can.fits;
      sound = subst (λ (x : Memory). Sound term view.rows None uid x (state_in nodes s1 moment)) m.0.memory (subst (λ (x : State). Sound term view.rows None uid d.memory x) m.0.state sound);
      dated = subst Dated m.0.state (left.within.dated can.dated);
    }
