-- A node that asks first: its start, the visit of its first child, and its end.
use Rattle.std.proofs.Common.{length, ◌≡◌, ℕ, zero, suc, ◌+◌, ◌-◌, ◌<◌, ◌≤◌, ◌^◌, ℤ, true, false, ◌||◌, List, [], ◌∷◌, ◌++◌, refl, sym, ap, subst, ◌∙◌, arith, slice_set, Option, Some, None, Result, Ok, Err}
use Rattle.std.specs.Prelude.{IsErrAnd, IsTrue, is_some}
use Rattle.base_texts.specs.declared.stop.Stop.{Stop}
use Rattle.base_texts.specs.declared.stop.Stop.TheVariants as stop
use Rattle.spec_script.specs.declared.syntax.Script.{Script}
use Rattle.spec_script.specs.declared.value.Value.{Value}
use Rattle.spec_run.specs.declared.fault.NodeFault.{NodeFault}
use Rattle.spec_run.specs.declared.memory.Memo.{Memo}
use Rattle.spec_run.specs.declared.memory.Memo.TheVariants.{Index, Nothing}
use Rattle.spec_run.specs.declared.memory.Memory.{Memory}
use Rattle.spec_run.specs.declared.moves.Heard.TheVariants.{Answered, Begin}
use Rattle.spec_run.specs.declared.moves.Span.TheVariants as span
use Rattle.spec_run.specs.declared.moves.Then.TheVariants as then_
use Rattle.spec_run.specs.declared.note.Note.{Note}
use Rattle.spec_run.specs.declared.note.Note.TheVariants.{Changed}
use Rattle.spec_run.specs.declared.status.Answer.{Answer}
use Rattle.spec_run.specs.declared.status.Answer.TheVariants as answer
use Rattle.spec_run.specs.declared.status.Status.{Status}
use Rattle.spec_run.specs.declared.status.Status.TheVariants as status
use Rattle.spec_tree.specs.declared.term.Kind.{Kind}
use Rattle.spec_tree.specs.declared.term.Kind.TheVariants.{Leaf, ReactiveFallback}
use Rattle.spec_tree.specs.declared.term.Term.{Term, out-Term}
use Rattle.spec_tree.specs.BuiltIns.{has_rule, takes}
use Rattle.spec_run.specs.Done.{Done, State, done}
use Rattle.spec_run.specs.Drivers.{DriverState}
use Rattle.base_tables.specs.Moves.{GoesOn, after, hears, makes, rest, visits_left}
use Rattle.spec_run.specs.Ports.{new_memo, picked}
use Rattle.spec_run.specs.Rules.Sequences.{reactive_end, round, round_after}
use Rattle.spec_run.specs.NodeScripts.{goes_on, guard, guards_answer}
use Rattle.spec_run.specs.NodeScripts.{goes_on_by as goes_on_with}
use Rattle.base_tables.specs.Shapes.{is_running}
use Rattle.spec_run.specs.Sites.{Site, View}
use Rattle.spec_run.specs.Steps.{visit}
use Rattle.spec_run.specs.Visit.{meaning, or_bad_port, remembers, starts}
use Rattle.run_arena.specs.declared.frame.Frame.{Frame}
use Rattle.run_arena.specs.declared.nodes.Kept.{Kept}
use Rattle.run_arena.specs.declared.nodes.Node.{Node}
use Rattle.run_arena.specs.declared.nodes.ReadyGuards.{ReadyGuards}
use Rattle.run_arena.specs.Ends.{Meets, StaysFit}
use Rattle.run_arena.specs.Nodes.{AreCompiled, has_before, kept_at, node_at}
use Rattle.run_arena.specs.Scenes.{Fits, Scene, scene, state_in}
use Rattle.run_arena.specs.Stands.{Beside, memory_of, view_under, written}
use Rattle.run_arena.proofs.Staged.{beside_both, beside_none}
use Rattle.run_arena.proofs.Opened.{size_out}
use Rattle.run_nodes.proofs.AboutHalting.Within.{stands_within}
use Rattle.run_laws.proofs.Children.{Keeps}
use Rattle.base_tables.specs.Sound.{Sound}
use Rattle.run_nodes.specs.Here.{ruled_in, site_at}
use Rattle.run_nodes.proofs.Following.{stops_with}
use Rattle.run_nodes.proofs.Standing.{beside_one}
use Rattle.run_tick.specs.Asking.{back_with, first_frame, hears_first, waits_first}
use Rattle.run_tick.specs.Machine.{Step, Turn}
use Rattle.run_tick.specs.Machine as turn
use Rattle.run_tick.specs.Turns.{CanFollow, CanVisit, ChildLeaves, Comes, Goes, GoesOnBy, StackIs, Waiting, child_of_waiting, goes_following, kind_of, number, passes_over, started_in, turn_work, visit_in}
use Rattle.run_tick.proofs.Bounds.{begins_less}
use Rattle.run_tick.proofs.Entering.{again_so, alone_goes, begin_goes, can_keep, can_run, goes_after, goes_follow, guards_here, here2, keeps_so, number_few, one_within, resume_goes, start_made, start_stops, starts_stopped, stays_twice}
use Rattle.run_tick.proofs.Frames.{all_stops, beside_root, leave_comes, resume_comes, stack_stays}
use Rattle.run_tick.proofs.Moving.{kind_is, node_fits, none_reset, number_is, size_is, step_turned}
use Rattle.run_tick.proofs.Passing.{comes_both, met_after}
use Rattle.run_tick.proofs.Stacks.{child_can, child_leaves, goes_on_by, now_waiting, now_waits, waits_as}

-- ---- Guards

-- without a guard before a visit, none of the four is there ..
silent : (a b c d : Option Script) (site : Site) (s : State) → (is_some a || (is_some b || (is_some c || is_some d))) ≡ false →
    guard site a true answer.Failure (guard site b true answer.Success (guard site c true answer.Skipped (guard site d false answer.Skipped (λ s1. done None tt s1)))) s ≡ done None tt s
silent None None None None site s e = refl
silent (Some x) b c d site s e = cc
silent None (Some x) c d site s e = cc
silent None None (Some x) d site s e = cc
silent None None None (Some x) site s e = cc

still : (a b c d : Option Script) (site : Site) (s : State) → (is_some a || (is_some b || (is_some c || is_some d))) ≡ false → goes_on_with site d s ≡ done true tt s
still None None None None site s e = refl
still (Some x) b c d site s e = cc
still None (Some x) c d site s e = cc
still None None (Some x) d site s e = cc
still None None None (Some x) site s e = cc

-- .. so none answers, and a RUNNING node goes on
module _ {view : View} (ready : ReadyGuards) (site : Site) (s : State) (compiled : AreCompiled view site.node.guards ready) (none : ready.before ≡ false) where
  none_there : has_before site.node.guards ≡ false
  none_there = sym compiled.before ∙ none

  none_answers : guards_answer site s ≡ done None tt s
  none_answers = silent site.node.guards.failure_if site.node.guards.success_if site.node.guards.skip_if site.node.guards.while_true site s none_there

  none_stops : goes_on site s ≡ done true tt s
  none_stops = still site.node.guards.failure_if site.node.guards.success_if site.node.guards.skip_if site.node.guards.while_true site s none_there

-- ---- The visit of a leaf

module _ (keeps : (t : Term) → Keeps (meaning t) (Sound t)) (nodes : List Node) (moment : ℕ) (term : Term) (view : View) (uid : ℕ) (s : Scene) (can : CanVisit nodes moment term view uid s)
    (leaf : (node_at nodes uid).kind ≡ Leaf) (none : (node_at nodes uid).guards.before ≡ false) where
  leaf_is : kind_of term ≡ Leaf
  leaf_is = sym (kind_is can.fits) ∙ leaf

  guards_are : AreCompiled view (site_at view uid term).node.guards (node_at nodes uid).guards
  guards_are = guards_here term view uid nodes s can.fits (node_at nodes uid) refl (node_at nodes uid).guards refl

  none_starts : starts (kind_of term) (kept_at s.kept uid).memo ≡ false
  none_starts = ap (λ (k : Kind). starts k (kept_at s.kept uid).memo) leaf_is

  pub leaf_follows : CanFollow nodes moment term view uid s
  leaf_follows = by (kept_at s.kept uid).status refl where
    by : (x : Status) → (kept_at s.kept uid).status ≡ x → CanFollow nodes moment term view uid s
    by status.Running is = can_run keeps nodes moment term view uid s can is
    by status.Idle is = can_keep keeps nodes moment term view uid s can (ap is_running is) none_starts
    by status.Success is = can_keep keeps nodes moment term view uid s can (ap is_running is) none_starts
    by status.Failure is = can_keep keeps nodes moment term view uid s can (ap is_running is) none_starts

  -- with no guard before it, the visit of a leaf is what its rule says
  pub leaf_goes : (r : Result Answer (Stop NodeFault)) (s1 : Scene) (n0 n1 : List Note) → StaysFit nodes s s1 → Beside uid 1 s.kept s1.kept →
      Meets nodes moment (memory_of term uid) r s s1 n0 n1 (ruled_in nodes moment term view uid s) → Goes nodes moment term view uid (back_with r) s s1 n0 n1 (visit_in nodes moment term view uid s)
  leaf_goes r s1 n0 n1 stays beside meets = by (kept_at s.kept uid).status refl where
    ruled : Goes nodes moment term view uid (back_with r) s s1 n0 n1 (ruled_in nodes moment term view uid s)
    ruled = alone_goes leaf_follows r s1 n0 n1 stays beside meets

    rested : is_running (kept_at s.kept uid).status ≡ false → Goes nodes moment term view uid (back_with r) s s1 n0 n1 (visit_in nodes moment term view uid s)
    rested rests =
        begin_goes nodes moment term view uid s.kept s.board s.board s.facts s.drivers n0 refl rests None (none_answers (node_at nodes uid).guards (site_at view uid term) (state_in nodes s moment) guards_are none)
        (ruled_in nodes moment term view uid s) (keeps_so nodes moment term view uid s.kept s.board s.board s.facts s.drivers n0 refl None refl none_starts) (back_with r) s1 n1 ruled

    by : (x : Status) → (kept_at s.kept uid).status ≡ x → Goes nodes moment term view uid (back_with r) s s1 n0 n1 (visit_in nodes moment term view uid s)
    by status.Running is =
        resume_goes nodes moment term view uid s.kept s.board s.board s.facts s.drivers n0 refl is true (none_stops (node_at nodes uid).guards (site_at view uid term) (state_in nodes s moment) guards_are none)
        (ruled_in nodes moment term view uid s) (again_so nodes moment term view uid s.kept s.board s.board s.facts s.drivers n0 refl is true refl) (back_with r) s1 n1 ruled
    by status.Idle is = rested (ap is_running is)
    by status.Success is = rested (ap is_running is)
    by status.Failure is = rested (ap is_running is)

-- ---- The moves

-- a ReactiveFallback begins with the visit of its first child
first_move : (n which now : ℕ) (memo : Memo) → IsTrue (takes ReactiveFallback n) →
    rest ReactiveFallback n now memo (Begin which) ≡ makes (hears ReactiveFallback) (after ReactiveFallback n now) (Index 0 false) (record { reset = span.None; then = then_.Visit 0 })
first_move zero which now memo takes_so = cc
first_move (suc n) which now memo takes_so =
    let left : n ≡ suc n - 1 = omega arith in
    ap (λ (m : ℕ). visit 0 (λ a. round_after answer.Failure (reactive_end answer.Failure) 0 false (λ b. round answer.Failure (reactive_end answer.Failure) m 1 b) a)) left

first_onward : (n : ℕ) (memo : Memo) → IsTrue (takes ReactiveFallback n) → GoesOn ReactiveFallback n memo 0 (Index 0 false) (then_.Visit 0)
first_onward zero memo takes_so = cc
first_onward (suc n) memo takes_so = (omega arith, refl, omega arith)

-- and ends with a SUCCESS of it
pub last_move : (kind : Kind) (n now : ℕ) → kind ≡ ReactiveFallback →
    rest kind n now (Index 0 false) (Answered 0 answer.Success) ≡ makes (hears kind) (after kind n now) Nothing (record { reset = span.All; then = then_.Give answer.Success })
last_move kind n now is =
    subst (λ (k : Kind). rest k n now (Index 0 false) (Answered 0 answer.Success) ≡ makes (hears k) (after k n now) Nothing (record { reset = span.All; then = then_.Give answer.Success })) (sym is) refl

-- a ReactiveFallback has a first child
some_child : (n : ℕ) → IsTrue (takes ReactiveFallback n) → 0 < n
some_child zero takes_so = cc
some_child (suc n) takes_so = omega arith

pub first_there : (term : Term) (view : View) (uid : ℕ) (nodes : List Node) (s : Scene) → Fits term view uid nodes s → (node : Node) → node ≡ node_at nodes uid → node.kind ≡ ReactiveFallback → uid + 1 < length nodes
first_there term view uid nodes s fits node is asks =
    let kind : kind_of term ≡ ReactiveFallback = sym (ap (λ (n : Node). n.kind) is ∙ kind_is fits) ∙ asks in
    let takes_so : IsTrue (takes ReactiveFallback (number term)) = (λ i. takes (sym kind i) (number term)) ∙ (node_fits fits).children in
    omega (arith, some_child (number term) takes_so, number_few (out-Term term).children, size_out term, stands_within term nodes view uid fits.stands)

-- ---- The start

module _ (keeps : (t : Term) → Keeps (meaning t) (Sound t)) (nodes : List Node) (moment : ℕ) (term : Term) (view : View) (uid : ℕ) (kept kept1 kept2 : List Kept) (board : List (Option Value)) (facts : List ℤ) (drivers : List DriverState) (n0 n1 : List Note)
    (can : CanVisit nodes moment term view uid (scene kept board facts drivers)) (kind : (node_at nodes uid).kind ≡ ReactiveFallback) where
  is_asking : kind_of term ≡ ReactiveFallback
  is_asking = sym (kind_is can.fits) ∙ kind

  takes_so : IsTrue (takes ReactiveFallback (node_at nodes uid).children)
  takes_so = (λ i. takes (sym is_asking i) (number_is can.fits i)) ∙ (node_fits can.fits).children

  abbrev s0 : Scene
  s0 = scene kept board facts drivers

  abbrev s2 : Scene
  s2 = scene kept2 board facts drivers

  abbrev frame : Frame
  frame = first_frame uid

  -- the rule begins, and waits for the first child
  waits : CanFollow nodes moment term view uid s2 → (kept_at kept2 uid).memo ≡ Index 0 false → Goes nodes moment term view uid (Ok (turn.Wait frame)) s2 s2 n1 n1 (ruled_in nodes moment term view uid s2)
  waits follow memo_is =
      let with_rule : has_rule (kind_of term) ≡ true = ap has_rule is_asking in
      let picks : Ok 0 ≡ or_bad_port uid (picked (kind_of term) (site_at view uid term) (kept_at kept2 uid).memo (state_in nodes s2 moment)) =
      ap (λ (k : Kind). or_bad_port uid (picked k (site_at view uid term) (kept_at kept2 uid).memo (state_in nodes s2 moment))) (sym is_asking) in
      let begins = goes_follow follow with_rule n1 0 picks in
      let step : Step = record { uid = uid; memo = (kept_at kept2 uid).memo; heard = Begin 0 } in
      let by : GoesOnBy nodes moment term view step.uid step s2 begins.ends.next = begins.ends.does in
      let here : Node = node_at nodes uid in
      let moves : rest here.kind here.children moment step.memo step.heard ≡ makes (hears here.kind) (after here.kind here.children moment) (Index 0 false) (record { reset = span.None; then = then_.Visit 0 }) =
      subst (λ (k : Kind). rest k here.children moment step.memo step.heard ≡ makes (hears k) (after k here.children moment) (Index 0 false) (record { reset = span.None; then = then_.Visit 0 })) (sym kind)
      (first_move here.children 0 moment step.memo takes_so) in
      let onward : GoesOn here.kind here.children step.memo 0 (Index 0 false) (then_.Visit 0) =
      subst (λ (k : Kind). GoesOn k here.children step.memo 0 (Index 0 false) (then_.Visit 0)) (sym kind) (first_onward here.children step.memo takes_so) in
      let wait = step_turned keeps nodes moment term view step s2 begins.ends.next by here refl (Index 0 false) (record { reset = span.None; then = then_.Visit 0 }) moves onward s2 n1 n1
      (λ t v u fits. fits) (beside_none _ _ _) (none_reset nodes moment term view uid s2 n1 span.None refl)
      0 (uid + 1) refl (omega arith) false (ap (λ (k : Kind). passes_over k (kept_at kept2 (uid + 1)).status) is_asking) (turn.Wait frame) refl in
      goes_after nodes moment term view uid (Ok (turn.Wait frame)) s2 s2 s2 n1 n1 n1 (ruled_in nodes moment term view uid s2) begins.ends.next begins.ends.comes
      (beside_none uid (meaning term).size kept2) (λ t v u fits. fits) wait

  module _ (rests : is_running (kept_at kept uid).status ≡ false) where
    it_starts : starts (kind_of term) (kept_at kept uid).memo ≡ true
    it_starts = ap (λ (k : Kind). starts k (kept_at kept uid).memo) is_asking

    -- there was want of memory for the note of the start
    pub asks_stopped : (r : Result (Unit {0}) (Stop NodeFault)) → IsErrAnd r (λ x. x ≡ stop.NoMemory) → n1 ≡ n0 → Goes nodes moment term view uid (waits_first uid r) s0 s0 n0 n1 (started_in nodes moment term view uid s0)
    asks_stopped r is same =
        subst (λ (x : Result (Unit {0}) (Stop NodeFault)). Goes nodes moment term view uid (waits_first uid x) s0 s0 n0 n1 (started_in nodes moment term view uid s0)) (sym (stops_with r stop.NoMemory is))
        (start_stops nodes moment term view uid stop.NoMemory s0 s0 n0 n1 (λ t v u fits. fits) (beside_none uid 1 kept) (starts_stopped nodes moment term view uid s0 n0 n1 (Err stop.NoMemory) refl same))

    -- the node has started, and waits for its first child
    pub asks_waits : n1 ≡ n0 ++ Changed uid (kept_at kept uid).status status.Running ∷ [] → (is1 : kept1 ≡ slice_set kept uid (record (kept_at kept uid) { status = status.Running })) →
        (is2 : kept2 ≡ slice_set kept1 uid (record (kept_at kept1 uid) { memo = Index 0 false })) → Goes nodes moment term view uid (Ok (turn.Wait frame)) s0 s2 n0 n1 (started_in nodes moment term view uid s0)
    asks_waits noted is1 is2 =
        let new : Ok (Index 0 false) ≡ or_bad_port uid (new_memo (kind_of term) (site_at view uid term) (remembers (kept_at kept uid).status (kept_at kept1 uid).memo) (state_in nodes s0 moment)) =
        ap (λ (k : Kind). or_bad_port uid (new_memo k (site_at view uid term) (remembers (kept_at kept uid).status (kept_at kept1 uid).memo) (state_in nodes s0 moment))) (sym is_asking) in
        let started = start_made keeps nodes moment term view uid kept kept1 board facts drivers n0 n1 can rests noted is1 kept2 (Index 0 false) is2 it_starts new in
        let memo_is : (kept_at kept2 uid).memo ≡ Index 0 false = ap (λ (k : Kept). k.memo) (here2 keeps nodes moment term view uid kept kept1 board facts drivers n0 n1 can rests noted is1 kept2 (Index 0 false) is2) in
        let beside : Beside uid 1 kept kept2 =
        beside_both (beside_one kept kept1 uid (record (kept_at kept uid) { status = status.Running }) is1) (beside_one kept1 kept2 uid (record (kept_at kept1 uid) { memo = Index 0 false }) is2) (omega arith) (omega arith) (omega arith) (omega arith) in
        goes_after nodes moment term view uid (Ok (turn.Wait frame)) s0 s2 s2 n0 n1 n1 (started_in nodes moment term view uid s0) (ruled_in nodes moment term view uid s2) started.1
        (one_within term uid kept kept2 beside) (stays_twice nodes uid kept kept1 kept2 board facts drivers is1 (Index 0 false) is2) (waits started.0 memo_is)

  -- what is still to come after an answer of that child is less than the visit
  pub asks_less : (a : Answer) → turn_work nodes (turn.GoOn (hears_first uid a)) < turn_work nodes (turn.Enter uid)
  asks_less a =
      let many : number term < 2 ^ 30 = omega (arith, number_few (out-Term term).children, size_out term, stands_within term nodes view uid can.fits.stands, can.fits.few) in
      let few : visits_left (node_at nodes uid).kind (node_at nodes uid).children (Index 0 false) 1 ≤ 2 ^ 32 + 1 =
      subst (λ (k : Kind). visits_left k (node_at nodes uid).children (Index 0 false) 1 ≤ 2 ^ 32 + 1) (sym kind) (omega (arith, many, number_is can.fits)) in
      begins_less (node_at nodes uid) (Index 0 false) 1 (omega (arith, size_is can.fits, size_out term)) few

-- ---- The child

module _ (keeps : (t : Term) → Keeps (meaning t) (Sound t)) (nodes : List Node) (moment : ℕ) (term : Term) (view : View) (frame : Frame) (s0 s1 : Scene) (n0 n1 : List Note) (whole : Done Answer Memory)
    (goes1 : Goes nodes moment term view frame.uid (Ok (turn.Wait frame)) s0 s1 n0 n1 whole) where
  abbrev waiting : Waiting
  waiting = now_waiting keeps nodes moment term view frame s1 goes1.ends.next goes1.ends.does

  abbrev pub asked : Term
  asked = child_of_waiting waiting

  abbrev pub asked_view : View
  asked_view = view_under view frame.uid (written (out-Term term))

  abbrev asked_visit : Done Answer Memory
  asked_visit = visit_in nodes moment asked asked_view frame.child s1

  -- the child can be visited
  pub asked_can : CanVisit nodes moment asked asked_view frame.child s1
  asked_can = child_can keeps nodes moment term view frame s1 goes1.ends.next goes1.ends.does

  stands : StackIs nodes moment s1 term frame.uid (frame ∷ []) (waiting ∷ []) asked asked_view frame.child
  stands = ([], refl, now_waits keeps nodes moment term view frame s1 goes1.ends.next goes1.ends.does, (refl, refl, refl))

  came : Comes nodes s0 s1 n0 n1 whole (goes_following waiting asked_visit)
  came = subst (λ (d : Done Answer Memory). Comes nodes s0 s1 n0 n1 whole d) (waits_as keeps nodes moment term view frame s1 goes1.ends.next goes1.ends.does) goes1.ends.comes

  module _ (s2 : Scene) (n2 : List Note) where
    beside_here : Beside frame.child (meaning asked).size s1.kept s2.kept → StaysFit nodes s1 s2 → Beside frame.uid (meaning term).size s0.kept s2.kept
    beside_here beside stays =
        beside_both goes1.beside (beside_root nodes moment term frame.uid s1 s2 (frame ∷ []) (waiting ∷ []) asked asked_view frame.child stands beside stays) (omega arith) (omega arith) (omega arith) (omega arith)

    -- its visit stopped, and so did that of the node
    pub asked_stops : (e : Stop NodeFault) → Goes nodes moment asked asked_view frame.child (Err e) s1 s2 n1 n2 asked_visit → Goes nodes moment term view frame.uid (Err e) s0 s2 n0 n2 whole
    asked_stops e goes = record {
      ends =
          met_after nodes moment (memory_of term frame.uid) s0 s1 s2 n0 n1 n2 whole (goes_following waiting asked_visit) (Err e) came
          (all_stops nodes moment term frame.uid e s1 s2 n1 n2 (frame ∷ []) (waiting ∷ []) asked asked_view frame.child asked_visit
          (stack_stays nodes moment term frame.uid s1 s2 (frame ∷ []) (waiting ∷ []) asked asked_view frame.child stands goes.beside goes.stays) goes.ends);
      beside = beside_here goes.beside goes.stays;
      stays = λ t v u fits. goes.stays t v u (goes1.stays t v u fits);
    }

    -- it has answered, and the node hears this
    pub asked_hears : (a : Answer) → Goes nodes moment asked asked_view frame.child (Ok (turn.Back a)) s1 s2 n1 n2 asked_visit →
        Goes nodes moment term view frame.uid (Ok (turn.GoOn (record { uid = frame.uid; memo = frame.memo; heard = Answered frame.place a }))) s0 s2 n0 n2 whole
    asked_hears a goes =
        let (below, is, waits, more) = stack_stays nodes moment term frame.uid s1 s2 (frame ∷ []) (waiting ∷ []) asked asked_view frame.child stands goes.beside goes.stays in
        let given : Done Answer Memory = done a (memory_of asked frame.child s2.kept) (state_in nodes s2 moment) in
        let left = leave_comes goes.ends.comes (waiting ∷ []) (child_leaves keeps nodes moment term view frame s1 goes1.ends.next goes1.ends.does, tt) in
        let leaves : ChildLeaves waiting given = subst (λ (d : Done Answer Memory). ChildLeaves waiting d) goes.ends.does left.0 in
        record {
          ends = record {
            next = goes_following waiting given;
            does = goes_on_by keeps nodes moment waiting asked asked_view frame.child s2 a waits leaves;
            comes = comes_both nodes s0 s1 s2 n0 n1 n2 whole (goes_following waiting asked_visit) (goes_following waiting given) came
                (subst (λ (d : Done Answer Memory). Comes nodes s1 s2 n1 n2 (goes_following waiting asked_visit) (goes_following waiting d)) goes.ends.does (resume_comes goes.ends.comes (waiting ∷ [])));
          };
          beside = beside_here goes.beside goes.stays;
          stays = λ t v u fits. goes.stays t v u (goes1.stays t v u fits);
        }

-- a node that goes on after what was done before
pub goes_further : (nodes : List Node) (moment : ℕ) (term : Term) (view : View) (step : Step) (r : Result Turn (Stop NodeFault)) (s0 s1 s2 : Scene) (n0 n1 n2 : List Note) (whole : Done Answer Memory) →
    Goes nodes moment term view step.uid (Ok (turn.GoOn step)) s0 s1 n0 n1 whole →
    ((t : Term) (v : View) (rest : Done Answer Memory) → GoesOnBy nodes moment t v step.uid step s1 rest → Goes nodes moment t v step.uid r s1 s2 n1 n2 rest) →
    Goes nodes moment term view step.uid r s0 s2 n0 n2 whole
goes_further nodes moment term view step r s0 s1 s2 n0 n1 n2 whole goes on =
    goes_after nodes moment term view step.uid r s0 s1 s2 n0 n1 n2 whole goes.ends.next goes.ends.comes goes.beside goes.stays (on term view goes.ends.next goes.ends.does)

-- an end with this fault or for want of memory
pub backed_with : (nodes : List Node) (moment : ℕ) (term : Term) (view : View) (uid : ℕ) (r : Result Answer (Stop NodeFault)) (e : Stop NodeFault) (s s1 : Scene) (n0 n1 : List Note) (d : Done Answer Memory) →
    IsErrAnd r (λ x. x ≡ e) → Goes nodes moment term view uid (Err e) s s1 n0 n1 d → Goes nodes moment term view uid (back_with r) s s1 n0 n1 d
backed_with nodes moment term view uid r e s s1 n0 n1 d is goes = subst (λ (x : Result Answer (Stop NodeFault)). Goes nodes moment term view uid (back_with x) s s1 n0 n1 d) (sym (stops_with r e is)) goes

-- a node hears the answer of its first child with the memo that it keeps
pub hears_kept : (nodes : List Node) (moment : ℕ) (term : Term) (view : View) (uid : ℕ) (a : Answer) (memo : Memo) → memo ≡ Index 0 false → (s s1 : Scene) (n0 n1 : List Note) (d : Done Answer Memory) →
    Goes nodes moment term view uid (Ok (turn.GoOn (hears_first uid a))) s s1 n0 n1 d → Goes nodes moment term view uid (Ok (turn.GoOn (record { uid = uid; memo = memo; heard = Answered 0 a }))) s s1 n0 n1 d
hears_kept nodes moment term view uid a memo is s s1 n0 n1 d goes =
    subst (λ (m : Memo). Goes nodes moment term view uid (Ok (turn.GoOn (record { uid = uid; memo = m; heard = Answered 0 a }))) s s1 n0 n1 d) (sym is) goes

pub less_kept : (nodes : List Node) (uid : ℕ) (a : Answer) (memo : Memo) → memo ≡ Index 0 false → turn_work nodes (turn.GoOn (hears_first uid a)) < turn_work nodes (turn.Enter uid) →
    turn_work nodes (turn.GoOn (record { uid = uid; memo = memo; heard = Answered 0 a })) < turn_work nodes (turn.Enter uid)
less_kept nodes uid a memo is less = subst (λ (m : Memo). turn_work nodes (turn.GoOn (record { uid = uid; memo = m; heard = Answered 0 a })) < turn_work nodes (turn.Enter uid)) (sym is) less
