-- The frame on top of a stack, and those below it.
use Rattle.std.proofs.Common.{◌≡◌, ℕ, ◌+◌, ◌-◌, ◌<◌, ◌≤◌, List, [], ◌∷◌, ◌++◌, length, take, drop, refl, sym, ap, subst, ◌∙◌, arith, Result, Ok, Err}
use Rattle.std.proofs.Math.Seq.{get_or-append_seam, set-append_seam, take-append_seam}
use Rattle.std.proofs.lemmas.List.{length-append}
use Rattle.std.proofs.lemmas.List.Sums.{sum_by-append}
use Rattle.std.specs.List.{refill}
use Rattle.std.specs.Prelude.{IsErrAnd, slice_index_or, slice_set}
use Rattle.base_texts.specs.declared.stop.Stop.{Stop}
use Rattle.spec_run.specs.declared.fault.NodeFault.{NodeFault}
use Rattle.spec_run.specs.declared.memory.Memo.TheVariants.{Nothing}
use Rattle.spec_run.specs.declared.memory.Memory.{Memory}
use Rattle.spec_run.specs.declared.moves.Heard.{Heard}
use Rattle.spec_run.specs.declared.moves.Heard.TheVariants.{Answered}
use Rattle.spec_run.specs.declared.note.Note.{Note}
use Rattle.spec_run.specs.declared.status.Answer.{Answer}
use Rattle.spec_tree.specs.declared.term.Term.{Term}
use Rattle.spec_run.specs.Done.{Done}
use Rattle.base_tables.specs.Sound.{Sound}
use Rattle.spec_run.specs.Visit.{meaning}
use Rattle.run_laws.proofs.Children.{Keeps}
use Rattle.run_arena.specs.Nodes.{node_at}
use Rattle.run_arena.specs.declared.nodes.Node.{Node}
use Rattle.run_arena.specs.Ends.{Meets, StaysFit}
use Rattle.run_arena.specs.Scenes.{Scene}
use Rattle.run_arena.specs.Stands.{Beside, memory_of}
use Rattle.run_nodes.proofs.Following.{stops_with}
use Rattle.run_arena.specs.declared.frame.Frame.{Frame}
use Rattle.run_tick.specs.declared.progress.Next.{Next}
use Rattle.run_tick.specs.declared.progress.Next.TheVariants as next
use Rattle.run_tick.specs.declared.progress.Reached.{Reached}
use Rattle.run_tick.specs.Machine as turn
use Rattle.run_tick.specs.Turns.{EntersChild, Going, GoingOn, OnStack, Reaches, ReachesTo, below_of, cost, frame_work, next_work, stack_work, step_of, turn_of, turn_work}
use Rattle.run_tick.proofs.Stacks.{entered}

abbrev pub no_frame : Frame
no_frame = record { uid = 0; memo = Nothing; place = 0; child = 0 }

-- the place of the frame on top
top_place : (stack below : List Frame) (frame : Frame) (n : ℕ) → n ≡ length stack → stack ≡ below ++ frame ∷ [] → n - 1 ≡ length below
top_place stack below frame n many is =
    let all = length-append below (frame ∷ []) in
    let same = ap length is in
    omega (arith, many, all, same)

-- the frame on top, in a list that equals the stack
pub top_is : (stack items below : List Frame) (frame : Frame) (n : ℕ) → items ≡ stack → n ≡ length stack → stack ≡ below ++ frame ∷ [] → slice_index_or items (n - 1) no_frame ≡ frame
top_is stack items below frame n same many is =
    ap (λ (fs : List Frame). slice_index_or fs (n - 1) no_frame) (same ∙ is)
    ∙ ap (λ (k : ℕ). slice_index_or (below ++ frame ∷ []) k no_frame) (top_place stack below frame n many is)
    ∙ get_or-append_seam below frame [] no_frame

-- another frame is put in the place of the one on top
pub top_set : (stack below : List Frame) (frame new : Frame) (n : ℕ) → n ≡ length stack → stack ≡ below ++ frame ∷ [] → slice_set stack (n - 1) new ≡ below ++ new ∷ []
top_set stack below frame new n many is =
    ap (λ (fs : List Frame). slice_set fs (n - 1) new) is
    ∙ ap (λ (k : ℕ). slice_set (below ++ frame ∷ []) k new) (top_place stack below frame n many is)
    ∙ set-append_seam below frame [] new

-- another frame is put there through a list that equals the stack
pub top_written : (stack items below : List Frame) (frame new : Frame) (n m : ℕ) → items ≡ stack → n ≡ length stack → m ≡ length stack → stack ≡ below ++ frame ∷ [] →
    refill m stack (slice_set items (n - 1) new) ≡ below ++ new ∷ []
top_written stack items below frame new n m same many all is =
    let written : List Frame = below ++ new ∷ [] in
    let set : slice_set items (n - 1) new ≡ written = ap (λ (fs : List Frame). slice_set fs (n - 1) new) same ∙ top_set stack below frame new n many is in
    let before = length-append below (frame ∷ []) in
    let after = length-append below (new ∷ []) in
    let as_many : m ≡ length written = omega (arith, ap length is, before, after, all) in
    ap (λ (ws : List Frame). refill m stack ws) set
    ∙ ap (λ (k : ℕ). take k (written ++ drop (length written) stack)) as_many
    ∙ take-append_seam written (drop (length written) stack)

-- the stack has as many frames as before
pub written_many : (stack items below : List Frame) (frame new : Frame) (n m : ℕ) → items ≡ stack → n ≡ length stack → m ≡ length stack → stack ≡ below ++ frame ∷ [] →
    m ≡ length (refill m stack (slice_set items (n - 1) new))
written_many stack items below frame new n m same many all is =
    omega (arith, ap length (top_written stack items below frame new n m same many all is), length-append below (new ∷ []), ap length is, length-append below (frame ∷ []), all)

-- without the frame on top, the frames below it are left
pub top_taken : (stack below : List Frame) (frame : Frame) → stack ≡ below ++ frame ∷ [] → take (length stack - 1) stack ≡ below
top_taken stack below frame is =
    ap (λ (fs : List Frame). take (length stack - 1) fs) is
    ∙ ap (λ (k : ℕ). take k (below ++ frame ∷ [])) (top_place stack below frame (length stack) refl is)
    ∙ take-append_seam below (frame ∷ [])

module _ {nodes : List Node} {moment : ℕ} {root : Term} {first : ℕ} {stack : List Frame} {s0 s : Scene} {n0 n : List Note} {whole : Done Answer Memory} where
  -- the node whose frame is on top goes on
  pub going_on : (items : List Frame) (many : ℕ) {heard : Heard} → items ≡ stack → many ≡ length stack → GoingOn nodes moment root first (next.GoOn heard) stack s0 s n0 n whole →
      (below : List Frame) × (stack ≡ below ++ slice_index_or items (many - 1) no_frame ∷ []) × Going nodes moment root first (turn.GoOn (step_of (slice_index_or items (many - 1) no_frame) heard)) below s0 s n0 n whole
  going_on items many {heard} same all g =
      let (below, frame, stands, going) = g.came in
      let top : frame ≡ slice_index_or items (many - 1) no_frame = sym (top_is stack items below frame many same all stands) in
      (below, subst (λ (f : Frame). stack ≡ below ++ f ∷ []) top stands, subst (λ (f : Frame). Going nodes moment root first (turn.GoOn (step_of f heard)) below s0 s n0 n whole) top going)

  -- where a node goes on, there is a frame
  pub one_on_top : {heard : Heard} → GoingOn nodes moment root first (next.GoOn heard) stack s0 s n0 n whole → 1 ≤ length stack
  one_on_top g =
      let (below, frame, stands, going) = g.came in
      omega (arith, ap length stands, length-append below (frame ∷ []))

  module _ {nx : Next} where
    -- what comes next is this
    pub comes_as : {b : Next} → nx ≡ b → GoingOn nodes moment root first nx stack s0 s n0 n whole → GoingOn nodes moment root first b stack s0 s n0 n whole
    comes_as is g = subst (λ (x : Next). GoingOn nodes moment root first x stack s0 s n0 n whole) is g

    -- the node whose frame is on top has answered
    pub gone_back : {a : Answer} → nx ≡ next.Back a → GoingOn nodes moment root first nx stack s0 s n0 n whole →
        (below : List Frame) × (take (length stack - 1) stack ≡ below) × Going nodes moment root first (turn.Back a) below s0 s n0 n whole
    gone_back is g =
        let (below, frame, stands, going) = (comes_as is g).came in
        (below, top_taken stack below frame stands, going)

    -- the node whose frame is on top went on
    pub went_on : (keeps : (t : Term) → Keeps (meaning t) (Sound t)) (below : List Frame) (frame : Frame) → EntersChild frame nx → stack ≡ below ++ frame ∷ [] →
        Going nodes moment root first (turn_of frame nx) below s0 s n0 n whole → GoingOn nodes moment root first nx stack s0 s n0 n whole
    went_on keeps below frame child is g = record { came = by nx child g } where
      by : (x : Next) → EntersChild frame x → Going nodes moment root first (turn_of frame x) below s0 s n0 n whole → OnStack x stack (λ turn below. Going nodes moment root first turn below s0 s n0 n whole)
      by (next.Enter uid) enters going =
          subst (λ (u : ℕ). Going nodes moment root first (turn.Enter u) stack s0 s n0 n whole) enters
          (subst (λ (fs : List Frame). Going nodes moment root first (turn.Enter frame.child) fs s0 s n0 n whole) (sym is) (entered keeps nodes moment going))
      by (next.GoOn heard) enters going = (below, frame, is, going)
      by (next.Back a) enters going = (below, frame, is, going)

-- a turn ended with this, and so did the visit of the root
pub reached_with : (nodes : List Node) (moment : ℕ) (root : Term) (first : ℕ) (r : Result Reached (Stop NodeFault)) (e : Stop NodeFault) (stack : List Frame) (s0 s s1 : Scene) (n0 n1 : List Note) (whole : Done Answer Memory) →
    IsErrAnd r (λ x. x ≡ e) → StaysFit nodes s s1 → Beside first (meaning root).size s0.kept s1.kept → Meets {A = Answer} nodes moment (memory_of root first) (Err e) s0 s1 n0 n1 whole → Reaches nodes moment root first r stack s0 s s1 n0 n1 whole
reached_with nodes moment root first r e stack s0 s s1 n0 n1 whole is stays beside met =
    subst (λ (x : Result Reached (Stop NodeFault)). Reaches nodes moment root first x stack s0 s s1 n0 n1 whole) (sym (stops_with r e is)) (record { ends = met; stays = stays; beside = beside })

-- the visit of the root reached this
pub reached_as : {nodes : List Node} {moment : ℕ} {root : Term} {first : ℕ} {r b : Reached} {stack : List Frame} {s0 s s1 : Scene} {n0 n1 : List Note} {whole : Done Answer Memory} →
    r ≡ b → Reaches nodes moment root first (Ok r) stack s0 s s1 n0 n1 whole → ReachesTo nodes moment root first (Ok b) stack s0 s1 n0 n1 whole
reached_as {nodes} {moment} {root} {first} {stack = stack} {s0 = s0} {s1 = s1} {n0 = n0} {n1 = n1} {whole = whole} is k =
    subst (λ (x : Reached). ReachesTo nodes moment root first (Ok x) stack s0 s1 n0 n1 whole) is k.ends

-- ---- Work

-- the bound on the turns still to come where a node goes on
pub going_work : (nodes : List Node) (heard : Heard) (stack below : List Frame) (frame : Frame) → stack ≡ below ++ frame ∷ [] →
    next_work nodes (next.GoOn heard) stack ≡ turn_work nodes (turn.GoOn (step_of frame heard)) + stack_work nodes below
going_work nodes heard stack below frame is =
    ap (λ (f : Frame). turn_work nodes (turn.GoOn (step_of f heard)) + stack_work nodes (below_of stack)) (top_is stack stack below frame (length stack) refl refl is)
    ∙ ap (λ (fs : List Frame). turn_work nodes (turn.GoOn (step_of frame heard)) + stack_work nodes fs) (top_taken stack below frame is)

-- it is less than that of all frames before, where the node hears its child
pub less_heard : (nodes : List Node) (heard : Heard) (stack below : List Frame) (frame : Frame) (a : Answer) → stack ≡ below ++ frame ∷ [] → heard ≡ Answered frame.place a →
    next_work nodes (next.GoOn heard) stack < stack_work nodes stack
less_heard nodes heard stack below frame a is hears =
    let all = going_work nodes heard stack below frame is in
    let step : turn_work nodes (turn.GoOn (step_of frame heard)) ≡ turn_work nodes (turn.GoOn (step_of frame (Answered frame.place a))) = ap (λ (h : Heard). turn_work nodes (turn.GoOn (step_of frame h))) hears in
    let stacked : stack_work nodes stack ≡ stack_work nodes below + (0 + frame_work nodes frame) = ap (λ (fs : List Frame). stack_work nodes fs) is ∙ sum_by-append (frame_work nodes) below (frame ∷ []) in
    omega (arith, all, step, stacked)

-- it is less after the node's turn
pub less_on_top : (nodes : List Node) (nx b : Next) (heard : Heard) (stack stack1 below : List Frame) (frame new : Frame) → nx ≡ b → stack ≡ below ++ frame ∷ [] → stack1 ≡ below ++ new ∷ [] →
    EntersChild new nx → turn_work nodes (turn_of new nx) < turn_work nodes (turn.GoOn (step_of frame heard)) → next_work nodes b stack1 < next_work nodes (next.GoOn heard) stack
less_on_top nodes nx b heard stack stack1 below frame new comes is is1 enters less =
    subst (λ (x : Next). next_work nodes x stack1 < next_work nodes (next.GoOn heard) stack) comes (by nx enters less)
  where
    all : next_work nodes (next.GoOn heard) stack ≡ turn_work nodes (turn.GoOn (step_of frame heard)) + stack_work nodes below
    all = going_work nodes heard stack below frame is

    by : (x : Next) → EntersChild new x → turn_work nodes (turn_of new x) < turn_work nodes (turn.GoOn (step_of frame heard)) → next_work nodes x stack1 < next_work nodes (next.GoOn heard) stack
    by (next.Enter uid) enters less =
        let stacked : stack_work nodes stack1 ≡ stack_work nodes below + (0 + frame_work nodes new) = ap (λ (fs : List Frame). stack_work nodes fs) is1 ∙ sum_by-append (frame_work nodes) below (new ∷ []) in
        let child : cost (node_at nodes new.child).size ≡ cost (node_at nodes uid).size = ap (λ (u : ℕ). cost (node_at nodes u).size) enters in
        omega (arith, all, stacked, child, less)
    by (next.GoOn h) enters less = omega (arith, all, going_work nodes h stack1 below new is1, less)
    by (next.Back a) enters less =
        let left : stack_work nodes (below_of stack1) ≡ stack_work nodes below = ap (λ (fs : List Frame). stack_work nodes fs) (top_taken stack1 below new is1) in
        omega (arith, all, left, less)
