-- What is still to come of a visit, and the turns of which it is made.
use Rattle.std.specs.Prelude.{◌≡◌, ◌+◌, ◌-◌, ◌*◌, ◌^◌, ◌<◌, ◌≤◌, ℕ, zero, suc, sum_by, List, [], ◌∷◌, ◌++◌, length, slice_index_or, take, Bool, true, false, Some, None, Result, Ok, Err, IfOk, is_some}
use Rattle.base_texts.specs.declared.stop.Stop.{Stop}
use Rattle.spec_run.specs.declared.fault.NodeFault.{NodeFault}
use Rattle.spec_run.specs.declared.memory.Memo.{Memo}
use Rattle.spec_run.specs.declared.memory.Memo.TheVariants.{Nothing}
use Rattle.spec_run.specs.declared.memory.Memory.{Memory, out-Memory}
use Rattle.spec_run.specs.declared.moves.Heard.{Heard}
use Rattle.spec_run.specs.declared.moves.Heard.TheVariants.{Answered, Passed}
use Rattle.spec_run.specs.declared.note.Note.{Note}
use Rattle.spec_run.specs.declared.status.Answer.{Answer}
use Rattle.spec_run.specs.declared.status.Status.{Status}
use Rattle.spec_tree.specs.declared.term.Kind.{Kind}
use Rattle.spec_tree.specs.declared.term.Kind.TheVariants.{Parallel, Switch}
use Rattle.spec_tree.specs.declared.term.Term.{Term, out-Term}
use Rattle.spec_tree.specs.BuiltIns.{has_rule}
use Rattle.spec_run.specs.Done.{Call, Done, State, following, done, follow}
use Rattle.spec_run.specs.Drivers.{DriverState}
use Rattle.base_tables.specs.Moves.{Fits as FitsMoves, FitsStart, after, next_place, rest, visits_left}
use Rattle.spec_run.specs.Sites.{View, children_of, placed, remembered}
use Rattle.base_tables.specs.Sound.{Dated, Leaves, Sound, Sounds, held_at, is_held}
use Rattle.spec_run.specs.Steps.{Rule, is_completed, visit}
use Rattle.spec_run.specs.Visit.{ended, meaning, started, status_of}
use Rattle.run_arena.specs.declared.nodes.Kept.{Kept}
use Rattle.run_arena.specs.declared.nodes.Node.{Node}
use Rattle.run_arena.specs.declared.stage.Stage.{Stage}
use Rattle.run_arena.specs.Nodes.{kept_at, node_at}
use Rattle.run_arena.specs.Noted.{calls_named}
use Rattle.run_arena.specs.Rosters.{roster_after}
use Rattle.run_arena.specs.Scenes.{Fits, Scene, state_in}
use Rattle.run_arena.specs.Stages.{scene_on}
use Rattle.run_arena.specs.Stands.{Beside, memory_of, uid_of, view_under, written}
use Rattle.run_arena.specs.Ends.{Meets, StaysFit}
use Rattle.run_nodes.specs.Here.{children_in, ruled_in, site_at}
use Rattle.run_arena.specs.declared.frame.Frame.{Frame}
use Rattle.run_tick.specs.declared.progress.Entered.{Entered}
use Rattle.run_tick.specs.declared.progress.Next.{Next}
use Rattle.run_tick.specs.declared.progress.Next.TheVariants as next
use Rattle.run_tick.specs.declared.progress.Entered.TheVariants.{GoesOn, Answers}
use Rattle.run_tick.specs.declared.progress.Reached.{Reached}
use Rattle.run_tick.specs.declared.progress.Reached.TheVariants as reached
use Rattle.run_tick.specs.AtOnce.{child_at_once}
use Rattle.run_tick.specs.Machine.{Step, Turn}
use Rattle.run_tick.specs.Machine as turn

-- ---- What is done and what is still to come

-- A part was done on the way: its notes were added, the drivers took its calls, one for each note of a call, and this is
-- what is still to come.
pub record Comes {A M : Type 0} (nodes : List Node) (before after : Scene) (old new : List Note) (whole rest : Done A M) : Type 0 where
  pub told : List Note
  pub made : List Call
  pub all : whole ≡ following told made rest
  pub named : length made ≡ calls_named told
  pub notes : new ≡ old ++ told
  pub drivers : after.drivers ≡ roster_after nodes made before.drivers

-- the visit of a node that has this status and this memo, from this rule on: the rule, and then the end
abbrev pub ruled_by : Term → View → ℕ → Status → Memo → Rule → List Memory → State → Done Answer Memory
ruled_by term view uid status memo rule ms s =
    follow (rule (children_of (site_at view uid term)) ms s) (λ ms1. remembered status memo ms1)
    (λ g ms1 s1. ended (site_at view uid term) status g ms1 s1)

abbrev pub memory_in : Term → ℕ → Scene → Memory
memory_in term uid s = memory_of term uid s.kept

-- what is still to come of the visit of a node in a scene, from this rule on
abbrev pub goes_by : List Node → ℕ → Term → View → ℕ → Scene → Rule → Done Answer Memory
goes_by nodes moment term view uid s rule =
    ruled_by term view uid (kept_at s.kept uid).status (kept_at s.kept uid).memo rule (children_in term uid s.kept) (state_in nodes s moment)

-- the visit of a term as it stands in a scene
abbrev pub visit_in : List Node → ℕ → Term → View → ℕ → Scene → Done Answer Memory
visit_in nodes moment term view uid s = (meaning term).visit view uid (memory_in term uid s) (state_in nodes s moment)

-- ---- What must hold of the nodes

abbrev pub number : Term → ℕ
number term = length (out-Term term).children

abbrev pub kind_of : Term → Kind
kind_of term = (out-Term term).kind

-- a term that stands in a scene can be visited: it and all below it keep their rules, and no instance is held since a
-- time that is later than now
pub record CanVisit (nodes : List Node) (moment : ℕ) (term : Term) (view : View) (uid : ℕ) (s : Scene) : Type 0 where
  pub fits : Fits term view uid nodes s
  pub sound : Sound term view.rows None uid (memory_in term uid s) (state_in nodes s moment)
  pub dated : Dated (state_in nodes s moment)

-- the rules of the children of a node
abbrev pub ChildrenSound : Term → View → ℕ → List Memory → State → Type 0
ChildrenSound term view uid ms s = Sounds (λ c. (meaning c).size) Sound (out-Term term).children view.rows None (uid + 1) ms s

-- a node in the middle of its visit can go on
pub record CanGoOn (nodes : List Node) (moment : ℕ) (term : Term) (view : View) (uid : ℕ) (s : Scene) : Type 0 where
  pub fits : Fits term view uid nodes s
  pub sound : ChildrenSound term view uid (children_in term uid s.kept) (state_in nodes s moment)
  pub dated : Dated (state_in nodes s moment)

-- what can be picked for a visit
abbrev pub CanPick : Kind → ℕ → Type 0
CanPick (Switch cases) picked = picked ≤ cases
CanPick kind picked = Unit {0}

-- a rule can begin with this memo, with anything that can be picked
abbrev pub CanBegin : Kind → ℕ → Memo → Type 0
CanBegin kind children memo = (picked : ℕ) → CanPick kind picked → FitsStart kind children memo picked

-- The rule of a node can be applied from its status and its memo on: one with children can begin with any pick, and a
-- leaf is held where it is RUNNING.
pub record CanFollow (nodes : List Node) (moment : ℕ) (term : Term) (view : View) (uid : ℕ) (s : Scene) : Type 0 where
  pub can : CanGoOn nodes moment term view uid s
  pub begins : has_rule (kind_of term) ≡ true → CanBegin (kind_of term) (number term) (kept_at s.kept uid).memo
  pub held : has_rule (kind_of term) ≡ false → held_at (state_in nodes s moment) uid ≡ Some (is_held (kept_at s.kept uid).status (kind_of term))

-- the visit of a node, from its start on
abbrev pub started_in : List Node → ℕ → Term → View → ℕ → Scene → Done Answer Memory
started_in nodes moment term view uid s = started (site_at view uid term) (memory_in term uid s) (state_in nodes s moment)

-- a node has started, and its rule is still to come; or it stopped with a fault or for want of memory (out of memory)
abbrev pub Starts : List Node → ℕ → Term → View → ℕ → Result (Unit {0}) (Stop NodeFault) → Scene → Scene → List Note → List Note → Type 0
Starts nodes moment term view uid (Ok _) before after old new =
    CanFollow nodes moment term view uid after × Comes nodes before after old new (started_in nodes moment term view uid before) (ruled_in nodes moment term view uid after)
Starts nodes moment term view uid (Err e) before after old new =
    Meets {A = Answer} nodes moment (memory_of term uid) (Err e) before after old new (started_in nodes moment term view uid before)

-- ---- Turns

-- a node goes on with what it hears, and this is still to come
pub record GoesOnBy (nodes : List Node) (moment : ℕ) (term : Term) (view : View) (uid : ℕ) (step : Step) (s : Scene) (next : Done Answer Memory) : Type 0 where
  pub here : step.uid ≡ uid
  pub can : CanGoOn nodes moment term view uid s
  pub ruled : has_rule (kind_of term) ≡ true
  pub fits : FitsMoves (kind_of term) (number term) step.memo step.heard
  pub next_is : next ≡ goes_by nodes moment term view uid s (rest (kind_of term) (number term) moment step.memo step.heard)

-- a node waits for a child, which is visited, and this is still to come
pub record WaitsBy (nodes : List Node) (moment : ℕ) (term : Term) (view : View) (uid : ℕ) (frame : Frame) (s : Scene) (next : Done Answer Memory) : Type 0 where
  pub here : frame.uid ≡ uid
  pub can : CanGoOn nodes moment term view uid s
  pub ruled : has_rule (kind_of term) ≡ true
  pub fits : (a : Answer) → FitsMoves (kind_of term) (number term) frame.memo (Answered frame.place a)
  pub there : frame.place < number term
  pub child : frame.child ≡ uid_of (out-Term term).children (uid + 1) frame.place
  pub next_is : next ≡ goes_by nodes moment term view uid s (visit frame.place (λ a. after (kind_of term) (number term) moment frame.memo (Answered frame.place a)))

-- what is still to come of the visit of a term, which stands in this view at this uid, where this turn is next
abbrev pub TurnDoes : List Node → ℕ → Term → View → ℕ → Turn → Scene → Done Answer Memory → Type 0
TurnDoes nodes moment term view uid (turn.Enter at) s next = (at ≡ uid) × CanVisit nodes moment term view uid s × (next ≡ visit_in nodes moment term view uid s)
TurnDoes nodes moment term view uid (turn.GoOn step) s next = GoesOnBy nodes moment term view uid step s next
TurnDoes nodes moment term view uid (turn.Wait frame) s next = WaitsBy nodes moment term view uid frame s next
TurnDoes nodes moment term view uid (turn.Back a) s next = next ≡ done a (memory_in term uid s) (state_in nodes s moment)

-- the turn after a node was entered: where it goes on by its rule, it has the memo that the node keeps
abbrev pub turn_after : ℕ → List Kept → Entered → Turn
turn_after uid kept (GoesOn heard) = turn.GoOn (record { uid = uid; memo = (kept_at kept uid).memo; heard = heard })
turn_after uid kept (Answers a) = turn.Back a

abbrev pub turned : ℕ → List Kept → Result Entered (Stop NodeFault) → Result Turn (Stop NodeFault)
turned uid kept (Ok entered) = Ok (turn_after uid kept entered)
turned uid kept (Err e) = Err e

-- whether a node passes over a child with this status: a Parallel does where the child has completed
abbrev pub passes_over : Kind → Status → Bool
passes_over Parallel status = is_completed status
passes_over kind status = false

-- the node with this frame goes on with what it hears
abbrev pub step_of : Frame → Heard → Step
step_of frame heard = record { uid = frame.uid; memo = frame.memo; heard = heard }

-- whether a node goes on to a child at once
abbrev pub goes_at_once : List Node → Step → Bool
goes_at_once nodes step = is_some (child_at_once (node_at nodes step.uid).kind (node_at nodes step.uid).children step.memo step.heard)

-- a child is visited, or passed over
abbrev pub turn_to : Bool → Frame → Turn
turn_to true frame = turn.GoOn (step_of frame (Passed frame.place))
turn_to false frame = turn.Wait frame

-- what comes next, as a turn of the node with this frame
abbrev pub turn_of : Frame → Next → Turn
turn_of frame (next.Enter uid) = turn.Wait frame
turn_of frame (next.GoOn heard) = turn.GoOn (step_of frame heard)
turn_of frame (next.Back a) = turn.Back a

abbrev pub turn_with : Frame → Result Next (Stop NodeFault) → Result Turn (Stop NodeFault)
turn_with frame (Ok next) = Ok (turn_of frame next)
turn_with frame (Err e) = Err e

-- the child that is visited is the one for which the frame waits
abbrev pub EntersChild : Frame → Next → Type 0
EntersChild frame (next.Enter uid) = frame.child ≡ uid
EntersChild frame _ = Unit {0}

-- the visit came to a turn: what was done, and what is still to come
pub record ComesTo (nodes : List Node) (moment : ℕ) (term : Term) (view : View) (uid : ℕ) (turn : Turn) (before after : Scene) (old new : List Note) (whole : Done Answer Memory) : Type 0 where
  pub next : Done Answer Memory
  pub does : TurnDoes nodes moment term view uid turn after next
  pub comes : Comes nodes before after old new whole next

-- a turn was made, and this one is next; or it stopped with a fault or for want of memory, and so did the visit
abbrev pub GoesTo : List Node → ℕ → Term → View → ℕ → Result Turn (Stop NodeFault) → Scene → Scene → List Note → List Note → Done Answer Memory → Type 0
GoesTo nodes moment term view uid (Ok turn) before after old new whole = ComesTo nodes moment term view uid turn before after old new whole
GoesTo nodes moment term view uid (Err e) before after old new whole = Meets {A = Answer} nodes moment (memory_of term uid) (Err e) before after old new whole

-- a turn was made or stopped, no node of another term has changed, and what fitted the arena still fits
pub record Goes (nodes : List Node) (moment : ℕ) (term : Term) (view : View) (uid : ℕ) (result : Result Turn (Stop NodeFault)) (before after : Scene) (old new : List Note) (whole : Done Answer Memory) : Type 0 where
  pub ends : GoesTo nodes moment term view uid result before after old new whole
  pub beside : Beside uid (meaning term).size before.kept after.kept
  pub stays : StaysFit nodes before after

-- ---- Frames

-- A visit that waits for a child: its node, and what all nodes kept and the state when the child was entered.
pub record Waiting : Type 0 where
  pub frame : Frame
  pub term : Term
  pub view : View
  pub kept : List Kept
  pub state : State

-- the child that a visit waits for
abbrev pub child_of_waiting : Waiting → Term
child_of_waiting w = slice_index_or (out-Term w.term).children w.frame.place w.term

-- what a waiting visit still does after the visit of its child
abbrev pub goes_following : Waiting → Done Answer Memory → Done Answer Memory
goes_following w d =
    follow (placed w.frame.place (children_in w.term w.frame.uid w.kept) d)
    (λ ms1. remembered (kept_at w.kept w.frame.uid).status (kept_at w.kept w.frame.uid).memo ms1)
    (λ a ms1 s1. ruled_by w.term w.view w.frame.uid (kept_at w.kept w.frame.uid).status (kept_at w.kept w.frame.uid).memo
    (after (kind_of w.term) (number w.term) w.state.moment w.frame.memo (Answered w.frame.place a)) ms1 s1)

-- what all waiting visits still do, the topmost first
abbrev pub resume : List Waiting → Done Answer Memory → Done Answer Memory
resume [] d = d
resume (w ∷ ws) d = resume ws (goes_following w d)

-- what the visit of a child leaves, from the time when it was entered
abbrev pub ChildLeaves : Waiting → Done Answer Memory → Type 0
ChildLeaves w d =
    Leaves (λ fault m s. Sound (child_of_waiting w) w.view.rows fault w.frame.child m s)
    (λ a m s. (out-Memory m).status ≡ status_of a) w.frame.child (meaning (child_of_waiting w)).size w.state d

abbrev pub AllLeave : List Waiting → Done Answer Memory → Type 0
AllLeave [] d = Unit {0}
AllLeave (w ∷ ws) d = ChildLeaves w d × AllLeave ws (goes_following w d)

-- a visit waits for the term that stands at this uid
pub record WaitsFor (nodes : List Node) (moment : ℕ) (s : Scene) (w : Waiting) (term : Term) (view : View) (uid : ℕ) : Type 0 where
  pub child_is : child_of_waiting w ≡ term
  pub view_is : view_under w.view w.frame.uid (written (out-Term w.term)) ≡ view
  pub uid_is : w.frame.child ≡ uid
  pub fits : Fits w.term w.view w.frame.uid nodes s
  pub beside : Beside w.frame.child (meaning (child_of_waiting w)).size w.kept s.kept
  pub sound : ChildrenSound w.term w.view w.frame.uid (children_in w.term w.frame.uid w.kept) w.state
  pub dated : Dated w.state
  pub moment_is : w.state.moment ≡ moment
  pub ruled : has_rule (kind_of w.term) ≡ true
  pub moves : (a : Answer) → FitsMoves (kind_of w.term) (number w.term) w.frame.memo (Answered w.frame.place a)
  pub there : w.frame.place < number w.term
  pub child : w.frame.child ≡ uid_of (out-Term w.term).children (w.frame.uid + 1) w.frame.place

-- the frames of these visits: the topmost is the last one and waits for the term at this uid; the lowest is that of
-- the root
abbrev pub StackIs : List Node → ℕ → Scene → Term → ℕ → List Frame → List Waiting → Term → View → ℕ → Type 0
StackIs nodes moment s root first stack [] term view uid = (stack ≡ []) × (term ≡ root) × (uid ≡ first)
StackIs nodes moment s root first stack (w ∷ ws) term view uid =
    (below : List Frame) × (stack ≡ below ++ w.frame ∷ []) × WaitsFor nodes moment s w term view uid × StackIs nodes moment s root first below ws w.term w.view w.frame.uid

-- The visit of a root came to this turn and this stack of frames, and no node beside the tree has changed.
pub record Going (nodes : List Node) (moment : ℕ) (root : Term) (first : ℕ) (turn : Turn) (stack : List Frame) (before after : Scene) (old new : List Note) (whole : Done Answer Memory) : Type 0 where
  pub waiting : List Waiting
  pub term : Term
  pub view : View
  pub uid : ℕ
  pub next : Done Answer Memory
  pub does : TurnDoes nodes moment term view uid turn after next
  pub stands : StackIs nodes moment after root first stack waiting term view uid
  pub leaves : AllLeave waiting next
  pub comes : Comes nodes before after old new whole (resume waiting next)
  pub beside : Beside first (meaning root).size before.kept after.kept

-- A property of what comes next, said of its turn and of the frames below the node whose turn it is; where a child is
-- visited, all frames are those of visits that wait.
abbrev pub OnStack : Next → List Frame → (Turn → List Frame → Type 0) → Type 0
OnStack (next.Enter uid) stack P = P (turn.Enter uid) stack
OnStack (next.GoOn heard) stack P = (below : List Frame) × (frame : Frame) × (stack ≡ below ++ frame ∷ []) × P (turn.GoOn (step_of frame heard)) below
OnStack (next.Back a) stack P = (below : List Frame) × (frame : Frame) × (stack ≡ below ++ frame ∷ []) × P (turn.Back a) below

-- The visit of a root came to what comes next and this stack of all frames.
pub record GoingOn (nodes : List Node) (moment : ℕ) (root : Term) (first : ℕ) (next : Next) (stack : List Frame) (before after : Scene) (old new : List Note) (whole : Done Answer Memory) : Type 0 where
  pub came : OnStack next stack (λ turn below. Going nodes moment root first turn below before after old new whole)

-- the visit came to a child, or it ended
abbrev pub ReachesTo : List Node → ℕ → Term → ℕ → Result Reached (Stop NodeFault) → List Frame → Scene → Scene → List Note → List Note → Done Answer Memory → Type 0
ReachesTo nodes moment root first (Ok (reached.Child uid)) stack before after old new whole = GoingOn nodes moment root first (next.Enter uid) stack before after old new whole
ReachesTo nodes moment root first (Ok (reached.End a)) stack before after old new whole = Meets nodes moment (memory_of root first) (Ok a) before after old new whole
ReachesTo nodes moment root first (Err e) stack before after old new whole = Meets {A = Answer} nodes moment (memory_of root first) (Err e) before after old new whole

-- the visit came to a child, or it ended, what fitted the arena still fits, and no node beside the tree has changed
pub record Reaches (nodes : List Node) (moment : ℕ) (root : Term) (first : ℕ) (result : Result Reached (Stop NodeFault)) (stack : List Frame) (before here after : Scene) (old new : List Note) (whole : Done Answer Memory) : Type 0 where
  pub ends : ReachesTo nodes moment root first result stack before after old new whole
  pub stays : StaysFit nodes here after
  pub beside : Beside first (meaning root).size before.kept after.kept

-- ---- Work

-- a bound on the turns of a visit of this many nodes
abbrev pub cost : ℕ → ℕ
cost zero = 1
cost (suc size) = 2 ^ 40 * cost size

-- a bound on the turns of the visits of children that are still to come of a node
abbrev pub left_of : Node → Memo → ℕ → ℕ
left_of node memo first = visits_left node.kind node.children memo first * (cost (node.size - 1) + 3)

abbrev pub frame_work : List Node → Frame → ℕ
frame_work nodes frame = 2 + left_of (node_at nodes frame.uid) frame.memo (frame.place + 1)

abbrev pub stack_work : List Node → List Frame → ℕ
stack_work nodes stack = sum_by (frame_work nodes) stack

abbrev pub turn_work : List Node → Turn → ℕ
turn_work nodes (turn.Enter uid) = cost (node_at nodes uid).size
turn_work nodes (turn.GoOn step) = 1 + left_of (node_at nodes step.uid) step.memo (next_place step.heard)
turn_work nodes (turn.Wait frame) = frame_work nodes frame + cost (node_at nodes frame.child).size + 1
turn_work nodes (turn.Back a) = 0

-- the frame on top of a stack, and those below it
abbrev pub top_of : List Frame → Frame
top_of stack = slice_index_or stack (length stack - 1) (record { uid = 0; memo = Nothing; place = 0; child = 0 })

abbrev pub below_of : List Frame → List Frame
below_of stack = take (length stack - 1) stack

-- a bound on the turns still to come after what comes next
abbrev pub next_work : List Node → Next → List Frame → ℕ
next_work nodes (next.Enter uid) stack = turn_work nodes (turn.Enter uid) + stack_work nodes stack
next_work nodes (next.GoOn heard) stack = turn_work nodes (turn.GoOn (step_of (top_of stack) heard)) + stack_work nodes (below_of stack)
next_work nodes (next.Back a) stack = stack_work nodes (below_of stack)

abbrev pub reached_work : List Node → Reached → List Frame → ℕ
reached_work nodes (reached.Child uid) stack = next_work nodes (next.Enter uid) stack
reached_work nodes (reached.End a) stack = 0

-- ---- On a stage

-- the term that stands there from this uid on can be visited
abbrev pub CanVisitOn : {D P : Type 0} → (D → List DriverState) → Stage D P → ℕ → Term → View → Type 0
CanVisitOn states s uid term view = CanVisit s.nodes.now s.moment term view uid (scene_on states s)

-- its rule can be applied
abbrev pub CanFollowOn : {D P : Type 0} → (D → List DriverState) → Stage D P → ℕ → Term → View → Type 0
CanFollowOn states s uid term view = CanFollow s.nodes.now s.moment term view uid (scene_on states s)

-- its visit
abbrev pub visit_on : {D P : Type 0} → (D → List DriverState) → Stage D P → ℕ → Term → View → Done Answer Memory
visit_on states s uid term view = visit_in s.nodes.now s.moment term view uid (scene_on states s)

-- its visit, from its start on
abbrev pub started_on : {D P : Type 0} → (D → List DriverState) → Stage D P → ℕ → Term → View → Done Answer Memory
started_on states s uid term view = started_in s.nodes.now s.moment term view uid (scene_on states s)

-- On the way from one stage to the other a turn of its visit was made, or stopped.
abbrev pub TakesTurn : {D P : Type 0} → (D → List DriverState) → Stage D P → Stage D P → ℕ → Term → View → Result Turn (Stop NodeFault) → Done Answer Memory → Type 0
TakesTurn states old new uid term view result whole =
    Goes old.nodes.now old.moment term view uid result (scene_on states old) (scene_on states new) old.notes.now.list new.notes.now.list whole

-- On the way from one stage to the other its node has started, or its start stopped.
abbrev pub StartsOn : {D P : Type 0} → (D → List DriverState) → Stage D P → Stage D P → ℕ → Term → View → Result (Unit {0}) (Stop NodeFault) → Type 0
StartsOn states old new uid term view result =
    Starts old.nodes.now old.moment term view uid result (scene_on states old) (scene_on states new) old.notes.now.list new.notes.now.list

-- Where its node was entered on the way from one stage to the other, less work is left than its whole visit has.
abbrev pub LeavesLess : {D P : Type 0} → ℕ → Stage D P → Stage D P → Result Entered (Stop NodeFault) → Type 0
LeavesLess uid old new result =
    IfOk result (λ entered. turn_work old.nodes.now (turn_after uid new.kept.now entered) < turn_work old.nodes.now (turn.Enter uid))

-- its node can make its next move, in the middle of its visit
abbrev pub CanMoveOn : {D P : Type 0} → (D → List DriverState) → Stage D P → ℕ → Term → View → Type 0
CanMoveOn states s uid term view = CanGoOn s.nodes.now s.moment term view uid (scene_on states s)

-- its node goes on with what it hears, and this is still to come
abbrev pub StepsOn : {D P : Type 0} → (D → List DriverState) → Stage D P → Term → View → Step → Done Answer Memory → Type 0
StepsOn states s term view step next = GoesOnBy s.nodes.now s.moment term view step.uid step (scene_on states s) next

-- The visit of a root that began in this scene, after these notes, came to what comes next and this stack of all frames.
abbrev pub CameOn : {D P : Type 0} → (D → List DriverState) → Stage D P → Term → Next → List Frame → Scene → List Note → Done Answer Memory → Type 0
CameOn states s root next stack start told whole =
    GoingOn s.nodes.now s.moment root 1 next stack start (scene_on states s) told s.notes.now.list whole

-- It came from one stage to the other and on to a child, or it ended.
abbrev pub ReachesOn : {D P : Type 0} → (D → List DriverState) → Stage D P → Stage D P → Term → Result Reached (Stop NodeFault) → List Frame → Scene → List Note → Done Answer Memory → Type 0
ReachesOn states old new root result stack start told whole =
    Reaches old.nodes.now old.moment root 1 result stack start (scene_on states old) (scene_on states new) told new.notes.now.list whole
