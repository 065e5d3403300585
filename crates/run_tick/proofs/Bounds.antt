-- The turns of a visit come to an end.
use Rattle.std.proofs.Common.{◌≡◌, ℕ, zero, suc, ◌+◌, ◌-◌, ◌*◌, ◌^◌, ◌<◌, ◌≤◌, ℤ, pos, negsuc, Bool, true, false, List, get_or, sym, ap, subst, arith, unwrap_or}
use Rattle.std.proofs.Math.Nat.{mul-le-mul_right}
use Rattle.spec_run.specs.declared.memory.Memo.{Memo}
use Rattle.spec_run.specs.declared.memory.Turns.{Turns}
use Rattle.spec_run.specs.declared.moves.Then.{Then}
use Rattle.spec_run.specs.declared.moves.Then.TheVariants as then_
use Rattle.spec_tree.specs.declared.term.Kind.{Kind}
use Rattle.spec_tree.specs.declared.term.Kind.TheVariants.{RecoveryNode, RoundRobin, Retry, Repeat}
use Rattle.spec_tree.specs.declared.term.Term.{Term, out-Term}
use Rattle.base_tables.specs.Moves.{FitsStart, GoesOn, TurnIsLeft, next_place, turns_to_do, visits_left}
use Rattle.spec_run.specs.Rules.Turns.{limit_of, turns_of}
use Rattle.spec_run.specs.Sites.{View}
use Rattle.run_arena.specs.declared.nodes.Node.{Node}
use Rattle.run_arena.specs.Nodes.{node_at}
use Rattle.run_arena.specs.Scenes.{Fits, Scene}
use Rattle.run_arena.specs.Stands.{uid_of}
use Rattle.run_arena.proofs.Opened.{size_out}
use Rattle.run_arena.specs.declared.frame.Frame.{Frame}
use Rattle.run_tick.specs.Machine.{Step}
use Rattle.run_tick.specs.Machine.{Turn}
use Rattle.run_tick.specs.Machine as turn
use Rattle.run_tick.specs.Turns.{cost, left_of, number, turn_to, turn_work}
use Rattle.run_tick.proofs.Children.{child_inside, child_stands, size_stands}
use Rattle.run_tick.proofs.Moving.{children_stand, size_is}

cost_some : (size : ℕ) → 1 ≤ cost size
cost_some zero = omega arith
cost_some (suc size) = omega (arith, cost_some size)

cost_more : (d a : ℕ) → cost a ≤ cost (d + a)
cost_more zero a = let e : 0 + a ≡ a = omega arith in subst (λ (n : ℕ). cost a ≤ cost n) (sym e) (omega arith)
cost_more (suc d) a =
    let e : suc d + a ≡ suc (d + a) = omega arith in
    subst (λ (n : ℕ). cost a ≤ cost n) (sym e) (omega (arith, cost_more d a))

pub cost_up : (a b : ℕ) → a ≤ b → cost a ≤ cost b
cost_up a b up = let e : (b - a) + a ≡ b = omega (arith, up) in subst (λ (n : ℕ). cost a ≤ cost n) e (cost_more (b - a) a)

-- fewer visits cost less, by at least the cost of one
fewer : (v w c : ℕ) → v < w → v * c + c ≤ w * c
fewer v w c less = let m = mul-le-mul_right c (let e : suc v ≤ w = omega (arith, less) in e) in omega (arith, m)

-- a turn to a child is less than the turn of the step that led to it
pub turn_less : (nodes : List Node) (step : Step) (frame : Frame) (b : Bool) → frame.uid ≡ step.uid →
    visits_left (node_at nodes step.uid).kind (node_at nodes step.uid).children frame.memo (frame.place + 1) < visits_left (node_at nodes step.uid).kind (node_at nodes step.uid).children step.memo (next_place step.heard) →
    (node_at nodes frame.child).size ≤ (node_at nodes step.uid).size - 1 → turn_work nodes (turn_to b frame) < turn_work nodes (turn.GoOn step)
turn_less nodes step frame b here less small =
    let node : Node = node_at nodes step.uid in
    let c : ℕ = cost (node.size - 1) + 3 in
    let v : ℕ = visits_left node.kind node.children frame.memo (frame.place + 1) in
    let w : ℕ = visits_left node.kind node.children step.memo (next_place step.heard) in
    let same : left_of (node_at nodes frame.uid) frame.memo (frame.place + 1) ≡ v * c = ap (λ (u : ℕ). left_of (node_at nodes u) frame.memo (frame.place + 1)) here in
    let all = fewer v w c less in
    let child = cost_up (node_at nodes frame.child).size (node.size - 1) small in
    by b same all child
  where
    by : (b : Bool) → left_of (node_at nodes frame.uid) frame.memo (frame.place + 1) ≡ visits_left (node_at nodes step.uid).kind (node_at nodes step.uid).children frame.memo (frame.place + 1) * (cost ((node_at nodes step.uid).size - 1) + 3) →
        visits_left (node_at nodes step.uid).kind (node_at nodes step.uid).children frame.memo (frame.place + 1) * (cost ((node_at nodes step.uid).size - 1) + 3) + (cost ((node_at nodes step.uid).size - 1) + 3)
        ≤ visits_left (node_at nodes step.uid).kind (node_at nodes step.uid).children step.memo (next_place step.heard) * (cost ((node_at nodes step.uid).size - 1) + 3) →
        cost (node_at nodes frame.child).size ≤ cost ((node_at nodes step.uid).size - 1) → turn_work nodes (turn_to b frame) < turn_work nodes (turn.GoOn step)
    by true same all child = omega (arith, same, all)
    by false same all child = omega (arith, same, all, child)

-- a turn to a child is less than the turn of the step, as the code makes it
pub work_turned : (nodes : List Node) (step : Step) (frame : Frame) (b : Bool) (t : Turn) → t ≡ turn_to b frame → frame.uid ≡ step.uid → (here : Node) → here ≡ node_at nodes step.uid → (then : Then) → then ≡ then_.Visit frame.place →
    GoesOn here.kind here.children step.memo (next_place step.heard) frame.memo then → (node_at nodes frame.child).size ≤ (node_at nodes step.uid).size - 1 → turn_work nodes t < turn_work nodes (turn.GoOn step)
work_turned nodes step frame b t is_turn same here is then visits onward small =
    let onward_there : GoesOn (node_at nodes step.uid).kind (node_at nodes step.uid).children step.memo (next_place step.heard) frame.memo (then_.Visit frame.place) =
    subst (λ (n : Node). GoesOn n.kind n.children step.memo (next_place step.heard) frame.memo (then_.Visit frame.place)) is
    (subst (λ (x : Then). GoesOn here.kind here.children step.memo (next_place step.heard) frame.memo x) visits onward) in
    subst (λ (x : Turn). turn_work nodes x < turn_work nodes (turn.GoOn step)) (sym is_turn) (turn_less nodes step frame b same onward_there.2 small)

-- a child is smaller than its node
pub child_small : (term : Term) (view : View) (uid place at : ℕ) (nodes : List Node) (s : Scene) → Fits term view uid nodes s → place < number term → at ≡ uid_of (out-Term term).children (uid + 1) place →
    (node_at nodes at).size ≤ (node_at nodes uid).size - 1
child_small term view uid place at nodes s fits there is =
    let inside = child_inside (out-Term term).children place (uid + 1) term there in
    let child = size_stands (get_or (out-Term term).children place term) nodes _ (uid_of (out-Term term).children (uid + 1) place) (child_stands nodes _ (out-Term term).children place (uid + 1) term there (children_stand fits)) in
    let same : (node_at nodes at).size ≡ (node_at nodes (uid_of (out-Term term).children (uid + 1) place)).size = ap (λ (u : ℕ). (node_at nodes u).size) is in
    omega (arith, inside.0, inside.1, child, same, size_is fits, size_out term)

-- ---- The first turn

turns_few : (t : Turns) → TurnIsLeft t.done (limit_of t.limit) → turns_to_do t ≤ 2 ^ 32
turns_few t left = by t.limit left
  where
    by : (limit : ℤ) → TurnIsLeft t.done (limit_of limit) → unwrap_or (limit_of limit) 0 - t.done ≤ 2 ^ 32
    by (pos n) left = omega (arith, left.1)
    by (negsuc n) left = omega arith

pub visits_few : (kind : Kind) (n : ℕ) (memo : Memo) (picked : ℕ) → n < 2 ^ 30 → FitsStart kind n memo picked → visits_left kind n memo 0 ≤ 2 ^ 32 + 1
visits_few Retry n memo picked few fits = omega (arith, turns_few (turns_of memo) fits)
visits_few Repeat n memo picked few fits = omega (arith, turns_few (turns_of memo) fits)
visits_few RecoveryNode n memo picked few fits = omega (arith, fits.1.0)
visits_few RoundRobin n memo picked few fits = omega (arith, few)
visits_few _ n memo picked few fits = omega (arith, few)

-- a turn of a node's rule is less than its visit, where no more visits of children are left than there can be
pub begins_less : (node : Node) (memo : Memo) (first : ℕ) → 1 ≤ node.size → visits_left node.kind node.children memo first ≤ 2 ^ 32 + 1 → 1 + left_of node memo first < cost node.size
begins_less node memo first some few =
    let size : node.size ≡ suc (node.size - 1) = omega (arith, some) in
    let whole : cost node.size ≡ 2 ^ 40 * cost (node.size - 1) = ap cost size in
    let most = mul-le-mul_right (cost (node.size - 1) + 3) few in
    omega (arith, whole, most, cost_some (node.size - 1))

pub cost_positive : (size : ℕ) → 0 < cost size
cost_positive size = omega (arith, cost_some size)
