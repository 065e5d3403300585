-- How an event of a session ends, by what the event of its runs has left.
use Rattle.std.proofs.Common.{◌≡◌, ◌+◌, ◌≤◌, ◌⊎◌, ℕ, Bool, true, false, List, [], length, Option, Result, Ok, Err, None, Some, Vec, refl, sym, ap, ◌∙◌, subst, inl, inr, arith}
use Rattle.std.specs.Global.{Global}
use Rattle.std.specs.List.{All}
use Rattle.std.proofs.lemmas.Bool.{false≢true}
use Rattle.std.proofs.lemmas.List.{append-nil}
use Rattle.base_texts.specs.declared.stop.Stop.{Stop}
use Rattle.base_texts.specs.declared.stop.Stop.TheVariants as stop
use Rattle.spec_run.specs.declared.block.Block.{Block}
use Rattle.spec_run.specs.declared.fault.RunFault.{RunFault}
use Rattle.spec_run.specs.Run.{RunState, Stepped, finish, step}
use Rattle.spec_run.specs.Served.{Setup}
use Rattle.spec_tree.specs.declared.term.Tree.{Tree}
use Rattle.spec_tree.specs.Terms.{node_count}
use Rattle.spec_world.specs.declared.world.Event.{Event}
use Rattle.spec_world.specs.Runnable.{IsRunnableWorld}
use Rattle.base_tables.specs.Runnable.{IsRunnable}
use Rattle.base_tables.specs.SlotTables.{slot_table}
use Rattle.run_arena.specs.declared.nodes.Node.{Node}
use Rattle.run_loop.specs.Runs.{AreRuns, arenas_of, leaves_of}
use Rattle.run_loop.specs.Steps.{EventLeft, EventSide, HaveRoom, IsCutOff, IsTold, kept_state}
use Rattle.spec_session.specs.Events.{IsCutOff as IsCut, Leaves, event_step, finish_step}
use Rattle.spec_session.specs.declared.label.Label.{Label}
use Rattle.spec_session.specs.Labels.{labels}
use Rattle.spec_session.specs.Sessions.{Sitting}
use Rattle.host_session.specs.Ending.{ended_of}
use Rattle.host_session.specs.Five.{states_of}
use Rattle.host_session.specs.Sittings.{IsReady, setup_of, side_of, sitting, sitting_of}
use Rattle.host_session.specs.declared.session.Session.TheInside.{Inside}

-- a session whose state, block and mark have changed
abbrev with_all : Sitting → RunState → Block → Bool → Sitting
with_all s state block usable = record s { state = state; block = block; usable = usable }

same_sitting : (s : Sitting) {a b : RunState} {x y : Block} {u v : Bool} → a ≡ b → x ≡ y → u ≡ v → with_all s a x u ≡ with_all s b y v
same_sitting s {a} {b} {x} {y} {u} {v} p q r =
    ap (λ t. with_all s t x u) p ∙ (ap (λ t. with_all s b t u) q ∙ ap (λ t. with_all s b y t) r)

-- one that was cut off
cut_leaves : (of : Setup) (own : List Event) (old new : EventSide) (d : Stepped) → EventLeft of (Err stop.NoMemory) old new d →
    IsCutOff (arenas_of new.runs) old.drivers new.drivers new.block.notes.list d ⊎ IsTold (arenas_of new.runs) old.drivers new.drivers new.block.notes.list d →
    IsCut (sitting of.tree of.world own old) d (sitting of.tree of.world own new)
cut_leaves of own old new d left (inl cut) = record {
  told = cut.told;
  untold = cut.untold;
  held = cut.held;
  all_notes = cut.all_notes;
  noted = cut.noted;
  quenched = left.quenched;
  rest = same_sitting (sitting of.tree of.world own old) refl refl left.usable;
}
cut_leaves of own old new d left (inr whole) = record {
  told = d.block.notes;
  untold = [];
  held = [];
  all_notes = append-nil d.block.notes;
  noted = whole.noted ∙ sym (append-nil d.block.notes);
  quenched = left.quenched;
  rest = same_sitting (sitting of.tree of.world own old) refl refl left.usable;
}

-- an event of runs that were made for a session leaves what the definition says
pub left_leaves : (of : Setup) (own : List Event) (made : Result (Unit {0}) (Stop RunFault)) (old new : EventSide) (d : Stepped) →
    EventLeft of made old new d → Leaves (sitting of.tree of.world own old) d (ended_of made) (sitting of.tree of.world own new)
left_leaves of own (Ok done) old new d left =
    (left.step.0, same_sitting (sitting of.tree of.world own old) left.step.1.state left.step.1.shown left.runs.usable)
left_leaves of own (Err (stop.Fault fault)) old new d left =
    (left.step.0, same_sitting (sitting of.tree of.world own old) left.step.1.state left.step.1.shown left.usable)
left_leaves of own (Err stop.NoMemory) old new d left = cut_leaves of own old new d left left.step

-- as long as events are taken, the next one finds the runs as they are to be
pub left_runs : (of : Setup) (made : Result (Unit {0}) (Stop RunFault)) (old new : EventSide) (d : Stepped) → EventLeft of made old new d →
    new.runs.usable ≡ true → AreRuns of.tree of.world new.drivers new.runs
left_runs of (Ok done) old new d left usable = left.runs
left_runs of (Err stopped) old new d left usable = absurd (false≢true (sym left.usable ∙ usable))

-- the block has room again
pub left_room : (of : Setup) (made : Result (Unit {0}) (Stop RunFault)) (old new : EventSide) (d : Stepped) → EventLeft of made old new d →
    HaveRoom (arenas_of old.runs) old.block.notes → HaveRoom (arenas_of new.runs) new.block.notes
left_room of made old new d left room = omega (arith, room, left.room, ap leaves_of left.arenas)

-- ---- The same of a session that is seen as this

-- as long as it takes events its runs are those of the tree and the world that are seen
pub seen_runs : (s : Inside) (seen : Sitting) → sitting_of s ≡ seen → IsReady s → seen.usable ≡ true → AreRuns seen.tree seen.world (states_of s.five) s.runs
seen_runs s seen same ready usable =
    let P : Sitting → Type 0 = λ x. AreRuns x.tree x.world (states_of s.five) s.runs in
    subst P same (ready.runs (ap (λ (x : Sitting). x.usable) same ∙ usable))

-- what has become of its runs by this step of what is seen
abbrev pub MadeBy : Inside → Sitting → (Sitting → Stepped) → Result (Unit {0}) (Stop RunFault) → EventSide → Type 0
MadeBy s seen step_of made new = EventLeft (setup_of seen) made (side_of s) new (step_of (sitting seen.tree seen.world s.own.items (side_of s)))

-- and so for a tree in a world that are given
module _ (of : Setup) (s : Inside) (seen : Sitting) (same : sitting_of s ≡ seen) (ready : IsReady s) (is : of ≡ setup_of seen) where
  pub given_world : IsRunnableWorld of.world
  given_world =
      let P : Sitting → Type 0 = λ x. IsRunnableWorld x.world in
      subst (λ (x : Setup). IsRunnableWorld x.world) (sym is) (subst P same ready.world)

  pub given_runs : seen.usable ≡ true → AreRuns of.tree of.world (states_of s.five) s.runs
  given_runs usable = subst (λ (x : Setup). AreRuns x.tree x.world (states_of s.five) s.runs) (sym is) (seen_runs s seen same ready usable)

  -- what has become of them by this step of the tree in the world
  pub given_left : (step_of : Setup → RunState → Stepped) (made : Result (Unit {0}) (Stop RunFault)) (new : EventSide) →
      EventLeft of made (side_of s) new (step_of of (kept_state of (side_of s))) → MadeBy s seen (λ x. step_of (setup_of x) x.state) made new
  given_left step_of made new left = subst (λ (x : Setup). EventLeft x made (side_of s) new (step_of x (kept_state x (side_of s)))) is left

pub made_leaves : (s : Inside) (seen : Sitting) (step_of : Sitting → Stepped) (made : Result (Unit {0}) (Stop RunFault)) (new : EventSide) →
    sitting_of s ≡ seen → MadeBy s seen step_of made new → Leaves seen (step_of seen) (ended_of made) (sitting s.tree s.world s.own.items new)
made_leaves s seen step_of made new same =
    let P : Sitting → Type 0 = λ x. MadeBy s x step_of made new → Leaves x (step_of x) (ended_of made) (sitting s.tree s.world s.own.items new) in
    subst P same (λ left. left_leaves (setup_of (sitting_of s)) s.own.items made (side_of s) new (step_of (sitting_of s)) left)

-- and what holds of every session holds of it again, whose fields are these
pub made_ready : (s : Inside) (seen : Sitting) (step_of : Sitting → Stepped) (made : Result (Unit {0}) (Stop RunFault)) (after : Inside) →
    sitting_of s ≡ seen → IsReady s → MadeBy s seen step_of made (side_of after) → after.tree ≡ s.tree → after.world ≡ s.world → after.slots ≡ s.slots → after.labels ≡ s.labels →
    IsReady after
made_ready s seen step_of made after same ready left tree world slots labelled =
    let P : Sitting → Type 0 = λ x. MadeBy s x step_of made (side_of after) in
    let here : MadeBy s (sitting_of s) step_of made (side_of after) = subst P (sym same) left in
    let of : Setup = setup_of (sitting_of s) in
    record {
      tree = subst IsRunnable (sym tree) ready.tree;
      world = subst IsRunnableWorld (sym world) ready.world;
      slots = slots ∙ (ready.slots ∙ ap slot_table (sym tree));
      labels = ap (λ (v : Vec Label Global). v.items) labelled ∙ (ready.labels ∙ ap labels (sym tree));
      nodes = subst (λ (t : Tree). All (λ (nodes : List Node). length nodes ≡ 1 + node_count t.term) (arenas_of after.runs)) (sym tree)
          (subst (All (λ (nodes : List Node). length nodes ≡ 1 + node_count s.tree.term)) (sym here.arenas) ready.nodes);
      room = left_room of made (side_of s) (side_of after) (step_of (sitting_of s)) here ready.room;
      runs = λ usable. subst (λ t. AreRuns t after.world (states_of after.five) after.runs) (sym tree)
          (subst (λ w. AreRuns s.tree w (states_of after.five) after.runs) (sym world)
          (left_runs of made (side_of s) (side_of after) (step_of (sitting_of s)) here usable));
    }
