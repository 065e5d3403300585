-- A leaf that is told something, compared with the definition's step.
use Rattle.std.proofs.Common.{◌≡◌, ℕ, ◌+◌, ◌-◌, List, [], ◌∷◌, ◌++◌, Bool, true, false, if◌then◌else◌, Option, Some, None, IfSome, Ok, map, slice_get, set, option_map, refl, sym, ap, subst, ◌∙◌, arith}
use Rattle.std.proofs.lemmas.List.{length-map, set-get_or}
use Rattle.std.proofs.lemmas.Option.{get_or_from_slice_get, slice_get-map}
use Rattle.spec_script.specs.declared.value.Value.{Value}
use Rattle.spec_run.specs.declared.block.Header.TheVariants as header
use Rattle.spec_run.specs.declared.join_fault.JoinFault.{JoinFault}
use Rattle.spec_run.specs.declared.leaf.DriverKind.TheVariants as driver
use Rattle.spec_run.specs.declared.fault.RunFault.{RunFault}
use Rattle.spec_run.specs.declared.note.Note.{Note}
use Rattle.spec_tree.specs.declared.term.Term.{Term}
use Rattle.spec_tree.specs.declared.term.Tree.{Tree}
use Rattle.spec_world.specs.declared.world.Event.{Event}
use Rattle.spec_world.specs.declared.world.Telling.{Telling}
use Rattle.spec_world.specs.declared.world.What.{What}
use Rattle.spec_world.specs.declared.world.What.TheVariants.{Tick, Halt, Change, Tell}
use Rattle.spec_world.specs.declared.world.World.{World}
use Rattle.spec_world.specs.Worlds.{IsValidWhat}
use Rattle.spec_run.specs.Done.{Call}
use Rattle.spec_run.specs.Drivers.{DriverState}
use Rattle.spec_run.specs.Joins.{event_lacks}
use Rattle.spec_run.specs.Rosters.{IsSameRoster}
use Rattle.spec_run.specs.Run.{RunState, Runner, RunnerCall, Stepped, called, changed_boards, changed_entries, quench_calls, quench_notes, root_view, runner_at, runner_calls, step, step_by, succeeds, tell_step}
use Rattle.base_tables.specs.DriverCalls.{kind_of_way}
use Rattle.spec_run.specs.Served.{Setup}
use Rattle.spec_tree.specs.Trees.{nodes_of}
use Rattle.run_laws.proofs.Events.{step_steady}
use Rattle.run_driver.specs.declared.sort.ReadySort.{ReadySort}
use Rattle.run_driver.specs.declared.sort.ReadySort.TheVariants as ready
use Rattle.run_driver.specs.Ready.{is_ready_told, ready_way}
use Rattle.run_arena.specs.declared.block.Block.{Block}
use Rattle.run_arena.specs.declared.nodes.Node.{Node}
use Rattle.run_arena.specs.declared.nodes.ReadyLeaf.{ReadyLeaf}
use Rattle.run_arena.specs.Ends.{StaysFit}
use Rattle.run_arena.specs.Nodes.{leaf_at}
use Rattle.run_arena.specs.Noted.{Noted}
use Rattle.run_arena.specs.Rosters.{instances_of, roster_after}
use Rattle.run_nodes.specs.Tellings.{CanBeTold, telling_at}
use Rattle.run_loop.specs.declared.hearing.Message.{Message}
use Rattle.run_loop.specs.declared.runs.ReadyRunner.{ReadyRunner}
use Rattle.run_loop.specs.declared.runs.Runs.{Runs}
use Rattle.run_loop.specs.Ending.{IsQuenched}
use Rattle.run_loop.specs.Fitting.{leaf_lacks}
use Rattle.run_loop.specs.Hearing.{CanHear, Tells, message_step}
use Rattle.run_loop.specs.Parts.{scene_of}
use Rattle.run_loop.specs.Runs.{AreRuns, RunnerFits, RunnersFit, arenas_of, roster_over, runner_in, runners_in, state_of_runs}
use Rattle.run_loop.specs.Steps.{CanCome, EndsInFault, EventEnds, EventLeft, IsCutOff, event_side}
use Rattle.run_loop.proofs.Groups.{none_changed}
use Rattle.run_loop.proofs.Lacking.{telling_lacks}
use Rattle.run_loop.proofs.Others.{over_runner}
use Rattle.run_loop.proofs.Putting.{fit_put, nodes_are, runners_put}
use Rattle.run_loop.proofs.Rising.{over_same}
use Rattle.run_loop.proofs.Stepping.{StayRuns, board_of, instances_are, one_board, same_entries}
use Rattle.run_loop.proofs.Whole.{steady_after}

-- ---- The event

-- an event that tells a leaf something can be heard where it can come
pub can_hear_event : (of : Setup) (drivers : List DriverState) (runs : Runs) (event : Event) (runner uid : ℕ) (telling : Telling) → event.what ≡ Tell runner uid telling →
    AreRuns of.tree of.world drivers runs → CanCome of runs.last event → CanHear of (record { runner = runner; uid = uid; telling = telling; at = event.at }) drivers runs
can_hear_event of drivers runs event runner uid telling is are can =
    let valid : IsValidWhat of.world.facts of.world.runners (Tell runner uid telling) = subst (IsValidWhat of.world.facts of.world.runners) is can.0 in
    record {
      are = are;
      first = valid.0;
      last = valid.1;
      known = subst (λ (what : What). event_lacks of.world.rows (nodes_of of.tree.term) what ≡ None) is can.2;
      ahead = can.1;
    }

-- ---- The leaf

told_if : (b : Bool) (o : Option JoinFault) (fault : JoinFault) → (if b then o else Some fault) ≡ None → b ≡ true
told_if true o fault e = refl
told_if false o fault e = cc

-- leaves that are told what they answer have a driver of their own kind
told_kind : (s : ReadySort) → is_ready_told s ≡ true → kind_of_way (ready_way s) ≡ driver.Told
told_kind ready.Sensed told = refl
told_kind (ready.Told outs) told = refl
told_kind _ told = absurd (cc)

-- a leaf for which nothing is missing can be told
can_be_told : (nodes : List Node) (uid : ℕ) (t : Telling) (found : Option ReadyLeaf) → leaf_at nodes uid ≡ found → leaf_lacks found uid t ≡ None → CanBeTold nodes uid
can_be_told nodes uid t (Some leaf) is none = record { leaf = leaf; here = is; kind = told_kind leaf.row.sort (told_if (is_ready_told leaf.row.sort) _ _ none) }
can_be_told nodes uid t None is none = absurd (cc)

module _ (of : Setup) (message : Message) (drivers : List DriverState) (runs : Runs) (can : CanHear of message drivers runs) (r : ReadyRunner) (is : slice_get runs.runners.items (message.runner - 1) ≡ Some r) where
  abbrev nodes : List Node
  nodes = r.arena.nodes.items

  abbrev t : Term
  t = of.tree.term

  abbrev k : ℕ
  k = message.runner - 1

  pub fits : RunnerFits of.tree of.world runs.facts drivers (k + 1) r
  fits = can.are.fit.each k r is

  -- its leaf can be told
  pub can_hear : CanBeTold nodes message.uid
  can_hear =
      can_be_told nodes message.uid message.telling (leaf_at nodes message.uid) refl
      (telling_lacks of.tree of.world nodes fits.fits.stands fits.nodes fits.nobody message.uid message.telling ∙ can.known)

  -- ---- The step

  abbrev call : Call
  call = telling_at nodes drivers message.uid message.telling

  module _ (drivers1 : List DriverState) (called_is : drivers1 ≡ roster_after nodes (call ∷ []) drivers)
      (instances_now : instances_of nodes drivers1 ≡ set (instances_of nodes drivers) message.uid call.left) (stay_fit : StaysFit nodes (scene_of r runs.facts drivers) (scene_of r runs.facts drivers1)) where
    -- the runner itself stays
    set_same : set runs.runners.items k r ≡ runs.runners.items
    set_same = ap (set runs.runners.items k) (sym (get_or_from_slice_get runs.runners.items k r r is)) ∙ set-get_or runs.runners.items k r

    fit_now : RunnersFit of.tree of.world runs.facts drivers1 runs.runners.items
    fit_now =
        subst (RunnersFit of.tree of.world runs.facts drivers1) set_same
        (fit_put of.tree of.world runs.runners.items runs.facts drivers can.are.fit k r is r runs.facts drivers1 refl (call ∷ []) called_is refl (omega arith) (stay_fit t (root_view of.tree of.world) 1 fits.fits))

    abbrev s : RunState
    s = state_of_runs t drivers runs

    abbrev before : Runner
    before = runner_in t drivers r

    is_before : runner_at s message.runner ≡ Some before
    is_before = slice_get-map (runner_in t drivers) runs.runners.items k ∙ ap (option_map (runner_in t drivers)) is

    runner_now : runner_in t drivers1 r ≡ called before call
    runner_now = λ i. record { memory = before.memory; board = r.board; instances = instances_now i }

    runners_now : runners_in t drivers1 runs.runners.items ≡ set s.runners k (called before call)
    runners_now =
        ap (runners_in t drivers1) (sym set_same)
        ∙ runners_put of.tree of.world runs.runners.items runs.facts drivers can.are.fit k r is r runs.facts drivers1 refl (call ∷ []) called_is
        ∙ ap (set s.runners k) runner_now

    abbrev runs1 : Runs
    runs1 = record { runners = runs.runners; facts = runs.facts; told = runs.told; last = message.at; usable = runs.usable }

    abbrev calls : List RunnerCall
    calls = runner_calls message.runner (call ∷ [])

    drivers_now : drivers1 ≡ roster_over (arenas_of runs) calls drivers
    drivers_now =
        called_is
        ∙ ap (λ (ns : List Node). roster_after ns (call ∷ []) drivers) (sym (nodes_are of.tree of.world runs.runners.items runs.facts drivers can.are.fit k r is message.runner refl))
        ∙ sym (over_runner (arenas_of runs) message.runner (call ∷ []) drivers)

    -- no entry of a blackboard changes
    no_entry : changed_boards 1 s.runners (set s.runners k (called before call)) ≡ []
    no_entry =
        one_board 1 s.runners k (called before call) (omega (arith, can.first, can.last, can.are.fit.many, length-map runs.runners.items (runner_in t drivers)))
        ∙ ap (λ (board : List (Option Value)). changed_entries (1 + k) 0 board r.board)
        (get_or_from_slice_get (map board_of s.runners) k r.board [] (slice_get-map board_of s.runners k ∙ ap (option_map board_of) is_before))
        ∙ same_entries (1 + k) 0 r.board

    module _ (old block : Block) (header_is : block.header ≡ header.Tell message.runner message.uid (succeeds message.telling) message.at)
        (notes_are : block.notes ≡ record { list = []; reserve = old.notes.full; full = old.notes.full }) (no_facts : block.facts.items ≡ []) (no_entries : block.entries.items ≡ []) where
      step_made : EventEnds (Ok tt) t drivers drivers1 runs1 block (tell_step (Some before) message.runner message.uid message.telling message.at s)
      step_made = (
        refl,
        record {
          state = λ i. record { runners = runners_now i; facts = runs.facts; last = message.at };
          shown = λ i. record {
            header = header_is i;
            notes = (ap (λ (n : Noted). n.list) notes_are) i;
            facts = (no_facts ∙ sym (none_changed 0 runs.facts)) i;
            entries = (no_entries ∙ sym no_entry) i;
          };
          drivers = drivers_now;
        },
      )

      step_is : EventEnds (Ok tt) t drivers drivers1 runs1 block (message_step message s)
      step_is = subst (λ (o : Option Runner). EventEnds (Ok tt) t drivers drivers1 runs1 block (tell_step o message.runner message.uid message.telling message.at s)) (sym is_before) step_made

      stays : StayRuns of.tree of.world drivers1 runs1
      stays = record { usable = can.are.usable; fit = fit_now; told = can.are.told }

      -- what the event leaves
      pub message_left : EventLeft of (Ok tt) (event_side drivers runs old) (event_side drivers1 runs1 block) (message_step message s)
      message_left = record {
        step = step_is;
        runs =
            steady_after (Ok tt) of.tree of.world drivers drivers1 runs1 block (message_step message s) step_is
            (step_steady of.tree of.world s can.are.steady message.at can.ahead (Tell message.runner message.uid message.telling)) stays;
        quenched = tt;
        none = tt;
        usable = tt;
        arenas = refl;
        room = ap (λ (n : Noted). n.full) notes_are;
        roster = subst (IsSameRoster drivers) (sym drivers_now) (over_same (arenas_of runs) calls drivers);
      }

-- ---- Want of memory

-- nothing faults where a leaf is told something
no_fault : (o : Option Runner) (runner uid : ℕ) (telling : Telling) (at : ℕ) (s : RunState) → (tell_step o runner uid telling at s).fault ≡ None
no_fault None runner uid telling at s = refl
no_fault (Some r) runner uid telling at s = refl

no_fault_told : (what : What) (tree : Tree) (world : World) (at : ℕ) (s : RunState) → Tells what → (step_by what tree world at s).fault ≡ None
no_fault_told (Tell runner uid telling) tree world at s tells = no_fault (runner_at s runner) runner uid telling at s
no_fault_told (Tick runner) tree world at s tells = absurd tells
no_fault_told (Halt runner) tree world at s tells = absurd tells
no_fault_told (Change fact value) tree world at s tells = absurd tells

-- an event that tells a leaf something is a telling
pub is_telling : (what : What) → Tells what → ((runner uid : ℕ) (telling : Telling) → what ≡ Tell runner uid telling → ⊥) → ⊥
is_telling (Tell runner uid telling) tells other = other runner uid telling refl
is_telling (Tick runner) tells other = tells
is_telling (Halt runner) tells other = tells
is_telling (Change fact value) tells other = tells

-- an event that tells a leaf something is cut off before it
pub telling_cut : (tree : Tree) (world : World) (event : Event) (drivers after : List DriverState) (runs left : Runs) (told noted : List Note) → Tells event.what →
    told ≡ [] → IsQuenched tree drivers after runs left told noted → IsCutOff (arenas_of left) drivers after noted (step tree world event (state_of_runs tree.term drivers runs))
telling_cut tree world event drivers after runs left told noted tells none q =
    let s : RunState = state_of_runs tree.term drivers runs in
    let d : Stepped = step tree world event s in
    record {
      told = [];
      untold = d.block.notes;
      made = [];
      unmade = d.calls;
      held = s.runners;
      all_notes = refl;
      all_calls = refl;
      named = refl;
      before_fault = subst (λ (fault : Option RunFault). IfSome fault (λ f. EndsInFault f d.block.notes d.calls)) (sym (no_fault_told event.what tree world event.at s tells)) tt;
      instances = instances_are tree.term drivers runs.runners.items ∙ ap (map (λ nodes. instances_of nodes drivers)) (sym q.arenas);
      noted = q.notes ∙ ap (λ (ns : List Note). ns ++ quench_notes 1 s.runners) none;
      drivers = q.drivers ∙ ap (λ (arenas : List (List Node)). roster_over arenas (quench_calls 1 s.runners) drivers) (sym q.arenas);
    }
