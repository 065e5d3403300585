-- The part of one runner, put back among all runners.
use Rattle.std.proofs.Common.{◌≡◌, inl, inr, ℕ, ℤ, ◌+◌, ◌-◌, ◌≤◌, List, [], ◌++◌, Option, Some, OnOk, Result, Ok, Err, length, get_or, slice_get, set, option_map, refl, sym, ap, subst, ◌∙◌, arith}
use Rattle.std.proofs.lemmas.List.{get_or-set_same, length-set, map-set}
use Rattle.std.proofs.lemmas.Option.{get_or_from_slice_get, slice_get-map}
use Rattle.std.proofs.Math.Seq.{map-set_same}
use Rattle.std.specs.Vec.{vec_capacity}
use Rattle.base_texts.specs.declared.stop.NoMemory.{NoMemory}
use Rattle.base_texts.specs.declared.stop.Stop.{Stop}
use Rattle.base_texts.specs.declared.stop.Stop.TheVariants as stop
use Rattle.base_texts.specs.Stops.{UnlessMemory}
use Rattle.spec_script.specs.declared.value.Value.{Value}
use Rattle.spec_run.specs.declared.fault.NodeFault.{NodeFault}
use Rattle.spec_run.specs.declared.leaf.Instance.{Instance}
use Rattle.spec_run.specs.declared.memory.Memory.{Memory}
use Rattle.spec_run.specs.declared.note.Note.{Note}
use Rattle.spec_tree.specs.declared.term.Term.{Term}
use Rattle.spec_tree.specs.declared.term.Tree.{Tree}
use Rattle.spec_world.specs.declared.world.World.{World}
use Rattle.spec_run.specs.Done.{Call, Done}
use Rattle.spec_run.specs.Drivers.{DriverState}
use Rattle.spec_run.specs.Run.{RunState, Runner, changed_entries, root_view, runner_at, runner_calls, state_of}
use Rattle.base_tables.specs.Sound.{Steady}
use Rattle.run_arena.specs.declared.nodes.Node.{Node}
use Rattle.run_arena.specs.Ends.{IsMade, Meets}
use Rattle.run_arena.specs.Nodes.{leaf_at}
use Rattle.run_arena.specs.Rosters.{AreServed, instances_of, roster_after}
use Rattle.run_arena.specs.Scenes.{Fits, Scene, scene, state_in}
use Rattle.run_arena.specs.Stands.{memory_of}
use Rattle.run_laws.proofs.Events.{steady_moves}
use Rattle.run_loop.specs.declared.parts.Turn.{Turn}
use Rattle.run_loop.specs.declared.runs.ReadyRunner.{ReadyRunner}
use Rattle.run_loop.specs.declared.runs.Runs.{Runs}
use Rattle.run_loop.specs.Parts.{CanAct, MeetsPart, PartEnds, PartMade, part_of, scene_of, state_of_all, state_of_runner, turn_part}
use Rattle.run_loop.specs.Runs.{AreApart, AreRuns, HeldAreTheirs, RunnerFits, RunnersFit, arenas_in, arenas_of, boards_in, nodes_of_runner, nth_board, roster_over, runner_in, runners_in, state_of_runs}
use Rattle.spec_run.specs.Served.{Setup}
use Rattle.run_loop.proofs.Lists.{set_alike, set_is, within}
use Rattle.run_loop.proofs.Others.{Apart, held_after, other_fits, other_instances, over_runner}

-- the calls that were made, whether a part was made or stopped
pub calls_of : {A M : Type 0} (nodes : List Node) (moment : ℕ) (memory : List _ → M) (r : Result A (Stop NodeFault)) (before after : Scene) (old new : List Note) (d : Done A M) →
    Meets nodes moment memory r before after old new d → (calls : List Call) × (after.drivers ≡ roster_after nodes calls before.drivers)
calls_of nodes moment memory (Ok a) before after old new d m = (d.calls, m.0.drivers)
calls_of nodes moment memory (Err (stop.Fault f)) before after old new d m = (d.calls, m.drivers)
calls_of nodes moment memory (Err stop.NoMemory) before after old new d m = (m.made, m.drivers)

-- between events each runner can make its part
pub can_act : (tree : Tree) (world : World) (at : ℕ) (drivers : List DriverState) (runs : Runs) → AreRuns tree world drivers runs → runs.last ≤ at →
    (k : ℕ) (r : ReadyRunner) → slice_get runs.runners.items k ≡ Some r → CanAct tree world at runs.facts drivers r
can_act tree world at drivers runs are ahead k r is =
    let now : Steady tree.term world.rows (runner_in tree.term drivers r).memory (state_of (runner_in tree.term drivers r) runs.facts runs.last) =
    are.steady k (runner_in tree.term drivers r) (slice_get-map (runner_in tree.term drivers) runs.runners.items k ∙ ap (option_map (runner_in tree.term drivers)) is) in
    let then : Steady tree.term world.rows (runner_in tree.term drivers r).memory (state_of (runner_in tree.term drivers r) runs.facts at) =
    steady_moves tree.term world.rows (runner_in tree.term drivers r).memory (state_of (runner_in tree.term drivers r) runs.facts runs.last) (state_of (runner_in tree.term drivers r) runs.facts at) refl ahead now in
    record { fits = (are.fit.each k r is).fits; sound = then.sound; dated = then.dated }

module _ (tree : Tree) (world : World) (runners : List ReadyRunner) (facts : List ℤ) (drivers : List DriverState) (fit : RunnersFit tree world facts drivers runners)
    (i : ℕ) (r : ReadyRunner) (is : slice_get runners i ≡ Some r) where
  abbrev t : Term
  t = tree.term

  abbrev a : List Node
  a = r.arena.nodes.items

  abbrev nodes_in : ReadyRunner → List Node
  nodes_in x = x.arena.nodes.items

  are : AreServed drivers a
  are = (fit.each i r is).fits.leaves

  arena_at : (k : ℕ) (x : ReadyRunner) → slice_get runners k ≡ Some x → slice_get (arenas_in runners) k ≡ Some x.arena.nodes.items
  arena_at k x at = slice_get-map nodes_in runners k ∙ ap (option_map nodes_in) at

  pub apart_from : (k : ℕ) (x : ReadyRunner) → slice_get runners k ≡ Some x → (k ≡ i → ⊥) → Apart a x.arena.nodes.items
  apart_from k x at other uid p l m la lb same_driver same_instance =
      other (sym (fit.apart i k uid p a x.arena.nodes.items l m (arena_at i r is) (arena_at k x at) la lb same_driver same_instance))

  -- the nodes of this runner
  pub nodes_are : (number : ℕ) → number - 1 ≡ i → nodes_of_runner (arenas_in runners) number ≡ a
  nodes_are number at = ap (λ k. get_or (arenas_in runners) k []) at ∙ get_or_from_slice_get (arenas_in runners) i a [] (arena_at i r is)

  module _ (new : ReadyRunner) (facts1 : List ℤ) (drivers1 : List DriverState) (nodes : new.arena.nodes.items ≡ a) (calls : List Call) (called : drivers1 ≡ roster_after a calls drivers) where
    pub arenas_same : arenas_in (set runners i new) ≡ arenas_in runners
    arenas_same = map-set_same nodes_in runners i new r (nodes ∙ ap nodes_in (sym (get_or_from_slice_get runners i r r is)))

    others_same : (k : ℕ) (x : ReadyRunner) → slice_get runners k ≡ Some x → (k ≡ i → ⊥) → instances_of x.arena.nodes.items drivers1 ≡ instances_of x.arena.nodes.items drivers
    others_same k x at other = ap (instances_of x.arena.nodes.items) called ∙ other_instances a x.arena.nodes.items (apart_from k x at other) calls drivers are

    -- only this runner has changed
    pub runners_put : runners_in t drivers1 (set runners i new) ≡ set (runners_in t drivers runners) i (runner_in t drivers1 new)
    runners_put =
        map-set (runner_in t drivers1) runners i new
        ∙ set_alike (runner_in t drivers1) (runner_in t drivers) runners i (runner_in t drivers1 new)
        (λ k x at other. ap (λ (xs : List Instance). let one : Runner = record { memory = memory_of t 1 x.arena.kept.items; board = x.board; instances = xs } in one) (others_same k x at other))

    -- and all fit again
    pub fit_put : new.arena.runner ≡ r.arena.runner → vec_capacity r.arena.frames ≤ vec_capacity new.arena.frames → Fits t (root_view tree world) 1 a (scene_of new facts1 drivers1) → RunnersFit tree world facts1 drivers1 (set runners i new)
    fit_put number room fits1 = record {
      many = length-set runners i new ∙ fit.many;
      each = λ k y at. elim (set_is runners i new k y at) [
        | inl here ↦ subst (λ (x : ReadyRunner). RunnerFits tree world facts1 drivers1 (k + 1) x) here.1 (record {
          numbered = number ∙ (fit.each i r is).numbered ∙ ap (λ p. p + 1) (sym here.0);
          fits = subst (λ (ns : List Node). Fits t (root_view tree world) 1 ns (scene_of new facts1 drivers1)) (sym nodes) fits1;
          nodes = ap length nodes ∙ (fit.each i r is).nodes;
          nobody = ap (λ (ns : List Node). leaf_at ns 0) nodes ∙ (fit.each i r is).nobody;
          deep = omega (arith, room, (fit.each i r is).deep);
        })
        | inr there ↦
            let was : RunnerFits tree world facts drivers (k + 1) y = fit.each k y there.1 in
            record {
              numbered = was.numbered;
              fits = subst (λ (ds : List DriverState). Fits t (root_view tree world) 1 y.arena.nodes.items (scene y.arena.kept.items y.board facts1 ds)) (sym called)
                  (other_fits a y.arena.nodes.items (apart_from k y there.1 there.0) t (root_view tree world) y.arena.kept.items y.board facts facts1 calls drivers are fits1.facts was.fits);
              nodes = was.nodes;
              nobody = was.nobody;
              deep = was.deep;
            }
      ];
      apart = subst AreApart (sym arenas_same) fit.apart;
      theirs = subst (λ (ns : List (List Node)). HeldAreTheirs ns drivers1) (sym arenas_same) (subst (HeldAreTheirs (arenas_in runners)) (sym called) (held_after (arenas_in runners) i a (arena_at i r is) calls drivers are fit.theirs));
      many_facts = fits1.facts;
      few_facts = fit.few_facts;
      few_slots = fit.few_slots;
    }

  module _ (number last at : ℕ) (here : number - 1 ≡ i) (new : ReadyRunner) (facts1 : List ℤ) (drivers1 : List DriverState) (nodes : new.arena.nodes.items ≡ a) (old told : List Note) (d : Done (Unit {0}) Memory) where
    abbrev s : RunState
    s = state_of_all t drivers runners facts last

    called_over : (calls : List Call) → drivers1 ≡ roster_after a calls drivers → drivers1 ≡ roster_over (arenas_in runners) (runner_calls number calls) drivers
    called_over calls called = called ∙ ap (λ (ns : List Node). roster_after ns calls drivers) (sym (nodes_are number here)) ∙ sym (over_runner (arenas_in runners) number calls drivers)

    made : (ending : Result (Unit {0}) NodeFault) → IsMade a at (memory_of t 1) ending (scene_of r facts drivers) (scene_of new facts1 drivers1) old told d →
        PartMade t number at s (arenas_in runners) drivers drivers1 (set runners i new) facts1 old told ending d
    made ending m = record {
      answer = m.answer;
      state =
          let state_is : state_in new.arena.nodes.items (scene_of new facts1 drivers1) at ≡ d.state = ap (λ (ns : List Node). state_in ns (scene_of new facts1 drivers1) at) nodes ∙ sym m.state in
          (λ j. let all : RunState = record { runners = runners_put new facts1 drivers1 nodes d.calls m.drivers j; facts = facts1; last = at } in all)
          ∙ (λ j. let all : RunState = record { runners = set s.runners (sym here j) (record { memory = sym m.memory j; board = (state_is j).board; instances = (state_is j).instances }); facts = (state_is j).facts; last = at } in all);
      notes = m.notes;
      drivers = called_over d.calls m.drivers;
    }

    -- a part ends among all runners as it does for its runner
    pub ends : (result : Result (Unit {0}) (Stop NodeFault)) → Meets a at (memory_of t 1) result (scene_of r facts drivers) (scene_of new facts1 drivers1) old told d →
        PartEnds result t number at s (arenas_in runners) drivers drivers1 (set runners i new) facts1 old told d
    ends (Ok done) m = (made (Ok tt) m.0, m.1)
    ends (Err (stop.Fault f)) m = made (Err f) m
    ends (Err stop.NoMemory) m = record {
      told = m.told;
      untold = m.untold;
      made = m.made;
      unmade = m.unmade;
      all_notes = m.all_notes;
      all_calls = m.all_calls;
      named = m.named;
      notes = m.notes;
      drivers = called_over m.made m.drivers;
    }

-- a runner's part, among all runners
pub part_among : (of : Setup) (turn : Turn) (drivers : List DriverState) (runs : Runs) (are : AreRuns of.tree of.world drivers runs) (first : 1 ≤ turn.runner) (r : ReadyRunner) (is : slice_get runs.runners.items (turn.runner - 1) ≡ Some r)
    (new : ReadyRunner) (facts1 : List ℤ) (drivers1 : List DriverState) (nodes : new.arena.nodes.items ≡ r.arena.nodes.items) (result : Result (Unit {0}) (Stop NodeFault)) (old told : List Note) →
    MeetsPart of turn.part turn.at result r (scene_of r runs.facts drivers) (scene_of new facts1 drivers1) old told →
    (x : Runner) → runner_at (state_of_runs of.tree.term drivers runs) turn.runner ≡ Some x →
    PartEnds result of.tree.term turn.runner turn.at (state_of_runs of.tree.term drivers runs) (arenas_of runs) drivers drivers1 (set runs.runners.items (turn.runner - 1) new) facts1 old told (turn_part of turn (state_of_runs of.tree.term drivers runs) x)
part_among of turn drivers runs are first r is new facts1 drivers1 nodes result old told m x is_x =
    let t = of.tree.term in
    let number = turn.runner in
    let at = turn.at in
    let runners = runs.runners.items in
    let facts = runs.facts in
    let number_is : r.arena.runner ≡ number = omega (arith, (are.fit.each (number - 1) r is).numbered, first) in
    let found : Some (runner_in t drivers r) ≡ Some x = sym (slice_get-map (runner_in t drivers) runners (number - 1) ∙ ap (option_map (runner_in t drivers)) is) ∙ is_x in
    let same : runner_in t drivers r ≡ x = cc in
    subst (λ (y : Runner). PartEnds result t number at (state_of_runs t drivers runs) (arenas_of runs) drivers drivers1 (set runners (number - 1) new) facts1 old told (part_of turn.part of.tree of.world number y.memory (state_of y facts at))) same
    (ends of.tree of.world runners facts drivers are.fit (number - 1) r is number runs.last at refl new facts1 drivers1 nodes old told _ result
    (subst (λ (n : ℕ). Meets r.arena.nodes.items at (memory_of t 1) result (scene_of r facts drivers) (scene_of new facts1 drivers1) old told (part_of turn.part of.tree of.world n (memory_of t 1 r.arena.kept.items) (state_of_runner r facts drivers at))) number_is m))

-- the entries of a runner's blackboard that changed since it was `past`, among all runners
pub entries_among : (runners : List ReadyRunner) (number : ℕ) (r : ReadyRunner) → slice_get runners (number - 1) ≡ Some r → (past : List (Option Value)) → nth_board runners number ≡ past →
    (new : ReadyRunner) (ended : Result (Unit {0}) (Stop NodeFault)) (told : Result (Unit {0}) NoMemory) (before after : List (ℕ × ℕ × Value)) → UnlessMemory ended (OnOk told (after ≡ before ++ changed_entries number 0 past new.board)) →
    UnlessMemory ended (OnOk told (after ≡ before ++ changed_entries number 0 (nth_board runners number) (nth_board (set runners (number - 1) new) number)))
entries_among runners number r is past was new ended told before after said =
    let board : ReadyRunner → List (Option Value) = λ x. x.board in
    let here : slice_get (boards_in runners) (number - 1) ≡ Some r.board = slice_get-map board runners (number - 1) ∙ ap (option_map board) is in
    let new_is : nth_board (set runners (number - 1) new) number ≡ new.board =
    ap (λ xs. get_or xs (number - 1) []) (map-set board runners (number - 1) new) ∙ get_or-set_same (boards_in runners) (number - 1) new.board [] (within (boards_in runners) (number - 1) r.board here) in
    subst (λ b. UnlessMemory ended (OnOk told (after ≡ before ++ changed_entries number 0 b (nth_board (set runners (number - 1) new) number)))) (sym was)
    (subst (λ b. UnlessMemory ended (OnOk told (after ≡ before ++ changed_entries number 0 past b))) (sym new_is) said)
