-- Where no runner's root is RUNNING, no instance is held.
use Rattle.std.proofs.Common.{◌≡◌, inl, inr, ℕ, zero, suc, ◌+◌, ◌<◌, ◌≤◌, Bool, true, false, List, [], ◌∷◌, Some, length, get_or, slice_get, option_map, is_some, refl, sym, ap, ◌∙◌, arith}
use Rattle.std.proofs.lemmas.Bool.{cases_lt}
use Rattle.std.proofs.lemmas.List.{length-map}
use Rattle.std.proofs.lemmas.Option.{slice_get-map}
use Rattle.spec_run.specs.declared.leaf.Instance.{Instance}
use Rattle.spec_run.specs.declared.memory.Memory.{out-Memory}
use Rattle.spec_tree.specs.declared.term.Tree.{Tree}
use Rattle.spec_world.specs.declared.world.World.{World}
use Rattle.spec_run.specs.Drivers.{DriverState, NothingHeld, is_held}
use Rattle.base_tables.specs.DriverCalls.{instance_at}
use Rattle.spec_run.specs.Leaf.{fresh}
use Rattle.spec_run.specs.Run.{Runner, state_of}
use Rattle.base_tables.specs.Shapes.{is_running}
use Rattle.base_tables.specs.Sound.{Steady}
use Rattle.spec_run.specs.Visit.{meaning}
use Rattle.run_laws.proofs.Quenches.{size_is_count}
use Rattle.run_laws.proofs.Quiet.{rests_hold_nothing}
use Rattle.run_arena.specs.declared.nodes.Node.{Node}
use Rattle.run_arena.specs.Rosters.{instances_of, leaf_instance}
use Rattle.run_arena.proofs.Called.{instance_at_uid}
use Rattle.run_loop.specs.declared.runs.ReadyRunner.{ReadyRunner}
use Rattle.run_loop.specs.declared.runs.Runs.{Runs}
use Rattle.run_loop.specs.Runs.{AreRuns, IsTheirs, arenas_of, runner_in, state_of_runs}
use Rattle.run_loop.proofs.Lists.{entry, within}

-- an instance that is there, and is not held
free_there : (is : List Instance) (uid : ℕ) → option_map (λ (i : Instance). is_some i.since) (slice_get is uid) ≡ Some false → is_held (get_or is uid fresh) ≡ false
free_there [] uid e = refl
free_there (i ∷ is) zero e = cc
free_there (i ∷ is) (suc uid) e = free_there is uid e

-- an instance that is not there is not held
free_past : (is : List Instance) (uid : ℕ) → length is ≤ uid → is_held (get_or is uid fresh) ≡ false
free_past [] uid past = refl
free_past (i ∷ is) zero past = absurd (omega (arith, past))
free_past (i ∷ is) (suc uid) past = free_past is uid (omega (arith, past))

-- no root is RUNNING
abbrev pub RootsRest : Tree → List DriverState → Runs → Type 0
RootsRest tree drivers runs = (k : ℕ) (r : Runner) → slice_get (state_of_runs tree.term drivers runs).runners k ≡ Some r → is_running (out-Memory r.memory).status ≡ false

module _ (tree : Tree) (world : World) (drivers : List DriverState) (runs : Runs) (are : AreRuns tree world drivers runs) (rest : RootsRest tree drivers runs) where
  abbrev rs : List ReadyRunner
  rs = runs.runners.items

  abbrev nodes_in : ReadyRunner → List Node
  nodes_in x = x.arena.nodes.items

  module _ (k : ℕ) (x : ReadyRunner) (at : slice_get rs k ≡ Some x) where
    abbrev here : Runner
    here = runner_in tree.term drivers x

    abbrev instances : List Instance
    instances = instances_of x.arena.nodes.items drivers

    here_is : slice_get (state_of_runs tree.term drivers runs).runners k ≡ Some here
    here_is = slice_get-map (runner_in tree.term drivers) rs k ∙ ap (option_map (runner_in tree.term drivers)) at

    steady : Steady tree.term world.rows here.memory (state_of here runs.facts runs.last)
    steady = are.steady k here here_is

    many : length instances ≡ 1 + (meaning tree.term).size
    many =
        length-map x.arena.nodes.items (λ (node : Node). leaf_instance drivers node.leaf)
        ∙ (are.fit.each k x at).nodes
        ∙ ap (λ (n : ℕ). 1 + n) (sym (size_is_count tree.term))

    -- place 0 is no leaf's
    free_first : is_held (get_or instances 0 fresh) ≡ false
    free_first =
        ap is_held (instance_at_uid x.arena.nodes.items drivers 0)
        ∙ ap (λ o. is_held (leaf_instance drivers o)) (are.fit.each k x at).nobody

    free_node : (uid : ℕ) → 1 ≤ uid → uid < 1 + (meaning tree.term).size → is_held (get_or instances uid fresh) ≡ false
    free_node uid low high = free_there instances uid (rests_hold_nothing tree.term world.rows 1 here.memory (state_of here runs.facts runs.last) steady.sound (rest k here here_is) uid low high)

    free_of : (uid : ℕ) → is_held (get_or instances uid fresh) ≡ false
    free_of zero = free_first
    free_of (suc uid) = elim (cases_lt (suc uid) (1 + (meaning tree.term).size)) [
      | inl below ↦ free_node (suc uid) (omega arith) below
      | inr past ↦ free_past instances (suc uid) (omega (arith, past, many))
    ]

  free_leaf : (place instance : ℕ) → IsTheirs (arenas_of runs) place instance → is_held (instance_at drivers place instance) ≡ false
  free_leaf place instance theirs =
      let x : (x : ReadyRunner) × (slice_get rs theirs.runner ≡ Some x) = entry rs theirs.runner (omega (arith, within (arenas_of runs) theirs.runner theirs.nodes theirs.is_runner, length-map rs nodes_in)) in
      let found : Some x.0.arena.nodes.items ≡ Some theirs.nodes = sym (slice_get-map nodes_in rs theirs.runner ∙ ap (option_map nodes_in) x.1) ∙ theirs.is_runner in
      let nodes_are : x.0.arena.nodes.items ≡ theirs.nodes = cc in
      (λ j. is_held (instance_at drivers (sym theirs.is_driver j) (sym theirs.is_instance j)))
      ∙ ap (λ o. is_held (leaf_instance drivers o)) (sym theirs.is_leaf)
      ∙ ap is_held (sym (instance_at_uid theirs.nodes drivers theirs.uid))
      ∙ ap (λ (ns : List Node). is_held (get_or (instances_of ns drivers) theirs.uid fresh)) (sym nodes_are)
      ∙ free_of theirs.runner x.0 x.1 theirs.uid

  free_by : (held : Bool) (place instance : ℕ) → is_held (instance_at drivers place instance) ≡ held → held ≡ false
  free_by false place instance e = refl
  free_by true place instance e = sym e ∙ free_leaf place instance (are.fit.theirs place instance e)

  -- where no root is RUNNING, nothing is held
  pub resting_hold_nothing : NothingHeld drivers
  resting_hold_nothing place instance = free_by (is_held (instance_at drivers place instance)) place instance refl
