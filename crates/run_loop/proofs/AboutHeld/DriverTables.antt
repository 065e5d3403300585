-- What drivers hold in their tables is that of leaves that run.
use Rattle.std.proofs.Common.{◌≡◌, ℕ, zero, suc, ◌+◌, ◌<◌, ◌≤◌, Bool, true, List, [], ◌∷◌, Option, Some, None, length, get_or, slice_get, option_map, is_some, Result, Ok, Err, OnErr, OnOk, refl, sym, ap, ◌∙◌, arith}
use Rattle.std.proofs.lemmas.Bool.{both_ways}
use Rattle.std.proofs.lemmas.List.{length-map}
use Rattle.std.proofs.lemmas.Option.{slice_get-map}
use Rattle.base_texts.specs.declared.stop.Stop.{Stop}
use Rattle.spec_run.specs.declared.fault.RunFault.{RunFault}
use Rattle.spec_run.specs.declared.leaf.Instance.{Instance}
use Rattle.spec_tree.specs.declared.term.Tree.{Tree}
use Rattle.spec_world.specs.declared.world.World.{World}
use Rattle.spec_run.specs.Drivers.{DriverState, NothingHeld, is_held}
use Rattle.base_tables.specs.DriverCalls.{instance_at}
use Rattle.spec_run.specs.Leaf.{fresh}
use Rattle.spec_run.specs.Run.{Runner, state_of}
use Rattle.base_tables.specs.Sound.{Steady, held_at}
use Rattle.spec_run.specs.Visit.{meaning}
use Rattle.run_laws.proofs.Quenches.{size_is_count}
use Rattle.run_arena.specs.declared.nodes.Node.{Node}
use Rattle.run_arena.specs.declared.nodes.ReadyLeaf.{ReadyLeaf}
use Rattle.run_arena.specs.Nodes.{leaf_at}
use Rattle.run_arena.specs.Rosters.{instances_of, leaf_instance}
use Rattle.run_arena.proofs.Called.{instance_at_uid}
use Rattle.run_loop.specs.declared.runs.ReadyRunner.{ReadyRunner}
use Rattle.run_loop.specs.declared.runs.Runs.{Runs}
use Rattle.run_loop.specs.Runs.{AreRuns, IsTheirs, arenas_of, runner_in, state_of_runs}
use Rattle.run_loop.proofs.Lists.{entry, within}
use Rattle.run_loop.specs.Held.RunningLeaves.{HasItsHeld, IsOfRunningLeaf, RunsDownTo}
use Rattle.run_loop.proofs.AboutHeld.RunningLeaves.{held_runs, runs_held}

-- ---- An instance of a list

-- one that is held is there
held_there : (is : List Instance) (uid : ℕ) → is_held (get_or is uid fresh) ≡ true → option_map (λ (i : Instance). is_some i.since) (slice_get is uid) ≡ Some true
held_there [] uid e = cc
held_there (i ∷ is) zero e = ap Some e
held_there (i ∷ is) (suc uid) e = held_there is uid e

there : {A : Type 0} (xs : List A) (f : A → Bool) (k : ℕ) → option_map f (slice_get xs k) ≡ Some true → k < length xs
there [] f k e = cc
there (x ∷ xs) f zero e = omega arith
there (x ∷ xs) f (suc k) e = omega (arith, there xs f k e)

not_nobody : (nodes : List Node) (uid : ℕ) (leaf : ReadyLeaf) → leaf_at nodes 0 ≡ None → leaf_at nodes uid ≡ Some leaf → 1 ≤ uid
not_nobody nodes zero leaf nobody is = let e : None ≡ Some leaf = sym nobody ∙ is in cc
not_nobody nodes (suc uid) leaf nobody is = omega arith

-- ---- Runs

module _ (tree : Tree) (world : World) (drivers : List DriverState) (runs : Runs) (are : AreRuns tree world drivers runs) where
  abbrev rs : List ReadyRunner
  rs = runs.runners.items

  abbrev nodes_in : ReadyRunner → List Node
  nodes_in x = x.arena.nodes.items

  -- a runner, and a leaf of it whose instance is held
  module _ (k : ℕ) (x : ReadyRunner) (at : slice_get rs k ≡ Some x) (uid : ℕ) (leaf : ReadyLeaf) (is_leaf : leaf_at x.arena.nodes.items uid ≡ Some leaf)
      (held : is_held (instance_at drivers leaf.driver leaf.instance) ≡ true) where
    abbrev here : Runner
    here = runner_in tree.term drivers x

    here_is : slice_get (state_of_runs tree.term drivers runs).runners k ≡ Some here
    here_is = slice_get-map (runner_in tree.term drivers) rs k ∙ ap (option_map (runner_in tree.term drivers)) at

    steady : Steady tree.term world.rows here.memory (state_of here runs.facts runs.last)
    steady = are.steady k here here_is

    many : length here.instances ≡ 1 + (meaning tree.term).size
    many =
        length-map x.arena.nodes.items (λ (node : Node). leaf_instance drivers node.leaf)
        ∙ (are.fit.each k x at).nodes
        ∙ ap (λ (n : ℕ). 1 + n) (sym (size_is_count tree.term))

    held_in_table : held_at (state_of here runs.facts runs.last) uid ≡ Some true
    held_in_table = held_there here.instances uid (ap is_held (instance_at_uid x.arena.nodes.items drivers uid) ∙ ap (λ o. is_held (leaf_instance drivers o)) is_leaf ∙ held)

    runs_down : RunsDownTo tree.term 1 here.memory uid
    runs_down =
        held_runs tree.term world.rows 1 here.memory (state_of here runs.facts runs.last) steady.sound uid
        (not_nobody x.arena.nodes.items uid leaf (are.fit.each k x at).nobody is_leaf)
        (omega (arith, many, there here.instances (λ (i : Instance). is_some i.since) uid held_in_table)) held_in_table

  pub of_running_leaf : (place instance : ℕ) → is_held (instance_at drivers place instance) ≡ true → IsOfRunningLeaf tree drivers runs place instance
  of_running_leaf place instance held =
      let theirs : IsTheirs (arenas_of runs) place instance = are.fit.theirs place instance held in
      let x : (x : ReadyRunner) × (slice_get rs theirs.runner ≡ Some x) = entry rs theirs.runner (omega (arith, within (arenas_of runs) theirs.runner theirs.nodes theirs.is_runner, length-map rs nodes_in)) in
      let found : Some x.0.arena.nodes.items ≡ Some theirs.nodes = sym (slice_get-map nodes_in rs theirs.runner ∙ ap (option_map nodes_in) x.1) ∙ theirs.is_runner in
      let nodes_are : x.0.arena.nodes.items ≡ theirs.nodes = cc in
      let is_leaf : leaf_at x.0.arena.nodes.items theirs.uid ≡ Some theirs.leaf = ap (λ (ns : List Node). leaf_at ns theirs.uid) nodes_are ∙ theirs.is_leaf in
      let leaf_held : is_held (instance_at drivers theirs.leaf.driver theirs.leaf.instance) ≡ true = (λ j. is_held (instance_at drivers (theirs.is_driver j) (theirs.is_instance j))) ∙ held in
      record {
        theirs = theirs;
        runner = here theirs.runner x.0 x.1 theirs.uid theirs.leaf is_leaf leaf_held;
        is_runner = here_is theirs.runner x.0 x.1 theirs.uid theirs.leaf is_leaf leaf_held;
        runs_down = runs_down theirs.runner x.0 x.1 theirs.uid theirs.leaf is_leaf leaf_held;
      }

  -- ---- The instances of leaves that run

  -- a leaf whose instance is held
  leaf_held : (o : Option ReadyLeaf) → is_held (leaf_instance drivers o) ≡ true → (leaf : ReadyLeaf) × (o ≡ Some leaf) × (is_held (instance_at drivers leaf.driver leaf.instance) ≡ true)
  leaf_held None e = cc
  leaf_held (Some leaf) e = (leaf, refl, e)

  pub has_its_held : (place uid : ℕ) (r : Runner) → slice_get (state_of_runs tree.term drivers runs).runners place ≡ Some r → RunsDownTo tree.term 1 r.memory uid → HasItsHeld drivers runs place uid
  has_its_held place uid r is runs_down =
      let mapped : option_map (runner_in tree.term drivers) (slice_get rs place) ≡ Some r = sym (slice_get-map (runner_in tree.term drivers) rs place) ∙ is in
      let x : (x : ReadyRunner) × (slice_get rs place ≡ Some x) × (runner_in tree.term drivers x ≡ r) = of_map (slice_get rs place) r mapped in
      let now : held_at (state_of r runs.facts runs.last) uid ≡ Some true = runs_held tree.term world.rows 1 r.memory (state_of r runs.facts runs.last) (are.steady place r is).sound uid runs_down in
      let here : is_held (get_or (instances_of x.0.arena.nodes.items drivers) uid fresh) ≡ true =
      ap (λ (y : Runner). is_held (get_or y.instances uid fresh)) x.2 ∙ in_place r.instances uid now
      in
      let leaf = leaf_held (leaf_at x.0.arena.nodes.items uid) (ap is_held (sym (instance_at_uid x.0.arena.nodes.items drivers uid)) ∙ here) in
      record { runner = x.0; leaf = leaf.0; is_runner = x.1; is_leaf = leaf.1; held = leaf.2 }
    where
      of_map : (o : Option ReadyRunner) (r : Runner) → option_map (runner_in tree.term drivers) o ≡ Some r → (x : ReadyRunner) × (o ≡ Some x) × (runner_in tree.term drivers x ≡ r)
      of_map None r e = cc
      of_map (Some x) r e = (x, refl, cc)

      in_place : (is : List Instance) (uid : ℕ) → option_map (λ (i : Instance). is_some i.since) (slice_get is uid) ≡ Some true → is_held (get_or is uid fresh) ≡ true
      in_place [] uid e = cc
      in_place (i ∷ is) zero e = cc
      in_place (i ∷ is) (suc uid) e = in_place is uid e

-- whatever an event answers
pub after_any_answer : (tree : Tree) (world : World) (result : Result (Unit {0}) (Stop RunFault)) (drivers : List DriverState) (runs : Runs) →
    OnOk result (AreRuns tree world drivers runs) → OnErr result (NothingHeld drivers) →
    (place instance : ℕ) → is_held (instance_at drivers place instance) ≡ true → IsOfRunningLeaf tree drivers runs place instance
after_any_answer tree world (Ok a) drivers runs are none place instance held = of_running_leaf tree world drivers runs are place instance held
after_any_answer tree world (Err e) drivers runs are none place instance held = absurd (both_ways (is_held (instance_at drivers place instance)) (none place instance) held)
