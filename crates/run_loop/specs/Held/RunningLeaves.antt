-- Leaves that are RUNNING, below nodes that all are.
use Rattle.std.specs.Prelude.{◌≡◌, ◌⊎◌, ℕ, ◌+◌, List, ◌∷◌, slice_get, true, Some}
use Rattle.spec_run.specs.declared.memory.Memory.{Memory, out-Memory}
use Rattle.spec_run.specs.declared.status.Status.TheVariants.{Running}
use Rattle.spec_tree.specs.declared.term.Kind.TheVariants.{Leaf}
use Rattle.spec_tree.specs.declared.term.Term.{Term, Term-F, rec-Term}
use Rattle.spec_tree.specs.declared.term.Tree.{Tree}
use Rattle.spec_run.specs.Drivers.{DriverState, is_held}
use Rattle.base_tables.specs.DriverCalls.{instance_at}
use Rattle.spec_run.specs.Run.{Runner}
use Rattle.spec_run.specs.Visit.{meaning}
use Rattle.run_arena.specs.declared.nodes.ReadyLeaf.{ReadyLeaf}
use Rattle.run_arena.specs.Nodes.{leaf_at}
use Rattle.run_loop.specs.declared.runs.ReadyRunner.{ReadyRunner}
use Rattle.run_loop.specs.declared.runs.Runs.{Runs}
use Rattle.run_loop.specs.Runs.{IsTheirs, arenas_of, state_of_runs}

-- what is said of the node with some uid in a term with this uid and this memory
abbrev pub Places : Type 1
Places = ℕ → Memory → ℕ → Type 0

-- it is said in one of some terms in order, of which the first has this uid
abbrev pub InOne : {X : Type 0} → (X → ℕ) → (X → Places) → List X → ℕ → List Memory → ℕ → Type 0
InOne size says (c ∷ cs) uid (m ∷ ms) p = says c uid m p ⊎ InOne size says cs (uid + size c) ms p
InOne size says _ uid _ p = ⊥

-- a node is RUNNING, and it is itself this leaf, or one of its children runs down to it
abbrev pub node_runs_down : (X : Type 0) → (X → Term) → (X → Places) → Term-F X → Places
node_runs_down X term says node uid m p =
    ((out-Memory m).status ≡ Running)
    × (((node.kind ≡ Leaf) × (p ≡ uid)) ⊎ InOne (λ c. (meaning (term c)).size) says node.children (uid + 1) (out-Memory m).children p)

-- in a term with this uid and this memory, the node with that uid is a leaf that is RUNNING, and all nodes above it
-- are RUNNING too
abbrev pub RunsDownTo : Term → Places
RunsDownTo = rec-Term Places node_runs_down

-- the instance of the driver at this place is that of a leaf that is RUNNING, as are all nodes above it
pub record IsOfRunningLeaf (tree : Tree) (drivers : List DriverState) (runs : Runs) (place instance : ℕ) : Type 0 where
  pub theirs : IsTheirs (arenas_of runs) place instance
  pub runner : Runner
  pub is_runner : slice_get (state_of_runs tree.term drivers runs).runners theirs.runner ≡ Some runner
  pub runs_down : RunsDownTo tree.term 1 runner.memory theirs.uid

-- the node with this uid of the runner at a place is a leaf, whose instance its driver holds
pub record HasItsHeld (drivers : List DriverState) (runs : Runs) (place uid : ℕ) : Type 0 where
  pub runner : ReadyRunner
  pub leaf : ReadyLeaf
  pub is_runner : slice_get runs.runners.items place ≡ Some runner
  pub is_leaf : leaf_at runner.arena.nodes.items uid ≡ Some leaf
  pub held : is_held (instance_at drivers leaf.driver leaf.instance) ≡ true
