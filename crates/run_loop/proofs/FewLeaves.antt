-- The runners of a tree in a world, both of which can be run, have few leaves together.
use Rattle.std.proofs.Common.{◌≡◌, ℕ, ℤ, suc, ◌+◌, ◌*◌, ◌≤◌, List, [], ◌∷◌, Some, map, length, slice_get, refl, arith}
use Rattle.std.proofs.Math.Nat.{add-mul}
use Rattle.std.proofs.lemmas.Nat.{mul-le}
use Rattle.std.proofs.lemmas.List.Sums.{count_by-le-length, sum_by-cons}
use Rattle.spec_tree.specs.declared.term.Tree.{Tree}
use Rattle.spec_world.specs.declared.world.World.{World}
use Rattle.spec_run.specs.Drivers.{DriverState}
use Rattle.base_tables.specs.Runnable.{IsRunnable}
use Rattle.spec_world.specs.Runnable.{IsRunnableWorld}
use Rattle.run_arena.specs.declared.nodes.Node.{Node}
use Rattle.run_arena.specs.Rosters.{has_driver, leaves_in}
use Rattle.run_loop.specs.declared.runs.ReadyRunner.{ReadyRunner}
use Rattle.run_loop.specs.Runs.{RunnersFit, arenas_in, leaves_of}

-- each runner has no more leaves than nodes
leaves_within : (runners : List ReadyRunner) (most : ℕ) → ((k : ℕ) (r : ReadyRunner) → slice_get runners k ≡ Some r → length r.arena.nodes.items ≤ most) → leaves_of (arenas_in runners) ≤ length runners * most
leaves_within [] most each = omega arith
leaves_within (r ∷ runners) most each =
    let here : leaves_in r.arena.nodes.items ≤ length r.arena.nodes.items = count_by-le-length (λ (node : Node). has_driver node.leaf) r.arena.nodes.items in
    let whole : leaves_of (arenas_in (r ∷ runners)) ≡ leaves_in r.arena.nodes.items + leaves_of (arenas_in runners) = sum_by-cons (λ (k : ℕ). k) (leaves_in r.arena.nodes.items) (map leaves_in (arenas_in runners)) in
    let spread : (1 + length runners) * most ≡ 1 * most + length runners * most = add-mul 1 (length runners) most in
    omega (arith, here, whole, spread, each 0 r refl, leaves_within runners most (λ k x at. each (suc k) x at))

-- there are at most 16 runners, each with 4097 places
pub leaves_are_few : (tree : Tree) (world : World) (facts : List ℤ) (drivers : List DriverState) (runners : List ReadyRunner) → IsRunnable tree → IsRunnableWorld world → RunnersFit tree world facts drivers runners →
    leaves_of (arenas_in runners) ≤ 65552
leaves_are_few tree world facts drivers runners runnable runnable_world fit =
    let all : leaves_of (arenas_in runners) ≤ length runners * 4097 = leaves_within runners 4097 (λ k r at. omega (arith, (fit.each k r at).nodes, runnable.limits.nodes)) in
    let most : length runners * 4097 ≤ 16 * 4097 = mul-le (length runners) 4097 16 4097 (omega (arith, fit.many, runnable_world.few_runners)) (omega arith) in
    omega (arith, all, most)
