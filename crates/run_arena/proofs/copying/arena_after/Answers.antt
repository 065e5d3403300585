use Rattle.std.proofs.Common.{◌≡◌, ◌-◌, ℕ, List, Some, length, map, replicate, refl, sym, ap, ◌∙◌, arith}
use Rattle.base_tables.specs.DriverCalls.{kind_of_way}
use Rattle.run_driver.specs.Rules.{rule}
use Rattle.run_arena.specs.declared.nodes.Node.{Node}
use Rattle.run_arena.specs.Copying.{node_moved}
use Rattle.run_arena.specs.Laying.{next_after}
use Rattle.run_arena.specs.Nodes.{at_rest, leaf_at}
use Rattle.run_arena.proofs.Copied.{arena_moved}
use Rattle.run_arena.proofs.Joined.{place_within}
use Rattle.run_arena.proofs.copying.arena_after.Goals as goal

pub counts_in-requires : goal.counts_in-requires
counts_in-requires g c uid leaf at =
    let is = c.requires.first.1 in
    let here : leaf_at c.args.first.now.nodes.items uid ≡ Some leaf = ap (λ (ns : List Node). leaf_at ns uid) (sym c.as_slice.ensures.value) ∙ at in
    omega (arith, c.count.ensures, place_within (g.D.Drivers.states c.args.drivers.now) (kind_of_way (rule leaf.row).way) leaf.driver (is.numbered.driver uid leaf here))

pub returns : goal.returns
returns g c world is =
    let drivers = g.D.Drivers.states c.args.drivers.now in
    let first = c.args.first.now in
    let counts = c.in_ok-counts.counts.items in
    let nodes = c.in_ok-nodes.nodes.items in
    let before = c.from-before.result - 1 in
    let all : counts ≡ next_after first.nodes.items (replicate (length drivers) 0) =
    c.in_ok-counts.ensures ∙ ap (λ (ns : List Node). next_after ns (replicate c.count.result 0)) c.as_slice.ensures.value ∙ ap (λ n. next_after first.nodes.items (replicate n 0)) c.count.ensures in
    let moved : nodes ≡ map (node_moved before counts) first.nodes.items =
    c.in_ok-nodes.ensures ∙ ap (λ (xs : List ℕ). map (node_moved before xs) c.as_slice-2.result.now) c.as_slice-3.ensures.value ∙ ap (map (node_moved before counts)) c.as_slice-2.ensures.value in
    arena_moved
    c.args.tree.now world drivers before c.args.runner counts first
    (record { runner = c.args.runner; nodes = c.in_ok-nodes.nodes; kept = c.in_ok-kept.kept; frames = c.in_ok-frames.frames })
    is (ap (λ n. n - 1) c.from-before.ensures) all refl moved
    (c.in_ok-kept.ensures ∙ ap (λ n. replicate n at_rest) (omega (arith, c.len.ensures, c.in_ok-nodes.nodes.ok.0)))
    c.in_ok-frames.ensures.empty
    c.in_ok-frames.ensures.room
