use Rattle.std.proofs.Common.{◌≡◌, ◌*◌, length, refl, sym, ap, ◌∙◌, arith}
use Rattle.run_arena.proofs.Joined.{place_within}
use Rattle.run_arena.specs.Nodes.{leaf_at}
use Rattle.run_arena.specs.Rosters.{served}
use Rattle.spec_run.specs.Served.{instances_wanted}
use Rattle.run_loop.proofs.Counting.{arena_counts_are_wanted}
use Rattle.run_loop.proofs.Growing.{indexed}
use Rattle.run_loop.proofs.Results.{both_give}
use Rattle.run_loop.proofs.counts.wanted.Goals as goal

pub counts_of-requires-clause-nodes : goal.counts_of-requires-clause-nodes
counts_of-requires-clause-nodes g c =
    let r = c.requires in
    let runners = c.args.runs.now.runners.items in
    let at = indexed runners runners 0 c.index.result.now refl (omega (arith, r.4.many, r.3.some_runner)) c.index.ensures in
    omega (arith, (r.4.runners 0 c.index.result.now at).arena.size, r.2.limits.nodes, ap (λ xs. length xs) c.as_slice-nodes.ensures.value)

pub counts_of-requires-clause-served : goal.counts_of-requires-clause-served
counts_of-requires-clause-served g c = λ uid leaf is.
    let r = c.requires in
    let drivers = g.D.Drivers.states c.args.drivers.now in
    let runners = c.args.runs.now.runners.items in
    let at = indexed runners runners 0 c.index.result.now refl (omega (arith, r.4.many, r.3.some_runner)) c.index.ensures in
    let there = ap (λ nodes. leaf_at nodes uid) (sym c.as_slice-nodes.ensures.value) ∙ is in
    place_within drivers _ leaf.driver ((r.4.runners 0 c.index.result.now at).arena.numbered.driver uid leaf there)

pub returns : goal.returns
returns g c = λ tree world are.
    let r = c.requires in
    let drivers = g.D.Drivers.states c.args.drivers.now in
    let runners = c.args.runs.now.runners.items in
    let at = indexed runners runners 0 c.index.result.now refl (omega (arith, r.4.many, r.3.some_runner)) c.index.ensures in
    let arena = c.index.result.now.arena in
    let as_many : c.len.result ≡ world.runners = omega (arith, c.len.ensures, c.args.runs.now.runners.ok.0, are.many) in
    both_give {P = λ counts. length counts.items ≡ length drivers} {R = λ counts. counts.items ≡ instances_wanted tree world drivers} c.counts_of.result
    (λ counts many each. arena_counts_are_wanted tree world drivers 1 arena (are.runners 0 c.index.result.now at).arena counts.items many (λ place low. each place low ∙ (λ i. as_many i * served place (c.as_slice-nodes.ensures.value i))))
    c.counts_of.ensures.many c.counts_of.ensures.counts
