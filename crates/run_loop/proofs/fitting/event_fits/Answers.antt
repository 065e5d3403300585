use Rattle.std.proofs.Common.{List, refl, ap, ◌∙◌, arith}
use Rattle.run_arena.specs.declared.nodes.Node.{Node}
use Rattle.run_loop.specs.Fitting.{nodes_lack}
use Rattle.run_loop.proofs.Growing.{indexed}
use Rattle.run_loop.proofs.Lacking.{nodes_are_lacking}
use Rattle.run_loop.proofs.fitting.event_fits.Goals as goal

pub returns : goal.returns
returns g c =
    let world = c.requires.0 in
    let are = c.requires.1.1 in
    let runners = c.args.runs.now.runners.items in
    let at = indexed runners runners 0 c.index.result.now refl (omega (arith, are.fit.many, world.some_runner)) c.index.ensures in
    let fits = are.fit.each 0 c.index.result.now at in
    c.fits_nodes.ensures
    ∙ ap (λ (nodes : List Node). nodes_lack nodes c.args.event.now.what) c.as_slice.ensures.value
    ∙ nodes_are_lacking g.of.tree g.of.world c.index.result.now.arena.nodes.items fits.fits.stands fits.nodes fits.nobody c.args.event.now.what
