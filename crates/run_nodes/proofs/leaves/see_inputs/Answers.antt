use Rattle.std.proofs.Common.{arith}
use Rattle.spec_run.specs.Leaves.{sight}
use Rattle.run_arena.specs.Sources.{source_value}
use Rattle.spec_script.specs.declared.cells.Seen.TheVariants.{Absent}
use Rattle.run_nodes.proofs.Filling.{filled_more}
use Rattle.run_nodes.proofs.leaves.see_inputs.Goals as goal

pub loop-place-preserved : goal.loop-place-preserved
loop-place-preserved g c =
    let filled = filled_more (λ source. sight (source_value c.args.board.now source)) c.args.sources.now c.loop-place.place 8 c.index-sources-place.result Absent (omega arith) (omega arith) c.index-sources-place.is in
    rw (c.loop-place.invariant, c.seen_of.ensures) filled
