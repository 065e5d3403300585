use Rattle.std.proofs.Common.{◌∙◌, ap, arith, length, slice_set, sym}
use Rattle.std.proofs.lemmas.List.Edits.{map_over_more}
use Rattle.std.proofs.lemmas.List.Elements.{All-set}
use Rattle.expect_watch.specs.declared.watching.Watched.{Watched}
use Rattle.expect_watch.specs.Memos.{Fits}
use Rattle.expect_watch.specs.States.{noted}
use Rattle.expect_watch.proofs.watching.take_each.Goals as goal

pub loop-one-preserved : goal.loop-one-preserved
loop-one-preserved c =
    let change = noted c.args.at c.args.note c.args.facts.now c.args.held.now in
    let all = c.deref_mut-one-items.result.now in
    let now = c.loop-one.one-items in
    let i = c.loop-one.one-index in
    record {
      taken =
          ap (slice_set now i) c.take.ensures.taken
          ∙ ap (λ (w : Watched). slice_set now i (change w)) (sym c.one-item.is)
          ∙ map_over_more change all now i c.one-item.result (omega arith) c.loop-one.invariant.taken c.one-item.is;
      fit = All-set (λ (w : Watched). Fits (length c.args.facts.now) w.memo) now i c.take.new.self c.take.ensures.fits c.loop-one.invariant.fit;
    }
