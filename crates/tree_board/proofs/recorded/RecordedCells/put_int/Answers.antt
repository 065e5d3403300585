use Rattle.std.proofs.Common.{◌<◌, None, length, sym, ap, ◌∙◌, arith}
use Rattle.std.specs.Prelude.{is_some}
use Rattle.std.proofs.lemmas.List.{get_or_read}
use Rattle.tree_board.proofs.Records.{written_again}
use Rattle.tree_board.proofs.recorded.RecordedCells.put_int.Goals as goal

pub invariant_of-self : goal.invariant_of-self
invariant_of-self g c =
    let r = c.self.inside in
    let slot = c.args.slot in
    let low : slot < length r.entries.items = omega (arith, c.requires, ap length c.self.view_is) in
    let low_too : slot < length r.before.items = omega (arith, low, c.self.invariant.places) in
    written_again g.P.Past.past r.entries.items r.before.items r.groups c.self.invariant slot low _
    (sym (ap is_some (get_or_read r.before.items slot _ low_too c.index.ensures None)) ∙ sym c.if-is_some.ensures)
