use Rattle.std.proofs.Common.{◌∙◌, ap, sym}
use Rattle.std.proofs.lemmas.List.{drop_all}
use Rattle.cli_serve.proofs.Placed.{knows, placed}
use Rattle.cli_serve.proofs.answer.Starts.find.Goals as goal

pub returns-clause-knows : goal.returns-clause-knows
returns-clause-knows c =
    let places = c.loop-place.self.places.items in
    let none = drop_all c.loop-place.place c.args.notes.now c.loop-place-test.false in
    knows c.args.self.now.places.items c.args.notes.now places c.loop-place.invariant.room
    (sym (ap (placed places c.loop-place.place) none) ∙ c.loop-place.invariant.rest)
