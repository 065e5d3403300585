use Rattle.std.proofs.Common.{sym, ◌∙◌}
use Rattle.cli_serve.proofs.Places.{place_added, place_kept}
use Rattle.cli_serve.proofs.rows.add_place.Goals as goal

pub returns-in_ok-insert : goal.returns-in_ok-insert
returns-in_ok-insert c =
    place_added c.args.places.now c.insert.new.self.entries c.args.id.now c.in_ok-copy.field-0 c.args.at
    (sym c.contains_key.ensures ∙ c.if-not-contains_key.true) c.in_ok-copy.ensures c.in_ok-insert.ensures.entries

pub returns-else-not-contains_key : goal.returns-else-not-contains_key
returns-else-not-contains_key c = place_kept c.args.places.now.entries c.args.id.now c.args.at (sym c.contains_key.ensures ∙ c.if-not-contains_key.false)
