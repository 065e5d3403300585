use Rattle.std.proofs.Common.{◌≡◌, ◌∙◌, ℕ, List, map, ap, subst, Ok, Err}
use Rattle.std.specs.Str.Parse.{signed_digits_value}
use Rattle.spec_world_file.specs.WorldFile.{Part, runners_of}
use Rattle.world_lines.specs.Written.{seen_part}
use Rattle.world_draft.specs.Rounds.{PartsSay, what_of}
use Rattle.world_reader.proofs.Saying.{rounds_refused, rounds_said}
use Rattle.world_reader.proofs.rounds.add_rounds.Goals as goal

pub returns-in-Ok : goal.returns-in-Ok
returns-in-Ok c =
    let r = c.args.reading.now in
    let written : List Part = map seen_part c.args.parts.now in
    let runners : c.runners.result ≡ runners_of r = c.runners.ensures ∙ ap runners_of c.in_ok-close.ensures in
    let say = subst (PartsSay (Ok c.in-Ok.parts) written) runners c.in-Ok.ensures in
    rounds_said c.add_rounds.result c.add_rounds.new.self r c.close.new.self (signed_digits_value 10 c.args.time.now) (signed_digits_value 10 c.args.last.now)
    c.in-Some.time c.in-Some-ms.last written (map what_of c.as_slice.result.now) c.in_ok-close.ensures c.in-Some.ensures c.in-Some-ms.ensures
    say.0 (ap (map what_of) c.as_slice.ensures.value ∙ say.1) c.add_rounds.ensures

pub returns-in-Err : goal.returns-in-Err
returns-in-Err c =
    let r = c.args.reading.now in
    let written : List Part = map seen_part c.args.parts.now in
    let runners : c.runners.result ≡ runners_of r = c.runners.ensures ∙ ap runners_of c.in_ok-close.ensures in
    rounds_refused c.in-Err.stop c.close.new.self r (signed_digits_value 10 c.args.time.now) (signed_digits_value 10 c.args.last.now) written
    (subst (PartsSay (Err c.in-Err.stop) written) runners c.in-Err.ensures)
