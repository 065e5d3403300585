use Rattle.std.proofs.Common.{◌≡◌, map, subst, arith, Ok}
use Rattle.std.proofs.lemmas.List.{length-map}
use Rattle.spec_world_file.specs.GroundFile.{Reading, with_lines}
use Rattle.world_ground.proofs.Soundness.{reading_sound}
use Rattle.world_ground.proofs.read.ground_following.Goals as goal

pub closed-requires : goal.closed-requires
closed-requires c =
    let same = length-map c.args.lines.now (λ text. text.now) in
    let few = c.requires.few in
    reading_sound (map (λ text. text.now) c.args.lines.now) c.read_lines.new.reading (omega (arith, same)) c.requires.short
    (subst (λ (r : Reading). with_lines 2 (map (λ text. text.now) c.args.lines.now) r ≡ Ok c.read_lines.new.reading) c.new-reading.ensures c.in-Ok.ensures)
