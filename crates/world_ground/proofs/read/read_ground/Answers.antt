use Rattle.std.proofs.Common.{◌≡◌, ℕ, List, length, map, ap, ◌∙◌, arith}
use Rattle.std.specs.List.{list_all}
use Rattle.std.proofs.lemmas.List.{length-map}
use Rattle.spec_world_file.specs.WorldFile.{lines_in, without_empty_rest}
use Rattle.world_reader.proofs.Onward.{few_lines}
use Rattle.world_ground.specs.Sound.{is_short}
use Rattle.world_ground.proofs.Short.{short_lines}
use Rattle.world_ground.proofs.read.read_ground.Goals as goal

pub ground_of-requires-clause-few : goal.ground_of-requires-clause-few
ground_of-requires-clause-few c =
    let lines : map (λ part. part.now) c.without_rest.result.now ≡ lines_in c.args.bytes.now =
    c.without_rest.ensures ∙ ap without_empty_rest (ap (map (λ part. part.now)) c.as_slice.ensures.value ∙ c.in_ok-parts.ensures) in
    let same = length-map c.without_rest.result.now (λ part. part.now) in
    omega (arith, same, ap (λ (ls : List (List ℕ)). length ls) lines, few_lines c.args.bytes.now)

pub ground_of-requires-clause-short : goal.ground_of-requires-clause-short
ground_of-requires-clause-short c =
    let lines : map (λ part. part.now) c.without_rest.result.now ≡ lines_in c.args.bytes.now =
    c.without_rest.ensures ∙ ap without_empty_rest (ap (map (λ part. part.now)) c.as_slice.ensures.value ∙ c.in_ok-parts.ensures) in
    ap (list_all is_short) lines ∙ short_lines c.args.bytes.now c.requires
