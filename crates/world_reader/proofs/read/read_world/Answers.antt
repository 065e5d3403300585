use Rattle.std.proofs.Common.{◌≡◌, ℕ, List, length, map, ap, subst, ◌∙◌, arith}
use Rattle.std.proofs.lemmas.List.{length-map}
use Rattle.spec_world_file.specs.WorldFile.{LinesRead, lines_in, without_empty_rest}
use Rattle.world_reader.specs.Readings.{Gives}
use Rattle.world_reader.proofs.Onward.{few_lines, valid_if_read}
use Rattle.world_reader.proofs.read.read_world.Goals as goal

pub world_of-requires : goal.world_of-requires
world_of-requires c =
    let lines : map (λ part. part.now) c.without_rest.result.now ≡ lines_in c.args.bytes.now =
    c.without_rest.ensures ∙ ap without_empty_rest (ap (map (λ part. part.now)) c.as_slice.ensures.value ∙ c.in_ok-parts.ensures) in
    let same = length-map c.without_rest.result.now (λ part. part.now) in
    omega (arith, same, ap (λ (ls : List (List ℕ)). length ls) lines, few_lines c.args.bytes.now)

pub returns-clause-valid : goal.returns-clause-valid
returns-clause-valid c =
    let lines : map (λ part. part.now) c.without_rest.result.now ≡ lines_in c.args.bytes.now =
    c.without_rest.ensures ∙ ap without_empty_rest (ap (map (λ part. part.now)) c.as_slice.ensures.value ∙ c.in_ok-parts.ensures) in
    valid_if_read c.args.bytes.now (c.read_worlds_are_valid.ensures c.args.bytes.now) c.world_of.result (subst (λ (ls : List (List ℕ)). Gives c.world_of.result (LinesRead ls)) lines c.world_of.ensures)
