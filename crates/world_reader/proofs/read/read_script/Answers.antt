use Rattle.std.proofs.Common.{◌≡◌, ℕ, List, length, map, ap, subst, ◌∙◌, arith}
use Rattle.std.proofs.lemmas.List.{length-map}
use Rattle.spec_world_file.specs.WorldFile.{lines_in, without_empty_rest}
use Rattle.world_reader.specs.Readings.{Gives, ScriptLines}
use Rattle.world_reader.proofs.Onward.{few_lines}
use Rattle.world_reader.proofs.Scripts.{script_reads, valid_script}
use Rattle.world_reader.proofs.read.read_script.Goals as goal

pub script_of-requires : goal.script_of-requires
script_of-requires c =
    let lines : map (λ part. part.now) c.without_rest.result.now ≡ lines_in c.args.bytes.now =
    c.without_rest.ensures ∙ ap without_empty_rest (ap (map (λ part. part.now)) c.as_slice.ensures.value ∙ c.in_ok-parts.ensures) in
    let same = length-map c.without_rest.result.now (λ part. part.now) in
    omega (arith, same, ap (λ (ls : List (List ℕ)). length ls) lines, few_lines c.args.bytes.now)

pub returns-clause-reads : goal.returns-clause-reads
returns-clause-reads c =
    let lines : map (λ part. part.now) c.without_rest.result.now ≡ lines_in c.args.bytes.now =
    c.without_rest.ensures ∙ ap without_empty_rest (ap (map (λ part. part.now)) c.as_slice.ensures.value ∙ c.in_ok-parts.ensures) in
    script_reads (lines_in c.args.bytes.now) c.script_of.result (subst (λ (ls : List (List ℕ)). Gives c.script_of.result (ScriptLines ls)) lines c.script_of.ensures)

pub returns-clause-valid : goal.returns-clause-valid
returns-clause-valid c =
    let lines : map (λ part. part.now) c.without_rest.result.now ≡ lines_in c.args.bytes.now =
    c.without_rest.ensures ∙ ap without_empty_rest (ap (map (λ part. part.now)) c.as_slice.ensures.value ∙ c.in_ok-parts.ensures) in
    valid_script c.args.bytes.now (c.read_worlds_are_valid.ensures c.args.bytes.now) c.script_of.result
    (script_reads (lines_in c.args.bytes.now) c.script_of.result (subst (λ (ls : List (List ℕ)). Gives c.script_of.result (ScriptLines ls)) lines c.script_of.ensures))
