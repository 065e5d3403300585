use Rattle.std.proofs.Common.{◌≡◌, ◌∙◌, ℕ, List, length, map, ap, subst, arith}
use Rattle.std.proofs.lemmas.List.{length-map}
use Rattle.spec_world_file.specs.WorldFile.{lines_in, without_empty_rest}
use Rattle.spec_expect.specs.declared.place.Place.{Place}
use Rattle.spec_expect.specs.ExpectFile.{LinesRead, Subject, subject_of}
use Rattle.world_reader.proofs.Onward.{few_lines}
use Rattle.expect_reader.specs.Reading.{GivesItems, subject_seen}
use Rattle.expect_reader.proofs.Lines.{given_over}
use Rattle.expect_reader.proofs.read.read_expected.Goals as goal

pub read_file-requires : goal.read_file-requires
read_file-requires c =
    let lines : map (λ part. part.now) c.without_rest.result.now ≡ lines_in c.args.bytes.now =
    c.without_rest.ensures ∙ ap without_empty_rest (ap (map (λ part. part.now)) c.as_slice-2.ensures.value ∙ c.in_ok-parts.ensures) in
    let same = length-map c.without_rest.result.now (λ part. part.now) in
    omega (arith, same, ap (λ (ls : List (List ℕ)). length ls) lines, few_lines c.args.bytes.now)

pub returns-clause-over : goal.returns-clause-over
returns-clause-over c =
    let lines : map (λ part. part.now) c.without_rest.result.now ≡ lines_in c.args.bytes.now =
    c.without_rest.ensures ∙ ap without_empty_rest (ap (map (λ part. part.now)) c.as_slice-2.ensures.value ∙ c.in_ok-parts.ensures) in
    let subject : subject_seen c.subject_of-subject.result ≡ subject_of c.args.tree.now c.args.world.now =
    c.subject_of-subject.ensures ∙ ap (λ (ps : List Place). (let s : Subject = record { facts = c.args.world.now.facts; runners = c.args.world.now.runners; places = ps } in s)) (c.as_slice.ensures.value ∙ c.in_ok-places.ensures) in
    given_over c.args.tree.now c.args.world.now c.args.bytes.now c.read_file.result
    (subst (λ (s : Subject). GivesItems c.read_file.result (LinesRead s (lines_in c.args.bytes.now))) subject
    (subst (λ (ls : List (List ℕ)). GivesItems c.read_file.result (LinesRead (subject_seen c.subject_of-subject.result) ls)) lines c.read_file.ensures))
