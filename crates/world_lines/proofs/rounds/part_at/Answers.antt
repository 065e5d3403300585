use Rattle.std.proofs.Common.{◌≡◌, ◌+◌, ◌∙◌, List, ℕ, Some, None, map, ap, sym, Bor}
use Rattle.std.specs.Prelude.{option_map, slice_get}
use Rattle.world_lines.specs.Written.{seen_part}
use Rattle.world_lines.proofs.RoundParts.{half_found, part_found, words_within}
use Rattle.world_lines.proofs.rounds.part_at.Goals as goal

pub returns-in_default-word_at-clause-found : goal.returns-in_default-word_at-clause-found
returns-in_default-word_at-clause-found c =
    let words : List (List ℕ) = map (λ word. word.now) c.args.words.now in
    half_found words c.args.place c.in-Some.verb.now
    (ap (option_map (λ word. word.now)) (sym c.in-Some.is) ∙ c.word_at.ensures)
    (ap (option_map (λ (word : Bor (List ℕ)). word.now)) (sym c.in_default-word_at.is) ∙ c.word_at-2.ensures)

pub returns-clause-found : goal.returns-clause-found
returns-clause-found c =
    let words : List (List ℕ) = map (λ word. word.now) c.args.words.now in
    part_found words c.args.place c.in-Some.verb.now c.in-Some-word_at.runner.now (option_map seen_part c.part.result)
    (ap (option_map (λ word. word.now)) (sym c.in-Some.is) ∙ c.word_at.ensures)
    (ap (option_map (λ word. word.now)) (sym c.in-Some-word_at.is) ∙ c.word_at-2.ensures) c.part.ensures

pub returns-clause-within : goal.returns-clause-within
returns-clause-within c =
    words_within (λ (word : Bor (List ℕ)). word.now) c.args.words.now c.args.place c.in-Some-word_at.runner.now c.part.result
    (ap (option_map (λ word. word.now)) (sym c.in-Some-word_at.is) ∙ c.word_at-2.ensures)
