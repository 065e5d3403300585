use Rattle.std.proofs.Common.{◌≡◌, ℕ, ◌+◌, ◌/◌, ◌%◌, ◌<◌, List, [], ◌∷◌, ◌++◌, decimal, get_or, length, ap, sym, ◌∙◌, arith}
use Rattle.std.proofs.lemmas.Fmt.{decimal_digit, decimal_step, length-decimal-le}
use Rattle.std.proofs.lemmas.List.{get_or_default}
use Rattle.text_lines.specs.Labels.{AreLabels}
use Rattle.text_lines.proofs.label.label_of.Goals as goal

-- the label at a place is that of this number
found : (labels : List (List ℕ)) (n : ℕ) (label : List ℕ) → AreLabels labels → n < length labels → label ≡ get_or labels n label → label ≡ 32 ∷ decimal n
found labels n label are within at = at ∙ get_or_default labels n label [] within ∙ are n within

pub returns-then-number-lt10 : goal.returns-then-number-lt10
returns-then-number-lt10 c =
    c.of_digit.ensures ∙ ap (λ (digits : List ℕ). 32 ∷ digits) (sym (decimal_digit c.args.number c.if-number-lt10.true))

pub with_digit-requires-clause-room : goal.with_digit-requires-clause-room
with_digit-requires-clause-room c =
    let front = c.args.number / 10 in
    let is = found c.args.labels.now front _ c.requires.labels (omega arith) c.index-labels-number.is in
    omega (arith, ap length is, length-decimal-le 6 front (omega arith) (omega arith) (omega arith))

pub returns : goal.returns
returns c =
    let front = c.args.number / 10 in
    let is = found c.args.labels.now front _ c.requires.labels (omega arith) c.index-labels-number.is in
    c.with_digit.ensures ∙ ap (λ (label : List ℕ). label ++ (48 + c.args.number % 10) ∷ []) is
    ∙ ap (λ (digits : List ℕ). 32 ∷ digits) (sym (decimal_step c.args.number c.if-number-lt10.false (omega arith)))
