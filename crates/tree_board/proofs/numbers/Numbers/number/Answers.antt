use Rattle.std.proofs.Common.{ℕ, List, ap, sym, ◌∙◌}
use Rattle.std.specs.Str.{bytes_eq}
use Rattle.tree_board.proofs.Numbered.{read_key}
use Rattle.tree_board.proofs.numbers.Numbers.number.Goals as goal

pub returns-clause-number : goal.returns-clause-number
returns-clause-number c =
    let stored = c.in_ok-place.ensures.stored in
    read_key _ c.in_ok-place.place c.args.key.now stored.0 stored.1 (ap (λ (key : List ℕ). bytes_eq key stored.0) (sym c.in_ok-copy.ensures) ∙ stored.2)
