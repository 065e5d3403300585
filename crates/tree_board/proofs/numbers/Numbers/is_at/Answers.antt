use Rattle.std.proofs.Common.{ℕ, ◌<◌, ◌≡◌, List, [], length, get_or, sym, subst, ◌∙◌}
use Rattle.tree_board.proofs.Numbered.{read_key}
use Rattle.tree_board.proofs.numbers.Numbers.is_at.Goals as goal

pub returns-in-Some : goal.returns-in-Some
returns-in-Some c tie =
    subst (λ (keys : List (List ℕ)). (c.args.number < length keys) × (get_or keys c.args.number [] ≡ c.args.key.now)) c.self.view_is
    (read_key c.self.inside.set.keys c.args.number c.args.key.now c.in-Some.other.now (sym c.in-Some.ensures.key) (sym c.eq.ensures ∙ tie))
