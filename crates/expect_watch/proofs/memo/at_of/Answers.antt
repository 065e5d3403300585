use Rattle.std.proofs.Common.{◌∙◌, ℤ, Bool, List, ap, refl}
use Rattle.expect_watch.proofs.memo.at_of.Goals as goal

pub returns-clause-memo : goal.returns-clause-memo
returns-clause-memo c = (
  refl,
  c.in_ok-expr.ensures.test,
  refl,
  c.is_so-is_so.ensures ∙ ap (λ (so : List ℤ → Bool). so c.args.facts.now) c.in_ok-expr.ensures.test,
)
