use Rattle.std.proofs.Common.{sym, ap, subst, ◌∙◌}
use Rattle.std.proofs.lemmas.List.Filters.{dedup_is}
use Rattle.std.proofs.lemmas.List.Kept.{IsStrictlySortedBy-dedup, Contains-from_dedup}
use Rattle.std.proofs.lemmas.List.Sorted.{IsPermutation-sym, Contains-permutation, list_any-IsPermutation}
use Rattle.std.specs.List.{Contains, list_any}
use Rattle.std.specs.List.Sorted.{IsStrictlySortedBy}
use Rattle.tree_board.proofs.Ordered.{list_any-dedup}
use Rattle.tree_board.proofs.order.in_order.Goals as goal

-- the items ascend
pub returns-clause-strict : goal.returns-clause-strict
returns-clause-strict g c =
    subst (IsStrictlySortedBy g.T.Ord.cmp) (sym (dedup_is g.T.PartialEq.eq _ _ c.dedup.ensures.filtered))
    (IsStrictlySortedBy-dedup g.met.T.Ord.total g.met.T.Ord.matches_eq _ c.in_ok-sort.ensures.sorted)

-- a test that takes equal items alike holds of one of them where it held of one before
pub returns-clause-same : goal.returns-clause-same
returns-clause-same g c p alike =
    ap (list_any p) (dedup_is g.T.PartialEq.eq _ _ c.dedup.ensures.filtered)
    ∙ list_any-dedup g.T.PartialEq.eq p alike _
    ∙ sym (list_any-IsPermutation p _ _ c.in_ok-sort.ensures.permutation)

-- each item was there before
pub returns-clause-from : goal.returns-clause-from
returns-clause-from g c x has =
    Contains-permutation _ _ x (IsPermutation-sym _ _ c.in_ok-sort.ensures.permutation)
    (Contains-from_dedup g.T.PartialEq.eq _ x (subst (λ xs. Contains xs x) (dedup_is g.T.PartialEq.eq _ _ c.dedup.ensures.filtered) has))
