use Rattle.std.proofs.Common.{◌≡◌, ◌∙◌, List, map, length, sym, ap, subst}
use Rattle.std.specs.Prelude.{◌==◌, IfOk}
use Rattle.spec_program.specs.ToldApart.{Apart}
use Rattle.spec_tree.specs.declared.term.Term.{Term, out-Term}
use Rattle.tree_mock.specs.Seen.{opening_seen}
use Rattle.tree_mock.proofs.Parting.{apart_inner, apart_lone, empty_of, filled_of}
use Rattle.tree_mock.proofs.apart.+parts.Goals as goal

pub apart-returns-then-is_empty-clause-changed : goal.apart-returns-then-is_empty-clause-changed
apart-returns-then-is_empty-clause-changed t c =
    let none = empty_of (out-Term c.args.term.now).children (sym (c.is_empty.ensures ∙ ap (λ (terms : List Term). length terms == 0) c.list.ensures) ∙ c.if-is_empty.true) in
    subst (λ (a : Apart). IfOk c.lone.result (λ part. part.changed ≡ a.changed))
    (sym (apart_lone c.args.rules.now (map opening_seen c.args.found.now) c.args.term.now c.args.above.now none)) c.lone.ensures.changed

pub apart-returns-then-is_empty-clause-term : goal.apart-returns-then-is_empty-clause-term
apart-returns-then-is_empty-clause-term t c =
    let none = empty_of (out-Term c.args.term.now).children (sym (c.is_empty.ensures ∙ ap (λ (terms : List Term). length terms == 0) c.list.ensures) ∙ c.if-is_empty.true) in
    subst (λ (a : Apart). IfOk c.lone.result (λ part. part.term ≡ a.term))
    (sym (apart_lone c.args.rules.now (map opening_seen c.args.found.now) c.args.term.now c.args.above.now none)) c.lone.ensures.term

pub apart-returns-clause-changed : goal.apart-returns-clause-changed
apart-returns-clause-changed t c =
    let some = filled_of (out-Term c.args.term.now).children (sym (c.is_empty.ensures ∙ ap (λ (terms : List Term). length terms == 0) c.list.ensures) ∙ c.if-is_empty.false) in
    subst (λ (a : Apart). IfOk c.over_parts.result (λ part. part.changed ≡ a.changed))
    (sym (apart_inner c.args.rules.now (map opening_seen c.args.found.now) c.args.term.now c.args.above.now some))
    (rw (c.in_ok-below.ensures.changed, c.list-2.ensures, c.in_ok-inner.ensures) at c.over_parts.ensures.changed)

pub apart-returns-clause-term : goal.apart-returns-clause-term
apart-returns-clause-term t c =
    let some = filled_of (out-Term c.args.term.now).children (sym (c.is_empty.ensures ∙ ap (λ (terms : List Term). length terms == 0) c.list.ensures) ∙ c.if-is_empty.false) in
    subst (λ (a : Apart). IfOk c.over_parts.result (λ part. part.term ≡ a.term))
    (sym (apart_inner c.args.rules.now (map opening_seen c.args.found.now) c.args.term.now c.args.above.now some))
    (rw (c.in_ok-below.ensures.changed, c.in_ok-below.ensures.terms, c.list-2.ensures, c.in_ok-inner.ensures) at c.over_parts.ensures.term)
