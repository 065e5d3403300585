use Rattle.std.proofs.Common.{◌≡◌, ◌+◌, ◌++◌, ◌∷◌, [], List, map, take, get_or, ap, sym, ◌∙◌}
use Rattle.std.proofs.lemmas.List.{map-append, take_all, take_more}
use Rattle.spec_world.specs.declared.world.Row.{Row}
use Rattle.plan_tree.specs.declared.rule.Rule.{Rule}
use Rattle.plan_tree.specs.Rules.{rule_of}
use Rattle.plan_tree.proofs.tree.rules_of.Goals as goal

pub loop-row-preserved : goal.loop-row-preserved
loop-row-preserved c =
    let i = c.loop-row.row-index in
    let rows = c.args.rows.now in
    let row = c.row-item.result in
    let more : map rule_of (take (i + 1) rows) ≡ map rule_of (take i rows) ++ rule_of row ∷ [] =
    ap (λ (l : List Row). map rule_of l) (take_more rows i row c.loop-row-test.true) ∙ map-append rule_of (take i rows) (get_or rows i row ∷ [])
    ∙ ap (λ (r : Row). map rule_of (take i rows) ++ rule_of r ∷ []) (sym c.row-item.is) in
    c.in_ok-push.ensures.items ∙ ap (λ (l : List Rule). l ++ c.in_ok-rule_of.field-0 ∷ []) c.loop-row.invariant
    ∙ ap (λ (r : Rule). map rule_of (take i rows) ++ r ∷ []) c.in_ok-rule_of.ensures ∙ sym more

pub returns : goal.returns
returns c = c.of.ensures ∙ c.loop-row.invariant ∙ ap (λ (l : List Row). map rule_of l) (take_all c.loop-row.row-index c.args.rows.now c.loop-row-test.false)
