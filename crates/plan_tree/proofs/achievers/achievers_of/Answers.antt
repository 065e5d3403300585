use Rattle.std.proofs.Common.{◌≡◌, ◌+◌, ◌++◌, ◌∷◌, List, [], drop, get_or, ap, sym, ◌∙◌}
use Rattle.std.specs.List.{filter}
use Rattle.spec_plan.specs.declared.domain.Template.{Template}
use Rattle.plan_tree.specs.Growth.{is_achiever}
use Rattle.plan_tree.proofs.Searched.{filter_ended, filter_passed, filter_taken}
use Rattle.plan_tree.proofs.achievers.achievers_of.Goals as goal
use Rattle.plan_tree.proofs.achievers.achievers_of.Goals.{then-is_achiever+in_ok-push, else-is_achiever}

pub loop-template-preserved : goal.loop-template-preserved
loop-template-preserved c =
    let i = c.loop-template.template-index in
    let templates = c.args.templates.now in
    let test = is_achiever c.args.rules.now c.args.test.now in
    let before = c.loop-template.found.items in
    elim c.if-is_achiever.branch [
      | then-is_achiever+in_ok-push w ↦
          let now : c.if-is_achiever.found.items ≡ before ++ get_or templates i (record { row = 0 }) ∷ [] = cc (w.in_ok-push.ensures.items, w.found-is) in
          ap (λ (l : List Template). l ++ filter test (drop (i + 1) templates)) now
          ∙ filter_taken test before templates i (record { row = 0 }) c.loop-template-test.true (sym c.is_achiever.ensures ∙ w.if-is_achiever.true) ∙ c.loop-template.invariant
      | else-is_achiever w ↦
          let now : c.if-is_achiever.found.items ≡ before = cc w.found-is in
          ap (λ (l : List Template). l ++ filter test (drop (i + 1) templates)) now
          ∙ filter_passed test before templates i (record { row = 0 }) c.loop-template-test.true (sym c.is_achiever.ensures ∙ w.if-is_achiever.false) ∙ c.loop-template.invariant
    ]

pub returns : goal.returns
returns c =
    let test = is_achiever c.args.rules.now c.args.test.now in
    c.of.ensures ∙ sym (filter_ended test c.loop-template.found.items c.args.templates.now c.loop-template.template-index c.loop-template-test.false) ∙ c.loop-template.invariant
