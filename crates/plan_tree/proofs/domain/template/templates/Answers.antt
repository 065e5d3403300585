use Rattle.std.proofs.Common.{◌≡◌, ◌+◌, ◌++◌, ◌∷◌, ◌≤◌, List, length, drop, [], ap, sym, ◌∙◌, subst, arith, append-nil}
use Rattle.std.proofs.lemmas.List.{drop_all, length-map}
use Rattle.spec_plan.specs.declared.domain.Template.{Template}
use Rattle.spec_plan.specs.Templates.{templates_from}
use Rattle.plan_tree.proofs.AboutDomain.Listed.{taken, passed}
use Rattle.plan_tree.proofs.domain.template.templates.Goals as goal
use Rattle.plan_tree.proofs.domain.template.templates.Goals.{then-is_template+in_ok-push, else-is_template}

pub loop-row-init : goal.loop-row-init
loop-row-init c = record {
  counted = omega arith;
  few = rw c.list-row-items.ensures (simp length-map at c.requires.ids.few);
  so_far = ap (λ (l : List Template). l ++ templates_from 0 c.list-row-items.result.now) c.new-found.ensures.items;
}

pub loop-row-preserved : goal.loop-row-preserved
loop-row-preserved c =
    let i = c.loop-row.row-index in
    let rows = c.list-row-items.result.now in
    let before = c.loop-row.found.items in
    elim c.if-is_template.branch [
      | then-is_template+in_ok-push w ↦
          let now : c.if-is_template.found.items ≡ before ++ record { row = i } ∷ [] = cc (w.in_ok-push.ensures.items, w.found-is, c.loop-row.invariant.counted) in
          record {
            counted = omega arith;
            few = c.loop-row.invariant.few;
            so_far = ap (λ (l : List Template). l ++ templates_from (i + 1) (drop (i + 1) rows)) now
                ∙ taken rows i c.row-item.result before c.loop-row-test.true c.row-item.is (sym c.is_template.ensures ∙ w.if-is_template.true) ∙ c.loop-row.invariant.so_far;
          }
      | else-is_template w ↦
          let now : c.if-is_template.found.items ≡ before = cc w.found-is in
          record {
            counted = omega arith;
            few = c.loop-row.invariant.few;
            so_far = ap (λ (l : List Template). l ++ templates_from (i + 1) (drop (i + 1) rows)) now
                ∙ passed rows i c.row-item.result before c.loop-row-test.true c.row-item.is (sym c.is_template.ensures ∙ w.if-is_template.false) ∙ c.loop-row.invariant.so_far;
          }
    ]

pub returns : goal.returns
returns c =
    let rows = c.list-row-items.result.now in
    let done : templates_from c.loop-row.row-index (drop c.loop-row.row-index rows) ≡ [] = ap (templates_from c.loop-row.row-index) (drop_all c.loop-row.row-index rows c.loop-row-test.false) in
    sym (append-nil c.loop-row.found.items) ∙ ap (λ (l : List Template). c.loop-row.found.items ++ l) (sym done) ∙ c.loop-row.invariant.so_far
    ∙ ap (templates_from 0) c.list-row-items.ensures
