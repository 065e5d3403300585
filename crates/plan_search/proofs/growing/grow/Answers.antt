use Rattle.std.proofs.Common.{◌≡◌, ◌∙◌, ℕ, List, Option, length, ap, sym, refl, subst, arith}
use Rattle.spec_run.specs.declared.note.Note.{Note}
use Rattle.plan_search.specs.declared.growing.Grown.{Grown}
use Rattle.spec_plan.specs.declared.ending.End.{End}
use Rattle.spec_plan.specs.declared.places.Place.{Place}
use Rattle.spec_plan.specs.Failing.{failed, ids_of}
use Rattle.spec_plan.specs.PlanRuns.{Ends}
use Rattle.plan_search.specs.Grown.{GrowsOrNot}
use Rattle.plan_search.proofs.Growths.{are_conditions, ends_without, ok_gives, settle_within, settled_ends}
use Rattle.plan_search.proofs.growing.grow.Goals as goal

pub returns-then-len-limits : goal.returns-then-len-limits
returns-then-len-limits c = λ trial st decides notes few.
    let world = c.args.world.now in
    let own = c.as_slice.ensures.value ∙ c.in_ok-places.ensures world trial.tree st in
    let are = own ∙ ap (λ (l : List Note). failed trial.tree l) notes in
    let many : c.args.limits.now.expand ≡ length c.args.steps.now.items = omega (arith, c.len.ensures, c.if-len-limits.true) in (
      subst (λ (n : ℕ). Ends world c.args.limits.now n trial c.in_ok-end_at_limit.field-0) many
          (c.in_ok-end_at_limit.ensures trial st (are_conditions world c.args.t.now trial.tree c.args.notes.now c.as_slice.result.now st own) decides are),
      refl,
    )

pub expand_first-requires : goal.expand_first-requires
expand_first-requires c =
    let tree = c.requires.0 in
    let st = c.requires.1 in
    (c.args.world.now, tree, st, are_conditions c.args.world.now c.args.t.now tree c.args.notes.now c.as_slice-2.result.now st (c.as_slice-2.ensures.value ∙ c.in_ok-places.ensures c.args.world.now tree st))

pub returns-in-None : goal.returns-in-None
returns-in-None c = λ trial st decides notes few.
    let world = c.args.world.now in
    let own = c.as_slice-2.ensures.value ∙ c.in_ok-places.ensures world trial.tree st in
    let are = own ∙ ap (λ (l : List Note). failed trial.tree l) notes in
    let g = c.in_ok-found.ensures world trial.tree st (are_conditions world c.args.t.now trial.tree c.args.notes.now c.as_slice-2.result.now st own) in
    let none = subst (λ (o : Option Grown). GrowsOrNot c.expand_first.new.t world trial.tree c.as_slice-2.result.now o) c.in-None.is g in
    let names : List (List ℕ) = ids_of world.rows c.as_slice-in-None.result.now in (
      subst (λ (e : End). Ends world c.args.limits.now (length c.args.steps.now.items) trial e) (sym c.in_ok-no_template-in-None.ensures)
          (ends_without world c.args.limits.now trial c.expand_first.new.t c.expand_first.new.t c.as_slice-2.result.now decides are names none
          (ap (λ (l : List Place). ids_of world.rows l) (c.as_slice-in-None.ensures.value ∙ sym c.as_slice-2.ensures.value))),
      refl,
    )

pub settle_step-requires : goal.settle_step-requires
settle_step-requires c =
    let world = c.args.world.now in
    let tree = c.requires.0 in
    let st = c.requires.1 in
    let own = c.as_slice-2.ensures.value ∙ c.in_ok-places.ensures world tree st in
    let g = c.in_ok-found.ensures world tree st (are_conditions world c.args.t.now tree c.args.notes.now c.as_slice-2.result.now st own) in
    let some = subst (λ (o : Option Grown). GrowsOrNot c.expand_first.new.t world tree c.as_slice-2.result.now o) c.in-Some.is g in
    settle_within world c.expand_first.new.t tree c.as_slice-2.result.now c.requires.2 c.in-Some.grown some

pub returns : goal.returns
returns c =
    ok_gives c.settle_step.result
    (λ end is. λ trial st decides notes few.
    let world = c.args.world.now in
    let own = c.as_slice-2.ensures.value ∙ c.in_ok-places.ensures world trial.tree st in
    let are = own ∙ ap (λ (l : List Note). failed trial.tree l) notes in
    let g = c.in_ok-found.ensures world trial.tree st (are_conditions world c.args.t.now trial.tree c.args.notes.now c.as_slice-2.result.now st own) in
    let some = subst (λ (o : Option Grown). GrowsOrNot c.expand_first.new.t world trial.tree c.as_slice-2.result.now o) c.in-Some.is g in
    settled_ends world c.args.limits.now trial c.expand_first.new.t c.settle_step.new.t c.as_slice-2.result.now decides are c.in-Some.grown some (length c.args.steps.now.items) c.args.steps.now.items
    c.settle_step.new.steps.items end (omega (arith, few, c.len.ensures, c.if-len-limits.false)) (is _ some.expands.stands (some.expands.template.row, some.expands.sequence)))
    c.settle_step.ensures
