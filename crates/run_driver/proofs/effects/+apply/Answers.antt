use Rattle.std.proofs.Common.{rules, pos, sym, ◌∙◌}
use Rattle.std.proofs.lemmas.Result.{err_from_is_err_and}
use Rattle.spec_world.specs.declared.world.How.TheVariants.{To}
use Rattle.spec_world.specs.declared.world.Set.{Set}
use Rattle.run_driver.proofs.Applying.{then_fault, then_left}
use Rattle.run_driver.proofs.effects.+apply.Goals as goal

abbrev no_effect : Set
no_effect = record { fact = 0; how = To; value = pos 0 }

pub returns-in_err-apply-clause-fault : goal.returns-in_err-apply-clause-fault
returns-in_err-apply-clause-fault t c =
    let p = err_from_is_err_and c.from_residual-in_err-apply.result c.from_residual-in_err-apply.ensures.1 in
    rw (p.1, p.2) (then_fault c.args.sets.now c.args.facts.now no_effect c.in_ok-value.value c.in_err-apply.field-0.0 c.in-len1-up.len_at_least
    (sym c.made.ensures ∙ c.in_ok-value.was) c.in_err-apply.ensures.fault)

pub returns-clause-applied : goal.returns-clause-applied
returns-clause-applied t c =
    let left = then_left c.args.sets.now c.args.facts.now c.apply.new.facts no_effect c.in_ok-value.value c.in-len1-up.len_at_least
    (sym c.made.ensures ∙ c.in_ok-value.was) c.in_ok-apply.ensures.applied in
    search (rules, left)
