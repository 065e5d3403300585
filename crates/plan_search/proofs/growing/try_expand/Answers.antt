use Rattle.std.proofs.Common.{◌≡◌, ◌∙◌, Err, ap, refl}
use Rattle.base_texts.specs.declared.stop.Stop.{Stop}
use Rattle.base_texts.specs.declared.stop.Stop.TheVariants.{Fault}
use Rattle.plan_tree.specs.declared.expanding.ExpandFault.{ExpandFault}
use Rattle.plan_tree.specs.declared.expanding.ExpandFault.TheVariants.{NoUntried}
use Rattle.plan_search.proofs.growing.try_expand.Goals as goal

-- there is one fault
one_fault : (fault : ExpandFault) → fault ≡ NoUntried
one_fault NoUntried = refl

pub returns-in-Err-Fault-NoUntried : goal.returns-in-Err-Fault-NoUntried
returns-in-Err-Fault-NoUntried c = λ world tree st is.
    let w = c.in-Err-Fault-NoUntried in
    (w.ensures.stands world tree st, (w.ensures.untried world tree st is).0 (ap (λ (s : Stop ExpandFault). Err s) (w.field-0-is ∙ ap (λ (f : ExpandFault). Fault f) (one_fault w.field-0-0))))
