use Rattle.std.proofs.Common.{◌≡◌, Ordering, not, ap, refl, sym, ◌∙◌}
use Rattle.std.specs.Cmp.Lexicographic.{slice_cmp, texts_ties}
use Rattle.std.specs.declared.cmp.Ordering.TheVariants.{Less, Equal, Greater}
use Rattle.std.specs.Ordering.{is_eq, is_ne, nat_cmp}
use Rattle.spec_script.specs.declared.syntax.Cmp.{Cmp}
use Rattle.spec_script.specs.Operators.{compares}
use Rattle.script_code.proofs.operators.texts_compare.Goals as goal

differ : (order : Ordering) → not (is_eq order) ≡ is_ne order
differ Less = refl
differ Equal = refl
differ Greater = refl

pub returns-in-Equal : goal.returns-in-Equal
returns-in-Equal c =
    let order = slice_cmp nat_cmp c.args.first.now c.args.second.now in
    c.eq.ensures ∙ texts_ties c.args.first.now c.args.second.now ∙ sym (ap (λ (cmp : Cmp). compares cmp order) c.in-Equal.is)

pub returns-in-Differ : goal.returns-in-Differ
returns-in-Differ c =
    let order = slice_cmp nat_cmp c.args.first.now c.args.second.now in
    c.ne.ensures ∙ ap not (texts_ties c.args.first.now c.args.second.now) ∙ differ order ∙ sym (ap (λ (cmp : Cmp). compares cmp order) c.in-Differ.is)
