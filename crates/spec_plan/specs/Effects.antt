-- Which effects achieve a test, and which threaten it.
use Rattle.std.specs.Prelude.{◌==◌, ◌&&◌, Bool, true, false, not, List, ℤ, pos}
use Rattle.std.specs.List.{list_any}
use Rattle.std.specs.declared.cmp.Ordering.{Ordering}
use Rattle.std.specs.declared.cmp.Ordering.TheVariants as order
use Rattle.std.specs.Ordering.{int_cmp}
use Rattle.spec_script.specs.declared.syntax.Cmp.{Cmp}
use Rattle.spec_script.specs.declared.syntax.Cmp.TheVariants.{Equal, Differ, Less, AtMost, More, AtLeast}
use Rattle.spec_script.specs.Operators.{compares}
use Rattle.spec_world.specs.declared.world.How.{How}
use Rattle.spec_world.specs.declared.world.How.TheVariants.{To, By}
use Rattle.spec_world.specs.declared.world.Set.{Set}
use Rattle.spec_plan.specs.declared.domain.Test.{Test}

-- whether a comparison may turn true where the number on its left grows, and false where it shrinks
abbrev pub gains_by_growth : Cmp → Bool
gains_by_growth Less = false
gains_by_growth AtMost = false
gains_by_growth op = true

-- whether it may turn true where that number shrinks, and false where it grows
abbrev pub gains_by_loss : Cmp → Bool
gains_by_loss More = false
gains_by_loss AtLeast = false
gains_by_loss op = true

-- one of two answers by the sign of what is added, and false where nothing is
abbrev pub by_sign : Ordering → Bool → Bool → Bool
by_sign order.Greater growth loss = growth
by_sign order.Less growth loss = loss
by_sign order.Equal growth loss = false

-- whether a fact that gets this value, or to which it is added, may turn the comparison true
abbrev pub change_achieves : Cmp → ℤ → How → ℤ → Bool
change_achieves op wanted To value = compares op (int_cmp value wanted)
change_achieves op wanted By value = by_sign (int_cmp value (pos 0)) (gains_by_growth op) (gains_by_loss op)

-- whether it may turn the comparison false
abbrev pub change_threatens : Cmp → ℤ → How → ℤ → Bool
change_threatens op wanted To value = not (compares op (int_cmp value wanted))
change_threatens op wanted By value = by_sign (int_cmp value (pos 0)) (gains_by_loss op) (gains_by_growth op)

-- an effect on the fact of the test, which may turn it true
abbrev pub effect_achieves : Test → Set → Bool
effect_achieves test effect = (effect.fact == test.fact) && change_achieves test.op test.value effect.how effect.value

-- an effect on the fact of the test, which may turn it false
abbrev pub effect_threatens : Test → Set → Bool
effect_threatens test effect = (effect.fact == test.fact) && change_threatens test.op test.value effect.how effect.value

-- effects achieve a test where one of them does; they may threaten it too, by another one or by the one
abbrev pub achieves : Test → List Set → Bool
achieves test effects = list_any (effect_achieves test) effects

abbrev pub threatens : List Set → Test → Bool
threatens effects test = list_any (effect_threatens test) effects
