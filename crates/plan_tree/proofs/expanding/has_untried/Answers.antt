use Rattle.std.proofs.Common.{◌≡◌, true, false, not, List, [], ◌∷◌, Some, refl}
use Rattle.std.specs.Prelude.{slice_get}
use Rattle.spec_plan.specs.declared.domain.Template.{Template}
use Rattle.spec_plan.specs.Templates.{is_empty}
use Rattle.plan_tree.proofs.expanding.has_untried.Goals as goal

some_there : (xs : List Template) (x : Template) → slice_get xs 0 ≡ Some x → true ≡ not (is_empty xs)
some_there [] x is = cc is
some_there (y ∷ xs) x is = refl

none_there : (xs : List Template) → xs ≡ [] → false ≡ not (is_empty xs)
none_there [] is = refl
none_there (x ∷ xs) is = cc is

pub returns-in-Some : goal.returns-in-Some
returns-in-Some c = λ world tree st is. some_there _ _ (c.in-Some.ensures world tree st is).first

pub returns-in-None : goal.returns-in-None
returns-in-None c = λ world tree st is. none_there _ (c.in-None.ensures world tree st is)
