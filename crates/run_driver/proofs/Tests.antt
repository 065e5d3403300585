-- Equal numbers give equal tests.
use Rattle.std.proofs.Common.{◌≡◌, ℕ, ◌+◌, ◌<◌, List, [], ◌∷◌, ◌++◌, length, get_or, map, take, ap, sym, ◌∙◌}
use Rattle.std.proofs.lemmas.List.{map-append, take_more}
use Rattle.spec_script.specs.declared.syntax.Expr.{Expr}
use Rattle.spec_world.specs.declared.world.Out.{Out}
use Rattle.spec_run.specs.Leaf.{Number, number_of, test_of, truth_of}
use Rattle.run_driver.specs.declared.expression.ReadyExpr.{ReadyExpr}
use Rattle.run_driver.specs.Ready.{ready_number, ready_test}

pub same_test : (places : List ℕ → ℕ) (r : ReadyExpr) (e : Expr) → ready_number r ≡ number_of places e → ready_test r ≡ test_of places e
same_test places r e same = ap (λ (f : Number). λ inputs facts. truth_of (f inputs facts)) same

-- outputs made ready so far, and one more with the number of its row's output
pub numbers_more : (places : List ℕ → ℕ) (es : List ReadyExpr) (e : ReadyExpr) (outs : List Out) (i : ℕ) (out : Out) →
    i < length outs → out ≡ get_or outs i out → ready_number e ≡ number_of places out.expr →
    map ready_number es ≡ map (λ (out : Out). number_of places out.expr) (take i outs) →
    map ready_number (es ++ e ∷ []) ≡ map (λ (out : Out). number_of places out.expr) (take (i + 1) outs)
numbers_more places es e outs i out within is same before =
    let number = λ (out : Out). number_of places out.expr in
    map-append ready_number es (e ∷ [])
    ∙ (λ k. before k ++ same k ∷ [])
    ∙ sym (map-append number (take i outs) (out ∷ []))
    ∙ ap (map number) (ap (λ o. take i outs ++ o ∷ []) is ∙ sym (take_more outs i out within))
