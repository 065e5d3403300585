use Rattle.std.proofs.Common.{arith, ◌≡◌, ◌∙◌, ◌++◌, true, ap, subst, sym}
use Rattle.script_code.specs.Postfixes.{code_of}
use Rattle.script_code.specs.Rooms.{fits}
use Rattle.script_code.proofs.Fitting.{expr_fits}
use Rattle.script_code.proofs.compiling.postfix.Goals as goal

pub invariant_of-result : goal.invariant_of-result
invariant_of-result g c =
    let names = g.P.Places.place c.args.places.now in
    let same : c.of.result ≡ code_of names c.args.e.now =
    c.of.ensures ∙ c.shrink_to_fit.ensures.items ∙ c.in_ok-emit.ensures ∙ ap (λ z. z ++ code_of names c.args.e.now) c.new-code.ensures.items in
    record {
      room = subst (λ code. fits 65 code ≡ true) (sym same) (expr_fits 65 names c.args.e.now (omega (arith, c.requires)));
      low = λ low. subst (λ code. fits 8 code ≡ true) (sym same) (expr_fits 8 names c.args.e.now (c.is_low.ensures low));
    }
