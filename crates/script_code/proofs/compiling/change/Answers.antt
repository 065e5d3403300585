use Rattle.std.proofs.Common.{◌≡◌, ◌∙◌, ◌++◌, ◌∷◌, [], List, true, ap, subst, sym, arith, append_assoc}
use Rattle.script_code.specs.declared.instr.Instr.{Instr}
use Rattle.script_code.specs.declared.instr.Instr.TheVariants.{Slot}
use Rattle.script_code.specs.Postfixes.{begun, between, code_of}
use Rattle.script_code.specs.Rooms.{fits}
use Rattle.script_code.proofs.Fitting.{change_fits}
use Rattle.script_code.proofs.compiling.change.Goals as goal

pub invariant_of-result : goal.invariant_of-result
invariant_of-result g c =
    let names = g.P.Places.place c.args.places.now in
    let front : List Instr = Slot c.args.place ∷ [] in
    let made : c.emit.new.code.items ≡ front ++ (begun c.args.op ++ code_of names c.args.e.now) =
    c.in_ok-emit.ensures
    ∙ ap (λ z. z ++ code_of names c.args.e.now) (c.in_ok-begin.ensures ∙ ap (λ z. z ++ begun c.args.op) (c.in_ok-put.ensures ∙ ap (λ z. z ++ front) c.new-code.ensures.items))
    ∙ append_assoc front (begun c.args.op) (code_of names c.args.e.now) in
    let same : c.of.result ≡ between c.args.op front (code_of names c.args.e.now) =
    c.of.ensures ∙ c.shrink_to_fit.ensures.items ∙ c.in_ok-end.ensures front (code_of names c.args.e.now) (omega arith) made in
    record {
      room = subst (λ code. fits 65 code ≡ true) (sym same) (change_fits 65 names c.args.op c.args.place c.args.e.now (omega arith) (omega (arith, c.requires)));
      low = λ low. subst (λ code. fits 8 code ≡ true) (sym same) (change_fits 8 names c.args.op c.args.place c.args.e.now (omega arith) (omega (arith, c.is_low.ensures low)));
    }
