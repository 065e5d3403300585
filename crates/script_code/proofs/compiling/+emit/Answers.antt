use Rattle.std.proofs.Common.{◌≡◌, ◌∙◌, ◌++◌, ◌∷◌, [], length, take, drop, sym, ap, arith}
use Rattle.std.specs.Prelude.{Some, None}
use Rattle.std.proofs.lemmas.Grind.{common_steps}
use Rattle.script_code.specs.Postfixes.{code_of, left_number, with_number}
use Rattle.script_code.proofs.Emitted.{chosen, left, taken, unary}
use Rattle.script_code.proofs.compiling.+emit.Goals as goal

pub returns-in_ok-put-in-Unary : goal.returns-in_ok-put-in-Unary
returns-in_ok-put-in-Unary g t c =
    let names = g.P.Places.place c.args.places.now in
    let old = c.args.code.now.items in
    unary names c.args.e.now old c.in-Unary.op c.in-Unary.a c.emit-in-Unary.new.code.items _ c.in-Unary.is
    (c.in_ok-emit-in-Unary.ensures ∙ ap (λ e. old ++ code_of names e) c.get-in-Unary.ensures) c.in_ok-put-in-Unary.ensures

pub returns-in-Some : goal.returns-in-Some
returns-in-Some g t c =
    let names = g.P.Places.place c.args.places.now in
    let old = c.args.code.now.items in
    let mid = c.emit-in-Binary.new.code.items in
    let right = c.emit-in-Some.new.code.items in
    let start : c.len-start.result ≡ length old = grind (arith, common_steps) in
    let number : left_number c.in-Binary.op (drop (length old) mid) ≡ Some c.in-Some.n = grind (arith, common_steps) in
    let cut : c.truncate.new.self.items ≡ take (length old) mid = grind (arith, common_steps) in
    let last : c.put-in-Some.new.code.items ≡ right ++ with_number c.in-Binary.op c.in-Some.n ∷ [] = grind (arith, common_steps) in
    taken names c.args.e.now old c.in-Binary.op c.in-Binary.a c.in-Binary.b c.in-Some.n mid right _ c.in-Binary.is
    (c.in_ok-emit-in-Binary.ensures ∙ ap (λ e. old ++ code_of names e) c.get-in-Binary.ensures) number
    (c.in_ok-emit-in-Binary-2.ensures ∙ (λ i. cut i ++ code_of names (c.get-in-Some.ensures i))) last

pub returns-in_ok-end-in-Binary : goal.returns-in_ok-end-in-Binary
returns-in_ok-end-in-Binary g t c =
    let names = g.P.Places.place c.args.places.now in
    let old = c.args.code.now.items in
    let mid = c.emit-in-Binary.new.code.items in
    let begun = c.begin.new.code.items in
    let number : left_number c.in-Binary.op (drop (length old) mid) ≡ None = grind (arith, common_steps) in
    let place : c.len-place.result ≡ length mid = grind (arith, common_steps) in
    left names c.args.e.now old c.in-Binary.op c.in-Binary.a c.in-Binary.b mid begun c.emit-in-Binary-2.new.code.items _ c.in-Binary.is
    (c.in_ok-emit-in-Binary.ensures ∙ ap (λ e. old ++ code_of names e) c.get-in-Binary.ensures) number
    c.in_ok-begin-in-Binary.ensures (c.in_ok-emit-in-Binary-3.ensures ∙ ap (λ e. begun ++ code_of names e) c.get-in-Binary-2.ensures)
    (λ front b at is. c.in_ok-end-in-Binary.ensures front b (place ∙ at) is)

pub returns-in_ok-emit-in-Choose-3 : goal.returns-in_ok-emit-in-Choose-3
returns-in_ok-emit-in-Choose-3 g t c =
    let names = g.P.Places.place c.args.places.now in
    let old = c.args.code.now.items in
    let test = c.emit-in-Choose.new.code.items in
    let jump = c.put-in-Choose.new.code.items in
    let second = c.emit-in-Choose-2.new.code.items in
    let skip = c.put-in-Choose-2.new.code.items in
    let at_test : c.len-test.result ≡ length test = grind (arith, common_steps) in
    let at_end : c.len-end.result ≡ length second = grind (arith, common_steps) in
    chosen names c.args.e.now old c.in-Choose.a c.in-Choose.b c.in-Choose.c test jump second skip c.emit-in-Choose-3.new.code.items _ c.in-Choose.is
    (c.in_ok-emit-in-Choose.ensures ∙ ap (λ e. old ++ code_of names e) c.get-in-Choose.ensures) c.in_ok-put-in-Choose.ensures
    (c.in_ok-emit-in-Choose-2.ensures ∙ ap (λ e. jump ++ code_of names e) c.get-in-Choose-2.ensures) c.in_ok-put-in-Choose-2.ensures
    (c.in_ok-emit-in-Choose-3.ensures ∙ ap (λ e. skip ++ code_of names e) c.get-in-Choose-3.ensures)
    (λ front x y at past whole. c.aim.ensures front x y (at_test ∙ at) (at_end ∙ past) whole)
