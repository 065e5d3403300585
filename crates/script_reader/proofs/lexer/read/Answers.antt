use Rattle.std.proofs.Common.{◌+◌, List, [], ◌∷◌, ◌++◌, ap, sym, ◌∙◌, append_assoc, drop, length, length-append, arith}
use Rattle.spec_script.specs.Tokens.{read_tokens, Tokens}
use Rattle.spec_script.specs.declared.token.Placed.{Placed}
use Rattle.script_reader.proofs.Lexing.{read_one}
use Rattle.script_reader.proofs.lexer.read.Goals as goal

pub loop-at-preserved : goal.loop-at-preserved
loop-at-preserved c =
    let text = c.args.text.now in
    let e = read_one text c.loop-at.at c.in-Ok.len c.in-Ok.token c.loop-at-test.true (sym c.if-is_white.ensures) c.in-Ok.ensures.value c.in-Ok.ensures.len.0 c.in-Ok.ensures.len.1 in
    let rest = read_tokens (c.loop-at.at + c.in-Ok.len) 0 (drop (c.loop-at.at + c.in-Ok.len) text) in
    let one : Placed = record { token = c.in-Ok.token; place = c.loop-at.at } in
    let more = c.in_ok-push-in-Ok.ensures.items in
    record {
      tokens = ap (λ (x : List Placed). x ++ rest.tokens) more ∙ append_assoc c.loop-at.tokens.items (one ∷ []) rest.tokens
          ∙ ap (λ (x : Tokens). c.loop-at.tokens.items ++ x.tokens) (sym e) ∙ c.loop-at.invariant.tokens;
      fault = ap (λ (x : Tokens). x.fault) (sym e) ∙ c.loop-at.invariant.fault;
      inside = c.in-Ok.ensures.len.1;
      few = omega (arith, ap (λ (x : List Placed). length x) more, length-append c.loop-at.tokens.items (one ∷ []), c.in-Ok.ensures.len.0, c.loop-at.invariant.few);
    }
