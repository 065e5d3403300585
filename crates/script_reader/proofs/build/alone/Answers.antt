use Rattle.std.proofs.Common.{ap, sym, ◌∙◌, Some}
use Rattle.spec_script.specs.declared.token.Placed.{Placed}
use Rattle.script_reader.specs.Climb.{seen, from_token}
use Rattle.script_reader.proofs.Statements.{alone-some, alone-low, alone-high}
use Rattle.script_reader.proofs.build.alone.Goals as goal

pub bounds-tokens-0 : goal.bounds-tokens-0
bounds-tokens-0 c = alone-some c.args.tokens.now c.requires.whole.0 c.requires.whole.1

pub bounds-tokens-0-2 : goal.bounds-tokens-0-2
bounds-tokens-0-2 c = alone-some c.args.tokens.now c.requires.whole.0 c.requires.whole.1

pub returns-in-Some : goal.returns-in-Some
returns-in-Some c =
    let ts = c.args.tokens.now in
    alone-low ts c.requires.whole.0 c.in-Some.built.expr (from_token ts c.in-Some.built.next) c.requires.whole.1 (ap (seen ts) (sym c.in-Some.is) ∙ c.in_ok-built.ensures.value)

pub returns-in-None : goal.returns-in-None
returns-in-None c =
    let ts = c.args.tokens.now in
    let e = c.requires.whole.0 in
    let is = c.requires.whole.1 in
    let h = alone-high ts e c.index-tokens-0.result is (alone-some ts e is) c.index-tokens-0.is (ap (seen ts) (sym c.in-None.is) ∙ c.in_ok-built.ensures.value) in
    (h.0, h.1, h.2 ∙ ap (λ (q : Placed). Some q.place) c.index-tokens-0.is)
