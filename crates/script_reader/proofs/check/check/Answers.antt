use Rattle.std.proofs.Common.{◌<◌, ◌≤◌, List, length, reverse, Option, ap, sym, ◌∙◌, arith}
use Rattle.std.proofs.lemmas.List.{take_all}
use Rattle.spec_script.specs.declared.stage.Stage.{Stage}
use Rattle.spec_script.specs.declared.stage.Opened.{Opened}
use Rattle.spec_script.specs.declared.token.Placed.{Placed}
use Rattle.spec_script.specs.Reading.{bare}
use Rattle.script_reader.specs.Standing.{spot_of}
use Rattle.spec_script.specs.Spots.{run, ends_at}
use Rattle.spec_script.proofs.Machine.{run-next, stuck-at, ends-reverse}
use Rattle.script_reader.proofs.check.check.Goals as goal

pub returns-in-None : goal.returns-in-None
returns-in-None c =
    let i = c.loop-placed.placed-index in
    let within : i < length c.args.tokens.now = omega arith in
    stuck-at c.args.tokens.now i c.placed-item.result (c.args.start, reverse c.args.opened.items) (c.loop-placed.stage, reverse c.loop-placed.opened.items) within c.placed-item.is c.loop-placed.invariant
    (sym c.in_ok-next.ensures ∙ ap (λ (o : Option Stage). spot_of o c.step.new.opened.items) c.in-None.is)

pub loop-placed-preserved : goal.loop-placed-preserved
loop-placed-preserved c =
    let i = c.loop-placed.placed-index in
    let within : i < length c.args.tokens.now = omega arith in
    run-next c.args.tokens.now i c.placed-item.result (c.args.start, reverse c.args.opened.items) (c.loop-placed.stage, reverse c.loop-placed.opened.items) (c.in-Some.next, reverse c.step.new.opened.items) within c.placed-item.is c.loop-placed.invariant
    (sym c.in_ok-next.ensures ∙ ap (λ (o : Option Stage). spot_of o c.step.new.opened.items) c.in-Some.is)

pub returns-then-may_end : goal.returns-then-may_end
returns-then-may_end c =
    let all : length c.args.tokens.now ≤ c.loop-placed.placed-index = omega arith in
    record {
      spot = (c.loop-placed.stage, reverse c.loop-placed.opened.items);
      led = ap (λ (ts : List Placed). run (bare ts) (c.args.start, reverse c.args.opened.items)) (sym (take_all c.loop-placed.placed-index c.args.tokens.now all)) ∙ c.loop-placed.invariant;
      ends = ap (λ (os : List Opened). ends_at c.loop-placed.stage (reverse os)) (sym c.as_slice.ensures.value) ∙ ends-reverse c.loop-placed.stage c.as_slice.result.now ∙ sym c.may_end.ensures ∙ c.if-may_end.true;
    }

pub returns : goal.returns
returns c =
    let all : length c.args.tokens.now ≤ c.loop-placed.placed-index = omega arith in
    record {
      spot = (c.loop-placed.stage, reverse c.loop-placed.opened.items);
      led = ap (λ (ts : List Placed). run (bare ts) (c.args.start, reverse c.args.opened.items)) (sym (take_all c.loop-placed.placed-index c.args.tokens.now all)) ∙ c.loop-placed.invariant;
      ends = ap (λ (os : List Opened). ends_at c.loop-placed.stage (reverse os)) (sym c.as_slice.ensures.value) ∙ ends-reverse c.loop-placed.stage c.as_slice.result.now ∙ sym c.may_end.ensures ∙ c.if-may_end.false;
    }
