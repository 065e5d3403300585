use Rattle.std.proofs.Common.{◌+◌, ◌∙◌, arith, drop}
use Rattle.spec_serve.specs.Inputs.{input_line, input_lines}
use Rattle.text_lines.proofs.Lines.{alone}
use Rattle.cli_serve.proofs.Inputs.{next_input, ports_ended, values_ended}
use Rattle.cli_serve.proofs.Written.{all_written, line_written, none_written, prefix_line, prefix_written, rest_is}
use Rattle.cli_serve.proofs.answer.write_inputs.Goals as goal

pub loop-place-init : goal.loop-place-init
loop-place-init g c = record { text = none_written _ _; count = omega arith }

pub returns-in_default-clause-whole : goal.returns-in_default-clause-whole
returns-in_default-clause-whole g c =
    let ended = values_ended c.args.uid c.inputs-ports.result.now c.args.inputs.now c.loop-place.place c.in_default.ensures.lookup.3 in
    rw c.inputs-ports.ensures at (all_written {all = input_lines c.args.uid c.inputs-ports.result.now c.args.inputs.now} (rest_is ended c.loop-place.invariant.text))

pub returns-in_default-clause-prefix : goal.returns-in_default-clause-prefix
returns-in_default-clause-prefix g c = rw c.inputs-ports.ensures at (prefix_written c.loop-place.invariant.text)

pub returns-in_err-put_input-clause-prefix : goal.returns-in_err-put_input-clause-prefix
returns-in_err-put_input-clause-prefix g c = rw c.inputs-ports.ensures at (prefix_written c.loop-place.invariant.text)

pub returns-in_err-write_line-clause-prefix : goal.returns-in_err-write_line-clause-prefix
returns-in_err-write_line-clause-prefix g c =
    let uid = c.args.uid in
    let ports = c.inputs-ports.result.now in
    let values = c.args.inputs.now in
    let i = c.loop-place.place in
    let port = c.index-ports-place.result in
    let found = c.in-Some.ensures.lookup in
    let next = next_input uid ports values i port c.in-Some.value.now c.loop-place-test.true found.3.0 c.index-ports-place.is found.1 in
    let front = rw (c.as_slice.ensures.value ∙ alone _ c.clear.ensures.items c.in_ok-put_input.ensures) at c.in_err-write_line.ensures.prefix in
    rw c.inputs-ports.ensures at (prefix_line (input_line uid port c.in-Some.value.now) (input_lines uid (drop (i + 1) ports) (drop (i + 1) values)) _ (rest_is next c.loop-place.invariant.text) front)

pub loop-place-preserved : goal.loop-place-preserved
loop-place-preserved g c =
    let uid = c.args.uid in
    let port = c.index-ports-place.result in
    let found = c.in-Some.ensures.lookup in
    let next = next_input uid c.inputs-ports.result.now c.args.inputs.now c.loop-place.place port c.in-Some.value.now c.loop-place-test.true found.3.0 c.index-ports-place.is found.1 in
    let whole = rw (c.as_slice.ensures.value ∙ alone _ c.clear.ensures.items c.in_ok-put_input.ensures) at c.in_ok-write_line.ensures.whole in
    record {
      text = line_written (input_line uid port c.in-Some.value.now) _ (rest_is next c.loop-place.invariant.text) whole;
      count = omega arith;
    }

pub returns-clause-whole : goal.returns-clause-whole
returns-clause-whole g c =
    let ended = ports_ended c.args.uid c.inputs-ports.result.now c.args.inputs.now c.loop-place.place c.loop-place-test.false in
    rw c.inputs-ports.ensures at (all_written {all = input_lines c.args.uid c.inputs-ports.result.now c.args.inputs.now} (rest_is ended c.loop-place.invariant.text))

pub returns-clause-prefix : goal.returns-clause-prefix
returns-clause-prefix g c = rw c.inputs-ports.ensures at (prefix_written c.loop-place.invariant.text)
