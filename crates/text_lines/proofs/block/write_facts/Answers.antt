use Rattle.std.proofs.Common.{◌<◌, ◌∙◌, arith, length}
use Rattle.spec_output.specs.Lines.{fact_line}
use Rattle.text_lines.proofs.Lines.{Appended-map_more, AppendedPrefix-map_next, AppendedPrefix-map_some, alone}
use Rattle.base_outside.proofs.Writings.{Writes-after, Writes-lines, Writes-stopped, Wrote-both, lines-equal}
use Rattle.text_lines.proofs.LineEnds.{fact_lines}
use Rattle.text_lines.proofs.block.write_facts.Goals as goal

pub returns-in_err-put_fact-clause-prefix : goal.returns-in_err-put_fact-clause-prefix
returns-in_err-put_fact-clause-prefix g c =
    AppendedPrefix-map_some (fact_line c.args.names.now) c.args.facts.now c.loop-fact.fact-index _ _ c.loop-fact.invariant.text

pub returns-in_err-write_line-clause-prefix : goal.returns-in_err-write_line-clause-prefix
returns-in_err-write_line-clause-prefix g c =
    let within : c.loop-fact.fact-index < length c.args.facts.now = omega arith in
    let front = rw (c.as_slice.ensures.value ∙ alone _ c.clear.ensures.items c.in_ok-put_fact.ensures) at c.in_err-write_line.ensures.prefix in
    AppendedPrefix-map_next (fact_line c.args.names.now) c.args.facts.now c.loop-fact.fact-index _ _ _ _ within
    c.loop-fact.invariant.text front

pub loop-fact-preserved : goal.loop-fact-preserved
loop-fact-preserved g c =
    let within : c.loop-fact.fact-index < length c.args.facts.now = omega arith in
    let whole = rw (c.as_slice.ensures.value ∙ alone _ c.clear.ensures.items c.in_ok-put_fact.ensures) at c.in_ok-write_line.ensures.whole in
    record {
      text = Appended-map_more (fact_line c.args.names.now) c.args.facts.now c.loop-fact.fact-index _ _ _ _ within
          c.loop-fact.invariant.text whole;
      count = omega arith;
      writes = Wrote-both g.K.Sink.write_gives _ _ _ c.loop-fact.invariant.writes
          (c.in_ok-write_line.ensures.writes (lines-equal _ _ (c.as_slice.ensures.value ∙ alone _ c.clear.ensures.items c.in_ok-put_fact.ensures) (fact_lines c.args.names.now _)));
    }

pub returns-in_err-put_fact-clause-writes : goal.returns-in_err-put_fact-clause-writes
returns-in_err-put_fact-clause-writes g c = Writes-lines g.K.Sink.write_gives c.from_residual.result _ _ c.loop-fact.invariant.writes

pub returns-in_err-write_line-clause-writes : goal.returns-in_err-write_line-clause-writes
returns-in_err-write_line-clause-writes g c =
    Writes-after g.K.Sink.write_gives c.from_residual-in_err-write_line.result _ _ _ c.loop-fact.invariant.writes
    (Writes-stopped g.K.Sink.write_gives c.from_residual-in_err-write_line.result c.from_residual-in_err-write_line.ensures.0 _ _ (c.in_err-write_line.ensures.writes (lines-equal _ _ (c.as_slice.ensures.value ∙ alone _ c.clear.ensures.items c.in_ok-put_fact.ensures) (fact_lines c.args.names.now _))))
