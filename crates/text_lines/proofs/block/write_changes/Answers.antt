use Rattle.std.proofs.Common.{map}
use Rattle.std.proofs.lemmas.Result.{on_ok_weaker}
use Rattle.run_arena.specs.Blocks.{seen}
use Rattle.spec_output.specs.Lines.{entry_line, fact_line}
use Rattle.text_lines.proofs.Lines.{Appended-both, AppendedPrefix-first, AppendedPrefix-second}
use Rattle.base_outside.proofs.Writings.{Writes-after, Writes-stopped}
use Rattle.text_lines.proofs.block.write_changes.Goals as goal

pub returns-in_err-write_facts-clause-prefix : goal.returns-in_err-write_facts-clause-prefix
returns-in_err-write_facts-clause-prefix g c =
    let block = seen c.args.block.now in
    let facts = rw c.as_slice.ensures.value at c.in_err-write_facts.ensures.prefix in
    AppendedPrefix-first (map (fact_line c.args.names.now) block.facts) (map (entry_line c.args.names.now) block.entries) _ _ facts

pub returns-clause-whole : goal.returns-clause-whole
returns-clause-whole g c =
    let block = seen c.args.block.now in
    let facts = rw c.as_slice.ensures.value at c.in_ok-write_facts.ensures.whole in
    let entries = rw c.as_slice-2.ensures.value at c.write_entries.ensures.whole in
    on_ok_weaker c.write_entries.result
    (Appended-both (map (fact_line c.args.names.now) block.facts) (map (entry_line c.args.names.now) block.entries) _ _ _ facts) entries

pub returns-clause-prefix : goal.returns-clause-prefix
returns-clause-prefix g c =
    let block = seen c.args.block.now in
    let facts = rw c.as_slice.ensures.value at c.in_ok-write_facts.ensures.whole in
    let entries = rw c.as_slice-2.ensures.value at c.write_entries.ensures.prefix in
    AppendedPrefix-second (map (fact_line c.args.names.now) block.facts) (map (entry_line c.args.names.now) block.entries) _ _ _ facts entries

pub returns-in_err-write_facts-clause-writes : goal.returns-in_err-write_facts-clause-writes
returns-in_err-write_facts-clause-writes g c = Writes-stopped g.K.Sink.write_gives c.from_residual.result c.from_residual.ensures.0 _ _ c.in_err-write_facts.ensures.writes

pub returns-clause-writes : goal.returns-clause-writes
returns-clause-writes g c = Writes-after g.K.Sink.write_gives c.write_entries.result _ _ _ c.in_ok-write_facts.ensures.writes c.write_entries.ensures.writes
