use Rattle.std.proofs.Common.{ap, sym}
use Rattle.std.proofs.lemmas.Result.{on_ok_weaker}
use Rattle.run_arena.specs.Blocks.{seen}
use Rattle.spec_output.specs.Lines.{change_lines, header_line}
use Rattle.spec_run.specs.declared.block.Block.{Block}
use Rattle.spec_serve.specs.Inputs.{kept_inputs, runner_of, told_lines, told_notes}
use Rattle.cli_serve.proofs.Written.{last_prefix, last_written, line_written, more_written, none_written, prefix_more, rest_is}
use Rattle.cli_serve.proofs.answer.write_answer.Goals as goal

pub returns-in_err-write_noted-clause-prefix : goal.returns-in_err-write_noted-clause-prefix
returns-in_err-write_noted-clause-prefix g c =
    let s = c.args.session.now in
    let names = c.args.names.now in
    let event = rw (ap (λ (b : Block). b.header) c.block-block.ensures) at c.in_ok-write_header.ensures.whole in
    let begun = line_written (header_line names s.block.header) _ (none_written (told_lines names s.state s.block) _) event in
    prefix_more (told_notes names (kept_inputs s.state (runner_of s.block.header)) s.block.notes) (change_lines names s.block) _ begun c.in_err-write_noted.ensures.prefix

pub returns-clause-whole : goal.returns-clause-whole
returns-clause-whole g c =
    let s = c.args.session.now in
    let names = c.args.names.now in
    let event = rw (ap (λ (b : Block). b.header) c.block-block.ensures) at c.in_ok-write_header.ensures.whole in
    let begun = line_written (header_line names s.block.header) _ (none_written (told_lines names s.state s.block) _) event in
    let noted = more_written (told_notes names (kept_inputs s.state (runner_of s.block.header)) s.block.notes) _ begun c.in_ok-write_noted.ensures.whole in
    let left = rest_is (ap (change_lines names) (sym c.block-block.ensures)) noted in
    on_ok_weaker c.write_changes.result (last_written (change_lines names (seen c.block-block.result.now)) _ left) c.write_changes.ensures.whole

pub returns-clause-prefix : goal.returns-clause-prefix
returns-clause-prefix g c =
    let s = c.args.session.now in
    let names = c.args.names.now in
    let event = rw (ap (λ (b : Block). b.header) c.block-block.ensures) at c.in_ok-write_header.ensures.whole in
    let begun = line_written (header_line names s.block.header) _ (none_written (told_lines names s.state s.block) _) event in
    let noted = more_written (told_notes names (kept_inputs s.state (runner_of s.block.header)) s.block.notes) _ begun c.in_ok-write_noted.ensures.whole in
    let left = rest_is (ap (change_lines names) (sym c.block-block.ensures)) noted in
    last_prefix (change_lines names (seen c.block-block.result.now)) _ left c.write_changes.ensures.prefix
