use Rattle.std.proofs.Common.{◌<◌, ℕ, List, Err, arith, length, map, subst, sym}
use Rattle.base_texts.specs.declared.stop.Stop.{Stop}
use Rattle.spec_expect.specs.ExpectFile.{AfterContent, AfterLines}
use Rattle.spec_expect.specs.declared.expect_fault.ExpectFault.{ExpectFault}
use Rattle.world_draft.specs.Readings.{Leaves}
use Rattle.expect_reader.specs.Reading.{subject_seen}
use Rattle.expect_reader.proofs.Lines.{stopped_at}
use Rattle.expect_reader.proofs.read.read_lines.Goals as goal

pub returns-in-Err : goal.returns-in-Err
returns-in-Err c =
    let s = subject_seen c.args.subject.now in
    let lines = c.args.lines.now in
    let i = c.loop-text.text-index in
    let before = c.loop-text.expected.items in
    let left = c.read_line.new.expected.items in
    let within : i < length lines = omega arith in
    subst (λ (x : Stop ExpectFault). Leaves {A = Unit {0}} (Err x) left (AfterLines s 2 (map (λ text. text.now) lines) c.args.expected.now.items)) (sym c.located.ensures)
    (stopped_at (Unit {0}) (λ text. text.now) lines i _ s c.args.expected.now.items before c.loop-text.line c.in-Err.stop left left within c.loop-text.invariant.after
    (subst (λ (t : List ℕ). Leaves {A = Unit {0}} (Err c.in-Err.stop) left (AfterContent s before c.loop-text.line t)) c.content.ensures c.in-Err.ensures))
