use Rattle.std.proofs.Common.{Some, Err, None, refl, sym, ap, subst, ◌∙◌}
use Rattle.std.specs.Prelude.{option_map}
use Rattle.base_texts.specs.declared.stop.Stop.TheVariants as stop
use Rattle.spec_world_file.specs.declared.world_fault.WorldFaultKind.TheVariants.{BadLine}
use Rattle.spec_world_file.specs.WorldFile.{ReadsNumeric, TimedByLine, with_action}
use Rattle.spec_world.specs.declared.world.RowSort.TheVariants.{TimedBy}
use Rattle.world_draft.specs.Drafts.{row_of}
use Rattle.world_lines.specs.Heads.{seen_head}
use Rattle.world_reader.proofs.Saying.{adds, of_mapped, refuses, says_bare, says_length}
use Rattle.world_reader.proofs.rows.read_length.Goals as goal

pub returns-then-not-is_group : goal.returns-then-not-is_group
returns-then-not-is_group c =
    let text = c.args.text.now in
    let r = c.args.reading.now in
    let head = seen_head c.in-Some.head in
    let e = c.in-Some-2.length in
    let reads : ReadsNumeric text (Some e) = subst (ReadsNumeric text) c.in-Some-2.is c.in_ok-length.ensures in
    of_mapped {A = Unit {0}} r r (λ h. TimedByLine h text) head c.args.row.now (Err (stop.Fault BadLine)) (ap (option_map seen_head) (sym c.in-Some.is) ∙ c.in_ok-head.ensures)
    (says_bare r text e head (sym c.is_group.ensures ∙ c.if-not-is_group.true) reads)

pub returns-in-Ok : goal.returns-in-Ok
returns-in-Ok c =
    let text = c.args.text.now in
    let r = c.args.reading.now in
    let now = c.close.new.self in
    let left = c.open_action.new.self in
    let head = seen_head c.in-Some.head in
    let e = c.in-Some-2.length in
    let reads : ReadsNumeric text (Some e) = subst (ReadsNumeric text) c.in-Some-2.is c.in_ok-length.ensures in
    of_mapped r left (λ h. TimedByLine h text) head c.args.row.now c.open_action.result (ap (option_map seen_head) (sym c.in-Some.is) ∙ c.in_ok-head.ensures)
    (says_length c.open_action.result left r now text e head (sym c.is_group.ensures ∙ c.if-not-is_group.false) c.in_ok-close.ensures reads
    (adds c.open_action.result left now head (TimedBy e None) with_action c.in-Ok.draft (row_of c.in-Ok.draft) c.in-Ok.ensures refl c.open_action.ensures))

pub returns-in-Err : goal.returns-in-Err
returns-in-Err c =
    let text = c.args.text.now in
    let r = c.args.reading.now in
    let now = c.close.new.self in
    let head = seen_head c.in-Some.head in
    let e = c.in-Some-2.length in
    let reads : ReadsNumeric text (Some e) = subst (ReadsNumeric text) c.in-Some-2.is c.in_ok-length.ensures in
    of_mapped {A = Unit {0}} r now (λ h. TimedByLine h text) head c.args.row.now (Err c.in-Err.stop) (ap (option_map seen_head) (sym c.in-Some.is) ∙ c.in_ok-head.ensures)
    (says_length {A = Unit {0}} (Err c.in-Err.stop) now r now text e head (sym c.is_group.ensures ∙ c.if-not-is_group.false) c.in_ok-close.ensures reads
    (refuses c.in-Err.stop now now head (TimedBy e None) with_action c.in-Err.ensures))
