use Rattle.std.proofs.Common.{Some, Err, refl, sym, ap, subst, ◌∙◌}
use Rattle.std.specs.Prelude.{option_map}
use Rattle.spec_world_file.specs.WorldFile.{GateLine, ReadsNumeric, with_action}
use Rattle.spec_world.specs.declared.world.RowSort.TheVariants.{Gate}
use Rattle.world_draft.specs.Drafts.{row_of}
use Rattle.world_lines.specs.Heads.{seen_head}
use Rattle.world_reader.proofs.Saying.{adds, of_mapped, refuses, says_head}
use Rattle.world_reader.proofs.rows.read_gate.Goals as goal

pub returns-in-Ok : goal.returns-in-Ok
returns-in-Ok c =
    let text = c.args.text.now in
    let r = c.args.reading.now in
    let now = c.close.new.self in
    let left = c.open_action.new.self in
    let head = seen_head c.in-Some.head in
    let e = c.in-Some-2.expr in
    let reads : ReadsNumeric text (Some e) = subst (ReadsNumeric text) c.in-Some-2.is c.in_ok-expr.ensures in
    of_mapped r left (λ h. GateLine h text) head c.args.row.now c.open_action.result (ap (option_map seen_head) (sym c.in-Some.is) ∙ c.in_ok-head.ensures)
    (says_head c.open_action.result left r now text e head with_action Gate c.in_ok-close.ensures reads
    (adds c.open_action.result left now head (Gate e) with_action c.in-Ok.draft (row_of c.in-Ok.draft) c.in-Ok.ensures refl c.open_action.ensures))

pub returns-in-Err : goal.returns-in-Err
returns-in-Err c =
    let text = c.args.text.now in
    let r = c.args.reading.now in
    let now = c.close.new.self in
    let head = seen_head c.in-Some.head in
    let e = c.in-Some-2.expr in
    let reads : ReadsNumeric text (Some e) = subst (ReadsNumeric text) c.in-Some-2.is c.in_ok-expr.ensures in
    of_mapped {A = Unit {0}} r now (λ h. GateLine h text) head c.args.row.now (Err c.in-Err.stop) (ap (option_map seen_head) (sym c.in-Some.is) ∙ c.in_ok-head.ensures)
    (says_head {A = Unit {0}} (Err c.in-Err.stop) now r now text e head with_action Gate c.in_ok-close.ensures reads
    (refuses c.in-Err.stop now now head (Gate e) with_action c.in-Err.ensures))
