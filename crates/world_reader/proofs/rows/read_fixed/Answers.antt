use Rattle.std.proofs.Common.{None, Err, refl, sym, ap, ◌∙◌}
use Rattle.std.specs.Prelude.{option_map}
use Rattle.std.specs.Str.Parse.{signed_digits_value}
use Rattle.spec_world_file.specs.WorldFile.{Head, TimedLine, number_line, with_action}
use Rattle.spec_world.specs.declared.world.RowSort.TheVariants.{Timed}
use Rattle.world_draft.specs.Drafts.{row_of}
use Rattle.world_lines.specs.Heads.{seen_head}
use Rattle.world_reader.proofs.Saying.{adds, lasts, of_head, refuses, timed_is}
use Rattle.world_reader.proofs.rows.read_fixed.Goals as goal

pub returns-in-Ok : goal.returns-in-Ok
returns-in-Ok c =
    let text = c.args.text.now in
    let r = c.args.reading.now in
    let now = c.close.new.self in
    let left = c.open_action.new.self in
    let head = seen_head c.in-Some.head in
    let w = c.cut.result.0.now in
    let line = timed_is text w c.cut.result.1.now head c.cut.ensures.prefix c.cut.ensures.rest (sym c.is_empty.ensures ∙ c.if-not-is_empty.false) (sym c.is_canonical.ensures ∙ c.if-not-is_canonical.false) in
    of_head r left (λ (h : Head). number_line (TimedLine h) text) head c.args.row.now c.open_action.result (ap (option_map seen_head) (sym c.in-Some.is) ∙ c.in_ok-head.ensures)
    (lasts c.open_action.result left r now (number_line (TimedLine head) text) (signed_digits_value 10 w) c.in-Some-ms.ms head (λ n. Timed n None) (TimedLine head) (λ x said k. k)
    c.in_ok-close.ensures line c.in-Some-ms.ensures
    (adds c.open_action.result left now head (Timed c.in-Some-ms.ms None) with_action c.in-Ok.draft (row_of c.in-Ok.draft) c.in-Ok.ensures refl c.open_action.ensures))

pub returns-in-Err : goal.returns-in-Err
returns-in-Err c =
    let text = c.args.text.now in
    let r = c.args.reading.now in
    let now = c.close.new.self in
    let head = seen_head c.in-Some.head in
    let w = c.cut.result.0.now in
    let line = timed_is text w c.cut.result.1.now head c.cut.ensures.prefix c.cut.ensures.rest (sym c.is_empty.ensures ∙ c.if-not-is_empty.false) (sym c.is_canonical.ensures ∙ c.if-not-is_canonical.false) in
    of_head {A = Unit {0}} r now (λ (h : Head). number_line (TimedLine h) text) head c.args.row.now (Err c.in-Err.stop) (ap (option_map seen_head) (sym c.in-Some.is) ∙ c.in_ok-head.ensures)
    (lasts {A = Unit {0}} (Err c.in-Err.stop) now r now (number_line (TimedLine head) text) (signed_digits_value 10 w) c.in-Some-ms.ms head (λ n. Timed n None) (TimedLine head) (λ x said k. k)
    c.in_ok-close.ensures line c.in-Some-ms.ensures
    (refuses c.in-Err.stop now now head (Timed c.in-Some-ms.ms None) with_action c.in-Err.ensures))
