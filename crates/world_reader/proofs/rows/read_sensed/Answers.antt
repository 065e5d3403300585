use Rattle.std.proofs.Common.{Err, sym, ap, ◌∙◌}
use Rattle.std.specs.Prelude.{option_map}
use Rattle.spec_world_file.specs.WorldFile.{SensedLine, with_row}
use Rattle.spec_world.specs.declared.world.RowSort.TheVariants.{Sensed}
use Rattle.world_lines.specs.Heads.{seen_head}
use Rattle.world_reader.proofs.Saying.{adds, nothing_more, refuses}
use Rattle.world_reader.proofs.rows.read_sensed.Goals as goal

pub returns-in-Ok : goal.returns-in-Ok
returns-in-Ok c =
    let now = c.close.new.self in
    let left = c.add_condition.new.self in
    let head = seen_head c.in-Some.head in
    nothing_more c.add_condition.result left c.args.reading.now now SensedLine head c.args.row.now c.args.text.now with_row Sensed (λ said k. k) c.in_ok-close.ensures
    (ap (option_map seen_head) (sym c.in-Some.is) ∙ c.in_ok-head.ensures) (sym c.is_empty.ensures ∙ c.if-not-is_empty.false)
    (adds c.add_condition.result left now head Sensed with_row c.in-Ok.draft c.into_row.result c.in-Ok.ensures c.into_row.ensures c.add_condition.ensures)

pub returns-in-Err : goal.returns-in-Err
returns-in-Err c =
    let now = c.close.new.self in
    let head = seen_head c.in-Some.head in
    nothing_more {A = Unit {0}} (Err c.in-Err.stop) now c.args.reading.now now SensedLine head c.args.row.now c.args.text.now with_row Sensed (λ said k. k) c.in_ok-close.ensures
    (ap (option_map seen_head) (sym c.in-Some.is) ∙ c.in_ok-head.ensures) (sym c.is_empty.ensures ∙ c.if-not-is_empty.false)
    (refuses c.in-Err.stop now now head Sensed with_row c.in-Err.ensures)
