use Rattle.std.proofs.Common.{Option, sym, subst, ◌∙◌}
use Rattle.spec_world_file.specs.WorldFile.{AfterForm, Line, head_in}
use Rattle.world_draft.specs.Readings.{Leaves}
use Rattle.world_reader.proofs.Saying.{timed_by_is, timed_ms_is}
use Rattle.world_reader.proofs.rows.read_timed.Goals as goal

pub returns-then-starts_with : goal.returns-then-starts_with
returns-then-starts_with c =
    subst (λ (line : Option Line). Leaves c.read_length.result c.read_length.new.reading (AfterForm c.args.reading.now line))
    (timed_by_is c.args.text.now (head_in c.args.row.now) (sym c.starts_with.ensures.value ∙ c.if-starts_with.true)) c.read_length.ensures

pub returns-else-starts_with : goal.returns-else-starts_with
returns-else-starts_with c =
    subst (λ (line : Option Line). Leaves c.read_fixed.result c.read_fixed.new.reading (AfterForm c.args.reading.now line))
    (timed_ms_is c.args.text.now (head_in c.args.row.now) (sym c.starts_with.ensures.value ∙ c.if-starts_with.false)) c.read_fixed.ensures
