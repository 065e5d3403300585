use Rattle.std.proofs.Common.{sym, ◌∙◌}
use Rattle.world_lines.proofs.Rests.{without_empty_rest_drops, without_empty_rest_keeps}
use Rattle.world_lines.proofs.lines.without_rest.Goals as goal

pub returns-in-len1-up : goal.returns-in-len1-up
returns-in-len1-up c = without_empty_rest_drops (λ part. part.now) _ c.args.parts.now c.in-len1-up.len_at_least (sym c.is_empty.ensures ∙ c.if-is_empty.true)

pub returns-in_default-2 : goal.returns-in_default-2
returns-in_default-2 c = without_empty_rest_keeps (λ part. part.now) _ c.args.parts.now c.in-len1-up.len_at_least (sym c.is_empty.ensures ∙ c.if-is_empty.false)
