use Rattle.std.proofs.Common.{ℕ, drop, ap, ◌∙◌}
use Rattle.tree_elements.specs.Reading.{following_first}
use Rattle.tree_elements.proofs.Skips.{skipped_same}
use Rattle.tree_elements.proofs.scan.skipped.Goals as goal

pub returns-clause-read : goal.returns-clause-read
returns-clause-read c =
    ap (following_first c.args.ending.now) (c.split_at.ensures.back ∙ ap (λ (n : ℕ). drop n c.args.bytes.now) c.passed_len.ensures.value)
    ∙ skipped_same c.args.ending.now c.args.bytes.now c.requires
