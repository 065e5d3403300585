use Rattle.std.proofs.Common.{ℕ, drop, subst, ap, sym, ◌∙◌}
use Rattle.std.specs.Str.{IsUtf8}
use Rattle.tree_elements.proofs.Cuts.{cut_white}
use Rattle.tree_elements.proofs.scan.white_at.Goals as goal

pub returns-clause-utf8 : goal.returns-clause-utf8
returns-clause-utf8 c =
    subst IsUtf8 (sym (c.split_at.ensures.back ∙ ap (λ (n : ℕ). drop n c.args.bytes.now) c.white_len.ensures.value)) (cut_white c.args.bytes.now c.requires)
