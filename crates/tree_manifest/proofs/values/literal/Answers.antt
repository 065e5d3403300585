use Rattle.std.proofs.Common.{List, ℕ, ◌≤◌, length, sym, subst, ◌∙◌}
use Rattle.tree_manifest.proofs.ShortTexts.{fitting_length}
use Rattle.tree_manifest.proofs.values.literal.Goals as goal

pub of-requires-clause-short : goal.of-requires-clause-short
of-requires-clause-short c =
    let fits = sym c.text_fits.ensures ∙ c.if-text_fits.true in
    subst (λ (x : List ℕ). length x ≤ 4096) (sym c.in_ok-from_slice-in-None.ensures.items) (fitting_length c.args.range c.args.text.now fits)
