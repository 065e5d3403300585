use Rattle.std.proofs.Common.{ℕ, not, ◌==◌, ◌||◌, refl, ◌∙◌}
use Rattle.memchr.specs.Find.{is_byte2}
use Rattle.tree_elements.proofs.Searches.{before_found}
use Rattle.tree_elements.proofs.scan.passed_far.Goals as goal

pub returns-clause-value : goal.returns-clause-value
returns-clause-value c =
    c.unwrap_or.ensures ∙ before_found (is_byte2 c.args.first 0) (λ (b : ℕ). not (b == c.args.first || b == 0)) c.args.bytes.now c.memchr2.result (λ b. refl) c.memchr2.ensures
