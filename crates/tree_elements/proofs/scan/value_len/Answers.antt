use Rattle.std.proofs.Common.{refl, ◌∙◌}
use Rattle.memchr.specs.Find.{is_byte3}
use Rattle.spec_tree_file.specs.Marks.{is_value_byte}
use Rattle.tree_elements.proofs.Searches.{before_found}
use Rattle.tree_elements.proofs.scan.value_len.Goals as goal

pub returns-clause-value : goal.returns-clause-value
returns-clause-value c =
    c.unwrap_or.ensures ∙ before_found (is_byte3 c.args.quote 60 0) (is_value_byte c.args.quote) c.args.bytes.now c.memchr3.result (λ b. refl) c.memchr3.ensures
