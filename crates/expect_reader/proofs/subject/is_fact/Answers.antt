use Rattle.std.proofs.Common.{◌∙◌, sym}
use Rattle.std.specs.Prelude.{bytes_eq}
use Rattle.spec_world.specs.declared.world.Fact.{Fact}
use Rattle.expect_reader.proofs.Placing.{any_map}
use Rattle.expect_reader.proofs.subject.is_fact.Goals as goal

pub returns : goal.returns
returns c = c.has_fact.ensures ∙ sym (any_map (bytes_eq c.args.name.now) (λ (f : Fact). f.name) c.args.facts.now)
