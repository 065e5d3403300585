use Rattle.std.proofs.Common.{◌≡◌, drop}
use Rattle.spec_serve.specs.Rows.{model_elements}
use Rattle.cli_serve.proofs.rows.models.Given as goal

abbrev pub invariant-loop-element : goal.invariant-loop-element
invariant-loop-element l = model_elements (drop l.element-index l.element-items) ≡ model_elements l.element-items
