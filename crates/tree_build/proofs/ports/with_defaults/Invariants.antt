use Rattle.std.proofs.Common.{◌≡◌, drop}
use Rattle.tree_build.specs.ContentSteps.{with_defaults}
use Rattle.tree_build.proofs.ports.with_defaults.Given as goal

abbrev pub invariant-loop-port : goal.invariant-loop-port
invariant-loop-port l =
    with_defaults l.attributes l.ports.items (drop l.port-index l.defaults) ≡ with_defaults l.attributes l.fn.ports.items l.defaults
