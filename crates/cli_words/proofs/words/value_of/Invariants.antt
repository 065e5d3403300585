use Rattle.std.proofs.Common.{◌≡◌, length}
use Rattle.spec_program.specs.Words.{value_of}
use Rattle.cli_words.proofs.words.value_of.Given as goal

-- what the options that are left give is what all give
abbrev pub invariant-loop-rest : goal.invariant-loop-rest
invariant-loop-rest l = value_of l.name l.rest ≡ value_of l.name l.options

abbrev pub decreases-loop-rest : goal.decreases-loop-rest
decreases-loop-rest l = length l.rest
