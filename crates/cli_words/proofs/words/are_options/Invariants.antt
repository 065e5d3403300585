use Rattle.std.proofs.Common.{◌≡◌, length}
use Rattle.spec_program.specs.Words.{are_options, is_option}
use Rattle.cli_words.proofs.words.are_options.Given as goal

-- what the options that are left say is what all say
abbrev pub invariant-loop-rest : goal.invariant-loop-rest
invariant-loop-rest l = are_options (is_option l.options) l.rest ≡ are_options (is_option l.options) l.words

abbrev pub decreases-loop-rest : goal.decreases-loop-rest
decreases-loop-rest l = length l.rest
