use Rattle.std.proofs.Common.{length}
use Rattle.cli_words.proofs.words.+words_before_main.Given as goal

-- there are fewer words in each call
abbrev pub decreases-words_before_main : goal.decreases-words_before_main
decreases-words_before_main l = length l.words.now
