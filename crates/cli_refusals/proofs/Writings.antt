-- What a command writes, write by write.
use Rattle.std.proofs.Common.{◌≡◌, ℕ, List, ◌++◌, codes, true, inl, Result, Ok, Err}
use Rattle.std.specs.Prelude.{is_err}
use Rattle.spec_outside.specs.Writes.{AreLines, Writing, WroteLines}
use Rattle.spec_program.specs.Answers.{WritesAt}
use Rattle.spec_program.specs.declared.exit.Exit.{Exit}
use Rattle.spec_program.specs.declared.exit.Exit.TheVariants as exit
use Rattle.cli_refusals.specs.declared.refusal.Refusal.{Refusal}
use Rattle.cli_refusals.specs.Ends.{EndWrites}
use Rattle.base_outside.proofs.Writings.{lines-after, lines-feed}

-- a refusal is one line
pub refused_lines : (words : List ℕ) → AreLines (words ++ codes "\n")
refused_lines words = lines-after words _ lines-feed

module _ {Sink Fault : Type 0} (gives : Writing Sink Fault) where
  -- no write failed, with whatever exit
  pub at_lines : (e : Exit) (a b : Sink) → WroteLines gives a b → WritesAt gives e a b
  at_lines exit.Done a b p = p
  at_lines exit.Words a b p = p
  at_lines exit.Tree a b p = p
  at_lines exit.World a b p = p
  at_lines exit.Fault a b p = p
  at_lines exit.NoPlan a b p = p
  at_lines exit.Read a b p = p
  at_lines exit.Write a b p = inl p
  at_lines exit.Memory a b p = inl p
  at_lines exit.Rules a b p = p
  at_lines exit.Request a b p = p
  at_lines exit.Expect a b p = p
  at_lines exit.Unmet a b p = p
  at_lines exit.NotExclusive a b p = p

  -- a refusal
  pub end_refused : (r : Result Exit Refusal) (a b : Sink) → is_err r ≡ true → b ≡ a → EndWrites gives r a b
  end_refused (Err refusal) a b failed same = same
  end_refused (Ok e) a b failed same = cc
