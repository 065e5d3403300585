use Rattle.cli_commands.proofs.AnyBytes.{any_bytes}
use Rattle.cli_program.proofs.Clauses.{no_command_of, read_of, unasked_of, words_of, write_of}
use Rattle.cli_program.proofs.laws.words_are_answered.Goals as goal

pub returns-clause-any_shelf : goal.returns-clause-any_shelf
returns-clause-any_shelf g c = λ command result old new answered. any_bytes g.S.Shelf.read_gives (g.S.Shelf.holds c.args.before.now) _ _ _ _ _ _ _ answered

pub returns-clause-words : goal.returns-clause-words
returns-clause-words g c = λ command result old new answered. words_of _ _ _ _ _ _ command (any_bytes g.S.Shelf.read_gives (g.S.Shelf.holds c.args.before.now) _ _ _ _ _ _ _ answered)

pub returns-clause-no_command : goal.returns-clause-no_command
returns-clause-no_command g c = λ command result old new answered. no_command_of _ _ _ _ _ _ command (any_bytes g.S.Shelf.read_gives (g.S.Shelf.holds c.args.before.now) _ _ _ _ _ _ _ answered)

pub returns-clause-unasked : goal.returns-clause-unasked
returns-clause-unasked g c = λ command result old new answered. unasked_of _ _ _ _ _ _ command (any_bytes g.S.Shelf.read_gives (g.S.Shelf.holds c.args.before.now) _ _ _ _ _ _ _ answered)

pub returns-clause-read : goal.returns-clause-read
returns-clause-read g c = λ command result old new answered. read_of _ _ _ _ _ _ command (any_bytes g.S.Shelf.read_gives (g.S.Shelf.holds c.args.before.now) _ _ _ _ _ _ _ answered)

pub returns-clause-write : goal.returns-clause-write
returns-clause-write g c = λ command result old new answered. write_of _ _ _ _ _ _ command (any_bytes g.S.Shelf.read_gives (g.S.Shelf.holds c.args.before.now) _ _ _ _ _ _ _ answered)
