use Rattle.std.proofs.Common.{[], refl}
use Rattle.cli_words.specs.Commands.{command_seen}
use Rattle.spec_program.specs.Files.{Contents}
use Rattle.spec_program.specs.Reads.{AllRead}
use Rattle.cli_commands.specs.Named.{contents_of}
use Rattle.cli_commands.proofs.Files.{exit_answered, refusal_answered, unread_answered}
use Rattle.cli_commands.proofs.command.answer_words.Goals as goal

-- words that are no command name no file
pub returns-in_default-clause-reads : goal.returns-in_default-clause-reads
returns-in_default-clause-reads g c =
    let none : Contents = record { tree = []; world = []; rules = []; expect = [] } in
    rw c.in_default.ensures.command (record {
      end = AllRead none;
      reads = refl;
      answered = c.write_refusal.ensures.refused (g.C.Clock.moments c.args.outside.now.clock.now) (g.D.Drivers.states c.args.outside.now.drivers.now) (g.D.Drivers.states c.args.outside.now.drivers.now) (λ place. refl);
    })

pub returns-in-Ok-answer-clause-reads : goal.returns-in-Ok-answer-clause-reads
returns-in-Ok-answer-clause-reads g c =
    rw (c.answer.ensures.unread, c.in-Some.ensures.command) (exit_answered g.S.Shelf.read_gives (g.S.Shelf.holds c.args.outside.now.shelf.now) (command_seen c.in-Some.command) _ _ _
    (contents_of c.in-Ok.files) c.in-Ok-answer.exit _ _ c.in-Ok.ensures.read c.in-Ok.ensures.within c.in-Ok-answer.ensures.ends)

pub returns-in-Ok-clause-reads : goal.returns-in-Ok-clause-reads
returns-in-Ok-clause-reads g c =
    rw (c.answer.ensures.unread, c.in-Some.ensures.command) (refusal_answered g.S.Shelf.read_gives (g.S.Shelf.holds c.args.outside.now.shelf.now) (command_seen c.in-Some.command) _ _ _
    (contents_of c.in-Ok.files) c.in-Err-answer.refusal _ _ _ _ _ c.in-Ok.ensures.read c.in-Ok.ensures.within c.in-Err-answer.ensures.ends c.write_refusal-in-Err-answer.ensures.refused)

pub returns-clause-reads : goal.returns-clause-reads
returns-clause-reads g c =
    rw c.in-Some.ensures.command (unread_answered g.S.Shelf.read_gives (g.S.Shelf.holds c.args.outside.now.shelf.now) (command_seen c.in-Some.command) _ _ _ c.in-Err.refusal _ _ _ _
    c.in-Err.ensures.unread c.write_refusal-in-Err.ensures.refused)

pub returns-in-Ok-clause-writes : goal.returns-in-Ok-clause-writes
returns-in-Ok-clause-writes g c = rw c.in-Err-answer.ensures.writes at c.write_refusal-in-Err-answer.ensures.writes
