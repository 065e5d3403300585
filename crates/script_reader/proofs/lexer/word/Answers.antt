use Rattle.script_reader.proofs.Identifiers.{IsUtf8-from_continue}
use Rattle.script_reader.proofs.lexer.word.Goals as goal

pub copied-requires : goal.copied-requires
copied-requires c = IsUtf8-from_continue c.args.word.now c.requires
