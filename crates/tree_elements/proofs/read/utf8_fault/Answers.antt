use Rattle.std.proofs.lemmas.Str.{IsUtf8-from_ascii}
use Rattle.tree_elements.proofs.read.utf8_fault.Goals as goal

pub returns-then-all_ascii : goal.returns-then-all_ascii
returns-then-all_ascii c = IsUtf8-from_ascii c.args.bytes.now (c.all_ascii.ensures c.if-all_ascii.true)
