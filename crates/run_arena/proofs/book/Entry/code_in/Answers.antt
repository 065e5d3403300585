use Rattle.std.proofs.Common.{refl}
use Rattle.run_arena.proofs.book.Entry.code_in.Goals as goal

pub returns-then-is_of : goal.returns-then-is_of
returns-then-is_of g c = record {
  made = c.args.self.now.code;
  of = c.if-is_of.ensures refl;
  over = c.in_ok-placed_in.ensures;
}
