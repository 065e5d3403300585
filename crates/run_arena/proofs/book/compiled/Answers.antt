use Rattle.run_arena.proofs.Compilable.{compilable}
use Rattle.run_arena.proofs.book.compiled.Goals as goal

pub compile-requires : goal.compile-requires
compile-requires c = compilable c.args.script.now c.requires
