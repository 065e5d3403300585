use Rattle.run_arena.proofs.book.Entry.placed.Goals as goal

pub of-requires : goal.of-requires
of-requires g c = c.args.self.now.over (c.in-Some.scope, c.in-Some.code) c.in-Some.is
