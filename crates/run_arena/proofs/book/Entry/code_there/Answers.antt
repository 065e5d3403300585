use Rattle.std.proofs.Common.{ℕ, subst}
use Rattle.run_arena.specs.Booked.{IsOver}
use Rattle.run_arena.proofs.book.Entry.code_there.Goals as goal

pub returns-in-Some : goal.returns-in-Some
returns-in-Some g c =
    subst (λ (n : ℕ). IsOver (g.O.Slotting.slot n) c.args.self.now.code c.in-Some.code) c.if-last-scope.true
    (c.args.self.now.over (c.in-Some.last, c.in-Some.code) c.in-Some.is)
