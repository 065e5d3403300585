-- Expressions that look at facts that are there.
use Rattle.std.specs.Prelude.{ℕ, List, length}
use Rattle.std.specs.List.{All}
use Rattle.expect_watch.specs.declared.watching.Watched.{Watched}
use Rattle.expect_watch.specs.Memos.{Fits}
use Rattle.expect_watch.specs.States.{State}

-- the expressions of these look at so many facts at most
abbrev pub AreFit : ℕ → List Watched → Type 0
AreFit facts watched = All (λ (w : Watched). Fits facts w.memo) watched

-- .. at those that there are
abbrev pub IsFit : State → Type 0
IsFit s = AreFit (length s.facts) s.watched
