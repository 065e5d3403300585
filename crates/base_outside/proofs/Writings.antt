-- Writing whole lines, write by write.
use Rattle.std.proofs.Common.{◌≡◌, true, inl, inr, ℕ, List, [], ◌∷◌, ◌++◌, Result, Ok, Err, refl, sym, ap, subst, ◌∙◌, append_assoc}
use Rattle.std.specs.Prelude.{is_err}
use Rattle.spec_outside.specs.Writes.{AreLines, WereWritten, Writes, Writing, WroteLines, WroteSome}

-- lines after something
pub lines-after : (x y : List ℕ) → AreLines y → AreLines (x ++ y)
lines-after x y lines = record { front = x ++ lines.front; ends = ap (λ (z : List ℕ). x ++ z) lines.ends ∙ sym (append_assoc x lines.front (10 ∷ [])) }

-- a line feed alone
pub lines-feed : AreLines (10 ∷ [])
lines-feed = record { front = []; ends = refl }

-- what is equal to lines
pub lines-equal : (x y : List ℕ) → x ≡ y → AreLines y → AreLines x
lines-equal x y same lines = record { front = lines.front; ends = same ∙ lines.ends }

module _ {Sink Fault : Type 0} (gives : Writing Sink Fault) where
  written-both : (xs ys : List (List ℕ)) (a b c : Sink) → WereWritten gives xs a b → WereWritten gives ys b c → WereWritten gives (xs ++ ys) a c
  written-both [] ys a b c p q = subst (λ (s : Sink). WereWritten gives ys s c) p q
  written-both (x ∷ xs) ys a b c p q = (p.0, (p.1.0, (p.1.1.0, written-both xs ys p.1.0 b c p.1.1.1 q)))

  -- nothing was written
  pub Wrote-none : (a : Sink) → WroteLines gives a a
  Wrote-none a = record { pieces = []; written = refl }

  -- some lines and then others
  pub Wrote-both : (a b c : Sink) → WroteLines gives a b → WroteLines gives b c → WroteLines gives a c
  Wrote-both a b c p q = record { pieces = p.pieces ++ q.pieces; written = written-both p.pieces q.pieces a b c p.written q.written }

  -- nothing was written, with whatever result
  pub Writes-none : {A E : Type 0} (r : Result A E) (a : Sink) → Writes gives r a a
  Writes-none (Ok _) a = Wrote-none a
  Writes-none (Err _) a = inl (Wrote-none a)

  -- no write failed, with whatever result
  pub Writes-lines : {A E : Type 0} (r : Result A E) (a b : Sink) → WroteLines gives a b → Writes gives r a b
  Writes-lines (Ok _) a b p = p
  Writes-lines (Err _) a b p = inl p

  -- a call that has stopped, which has written no more
  pub Writes-stopped : {A E : Type 0} (r : Result A E) → is_err r ≡ true → (a b : Sink) → WroteSome gives a b → Writes gives r a b
  Writes-stopped (Ok _) failed a b p = cc
  Writes-stopped (Err _) failed a b p = p

  -- one write
  pub Writes-one : (r : Result (Unit {0}) Fault) (a b : Sink) (piece : List ℕ) → AreLines piece → gives a piece r b → Writes gives r a b
  Writes-one (Ok tt) a b piece lines gave = record { pieces = piece ∷ []; written = (lines, (b, (gave, refl))) }
  Writes-one (Err why) a b piece lines gave =
      inr (record { between = a; wrote = Wrote-none a; piece = piece; lines = lines; fault = why; gave = gave })

  -- some lines, and then others of which the last write may have failed
  pub Wrote-then : (a b c : Sink) → WroteLines gives a b → WroteSome gives b c → WroteSome gives a c
  Wrote-then a b c p (inl q) = inl (Wrote-both a b c p q)
  Wrote-then a b c p (inr q) =
      inr (record { between = q.between; wrote = Wrote-both a b q.between p q.wrote; piece = q.piece; lines = q.lines; fault = q.fault; gave = q.gave })

  -- some lines, and then those of a call with this result
  pub Writes-after : {A E : Type 0} (r : Result A E) (a b c : Sink) → WroteLines gives a b → Writes gives r b c → Writes gives r a c
  Writes-after (Ok _) a b c p q = Wrote-both a b c p q
  Writes-after (Err _) a b c p q = Wrote-then a b c p q

-- the facts by which lines are written call by call
pub ruleset writing = (Wrote-none, Wrote-both, Wrote-then, Writes-none, Writes-lines, Writes-stopped, Writes-after)
