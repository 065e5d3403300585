-- What a watcher does when it is shown some blocks, and then others.
use Rattle.std.proofs.Common.{◌≡◌, true, Result, Ok, Err, subst}
use Rattle.std.specs.Prelude.{IsErrAnd, is_err}
use Rattle.text_lines.specs.declared.stop.TextStop.{TextStop}
use Rattle.text_trace.specs.Watches.{Shown}

module _ {Watch : Type 0} (shows : Watch → Result (Unit {0}) TextStop → Watch → Type 0) where
  -- a call that was done
  pub shown_done : {A : Type 0} (r : Result A TextStop) {x : A} (a b : Watch) → r ≡ Ok x → Shown shows r a b → shows a (Ok tt) b
  shown_done (Ok y) a b is shown = shown
  shown_done (Err why) a b is shown = cc

  -- an answer under another name
  pub shown_as : {A : Type 0} (r s : Result A TextStop) (a b : Watch) → r ≡ s → Shown shows r a b → Shown shows s a b
  shown_as {A} r s a b is shown = subst (λ (x : Result A TextStop). Shown shows x a b) is shown

  -- an error that is handed on
  pub shown_stopped : {A B : Type 0} (r : Result A TextStop) (s : Result B TextStop) (e : TextStop) (a b : Watch) → r ≡ Err e → IsErrAnd s (λ f. f ≡ e) → Shown shows r a b → Shown shows s a b
  shown_stopped (Err why) (Err f) e a b was is shown = subst (λ (x : TextStop). shows a (Err x) b) (let same : why ≡ f = cc in same) shown
  shown_stopped (Ok x) (Err f) e a b was is shown = cc
  shown_stopped r (Ok x) e a b was is shown = absurd is

  -- memory ran out after some blocks
  pub shown_out : {A : Type 0} (stop : (a b : Watch) → (why : TextStop) → shows a (Ok tt) b → shows a (Err why) b) (r : Result A TextStop) (a b : Watch) → is_err r ≡ true → shows a (Ok tt) b → Shown shows r a b
  shown_out stop (Err why) a b failed shown = stop a b why shown
  shown_out stop (Ok x) a b failed shown = cc

  -- some blocks, and then those of a call
  pub shown_then : {A : Type 0} (both : (a b c : Watch) → (r : Result (Unit {0}) TextStop) → shows a (Ok tt) b → shows b r c → shows a r c) (r : Result A TextStop) (a b c : Watch) → shows a (Ok tt) b → Shown shows r b c → Shown shows r a c
  shown_then both (Ok x) a b c p q = both a b c (Ok tt) p q
  shown_then both (Err why) a b c p q = both a b c (Err why) p q
