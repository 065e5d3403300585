-- What is kept for an expectation follows a run: at its end it tells whether the run meets it, and with which event it was
-- lost. This is the induction over the events, the same for every form of expectation.
use Rattle.std.proofs.Common.{◌≡◌, ◌⊎◌, inl, inr, ℕ, ℤ, List, [], ◌∷◌, ◌++◌, Bool, true, false, cond, Option, Some, None, refl, sym, ap, ◌∙◌}
use Rattle.std.proofs.lemmas.List.{append-nil}
use Rattle.spec_world.specs.declared.world.Fact.{Fact}
use Rattle.spec_expect.specs.declared.expectation.Expectation.{Expectation}
use Rattle.spec_expect.specs.declared.verdict.Verdict.{Verdict}
use Rattle.spec_expect.specs.declared.verdict.Verdict.TheVariants.{Pass, Fail}
use Rattle.spec_expect.specs.Met.{Held, held_from, is_lost, lost_from, meets}
use Rattle.spec_expect.specs.Stories.{Sight, Story, happenings_in}
use Rattle.expect_watch.specs.declared.memo.Memo.{Memo}
use Rattle.expect_watch.specs.declared.watching.Watched.{Watched}
use Rattle.expect_watch.specs.Memos.{is_met}
use Rattle.expect_watch.specs.States.{verdict_by, verdict_of}
use Rattle.expect_watch.proofs.Until.{happenings_more, one_more_event}
use Rattle.expect_watch.proofs.Watches.{held_both, last_of, sight_watched, sights_lost, sights_watched, verdict_lost}

-- a run that began with these facts, so far
abbrev pub so_far : List ℤ → List Sight → Story
so_far facts sights = record { facts = facts; sights = sights }

-- the leaves that are held after some events
abbrev pub held_at : List Sight → List Held
held_at past = held_from [] (happenings_in past)

-- what is kept after one event more
abbrev pub next_of : List Sight → Sight → Watched → Watched
next_of past s w = sight_watched s (held_at past) w

-- what becomes of an expectation, by the events before a moment and those after it
abbrev pub verdict_after : List Fact → List ℤ → Expectation → List Sight → List Sight → ℕ → Verdict
verdict_after names facts e past sights at =
    cond (meets names e (so_far facts (past ++ sights))) Pass (Fail (lost_from names e (so_far facts past) sights at))

-- .. it is lost with this event, or it goes on
abbrev pub Steps : List Fact → List ℤ → Expectation → (List Sight → Memo → Type 0) → List Sight → Sight → Watched → Type 0
Steps names facts e Keeps past s next =
    ((next.lost ≡ Some s.at) × (is_lost names e (so_far facts (past ++ s ∷ [])) ≡ true))
    ⊎ ((next.lost ≡ None) × (is_lost names e (so_far facts (past ++ s ∷ [])) ≡ false) × Keeps (past ++ s ∷ []) next.memo)

-- what is kept for an expectation with this meaning of its memo, after these events
pub record FollowsBy (names : List Fact) (facts : List ℤ) (e : Expectation) (Keeps : List Sight → Memo → Type 0) : Type 0 where
  -- at the end
  pub ends : (past : List Sight) (memo : Memo) → Keeps past memo → is_lost names e (so_far facts past) ≡ false → meets names e (so_far facts past) ≡ is_met memo
  -- nothing mends what is lost
  pub stays : (past more : List Sight) → is_lost names e (so_far facts past) ≡ true → meets names e (so_far facts (past ++ more)) ≡ false
  -- one event more
  pub steps : (past : List Sight) (s : Sight) (w : Watched) → w.lost ≡ None → Keeps past w.memo → is_lost names e (so_far facts past) ≡ false →
      Steps names facts e Keeps past s (next_of past s w)

module _ (names : List Fact) (facts : List ℤ) (e : Expectation) (Keeps : List Sight → Memo → Type 0) (by : FollowsBy names facts e Keeps) where
  abbrev Lost : List Sight → Bool → Type 0
  Lost past b = is_lost names e (so_far facts past) ≡ b

  -- what is lost with a moment
  lost_stays : (past sights : List Sight) (at : ℕ) → Lost past true → lost_from names e (so_far facts past) sights at ≡ at
  lost_stays past [] at lost = refl
  lost_stays past (s ∷ sights) at lost =
      ap (λ (b : Bool). cond b at (lost_from names e (so_far facts (past ++ s ∷ [])) sights s.at)) lost

  pub follows_lost : (past sights : List Sight) (held : List Held) (at : ℕ) (w : Watched) → w.lost ≡ Some at → Lost past true →
      verdict_of (sights_watched sights held w) (last_of at sights) ≡ verdict_after names facts e past sights at
  follows_lost past sights held at w lost is =
      ap (λ (x : Watched). verdict_of x (last_of at sights)) (sights_lost at sights held w lost)
      ∙ verdict_lost w at (last_of at sights) lost
      ∙ ap Fail (sym (lost_stays past sights at is))
      ∙ sym (ap (λ (b : Bool). cond b Pass (Fail (lost_from names e (so_far facts past) sights at))) (by.stays past sights is))

  ends_kept : (past : List Sight) (at : ℕ) (w : Watched) → w.lost ≡ None → Keeps past w.memo → Lost past false →
      verdict_of w at ≡ verdict_after names facts e past [] at
  ends_kept past at w none keeps is =
      ap (λ (o : Option ℕ). verdict_by o w.memo at) none
      ∙ ap (λ (b : Bool). cond b Pass (Fail at)) (sym (by.ends past w.memo keeps is))
      ∙ ap (λ (xs : List Sight). cond (meets names e (so_far facts xs)) Pass (Fail at)) (sym (append-nil past))

  -- the verdict after one event more
  verdict_next : (past : List Sight) (s : Sight) (sights : List Sight) (at : ℕ) → Lost past false →
      verdict_after names facts e (past ++ s ∷ []) sights s.at ≡ verdict_after names facts e past (s ∷ sights) at
  verdict_next past s sights at is =
      let later : ℕ = lost_from names e (so_far facts (past ++ s ∷ [])) sights s.at in
      ap (λ (xs : List Sight). cond (meets names e (so_far facts xs)) Pass (Fail later)) (one_more_event past s sights)
      ∙ ap (λ (b : Bool). cond (meets names e (so_far facts (past ++ s ∷ sights))) Pass (Fail (cond b at later))) (sym is)

  -- the leaves that are held after one event more
  held_next : (past : List Sight) (s : Sight) → held_from (held_at past) s.happenings ≡ held_at (past ++ s ∷ [])
  held_next past s = sym (held_both [] (happenings_in past) s.happenings) ∙ ap (held_from []) (sym (happenings_more past s))

  abbrev Tells : List Sight → List Sight → ℕ → Watched → Type 0
  Tells sights past at w = verdict_of (sights_watched sights (held_at past) w) (last_of at sights) ≡ verdict_after names facts e past sights at

  pub follows : (sights past : List Sight) (at : ℕ) (w : Watched) → w.lost ≡ None → Keeps past w.memo → Lost past false → Tells sights past at w
  follows [] past at w none keeps is = ends_kept past at w none keeps is
  follows (s ∷ sights) past at w none keeps is = by_step (λ w2 none2 keeps2 is2. follows sights (past ++ s ∷ []) s.at w2 none2 keeps2 is2) (by.steps past s w none keeps is) where
    by_step : ((w2 : Watched) → w2.lost ≡ None → Keeps (past ++ s ∷ []) w2.memo → Lost (past ++ s ∷ []) false → Tells sights (past ++ s ∷ []) s.at w2) → Steps names facts e Keeps past s (next_of past s w) → Tells (s ∷ sights) past at w
    by_step again (inl lost) =
        follows_lost (past ++ s ∷ []) sights (held_from (held_at past) s.happenings) s.at (next_of past s w) lost.0 lost.1 ∙ verdict_next past s sights at is
    by_step again (inr kept) =
        ap (λ (h : List Held). verdict_of (sights_watched sights h (next_of past s w)) (last_of s.at sights)) (held_next past s)
        ∙ again (next_of past s w) kept.0 kept.2 kept.1 ∙ verdict_next past s sights at is
