-- Expectations that are lost by a note, where it happens: each happening is tested by those before it.
use Rattle.std.proofs.Common.{◌≡◌, ◌⊎◌, inl, inr, ℕ, ℤ, List, [], ◌∷◌, ◌++◌, Bool, true, false, not, ◌&&◌, cond, Some, None, refl, sym, ap, subst, ◌∙◌, append_assoc}
use Rattle.std.specs.List.{list_all}
use Rattle.std.proofs.lemmas.Bool.{and_left, not-false, not-true}
use Rattle.std.proofs.lemmas.List.{append-nil}
use Rattle.spec_world.specs.declared.world.Fact.{Fact}
use Rattle.spec_expect.specs.declared.expectation.Expectation.{Expectation}
use Rattle.spec_expect.specs.Met.{Held, each_after, held_after, held_from, is_lost, meets}
use Rattle.spec_expect.specs.Stories.{Happening, Sight, happenings_in}
use Rattle.expect_watch.specs.declared.memo.Memo.{Memo}
use Rattle.expect_watch.specs.declared.watching.Watched.{Watched}
use Rattle.expect_watch.specs.Memos.{after_event, after_note, is_lost_after, is_lost_by, is_met}
use Rattle.expect_watch.specs.States.{event_ended, left_with}
use Rattle.expect_watch.proofs.Follows.{FollowsBy, Steps, next_of, so_far}
use Rattle.expect_watch.proofs.Until.{happenings_both, happenings_more}
use Rattle.expect_watch.proofs.Watches.{ended_kept, ended_lost, held_both, noted_kept, notes_lost, notes_watched, sight_watched}

abbrev pub Test : Type 0
Test = List Happening → Happening → Bool

pub each_both : (ok : Test) (past xs ys : List Happening) → each_after ok past (xs ++ ys) ≡ (each_after ok past xs && each_after ok (past ++ xs) ys)
each_both ok past [] ys = ap (λ (p : List Happening). each_after ok p ys) (sym (append-nil past))
each_both ok past (x ∷ xs) ys = by_first (each_both ok (past ++ x ∷ []) xs ys) (ok past x) refl where
  by_first : each_after ok (past ++ x ∷ []) (xs ++ ys) ≡ (each_after ok (past ++ x ∷ []) xs && each_after ok ((past ++ x ∷ []) ++ xs) ys) → (b : Bool) → ok past x ≡ b → each_after ok past (x ∷ xs ++ ys) ≡ (each_after ok past (x ∷ xs) && each_after ok (past ++ x ∷ xs) ys)
  by_first rest true e =
      ap (λ (b : Bool). b && each_after ok (past ++ x ∷ []) (xs ++ ys)) e
      ∙ rest
      ∙ ap (λ (p : List Happening). each_after ok (past ++ x ∷ []) xs && each_after ok p ys) (append_assoc past (x ∷ []) xs)
      ∙ ap (λ (b : Bool). (b && each_after ok (past ++ x ∷ []) xs) && each_after ok (past ++ x ∷ xs) ys) (sym e)
  by_first rest false e =
      ap (λ (b : Bool). b && each_after ok (past ++ x ∷ []) (xs ++ ys)) e
      ∙ ap (λ (b : Bool). (b && each_after ok (past ++ x ∷ []) xs) && each_after ok (past ++ x ∷ xs) ys) (sym e)

-- a test that does not look back
pub each_alone : (p : Happening → Bool) (past xs : List Happening) → each_after (λ past h. p h) past xs ≡ list_all p xs
each_alone p past [] = refl
each_alone p past (x ∷ xs) = ap (λ (b : Bool). p x && b) (each_alone p (past ++ x ∷ []) xs)

-- what is kept for an expectation that is lost at the first happening that does not pass
pub record TestsBy (ok : Test) (Keeps : List Happening → Memo → Type 0) : Type 0 where
  pub tells : (hs : List Happening) (h : Happening) (memo : Memo) → Keeps hs memo → is_lost_by h.note h.facts (held_from [] (hs ++ h ∷ [])) memo ≡ not (ok hs h)
  pub notes : (hs : List Happening) (h : Happening) (at : ℕ) (memo : Memo) → Keeps hs memo → Keeps (hs ++ h ∷ []) (after_note at h.note memo)
  pub rests : (hs : List Happening) (at : ℕ) (facts : List ℤ) (memo : Memo) → Keeps hs memo → is_lost_after at facts memo ≡ false
  pub same : (hs : List Happening) (at : ℕ) (facts : List ℤ) (memo : Memo) → Keeps hs memo → after_event at facts memo ≡ memo
  pub met : (hs : List Happening) (memo : Memo) → Keeps hs memo → is_met memo ≡ true

module _ (ok : Test) (Keeps : List Happening → Memo → Type 0) (by : TestsBy ok Keeps) where
  -- after some happenings of an event: one of them did not pass, or it goes on
  abbrev After : ℕ → List Happening → List Happening → Watched → Type 0
  After at past hs w =
      ((w.lost ≡ Some at) × (each_after ok past hs ≡ false)) ⊎ ((w.lost ≡ None) × (each_after ok past hs ≡ true) × Keeps (past ++ hs) w.memo)

  -- .. where the first of them passes
  after_passed : (at : ℕ) (past hs : List Happening) (h : Happening) (w : Watched) → ok past h ≡ true → After at (past ++ h ∷ []) hs w → After at past (h ∷ hs) w
  after_passed at past hs h w passes (inl lost) = inl (lost.0, ap (λ (b : Bool). b && each_after ok (past ++ h ∷ []) hs) passes ∙ lost.1)
  after_passed at past hs h w passes (inr kept) = inr (
    kept.0,
    ap (λ (b : Bool). b && each_after ok (past ++ h ∷ []) hs) passes ∙ kept.1,
    subst (λ (xs : List Happening). Keeps xs w.memo) (append_assoc past (h ∷ []) hs) kept.2,
  )

  -- the leaves that are held after a happening, and what is kept then where it was not lost before
  abbrev held_by : List Happening → Happening → List Held
  held_by past h = held_after h.runner h.note (held_from [] past)

  abbrev kept_by : ℕ → List Happening → Happening → Watched → Watched
  kept_by at past h w = left_with w at (is_lost_by h.note h.facts (held_by past h) w.memo) (after_note at h.note w.memo)

  held_is : (past : List Happening) (h : Happening) → held_by past h ≡ held_from [] (past ++ h ∷ [])
  held_is past h = sym (held_both [] past (h ∷ []))

  loss_is : (past : List Happening) (h : Happening) (memo : Memo) → Keeps past memo → is_lost_by h.note h.facts (held_by past h) memo ≡ not (ok past h)
  loss_is past h memo keeps = ap (λ (x : List Held). is_lost_by h.note h.facts x memo) (held_is past h) ∙ by.tells past h memo keeps

  -- what comes after a happening that passes
  abbrev Again : ℕ → List Happening → List Happening → Type 0
  Again at past hs = (w : Watched) → w.lost ≡ None → Keeps past w.memo → After at past hs (notes_watched at hs (held_from [] past) w)

  notes_go : (hs past : List Happening) (at : ℕ) (w : Watched) → w.lost ≡ None → Keeps past w.memo → After at past hs (notes_watched at hs (held_from [] past) w)
  notes_go [] past at w none keeps = inr (none, refl, subst (λ (xs : List Happening). Keeps xs w.memo) (sym (append-nil past)) keeps)
  notes_go (h ∷ hs) past at w none keeps =
      subst (After at past (h ∷ hs)) (sym (ap (notes_watched at hs (held_by past h)) (noted_kept at h (held_by past h) w none)))
      (by_test (λ w2 none2 keeps2. notes_go hs (past ++ h ∷ []) at w2 none2 keeps2) (ok past h) refl) where
        by_test : Again at (past ++ h ∷ []) hs → (b : Bool) → ok past h ≡ b → After at past (h ∷ hs) (notes_watched at hs (held_by past h) (kept_by at past h w))
        by_test again true passes =
            let kept : (kept_by at past h w).lost ≡ None = ap (λ (b : Bool). cond b (Some at) None) (loss_is past h w.memo keeps ∙ ap not passes) in
            let rest : After at (past ++ h ∷ []) hs (notes_watched at hs (held_by past h) (kept_by at past h w)) =
            subst (λ (x : List Held). After at (past ++ h ∷ []) hs (notes_watched at hs x (kept_by at past h w))) (sym (held_is past h))
            (again (kept_by at past h w) kept (by.notes past h at w.memo keeps)) in
            after_passed at past hs h (notes_watched at hs (held_by past h) (kept_by at past h w)) passes rest
        by_test again false fails =
            let lost : (kept_by at past h w).lost ≡ Some at = ap (λ (b : Bool). cond b (Some at) None) (loss_is past h w.memo keeps ∙ ap not fails) in
            let is : notes_watched at hs (held_by past h) (kept_by at past h w) ≡ kept_by at past h w = notes_lost at at hs (held_by past h) (kept_by at past h w) lost in
            inl (ap (λ (x : Watched). x.lost) is ∙ lost, ap (λ (b : Bool). b && each_after ok (past ++ h ∷ []) hs) fails)

  -- .. after an event
  event_goes : (s : Sight) (past hs : List Happening) (w : Watched) → After s.at past hs w → After s.at past hs (event_ended s.at s.facts w)
  event_goes s past hs w (inl lost) = inl (ap (λ (x : Watched). x.lost) (ended_lost s.at s.at s w lost.0) ∙ lost.0, lost.1)
  event_goes s past hs w (inr kept) =
      let is : event_ended s.at s.facts w ≡ left_with w s.at (is_lost_after s.at s.facts w.memo) (after_event s.at s.facts w.memo) = ended_kept s w kept.0 in
      inr (
        ap (λ (x : Watched). x.lost) is ∙ ap (λ (b : Bool). cond b (Some s.at) None) (by.rests (past ++ hs) s.at s.facts w.memo kept.2),
        kept.1,
        subst (Keeps (past ++ hs)) (sym (ap (λ (x : Watched). x.memo) is ∙ by.same (past ++ hs) s.at s.facts w.memo kept.2)) kept.2,
      )

  pub sight_goes : (s : Sight) (past : List Happening) (w : Watched) → w.lost ≡ None → Keeps past w.memo → After s.at past s.happenings (sight_watched s (held_from [] past) w)
  sight_goes s past w none keeps =
      event_goes s past s.happenings (notes_watched s.at s.happenings (held_from [] past) w) (notes_go s.happenings past s.at w none keeps)

-- an expectation that is met where each happening of a run passes follows the run
module _ (names : List Fact) (facts : List ℤ) (e : Expectation) (ok : Test) (Keeps : List Happening → Memo → Type 0) (by : TestsBy ok Keeps)
    (says : (sights : List Sight) → meets names e (so_far facts sights) ≡ each_after ok [] (happenings_in sights))
    (lost : (sights : List Sight) → is_lost names e (so_far facts sights) ≡ not (meets names e (so_far facts sights))) where
  abbrev pub KeepsAll : List Sight → Memo → Type 0
  KeepsAll past memo = Keeps (happenings_in past) memo

  lost_is : (past : List Sight) → is_lost names e (so_far facts past) ≡ not (each_after ok [] (happenings_in past))
  lost_is past = lost past ∙ ap not (says past)

  pub passed : (past : List Sight) → is_lost names e (so_far facts past) ≡ false → each_after ok [] (happenings_in past) ≡ true
  passed past kept = not-false (each_after ok [] (happenings_in past)) (sym (lost_is past) ∙ kept)

  more_is : (past more : List Sight) → each_after ok [] (happenings_in (past ++ more)) ≡ (each_after ok [] (happenings_in past) && each_after ok (happenings_in past) (happenings_in more))
  more_is past more = ap (each_after ok []) (happenings_both past more) ∙ each_both ok [] (happenings_in past) (happenings_in more)

  next_is : (past : List Sight) (s : Sight) → each_after ok [] (happenings_in past) ≡ true →
      is_lost names e (so_far facts (past ++ s ∷ [])) ≡ not (each_after ok (happenings_in past) s.happenings)
  next_is past s so =
      lost_is (past ++ s ∷ []) ∙ ap not (ap (each_after ok []) (happenings_more past s)
      ∙ each_both ok [] (happenings_in past) s.happenings ∙ ap (λ (b : Bool). b && each_after ok (happenings_in past) s.happenings) so)

  steps_on : (past : List Sight) (s : Sight) (w : Watched) → each_after ok [] (happenings_in past) ≡ true →
      After ok Keeps by s.at (happenings_in past) s.happenings w → Steps names facts e KeepsAll past s w
  steps_on past s w so (inl gone) = inl (gone.0, next_is past s so ∙ ap not gone.1)
  steps_on past s w so (inr kept) = inr (
    kept.0,
    next_is past s so ∙ ap not kept.1,
    subst (λ (hs : List Happening). Keeps hs w.memo) (sym (happenings_more past s)) kept.2,
  )

  pub follows_tests : FollowsBy names facts e KeepsAll
  follows_tests = record {
    ends = λ past memo keeps kept. says past ∙ passed past kept ∙ sym (by.met (happenings_in past) memo keeps);
    stays = λ past more gone.
        says (past ++ more) ∙ more_is past more
        ∙ and_left (each_after ok [] (happenings_in past)) (each_after ok (happenings_in past) (happenings_in more)) (not-true (each_after ok [] (happenings_in past)) (sym (lost_is past) ∙ gone));
    steps = λ past s w none keeps kept. steps_on past s (next_of past s w) (passed past kept) (sight_goes ok Keeps by s (happenings_in past) w none keeps);
  }
