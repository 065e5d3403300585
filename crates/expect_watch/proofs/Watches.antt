-- What is kept for one expectation over the notes of an event and over events.
use Rattle.std.proofs.Common.{◌≡◌, ℕ, List, [], ◌∷◌, ◌++◌, Bool, true, Option, Some, None, refl, ap, ◌∙◌}
use Rattle.spec_expect.specs.declared.verdict.Verdict.TheVariants.{Fail}
use Rattle.spec_expect.specs.Met.{Held, held_after, held_from}
use Rattle.spec_expect.specs.Stories.{Happening, Sight}
use Rattle.expect_watch.specs.declared.watching.Watched.{Watched}
use Rattle.expect_watch.specs.Memos.{after_event, after_note, is_lost_after, is_lost_by}
use Rattle.expect_watch.specs.States.{event_ended, left_with, noted, unless_lost, verdict_by, verdict_of}

-- after some happenings of an event at a moment, before which these leaves were held
abbrev pub notes_watched : ℕ → List Happening → List Held → Watched → Watched
notes_watched at [] held w = w
notes_watched at (h ∷ hs) held w =
    notes_watched at hs (held_after h.runner h.note held) (noted at h.note h.facts (held_after h.runner h.note held) w)

-- after an event
abbrev pub sight_watched : Sight → List Held → Watched → Watched
sight_watched s held w = event_ended s.at s.facts (notes_watched s.at s.happenings held w)

-- after some events
abbrev pub sights_watched : List Sight → List Held → Watched → Watched
sights_watched [] held w = w
sights_watched (s ∷ sights) held w = sights_watched sights (held_from held s.happenings) (sight_watched s held w)

-- the moment of the last of some events, or this one where there is none
abbrev pub last_of : ℕ → List Sight → ℕ
last_of at [] = at
last_of at (s ∷ sights) = last_of s.at sights

pub held_both : (held : List Held) (xs ys : List Happening) → held_from held (xs ++ ys) ≡ held_from (held_from held xs) ys
held_both held [] ys = refl
held_both held (x ∷ xs) ys = held_both (held_after x.runner x.note held) xs ys

-- ---- What is lost stays as it is

noted_lost : (at t : ℕ) (h : Happening) (held : List Held) (w : Watched) → w.lost ≡ Some t → noted at h.note h.facts held w ≡ w
noted_lost at t h held w lost =
    ap (λ (o : Option ℕ). unless_lost o w (left_with w at (is_lost_by h.note h.facts held w.memo) (after_note at h.note w.memo))) lost

pub ended_lost : (at t : ℕ) (s : Sight) (w : Watched) → w.lost ≡ Some t → event_ended at s.facts w ≡ w
ended_lost at t s w lost = ap (λ (o : Option ℕ). unless_lost o w (left_with w at (is_lost_after at s.facts w.memo) (after_event at s.facts w.memo))) lost

pub notes_lost : (at t : ℕ) (hs : List Happening) (held : List Held) (w : Watched) → w.lost ≡ Some t → notes_watched at hs held w ≡ w
notes_lost at t [] held w lost = refl
notes_lost at t (h ∷ hs) held w lost =
    ap (notes_watched at hs (held_after h.runner h.note held)) (noted_lost at t h (held_after h.runner h.note held) w lost)
    ∙ notes_lost at t hs (held_after h.runner h.note held) w lost

sight_lost : (t : ℕ) (s : Sight) (held : List Held) (w : Watched) → w.lost ≡ Some t → sight_watched s held w ≡ w
sight_lost t s held w lost = ap (event_ended s.at s.facts) (notes_lost s.at t s.happenings held w lost) ∙ ended_lost s.at t s w lost

pub sights_lost : (t : ℕ) (sights : List Sight) (held : List Held) (w : Watched) → w.lost ≡ Some t → sights_watched sights held w ≡ w
sights_lost t [] held w lost = refl
sights_lost t (s ∷ sights) held w lost =
    ap (sights_watched sights (held_from held s.happenings)) (sight_lost t s held w lost)
    ∙ sights_lost t sights (held_from held s.happenings) w lost

-- ---- What is not lost yet

pub noted_kept : (at : ℕ) (h : Happening) (held : List Held) (w : Watched) → w.lost ≡ None →
    noted at h.note h.facts held w ≡ left_with w at (is_lost_by h.note h.facts held w.memo) (after_note at h.note w.memo)
noted_kept at h held w none =
    ap (λ (o : Option ℕ). unless_lost o w (left_with w at (is_lost_by h.note h.facts held w.memo) (after_note at h.note w.memo))) none

pub ended_kept : (s : Sight) (w : Watched) → w.lost ≡ None →
    event_ended s.at s.facts w ≡ left_with w s.at (is_lost_after s.at s.facts w.memo) (after_event s.at s.facts w.memo)
ended_kept s w none = ap (λ (o : Option ℕ). unless_lost o w (left_with w s.at (is_lost_after s.at s.facts w.memo) (after_event s.at s.facts w.memo))) none

pub lost_with : (w : Watched) (at : ℕ) (b : Bool) (w2 : Watched) → w2 ≡ left_with w at b w2.memo → b ≡ true → w2.lost ≡ Some at
lost_with w at b w2 is lost = ap (λ (x : Watched). x.lost) is ∙ ap (λ (x : Bool). (left_with w at x w2.memo).lost) lost

-- what becomes of one that is lost
pub verdict_lost : (w : Watched) (t last : ℕ) → w.lost ≡ Some t → verdict_of w last ≡ Fail t
verdict_lost w t last lost = ap (λ (o : Option ℕ). verdict_by o w.memo last) lost
