-- The forms of expectation that are lost with an event, and not by a note within it.
use Rattle.std.proofs.Common.{◌≡◌, inl, inr, ℕ, ℤ, ◌+◌, ◌-◌, ◌^◌, ◌≤◌, ◌<◌, min, List, [], ◌∷◌, ◌++◌, Bool, true, false, not, ◌&&◌, ◌||◌, cond, nat_le, nat_lt, Option, Some, None, refl, sym, ap, subst, ◌∙◌, arith}
use Rattle.std.specs.List.{count_by, list_all, list_any}
use Rattle.std.specs.Ordering.{nat_cmp}
use Rattle.std.proofs.lemmas.Bool.Decides.{nat_tests}
use Rattle.std.proofs.lemmas.List.{append-nil}
use Rattle.std.proofs.lemmas.List.Folds.{list_all-append, list_any-append}
use Rattle.std.proofs.lemmas.List.Sums.{sum_by-append}
use Rattle.spec_tree.specs.Limits.{last_moment}
use Rattle.spec_script.specs.declared.syntax.Cmp.{Cmp}
use Rattle.spec_script.specs.declared.syntax.Cmp.TheVariants.{Equal, Differ, Less, AtMost, More, AtLeast}
use Rattle.spec_script.specs.declared.syntax.Expr.{Expr}
use Rattle.spec_script.specs.Operators.{compares}
use Rattle.spec_run.specs.declared.note.Note.{Note}
use Rattle.spec_run.specs.declared.status.Answer.{Answer}
use Rattle.spec_world.specs.declared.world.Fact.{Fact}
use Rattle.run_driver.specs.declared.expression.ReadyExpr.{ReadyExpr}
use Rattle.spec_expect.specs.declared.expectation.Expectation.{Expectation}
use Rattle.spec_expect.specs.declared.expectation.Expectation.TheVariants as expected
use Rattle.spec_expect.specs.Met.{Held, are_until, held_after, is_end, is_lost, is_root, is_so, is_start, may_compare, starts_in, until}
use Rattle.spec_expect.specs.Stories.{Happening, Sight, facts_after, happenings_in}
use Rattle.expect_watch.specs.declared.memo.Memo.{Memo}
use Rattle.expect_watch.specs.declared.memo.Memo.TheVariants.{Always, At, By, Starts, Ends}
use Rattle.expect_watch.specs.declared.watching.Watched.{Watched}
use Rattle.expect_watch.specs.Memos.{after_event, after_note, is_lost_after, is_lost_by, is_met, one_more}
use Rattle.expect_watch.specs.States.{event_ended, left_with}
use Rattle.expect_watch.specs.Tests.{is_ready_so}
use Rattle.expect_watch.proofs.Follows.{FollowsBy, Steps, held_at, next_of, so_far}
use Rattle.expect_watch.proofs.Until.{are_until_both, count_cons, happenings_both, happenings_more, le_not_lt, until_all, until_early, until_late, until_more, until_over}
use Rattle.expect_watch.proofs.Watches.{ended_kept, noted_kept, notes_watched, sight_watched}

-- ---- Notes alone lose nothing

-- the memos that no note loses
abbrev pub IsLasting : Memo → Type 0
IsLasting (Always ready) = Unit {0}
IsLasting (At ms ready is_past was_so) = Unit {0}
IsLasting (By ms runner given met) = Unit {0}
IsLasting (Starts leaves op count starts) = Unit {0}
IsLasting (Ends leaves given ms met) = Unit {0}
IsLasting memo = ⊥

lasts : (note : Note) (facts : List ℤ) (held : List Held) (memo : Memo) → IsLasting memo → is_lost_by note facts held memo ≡ false
lasts note facts held (Always ready) is = refl
lasts note facts held (At ms ready is_past was_so) is = refl
lasts note facts held (By ms runner given met) is = refl
lasts note facts held (Starts leaves op count starts) is = refl
lasts note facts held (Ends leaves given ms met) is = refl
lasts note facts held memo is = absurd is

lasts_on : (at : ℕ) (note : Note) (memo : Memo) → IsLasting memo → IsLasting (after_note at note memo)
lasts_on at note (Always ready) is = tt
lasts_on at note (At ms ready is_past was_so) is = tt
lasts_on at note (By ms runner given met) is = tt
lasts_on at note (Starts leaves op count starts) is = tt
lasts_on at note (Ends leaves given ms met) is = tt
lasts_on at note memo is = absurd is

-- the memo after some happenings of an event
abbrev pub notes_memo : ℕ → List Happening → Memo → Memo
notes_memo at [] memo = memo
notes_memo at (h ∷ hs) memo = notes_memo at hs (after_note at h.note memo)

notes_last : (at : ℕ) (hs : List Happening) (held : List Held) (w : Watched) → w.lost ≡ None → IsLasting w.memo →
    notes_watched at hs held w ≡ left_with w at false (notes_memo at hs w.memo)
notes_last at [] held w none is = ap (λ (o : Option ℕ). (let x : Watched = record { line = w.line; memo = w.memo; lost = o } in x)) none
notes_last at (h ∷ hs) held w none is =
    let now : List Held = held_after h.runner h.note held in
    let next : Watched = left_with w at false (after_note at h.note w.memo) in
    ap (notes_watched at hs now) (noted_kept at h now w none ∙ ap (λ (b : Bool). left_with w at b (after_note at h.note w.memo)) (lasts h.note h.facts now w.memo is))
    ∙ notes_last at hs now next refl (lasts_on at h.note w.memo is)

sight_lasts : (s : Sight) (held : List Held) (w : Watched) → w.lost ≡ None → IsLasting w.memo →
    sight_watched s held w ≡ left_with w s.at (is_lost_after s.at s.facts (notes_memo s.at s.happenings w.memo)) (after_event s.at s.facts (notes_memo s.at s.happenings w.memo))
sight_lasts s held w none is =
    ap (event_ended s.at s.facts) (notes_last s.at s.happenings held w none is)
    ∙ ended_kept s (left_with w s.at false (notes_memo s.at s.happenings w.memo)) refl

-- ---- One event more

-- what is kept after an event, for an expectation that is lost with events alone
pub record LastsBy (names : List Fact) (facts : List ℤ) (e : Expectation) (Keeps : List Sight → Memo → Type 0) : Type 0 where
  pub lasting : (past : List Sight) (memo : Memo) → Keeps past memo → IsLasting memo
  pub lost : (past : List Sight) (s : Sight) (memo : Memo) → Keeps past memo → is_lost names e (so_far facts past) ≡ false →
      is_lost names e (so_far facts (past ++ s ∷ [])) ≡ is_lost_after s.at s.facts (notes_memo s.at s.happenings memo)
  pub goes : (past : List Sight) (s : Sight) (memo : Memo) → Keeps past memo → is_lost names e (so_far facts past) ≡ false →
      is_lost names e (so_far facts (past ++ s ∷ [])) ≡ false → Keeps (past ++ s ∷ []) (after_event s.at s.facts (notes_memo s.at s.happenings memo))

module _ (names : List Fact) (facts : List ℤ) (e : Expectation) (Keeps : List Sight → Memo → Type 0) (by : LastsBy names facts e Keeps) where
  abbrev after_sight : Sight → Memo → Memo
  after_sight s memo = notes_memo s.at s.happenings memo

  whole : (past : List Sight) (s : Sight) (w : Watched) → w.lost ≡ None → Keeps past w.memo →
      next_of past s w ≡ left_with w s.at (is_lost_after s.at s.facts (after_sight s w.memo)) (after_event s.at s.facts (after_sight s w.memo))
  whole past s w none keeps = sight_lasts s (held_at past) w none (by.lasting past w.memo keeps)

  pub steps_last : (past : List Sight) (s : Sight) (w : Watched) → w.lost ≡ None → Keeps past w.memo → is_lost names e (so_far facts past) ≡ false → Steps names facts e Keeps past s (next_of past s w)
  steps_last past s w none keeps kept = by_loss (is_lost names e (so_far facts (past ++ s ∷ []))) refl where
    lost_is : (b : Bool) → is_lost names e (so_far facts (past ++ s ∷ [])) ≡ b → (next_of past s w).lost ≡ cond b (Some s.at) None
    lost_is b is = ap (λ (x : Watched). x.lost) (whole past s w none keeps) ∙ ap (λ (x : Bool). cond x (Some s.at) None) (sym (by.lost past s w.memo keeps kept) ∙ is)

    by_loss : (b : Bool) → is_lost names e (so_far facts (past ++ s ∷ [])) ≡ b → Steps names facts e Keeps past s (next_of past s w)
    by_loss true is = inl (lost_is true is, is)
    by_loss false is = inr (
      lost_is false is,
      is,
      subst (Keeps (past ++ s ∷ [])) (sym (ap (λ (x : Watched). x.memo) (whole past s w none keeps))) (by.goes past s w.memo keeps kept is),
    )

-- ---- Tests

and_off : (a b c : Bool) → (a && b) ≡ false → (a && (b && c)) ≡ false
and_off true true c e = cc
and_off true false c e = refl
and_off false b c e = refl

and_on : (a b c : Bool) → (a && b) ≡ true → (a && (b && (c && true))) ≡ c
and_on true true true e = refl
and_on true true false e = refl
and_on true false c e = cc
and_on false b c e = cc

not_off : (a b : Bool) → (not a && not b) ≡ true → a ≡ false
not_off true b e = cc
not_off false b e = refl

past_off : (a b : Bool) → (not a && not b) ≡ true → b ≡ false
past_off true true e = cc
past_off true false e = refl
past_off false true e = cc
past_off false false e = refl

unmet_alone : (a : Bool) → (not a && not false) ≡ false → a ≡ true
unmet_alone true e = refl
unmet_alone false e = cc

lost_alone : (a : Bool) → (not a && not false) ≡ not a
lost_alone true = refl
lost_alone false = refl

-- ---- `always EXPR`

module _ (names : List Fact) (facts : List ℤ) (e : Expr) where
  abbrev so_after : Sight → Bool
  so_after s = is_so names e s.facts

  pub record AlwaysKept (memo : Memo) : Type 0 where
    pub ready : ReadyExpr
    pub is : memo ≡ Always ready
    pub so : is_ready_so ready ≡ is_so names e

  abbrev always_met : List Sight → Bool
  always_met past = is_so names e facts && list_all so_after past

  always_more : (past more : List Sight) → always_met (past ++ more) ≡ (is_so names e facts && (list_all so_after past && list_all so_after more))
  always_more past more = ap (λ (b : Bool). is_so names e facts && b) (list_all-append so_after past more)

  notes_always : (at : ℕ) (hs : List Happening) (ready : ReadyExpr) → notes_memo at hs (Always ready) ≡ Always ready
  notes_always at [] ready = refl
  notes_always at (h ∷ hs) ready = notes_always at hs ready

  always_is : (at : ℕ) (hs : List Happening) (memo : Memo) (k : AlwaysKept memo) → notes_memo at hs memo ≡ Always k.ready
  always_is at hs memo k = ap (notes_memo at hs) k.is ∙ notes_always at hs k.ready

  always_lasts : LastsBy names facts (expected.Always e) (λ past memo. AlwaysKept memo)
  always_lasts = record {
    lasting = λ past memo k. subst IsLasting (sym k.is) tt;
    lost = λ past s memo k kept.
        lost_alone (always_met (past ++ s ∷ []))
        ∙ ap not (always_more past (s ∷ []) ∙ and_on (is_so names e facts) (list_all so_after past) (so_after s) (unmet_alone (always_met past) kept))
        ∙ sym (ap (is_lost_after s.at s.facts) (always_is s.at s.happenings memo k) ∙ ap (λ (so : List ℤ → Bool). not (so s.facts)) k.so);
    goes = λ past s memo k kept still. record {
      ready = k.ready;
      is = ap (after_event s.at s.facts) (always_is s.at s.happenings memo k);
      so = k.so;
    };
  }

  pub follows_always : FollowsBy names facts (expected.Always e) (λ past memo. AlwaysKept memo)
  follows_always = record {
    ends = λ past memo k kept. unmet_alone (always_met past) kept ∙ sym (ap is_met k.is);
    stays = λ past more gone. always_more past more ∙ and_off (is_so names e facts) (list_all so_after past) (list_all so_after more) (not_off (always_met past) false gone);
    steps = steps_last names facts (expected.Always e) (λ past memo. AlwaysKept memo) always_lasts;
  }

-- ---- `at MS EXPR`

facts_more : (facts : List ℤ) (past : List Sight) (s : Sight) → facts_after facts (past ++ s ∷ []) ≡ s.facts
facts_more facts [] s = refl
facts_more facts (x ∷ past) s = facts_more x.facts past s

-- whether an event is past a moment, after one more
past_more : (ms : ℕ) (past : List Sight) (s : Sight) → not (are_until ms (past ++ s ∷ [])) ≡ (not (are_until ms past) || nat_lt ms s.at)
past_more ms past s =
    ap not (are_until_both ms past (s ∷ []) ∙ ap (λ (b : Bool). are_until ms past && (b && true)) (le_not_lt s.at ms))
    ∙ by_parts (are_until ms past) (nat_lt ms s.at) where
      by_parts : (a b : Bool) → not (a && (not b && true)) ≡ (not a || b)
      by_parts true true = refl
      by_parts true false = refl
      by_parts false b = refl

-- the events up to a moment, after one more
until_next : (ms : ℕ) (past : List Sight) (s : Sight) → until ms (past ++ s ∷ []) ≡ cond (not (are_until ms past) || nat_lt ms s.at) (until ms past) (past ++ s ∷ [])
until_next ms past s = by_past (are_until ms past) (nat_lt ms s.at) refl refl where
  by_past : (a b : Bool) → are_until ms past ≡ a → nat_lt ms s.at ≡ b → until ms (past ++ s ∷ []) ≡ cond (not (are_until ms past) || nat_lt ms s.at) (until ms past) (past ++ s ∷ [])
  by_past false b e f = until_over ms past (s ∷ []) e ∙ sym (ap (λ (x : Bool). cond (not x || nat_lt ms s.at) (until ms past) (past ++ s ∷ [])) e)
  by_past true true e f =
      until_more ms past (s ∷ []) e ∙ ap (λ (xs : List Sight). past ++ xs) (until_late ms s [] f) ∙ append-nil past ∙ sym (until_all ms past e)
      ∙ sym (ap (λ (x : Bool). cond (not (are_until ms past) || x) (until ms past) (past ++ s ∷ [])) f ∙ ap (λ (x : Bool). cond (not x || true) (until ms past) (past ++ s ∷ [])) e)
  by_past true false e f =
      until_more ms past (s ∷ []) e ∙ ap (λ (xs : List Sight). past ++ xs) (until_early ms s [] f)
      ∙ sym (ap (λ (x : Bool). cond (not (are_until ms past) || x) (until ms past) (past ++ s ∷ [])) f ∙ ap (λ (x : Bool). cond (not x || false) (until ms past) (past ++ s ∷ [])) e)

module _ (names : List Fact) (facts : List ℤ) (ms : ℕ) (e : Expr) where
  abbrev at_met : List Sight → Bool
  at_met past = is_so names e (facts_after facts (until ms past))

  pub record AtKept (past : List Sight) (memo : Memo) : Type 0 where
    pub ready : ReadyExpr
    pub is : memo ≡ At ms ready (not (are_until ms past)) (at_met past)
    pub so : is_ready_so ready ≡ is_so names e

  notes_at : (at : ℕ) (hs : List Happening) (ready : ReadyExpr) (p so : Bool) → notes_memo at hs (At ms ready p so) ≡ At ms ready p so
  notes_at at [] ready p so = refl
  notes_at at (h ∷ hs) ready p so = notes_at at hs ready p so

  at_is : (at : ℕ) (hs : List Happening) (past : List Sight) (memo : Memo) (k : AtKept past memo) → notes_memo at hs memo ≡ At ms k.ready (not (are_until ms past)) (at_met past)
  at_is at hs past memo k = ap (notes_memo at hs) k.is ∙ notes_at at hs k.ready (not (are_until ms past)) (at_met past)

  met_more : (past : List Sight) (s : Sight) → at_met (past ++ s ∷ []) ≡ cond (not (are_until ms past) || nat_lt ms s.at) (at_met past) (is_so names e s.facts)
  met_more past s = ap (λ (xs : List Sight). is_so names e (facts_after facts xs)) (until_next ms past s) ∙ by_past (not (are_until ms past) || nat_lt ms s.at) where
    by_past : (b : Bool) → is_so names e (facts_after facts (cond b (until ms past) (past ++ s ∷ []))) ≡ cond b (at_met past) (is_so names e s.facts)
    by_past true = refl
    by_past false = ap (is_so names e) (facts_more facts past s)

  at_loss : (p met so : Bool) → (not (cond p met so) && not (not p)) ≡ (p && not met)
  at_loss true true so = refl
  at_loss true false so = refl
  at_loss false met true = refl
  at_loss false met false = refl

  past_is : (past : List Sight) (s : Sight) → are_until ms (past ++ s ∷ []) ≡ not (not (are_until ms past) || nat_lt ms s.at)
  past_is past s = back (are_until ms (past ++ s ∷ [])) ∙ ap not (past_more ms past s) where
    back : (b : Bool) → b ≡ not (not b)
    back true = refl
    back false = refl

  at_lasts : LastsBy names facts (expected.At ms e) AtKept
  at_lasts = record {
    lasting = λ past memo k. subst IsLasting (sym k.is) tt;
    lost = λ past s memo k kept.
        ap (λ (b : Bool). not b && not (are_until ms (past ++ s ∷ []))) (met_more past s)
        ∙ ap (λ (b : Bool). not (cond (not (are_until ms past) || nat_lt ms s.at) (at_met past) (is_so names e s.facts)) && not b) (past_is past s)
        ∙ at_loss (not (are_until ms past) || nat_lt ms s.at) (at_met past) (is_so names e s.facts)
        ∙ sym (ap (is_lost_after s.at s.facts) (at_is s.at s.happenings past memo k));
    goes = λ past s memo k kept still. record {
      ready = k.ready;
      is =
          ap (after_event s.at s.facts) (at_is s.at s.happenings past memo k)
          ∙ ap (λ (b : Bool). At ms k.ready b (cond (not (are_until ms past) || nat_lt ms s.at) (at_met past) (is_ready_so k.ready s.facts))) (sym (past_more ms past s))
          ∙ ap (λ (so : List ℤ → Bool). At ms k.ready (not (are_until ms (past ++ s ∷ []))) (cond (not (are_until ms past) || nat_lt ms s.at) (at_met past) (so s.facts))) k.so
          ∙ ap (At ms k.ready (not (are_until ms (past ++ s ∷ [])))) (sym (met_more past s));
      so = k.so;
    };
  }

  pub follows_at : FollowsBy names facts (expected.At ms e) AtKept
  follows_at = record {
    ends = λ past memo k kept. sym (ap is_met k.is);
    stays = λ past more gone.
        ap (λ (xs : List Sight). is_so names e (facts_after facts xs)) (until_over ms past more (past_off (at_met past) (are_until ms past) gone))
        ∙ not_off (at_met past) (are_until ms past) gone;
    steps = steps_last names facts (expected.At ms e) AtKept at_lasts;
  }

-- ---- What comes up to a moment

module _ (ms : ℕ) (told : Note → Bool) where
  abbrev pub told_in : List Happening → Bool
  told_in hs = list_any (λ (h : Happening). told h.note) hs

  abbrev pub told_until : List Sight → Bool
  told_until past = told_in (happenings_in (until ms past))

  -- after one event more, where it is not lost yet
  pub told_next : (past : List Sight) (s : Sight) → (not (told_until past) && not (are_until ms past)) ≡ false →
      told_until (past ++ s ∷ []) ≡ (told_until past || (nat_le s.at ms && told_in s.happenings))
  told_next past s kept = ap (λ (xs : List Sight). told_in (happenings_in xs)) (until_next ms past s) ∙ by_past (are_until ms past) (nat_lt ms s.at) refl refl where
    choice : (a b : Bool) → are_until ms past ≡ a → nat_lt ms s.at ≡ b →
        told_in (happenings_in (cond (not (are_until ms past) || nat_lt ms s.at) (until ms past) (past ++ s ∷ []))) ≡ told_in (happenings_in (cond (not a || b) (until ms past) (past ++ s ∷ [])))
    choice a b e f =
        ap (λ (x : Bool). told_in (happenings_in (cond (not x || nat_lt ms s.at) (until ms past) (past ++ s ∷ [])))) e
        ∙ ap (λ (x : Bool). told_in (happenings_in (cond (not a || x) (until ms past) (past ++ s ∷ [])))) f

    in_time : (b : Bool) → nat_lt ms s.at ≡ b → (told_until past || (not b && told_in s.happenings)) ≡ (told_until past || (nat_le s.at ms && told_in s.happenings))
    in_time b f = ap (λ (x : Bool). told_until past || (x && told_in s.happenings)) (sym (le_not_lt s.at ms ∙ ap not f))

    met_before : (a b : Bool) → (not a && not false) ≡ false → a ≡ (a || b)
    met_before true b e = refl
    met_before false b e = cc

    or_none : (a : Bool) → a ≡ (a || false)
    or_none true = refl
    or_none false = refl

    by_past : (a b : Bool) → are_until ms past ≡ a → nat_lt ms s.at ≡ b →
        told_in (happenings_in (cond (not (are_until ms past) || nat_lt ms s.at) (until ms past) (past ++ s ∷ []))) ≡ (told_until past || (nat_le s.at ms && told_in s.happenings))
    by_past false b e f = choice false b e f ∙ met_before (told_until past) (nat_le s.at ms && told_in s.happenings) (ap (λ (x : Bool). not (told_until past) && not x) (sym e) ∙ kept)
    by_past true true e f = choice true true e f ∙ or_none (told_until past) ∙ in_time true f
    by_past true false e f =
        choice true false e f
        ∙ ap told_in (happenings_more past s)
        ∙ list_any-append (λ (h : Happening). told h.note) (happenings_in past) s.happenings
        ∙ ap (λ (xs : List Sight). told_in (happenings_in xs) || told_in s.happenings) (sym (until_all ms past e))
        ∙ in_time false f

  -- whether it is lost then
  pub told_loss : (past : List Sight) (s : Sight) → (not (told_until past) && not (are_until ms past)) ≡ false →
      (not (told_until (past ++ s ∷ [])) && not (are_until ms (past ++ s ∷ []))) ≡ (nat_lt ms s.at && not (told_until past || (nat_le s.at ms && told_in s.happenings)))
  told_loss past s kept =
      ap (λ (b : Bool). not b && not (are_until ms (past ++ s ∷ []))) (told_next past s kept)
      ∙ ap (λ (b : Bool). not (told_until past || (nat_le s.at ms && told_in s.happenings)) && b) (past_more ms past s)
      ∙ by_parts (told_until past) (are_until ms past) (nat_lt ms s.at) (nat_le s.at ms && told_in s.happenings) kept where
        by_parts : (t a b c : Bool) → (not t && not a) ≡ false → (not (t || c) && (not a || b)) ≡ (b && not (t || c))
        by_parts true a true c e = refl
        by_parts true a false c e = refl
        by_parts false true true true e = refl
        by_parts false true true false e = refl
        by_parts false true false true e = refl
        by_parts false true false false e = refl
        by_parts false false b c e = cc

  pub told_over : (past more : List Sight) → (not (told_until past) && not (are_until ms past)) ≡ true → told_until (past ++ more) ≡ false
  told_over past more gone =
      ap (λ (xs : List Sight). told_in (happenings_in xs)) (until_over ms past more (past_off (told_until past) (are_until ms past) gone))
      ∙ not_off (told_until past) (are_until ms past) gone

  -- .. note by note
  pub told_step : (at : ℕ) (met : Bool) (h : Happening) (hs : List Happening) →
      ((met || (nat_le at ms && told h.note)) || (nat_le at ms && told_in hs)) ≡ (met || (nat_le at ms && told_in (h ∷ hs)))
  told_step at met h hs = by_parts met (nat_le at ms) (told h.note) (told_in hs) where
    by_parts : (m a b c : Bool) → ((m || (a && b)) || (a && c)) ≡ (m || (a && (b || c)))
    by_parts true a b c = refl
    by_parts false true true c = refl
    by_parts false true false c = refl
    by_parts false false b c = refl

  pub told_none : (at : ℕ) (met : Bool) → met ≡ (met || (nat_le at ms && told_in []))
  told_none at met = by_parts met (nat_le at ms) where
    by_parts : (m a : Bool) → m ≡ (m || (a && false))
    by_parts true a = refl
    by_parts false true = refl
    by_parts false false = refl

or_nothing : (b : Bool) → (b || false) ≡ b
or_nothing true = refl
or_nothing false = refl

-- ---- `by MS root R STATUS`

module _ (names : List Fact) (facts : List ℤ) (ms runner : ℕ) (given : Answer) where
  abbrev rooted : Note → Bool
  rooted = is_root runner given

  abbrev pub ByKept : List Sight → Memo → Type 0
  ByKept past memo = memo ≡ By ms runner given (told_until ms rooted past)

  notes_by : (at : ℕ) (hs : List Happening) (met : Bool) → notes_memo at hs (By ms runner given met) ≡ By ms runner given (met || (nat_le at ms && told_in ms rooted hs))
  notes_by at [] met = ap (By ms runner given) (told_none ms rooted at met)
  notes_by at (h ∷ hs) met = notes_by at hs (met || (nat_le at ms && rooted h.note)) ∙ ap (By ms runner given) (told_step ms rooted at met h hs)

  by_lasts : LastsBy names facts (expected.By ms runner given) ByKept
  by_lasts = record {
    lasting = λ past memo is. subst IsLasting (sym is) tt;
    lost = λ past s memo is kept.
        told_loss ms rooted past s kept
        ∙ sym (ap (λ (m : Memo). is_lost_after s.at s.facts (notes_memo s.at s.happenings m)) is
        ∙ ap (is_lost_after s.at s.facts) (notes_by s.at s.happenings (told_until ms rooted past)) ∙ or_nothing _);
    goes = λ past s memo is kept still.
        ap (λ (m : Memo). after_event s.at s.facts (notes_memo s.at s.happenings m)) is
        ∙ ap (after_event s.at s.facts) (notes_by s.at s.happenings (told_until ms rooted past))
        ∙ ap (By ms runner given) (sym (told_next ms rooted past s kept));
  }

  pub follows_by : FollowsBy names facts (expected.By ms runner given) ByKept
  follows_by = record {
    ends = λ past memo is kept. sym (ap is_met is);
    stays = λ past more gone. told_over ms rooted past more gone;
    steps = steps_last names facts (expected.By ms runner given) ByKept by_lasts;
  }

-- ---- `ends LEAF STATUS by MS`

module _ (names : List Fact) (facts : List ℤ) (leaves : List Bool) (given : Answer) (ms : ℕ) where
  abbrev ended : Note → Bool
  ended = is_end leaves given

  abbrev pub EndsKept : List Sight → Memo → Type 0
  EndsKept past memo = memo ≡ Ends leaves given ms (told_until ms ended past)

  notes_ends : (at : ℕ) (hs : List Happening) (met : Bool) → notes_memo at hs (Ends leaves given ms met) ≡ Ends leaves given ms (met || (nat_le at ms && told_in ms ended hs))
  notes_ends at [] met = ap (Ends leaves given ms) (told_none ms ended at met)
  notes_ends at (h ∷ hs) met = notes_ends at hs (met || (nat_le at ms && ended h.note)) ∙ ap (Ends leaves given ms) (told_step ms ended at met h hs)

  ends_lasts : LastsBy names facts (expected.Ends leaves given ms) EndsKept
  ends_lasts = record {
    lasting = λ past memo is. subst IsLasting (sym is) tt;
    lost = λ past s memo is kept.
        told_loss ms ended past s kept
        ∙ sym (ap (λ (m : Memo). is_lost_after s.at s.facts (notes_memo s.at s.happenings m)) is
        ∙ ap (is_lost_after s.at s.facts) (notes_ends s.at s.happenings (told_until ms ended past)) ∙ or_nothing _);
    goes = λ past s memo is kept still.
        ap (λ (m : Memo). after_event s.at s.facts (notes_memo s.at s.happenings m)) is
        ∙ ap (after_event s.at s.facts) (notes_ends s.at s.happenings (told_until ms ended past))
        ∙ ap (Ends leaves given ms) (sym (told_next ms ended past s kept));
  }

  pub follows_ends : FollowsBy names facts (expected.Ends leaves given ms) EndsKept
  follows_ends = record {
    ends = λ past memo is kept. sym (ap is_met is);
    stays = λ past more gone. told_over ms ended past more gone;
    steps = steps_last names facts (expected.Ends leaves given ms) EndsKept ends_lasts;
  }

-- ---- `starts LEAF OP N`

abbrev pub most : ℕ
most = 2 ^ 64 - 1

capped_more : (c : ℕ) → one_more (min c most) ≡ min (c + 1) most
capped_more c = omega arith

capped_may : (op : Cmp) (c n : ℕ) → n < most → may_compare op (min c most) n ≡ may_compare op c n
capped_may Equal c n low = grind (arith, nat_tests)
capped_may Differ c n low = refl
capped_may Less c n low = grind (arith, nat_tests)
capped_may AtMost c n low = grind (arith, nat_tests)
capped_may More c n low = refl
capped_may AtLeast c n low = refl

capped_is : (c n : ℕ) → n < most → nat_cmp (min c most) n ≡ nat_cmp c n
capped_is c n low = grind (arith, nat_tests)

may_off : (op : Cmp) (c more n : ℕ) → may_compare op c n ≡ false → compares op (nat_cmp (c + more) n) ≡ false
may_off Equal c more n off = grind (arith, nat_tests)
may_off Differ c more n off = cc
may_off Less c more n off = grind (arith, nat_tests)
may_off AtMost c more n off = grind (arith, nat_tests)
may_off More c more n off = cc
may_off AtLeast c more n off = cc

-- whether it is lost: where the count may not come to compare so
pub may_loss : (op : Cmp) (c n : ℕ) → (not (compares op (nat_cmp c n)) && not (may_compare op c n)) ≡ not (may_compare op c n)
may_loss op c n = by_may (may_compare op c n) refl where
  by_may : (b : Bool) → may_compare op c n ≡ b → (not (compares op (nat_cmp c n)) && not (may_compare op c n)) ≡ not (may_compare op c n)
  by_may true on = ap (λ (b : Bool). not (compares op (nat_cmp c n)) && not b) on ∙ none (not (compares op (nat_cmp c n))) ∙ ap not (sym on) where
    none : (a : Bool) → (a && false) ≡ false
    none true = refl
    none false = refl
  by_may false off =
      let same : c + 0 ≡ c = omega arith in
      let unmet : compares op (nat_cmp c n) ≡ false = ap (λ (k : ℕ). compares op (nat_cmp k n)) (sym same) ∙ may_off op c 0 n off in
      ap (λ (b : Bool). not b && not (may_compare op c n)) unmet

abbrev pub StartsKept : List Bool → Cmp → ℕ → List Sight → Memo → Type 0
StartsKept leaves op n past memo = memo ≡ Starts leaves op n (min (starts_in leaves past) most)

module _ (names : List Fact) (facts : List ℤ) (leaves : List Bool) (op : Cmp) (n : ℕ) (low : n ≤ last_moment) where
  abbrev begun : Happening → Bool
  begun h = is_start leaves h.note

  under : n < most
  under = omega (arith, low)

  notes_starts : (at : ℕ) (hs : List Happening) (c : ℕ) → notes_memo at hs (Starts leaves op n (min c most)) ≡ Starts leaves op n (min (c + count_by begun hs) most)
  notes_starts at [] c =
      let same : c ≡ c + 0 = omega arith in
      ap (λ (k : ℕ). Starts leaves op n (min k most)) same
  notes_starts at (h ∷ hs) c = by_start (λ k. notes_starts at hs k) (begun h) refl where
    by_start : ((k : ℕ) → notes_memo at hs (Starts leaves op n (min k most)) ≡ Starts leaves op n (min (k + count_by begun hs) most)) → (b : Bool) → begun h ≡ b → notes_memo at (h ∷ hs) (Starts leaves op n (min c most)) ≡ Starts leaves op n (min (c + count_by begun (h ∷ hs)) most)
    by_start again true e =
        let sum : c + 1 + count_by begun hs ≡ c + (1 + count_by begun hs) = omega arith in
        ap (λ (b : Bool). notes_memo at hs (Starts leaves op n (cond b (one_more (min c most)) (min c most)))) e
        ∙ ap (λ (k : ℕ). notes_memo at hs (Starts leaves op n k)) (capped_more c)
        ∙ again (c + 1)
        ∙ ap (λ (k : ℕ). Starts leaves op n (min k most)) sum
        ∙ ap (λ (b : Bool). Starts leaves op n (min (c + (cond b 1 0 + count_by begun hs)) most)) (sym e)
        ∙ ap (λ (k : ℕ). Starts leaves op n (min (c + k) most)) (sym (count_cons begun h hs))
    by_start again false e =
        let sum : c + count_by begun hs ≡ c + (0 + count_by begun hs) = omega arith in
        ap (λ (b : Bool). notes_memo at hs (Starts leaves op n (cond b (one_more (min c most)) (min c most)))) e
        ∙ again c
        ∙ ap (λ (k : ℕ). Starts leaves op n (min k most)) sum
        ∙ ap (λ (b : Bool). Starts leaves op n (min (c + (cond b 1 0 + count_by begun hs)) most)) (sym e)
        ∙ ap (λ (k : ℕ). Starts leaves op n (min (c + k) most)) (sym (count_cons begun h hs))

  starts_more : (past more : List Sight) → starts_in leaves (past ++ more) ≡ starts_in leaves past + count_by begun (happenings_in more)
  starts_more past more = ap (count_by begun) (happenings_both past more) ∙ sum_by-append (λ (h : Happening). cond (begun h) 1 0) (happenings_in past) (happenings_in more)

  starts_next : (past : List Sight) (s : Sight) → starts_in leaves (past ++ s ∷ []) ≡ starts_in leaves past + count_by begun s.happenings
  starts_next past s = ap (count_by begun) (happenings_more past s) ∙ sum_by-append (λ (h : Happening). cond (begun h) 1 0) (happenings_in past) s.happenings

  memo_is : (past : List Sight) (s : Sight) (memo : Memo) → StartsKept leaves op n past memo → notes_memo s.at s.happenings memo ≡ Starts leaves op n (min (starts_in leaves (past ++ s ∷ [])) most)
  memo_is past s memo is =
      ap (notes_memo s.at s.happenings) is ∙ notes_starts s.at s.happenings (starts_in leaves past)
      ∙ ap (λ (k : ℕ). Starts leaves op n (min k most)) (sym (starts_next past s))

  starts_lasts : LastsBy names facts (expected.Starts leaves op n) (StartsKept leaves op n)
  starts_lasts = record {
    lasting = λ past memo is. subst IsLasting (sym is) tt;
    lost = λ past s memo is kept.
        may_loss op (starts_in leaves (past ++ s ∷ [])) n
        ∙ ap not (sym (capped_may op (starts_in leaves (past ++ s ∷ [])) n under))
        ∙ sym (ap (is_lost_after s.at s.facts) (memo_is past s memo is));
    goes = λ past s memo is kept still. ap (after_event s.at s.facts) (memo_is past s memo is);
  }

  pub follows_starts : FollowsBy names facts (expected.Starts leaves op n) (StartsKept leaves op n)
  follows_starts = record {
    ends = λ past memo is kept. ap (compares op) (sym (capped_is (starts_in leaves past) n under)) ∙ sym (ap is_met is);
    stays = λ past more gone.
        ap (λ (k : ℕ). compares op (nat_cmp k n)) (starts_more past more)
        ∙ may_off op (starts_in leaves past) (count_by begun (happenings_in more)) n
        (past_off (compares op (nat_cmp (starts_in leaves past) n)) (may_compare op (starts_in leaves past) n) gone);
    steps = steps_last names facts (expected.Starts leaves op n) (StartsKept leaves op n) starts_lasts;
  }
