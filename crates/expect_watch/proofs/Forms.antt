-- The four forms of expectation that are lost by a note.
use Rattle.std.proofs.Common.{◌≡◌, ℕ, ℤ, List, [], ◌∷◌, ◌++◌, Bool, true, false, not, ◌&&◌, ◌||◌, refl, sym, ap, ◌∙◌}
use Rattle.std.specs.List.{list_all, list_any}
use Rattle.std.proofs.lemmas.List.Folds.{list_any-append}
use Rattle.std.proofs.Math.Bool.{and-true, or-false}
use Rattle.spec_script.specs.declared.syntax.Expr.{Expr}
use Rattle.spec_run.specs.declared.status.Answer.{Answer}
use Rattle.spec_run.specs.declared.status.Answer.TheVariants as answer
use Rattle.spec_world.specs.declared.world.Fact.{Fact}
use Rattle.run_driver.specs.declared.expression.ReadyExpr.{ReadyExpr}
use Rattle.spec_expect.specs.declared.expectation.Expectation.TheVariants as expected
use Rattle.spec_expect.specs.Met.{are_together, each_after, held_from, is_end, is_root, is_so, is_start}
use Rattle.spec_expect.specs.Stories.{Happening, happenings_in}
use Rattle.expect_watch.specs.declared.memo.Memo.{Memo}
use Rattle.expect_watch.specs.declared.memo.Memo.TheVariants.{NeverAnswers, StartsOnly, NeverWith, Order}
use Rattle.expect_watch.specs.Memos.{after_event, after_note, is_lost_after, is_lost_by, is_met}
use Rattle.expect_watch.specs.Tests.{is_ready_so}
use Rattle.expect_watch.proofs.ByNotes.{Test, TestsBy, each_alone, follows_tests}
use Rattle.expect_watch.proofs.Follows.{FollowsBy}

not_twice : (b : Bool) → b ≡ not (not b)
not_twice true = refl
not_twice false = refl

-- where it is not met, it is lost
lost_unmet : (b : Bool) → (not b && not false) ≡ not b
lost_unmet b = and-true (not b)

starts_unless : (a b : Bool) → (a && not b) ≡ not (not a || b)
starts_unless true b = refl
starts_unless false b = refl

-- ---- `root R never STATUS`

module _ (runner : ℕ) (given : Answer) where
  abbrev no_root : Happening → Bool
  no_root h = not (is_root runner given h.note)

  abbrev pub RootKept : List Happening → Memo → Type 0
  RootKept hs memo = memo ≡ NeverAnswers runner given

  root_tests : TestsBy (λ past h. no_root h) RootKept
  root_tests = record {
    tells = λ hs h memo is. ap (is_lost_by h.note h.facts (held_from [] (hs ++ h ∷ []))) is ∙ not_twice (is_root runner given h.note);
    notes = λ hs h at memo is. ap (after_note at h.note) is;
    rests = λ hs at facts memo is. ap (is_lost_after at facts) is;
    same = λ hs at facts memo is. ap (after_event at facts) is ∙ sym is;
    met = λ hs memo is. ap is_met is;
  }

  pub follows_root : (names : List Fact) (facts : List ℤ) → FollowsBy names facts (expected.NeverAnswers runner given) (λ past memo. RootKept (happenings_in past) memo)
  follows_root names facts =
      follows_tests names facts (expected.NeverAnswers runner given) (λ past h. no_root h) RootKept root_tests
      (λ sights. sym (each_alone no_root [] (happenings_in sights)))
      (λ sights. lost_unmet (list_all no_root (happenings_in sights)))

-- ---- `start LEAF only EXPR`

module _ (names : List Fact) (leaves : List Bool) (e : Expr) where
  abbrev starts_so : Happening → Bool
  starts_so h = not (is_start leaves h.note) || is_so names e h.facts

  pub record OnlyKept (memo : Memo) : Type 0 where
    pub ready : ReadyExpr
    pub is : memo ≡ StartsOnly leaves ready
    pub so : is_ready_so ready ≡ is_so names e

  only_tests : TestsBy (λ past h. starts_so h) (λ hs memo. OnlyKept memo)
  only_tests = record {
    tells = λ hs h memo k.
        ap (is_lost_by h.note h.facts (held_from [] (hs ++ h ∷ []))) k.is
        ∙ ap (λ (so : List ℤ → Bool). is_start leaves h.note && not (so h.facts)) k.so
        ∙ starts_unless (is_start leaves h.note) (is_so names e h.facts);
    notes = λ hs h at memo k. record { ready = k.ready; is = ap (after_note at h.note) k.is; so = k.so };
    rests = λ hs at facts memo k. ap (is_lost_after at facts) k.is;
    same = λ hs at facts memo k. ap (after_event at facts) k.is ∙ sym k.is;
    met = λ hs memo k. ap is_met k.is;
  }

  pub follows_only : (facts : List ℤ) → FollowsBy names facts (expected.StartsOnly leaves e) (λ past memo. OnlyKept memo)
  follows_only facts =
      follows_tests names facts (expected.StartsOnly leaves e) (λ past h. starts_so h) (λ hs memo. OnlyKept memo) only_tests
      (λ sights. sym (each_alone starts_so [] (happenings_in sights)))
      (λ sights. lost_unmet (list_all starts_so (happenings_in sights)))

-- ---- `never LEAF with LEAF`

module _ (first second : List Bool) where
  abbrev apart : Test
  apart = λ past h. not (are_together first second (held_from [] (past ++ h ∷ [])))

  abbrev pub ApartKept : List Happening → Memo → Type 0
  ApartKept hs memo = memo ≡ NeverWith first second

  apart_tests : TestsBy apart ApartKept
  apart_tests = record {
    tells = λ hs h memo is.
        ap (is_lost_by h.note h.facts (held_from [] (hs ++ h ∷ []))) is ∙ not_twice (are_together first second (held_from [] (hs ++ h ∷ [])));
    notes = λ hs h at memo is. ap (after_note at h.note) is;
    rests = λ hs at facts memo is. ap (is_lost_after at facts) is;
    same = λ hs at facts memo is. ap (after_event at facts) is ∙ sym is;
    met = λ hs memo is. ap is_met is;
  }

  pub follows_apart : (names : List Fact) (facts : List ℤ) → FollowsBy names facts (expected.NeverWith first second) (λ past memo. ApartKept (happenings_in past) memo)
  follows_apart names facts =
      follows_tests names facts (expected.NeverWith first second) apart ApartKept apart_tests
      (λ sights. refl) (λ sights. lost_unmet (each_after apart [] (happenings_in sights)))

-- ---- `order LEAF before LEAF`

module _ (first second : List Bool) where
  abbrev ended_in : List Happening → Bool
  ended_in hs = list_any (λ (p : Happening). is_end first answer.Success p.note) hs

  abbrev in_order : Test
  in_order = λ past h. not (is_start second h.note) || list_any (λ (p : Happening). is_end first answer.Success p.note) past

  abbrev pub OrderKept : List Happening → Memo → Type 0
  OrderKept hs memo = memo ≡ Order first second (ended_in hs)

  ended_more : (hs : List Happening) (h : Happening) → (ended_in hs || is_end first answer.Success h.note) ≡ ended_in (hs ++ h ∷ [])
  ended_more hs h =
      ap (λ (b : Bool). ended_in hs || b) (sym (or-false (is_end first answer.Success h.note)))
      ∙ sym (list_any-append (λ (p : Happening). is_end first answer.Success p.note) hs (h ∷ []))

  order_tests : TestsBy in_order OrderKept
  order_tests = record {
    tells = λ hs h memo is. ap (is_lost_by h.note h.facts (held_from [] (hs ++ h ∷ []))) is ∙ starts_unless (is_start second h.note) (ended_in hs);
    notes = λ hs h at memo is. ap (after_note at h.note) is ∙ ap (Order first second) (ended_more hs h);
    rests = λ hs at facts memo is. ap (is_lost_after at facts) is;
    same = λ hs at facts memo is. ap (after_event at facts) is ∙ sym is;
    met = λ hs memo is. ap is_met is;
  }

  pub follows_order : (names : List Fact) (facts : List ℤ) → FollowsBy names facts (expected.Order first second) (λ past memo. OrderKept (happenings_in past) memo)
  follows_order names facts =
      follows_tests names facts (expected.Order first second) in_order OrderKept order_tests
      (λ sights. refl) (λ sights. lost_unmet (each_after in_order [] (happenings_in sights)))
