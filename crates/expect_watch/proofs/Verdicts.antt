-- What is kept for any expectation tells at the end of a run what becomes of it.
use Rattle.std.proofs.Common.{◌≡◌, ℤ, List, [], Bool, true, false, not, ◌&&◌, cond, Some, None, refl, sym, ap, ◌∙◌}
use Rattle.spec_world.specs.declared.world.Fact.{Fact}
use Rattle.spec_expect.specs.declared.expectation.Expectation.{Expectation}
use Rattle.spec_expect.specs.declared.expectation.Expectation.TheVariants as expected
use Rattle.spec_expect.specs.declared.expectation.Expected.{Expected}
use Rattle.spec_expect.specs.Met.{is_lost, is_so}
use Rattle.spec_expect.specs.Stories.{Sight, happenings_in}
use Rattle.expect_watch.specs.declared.memo.Memo.{Memo}
use Rattle.expect_watch.specs.declared.memo.Memo.TheVariants.{Always, At, StartsOnly}
use Rattle.expect_watch.specs.declared.watching.Watched.{Watched}
use Rattle.expect_watch.specs.Begun.{IsBegun}
use Rattle.expect_watch.specs.Memos.{IsMemoOf, is_lost_now}
use Rattle.expect_watch.specs.Over.{IsOver}
use Rattle.expect_watch.specs.States.{verdict_of}
use Rattle.expect_watch.proofs.ByEvents.{AlwaysKept, AtKept, ByKept, EndsKept, StartsKept, follows_always, follows_at, follows_by, follows_ends, follows_starts, may_loss}
use Rattle.expect_watch.proofs.Follows.{FollowsBy, follows, follows_lost, so_far, verdict_after}
use Rattle.expect_watch.proofs.Forms.{ApartKept, OnlyKept, OrderKept, RootKept, follows_apart, follows_only, follows_order, follows_root}
use Rattle.expect_watch.proofs.Watches.{last_of, sights_watched}

-- the meaning of what is kept, by the form of the expectation
abbrev pub KeepsOf : List Fact → List ℤ → Expectation → List Sight → Memo → Type 0
KeepsOf names facts (expected.Always e) past memo = AlwaysKept names facts e memo
KeepsOf names facts (expected.At ms e) past memo = AtKept names facts ms e past memo
KeepsOf names facts (expected.By ms runner given) past memo = ByKept names facts ms runner given past memo
KeepsOf names facts (expected.NeverAnswers runner given) past memo = RootKept runner given (happenings_in past) memo
KeepsOf names facts (expected.StartsOnly leaves e) past memo = OnlyKept names leaves e memo
KeepsOf names facts (expected.Starts leaves op n) past memo = StartsKept leaves op n past memo
KeepsOf names facts (expected.Ends leaves given ms) past memo = EndsKept names facts leaves given ms past memo
KeepsOf names facts (expected.NeverWith first second) past memo = ApartKept first second (happenings_in past) memo
KeepsOf names facts (expected.Order first second) past memo = OrderKept first second (happenings_in past) memo

pub follows_any : (names : List Fact) (facts : List ℤ) (e : Expectation) → IsOver names e → FollowsBy names facts e (KeepsOf names facts e)
follows_any names facts (expected.Always e) over = follows_always names facts e
follows_any names facts (expected.At ms e) over = follows_at names facts ms e
follows_any names facts (expected.By ms runner given) over = follows_by names facts ms runner given
follows_any names facts (expected.NeverAnswers runner given) over = follows_root runner given names facts
follows_any names facts (expected.StartsOnly leaves e) over = follows_only names leaves e facts
follows_any names facts (expected.Starts leaves op n) over = follows_starts names facts leaves op n over
follows_any names facts (expected.Ends leaves given ms) over = follows_ends names facts leaves given ms
follows_any names facts (expected.NeverWith first second) over = follows_apart first second names facts
follows_any names facts (expected.Order first second) over = follows_order first second names facts

alone : (b : Bool) → not b ≡ (not (b && true) && not false)
alone true = refl
alone false = refl

never : (b : Bool) → false ≡ (not b && false)
never true = refl
never false = refl

-- before the first event
abbrev Begins : List Fact → List ℤ → Expectation → Memo → Type 0
Begins names facts e memo = (is_lost_now facts memo ≡ is_lost names e (so_far facts [])) × KeepsOf names facts e [] memo

begins : (names : List Fact) (facts : List ℤ) (e : Expectation) (memo : Memo) → IsMemoOf names facts e memo → Begins names facts e memo
begins names facts (expected.Always e) (Always ready) is =
    (ap (λ (so : List ℤ → Bool). not (so facts)) is ∙ alone (is_so names e facts), record { ready = ready; is = refl; so = is })
begins names facts (expected.Always e) memo is = absurd is
begins names facts (expected.At ms e) (At ms2 ready is_past was_so) is =
    (never (is_so names e facts), record { ready = ready; is = cc; so = is.1 })
begins names facts (expected.At ms e) memo is = absurd is
begins names facts (expected.By ms runner given) memo is = (ap (is_lost_now facts) is, is)
begins names facts (expected.NeverAnswers runner given) memo is = (ap (is_lost_now facts) is, is)
begins names facts (expected.StartsOnly leaves e) (StartsOnly leaves2 ready) is =
    (refl, record { ready = ready; is = ap (λ (l : List Bool). StartsOnly l ready) is.0; so = is.1 })
begins names facts (expected.StartsOnly leaves e) memo is = absurd is
begins names facts (expected.Starts leaves op n) memo is = (ap (is_lost_now facts) is ∙ sym (may_loss op 0 n), is)
begins names facts (expected.Ends leaves given ms) memo is = (ap (is_lost_now facts) is, is)
begins names facts (expected.NeverWith first second) memo is = (ap (is_lost_now facts) is, is)
begins names facts (expected.Order first second) memo is = (ap (is_lost_now facts) is, is)

-- an expectation that was watched over all events
pub begun_tells : (names : List Fact) (facts : List ℤ) (e : Expected) (w : Watched) → IsBegun names facts e w → IsOver names e.expectation → (sights : List Sight) →
    verdict_of (sights_watched sights [] w) (last_of 0 sights) ≡ verdict_after names facts e.expectation [] sights 0
begun_tells names facts e w begun over sights = by_loss (is_lost names e.expectation (so_far facts [])) refl where
  first : Begins names facts e.expectation w.memo
  first = begins names facts e.expectation w.memo begun.memo

  lost_is : (b : Bool) → is_lost names e.expectation (so_far facts []) ≡ b → w.lost ≡ cond b (Some 0) None
  lost_is b is = begun.lost ∙ ap (λ (x : Bool). cond x (Some 0) None) (first.0 ∙ is)

  by_loss : (b : Bool) → is_lost names e.expectation (so_far facts []) ≡ b → verdict_of (sights_watched sights [] w) (last_of 0 sights) ≡ verdict_after names facts e.expectation [] sights 0
  by_loss true is = follows_lost names facts e.expectation (KeepsOf names facts e.expectation) (follows_any names facts e.expectation over) [] sights [] 0 w (lost_is true is) is
  by_loss false is = follows names facts e.expectation (KeepsOf names facts e.expectation) (follows_any names facts e.expectation over) sights [] 0 w (lost_is false is) first.1 is
