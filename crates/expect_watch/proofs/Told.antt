-- What was watched over the blocks of a run tells what is told of that run.
use Rattle.std.proofs.Common.{◌≡◌, ℕ, ◌+◌, List, [], ◌∷◌, map, length, Bool, true, false, not, cond, Option, Some, None, refl, sym, ap, ◌∙◌, arith}
use Rattle.std.specs.List.{count_by, flat_map}
use Rattle.std.proofs.lemmas.List.{length-map}
use Rattle.std.proofs.lemmas.List.Elements.{All-head, All-tail}
use Rattle.std.proofs.lemmas.List.Folds.{flat_map-map}
use Rattle.spec_run.specs.declared.block.Block.{Block}
use Rattle.spec_run.specs.Served.{Setup}
use Rattle.spec_expect.specs.declared.expectation.Expected.{Expected}
use Rattle.spec_expect.specs.declared.verdict.Verdict.{Verdict}
use Rattle.spec_expect.specs.declared.verdict.Verdict.TheVariants.{Pass, Fail}
use Rattle.spec_expect.specs.Met.{Held, held_from}
use Rattle.spec_expect.specs.Stories.{Happening, Sight, opening_facts, sights_of, story_of}
use Rattle.spec_expect.specs.Verdicts.{failed, is_met, line_of, lines_of, passed, verdict_line}
use Rattle.spec_expect.specs.Verdicts as told
use Rattle.expect_watch.specs.declared.watching.Watched.{Watched}
use Rattle.expect_watch.specs.Begun.{AreBegun, BegunOn}
use Rattle.expect_watch.specs.Over.{AreOver, IsOver}
use Rattle.expect_watch.specs.States.{State, all_taken, is_failed, unless_lost, verdict_of}
use Rattle.expect_watch.proofs.Sights.{blocks_last, blocks_watched}
use Rattle.expect_watch.proofs.Until.{count_cons}
use Rattle.expect_watch.proofs.Verdicts.{begun_tells}
use Rattle.expect_watch.proofs.Watches.{last_of, notes_watched, sight_watched, sights_watched}

-- ---- The line of an expectation stays

line_kept : (o : Option ℕ) (w x : Watched) → x.line ≡ w.line → (unless_lost o w x).line ≡ w.line
line_kept (Some at) w x same = refl
line_kept None w x same = same

notes_line : (at : ℕ) (hs : List Happening) (held : List Held) (w : Watched) → (notes_watched at hs held w).line ≡ w.line
notes_line at [] held w = refl
notes_line at (h ∷ hs) held w = notes_line at hs _ _ ∙ line_kept w.lost w _ refl

sights_line : (sights : List Sight) (held : List Held) (w : Watched) → (sights_watched sights held w).line ≡ w.line
sights_line [] held w = refl
sights_line (s ∷ sights) held w =
    sights_line sights (held_from held s.happenings) (sight_watched s held w)
    ∙ line_kept (notes_watched s.at s.happenings held w).lost (notes_watched s.at s.happenings held w) _ refl
    ∙ notes_line s.at s.happenings held w

-- ---- Counts

count_map : {X Y : Type 0} (p : Y → Bool) (f : X → Y) (xs : List X) → count_by p (map f xs) ≡ count_by (λ x. p (f x)) xs
count_map p f [] = refl
count_map p f (x ∷ xs) = count_cons p (f x) (map f xs) ∙ ap (λ (n : ℕ). cond (p (f x)) 1 0 + n) (count_map p f xs) ∙ sym (count_cons (λ y. p (f y)) x xs)

count_same : {X : Type 0} (p q : X → Bool) → ((x : X) → p x ≡ q x) → (xs : List X) → count_by p xs ≡ count_by q xs
count_same p q same [] = refl
count_same p q same (x ∷ xs) = count_cons p x xs ∙ (λ i. cond (same x i) 1 0 + count_same p q same xs i) ∙ sym (count_cons q x xs)

unmet : (b : Bool) (at : ℕ) → is_failed (cond b Pass (Fail at)) ≡ not b
unmet true at = refl
unmet false at = refl

-- those that pass and those that do not are all
count_all : {X : Type 0} (p : X → Bool) (xs : List X) → count_by p xs + count_by (λ x. not (p x)) xs ≡ length xs
count_all p [] = refl
count_all p (x ∷ xs) = (λ i. count_cons p x xs i + count_cons (λ y. not (p y)) x xs i) ∙ by_test (count_all p xs) (p x) where
  by_test : count_by p xs + count_by (λ y. not (p y)) xs ≡ length xs → (b : Bool) → (cond b 1 0 + count_by p xs) + (cond (not b) 1 0 + count_by (λ y. not (p y)) xs) ≡ length (x ∷ xs)
  by_test rest true = omega (arith, rest)
  by_test rest false = omega (arith, rest)

-- ---- Each expectation

-- the line of an expectation and what becomes of it, in a run whose last event has this moment
abbrev pub seen_of : ℕ → Watched → ℕ × Verdict
seen_of last w = (w.line, verdict_of w last)

abbrev pub told_of : Setup → List Block → Expected → ℕ × Verdict
told_of of blocks e = (e.line, told.verdict_of of (story_of of blocks) e.expectation)

abbrev OverOne : Setup → Expected → Type 0
OverOne of e = IsOver of.world.facts e.expectation

each_told : (of : Setup) (blocks : List Block) (es : List Expected) (ws : List Watched) → AreBegun of.world.facts (opening_facts of.world) es ws → AreOver of.world.facts es →
    map (seen_of (last_of 0 (sights_of of blocks (opening_facts of.world)))) (map (sights_watched (sights_of of blocks (opening_facts of.world)) []) ws) ≡ map (told_of of blocks) es
each_told of blocks [] [] begun over = refl
each_told of blocks [] (w ∷ ws) begun over = absurd begun
each_told of blocks (e ∷ es) [] begun over = absurd begun
each_told of blocks (e ∷ es) (w ∷ ws) begun over =
    let sights : List Sight = sights_of of blocks (opening_facts of.world) in
    let line : (sights_watched sights [] w).line ≡ e.line = sights_line sights [] w ∙ begun.0.line in
    let verdict : verdict_of (sights_watched sights [] w) (last_of 0 sights) ≡ told.verdict_of of (story_of of blocks) e.expectation =
    begun_tells of.world.facts (opening_facts of.world) e w begun.0 (All-head (OverOne of) e es over) sights in
    let rest = each_told of blocks es ws begun.1 (All-tail (OverOne of) e es over) in
    (λ i. (line i, verdict i) ∷ rest i)

module _ (of : Setup) (expected : List Expected) (s : State) (begun : BegunOn of expected s) (blocks : List Block) where
  abbrev after : State
  after = all_taken blocks s

  -- the line of each expectation in order, and what becomes of it
  pub all_told : map (seen_of after.last) after.watched ≡ map (told_of of blocks) expected
  all_told =
      let opening : List Sight = sights_of of blocks (opening_facts of.world) in
      let sights : sights_of of blocks s.facts ≡ opening = ap (sights_of of blocks) begun.facts in
      let watched : after.watched ≡ map (sights_watched opening []) s.watched =
      blocks_watched of blocks s begun.effects ∙ (λ i. map (sights_watched (sights i) (begun.held i)) s.watched) in
      let last : after.last ≡ last_of 0 opening = blocks_last of blocks s begun.effects ∙ (λ i. last_of (begun.last i) (sights i)) in
      (λ i. map (seen_of (last i)) (watched i)) ∙ each_told of blocks expected s.watched begun.watched begun.over

  -- the lines that tell so
  pub lines_are : flat_map (λ (w : Watched). verdict_line w.line (verdict_of w after.last)) after.watched ≡ lines_of of blocks expected
  lines_are =
      let line : ℕ × Verdict → List ℕ = λ p. verdict_line p.0 p.1 in
      sym (flat_map-map line (seen_of after.last) after.watched) ∙ ap (flat_map line) all_told ∙ flat_map-map line (told_of of blocks) expected

  -- how many are not met
  pub failed_are : count_by (λ (w : Watched). is_failed (verdict_of w after.last)) after.watched ≡ failed of blocks expected
  failed_are =
      let fails : ℕ × Verdict → Bool = λ p. is_failed p.1 in
      sym (count_map fails (seen_of after.last) after.watched) ∙ ap (count_by fails) all_told ∙ count_map fails (told_of of blocks) expected
      ∙ count_same (λ (e : Expected). fails (told_of of blocks e)) (λ (e : Expected). not (is_met of blocks e)) (λ e. unmet (is_met of blocks e) _) expected

  -- as many are watched as are expected, and those that are met are the rest
  pub all_are : passed of blocks expected + failed of blocks expected ≡ length after.watched
  all_are =
      count_all (is_met of blocks) expected ∙ sym (length-map expected (told_of of blocks)) ∙ ap length (sym all_told) ∙ length-map after.watched (seen_of after.last)
