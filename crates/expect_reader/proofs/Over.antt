-- What lines expect is over the facts of the world, and a count is in its range.
use Rattle.std.proofs.Common.{◌≡◌, ◌≤◌, ℕ, ℤ, ◌+◌, Bool, true, false, List, [], ◌∷◌, ◌++◌, length, nat_le, Option, Some, None, Result, Ok, Err, cond, refl, sym, subst}
use Rattle.std.specs.Prelude.{MatchBool, bytes_eq, codes, nat_abs}
use Rattle.std.proofs.lemmas.List.Elements.{All-nil, All-push}
use Rattle.base_texts.specs.Results.{◌>>=◌}
use Rattle.spec_script.specs.declared.syntax.Expr.{Expr}
use Rattle.spec_tree.specs.declared.term.Tree.{Tree}
use Rattle.spec_tree.specs.Limits.{last_moment}
use Rattle.spec_world.specs.declared.world.Fact.{Fact}
use Rattle.spec_world.specs.declared.world.World.{World}
use Rattle.spec_world.specs.Worlds.{IsExprOver, names_of_facts}
use Rattle.spec_world_file.specs.WorldFile.{ReadsNumeric, content, is_ignored, is_ms, knows_all, lines_in, without_return}
use Rattle.spec_expect.specs.declared.expect_fault.ExpectFault.{ExpectFault}
use Rattle.spec_expect.specs.declared.expect_fault.ExpectFaultKind.{ExpectFaultKind}
use Rattle.spec_expect.specs.declared.expect_fault.ExpectFaultKind.TheVariants.{Header, NoName, Range, TooMany}
use Rattle.spec_expect.specs.declared.expectation.Expectation.{Expectation}
use Rattle.spec_expect.specs.declared.expectation.Expected.{Expected}
use Rattle.spec_expect.specs.ExpectFile.{AfterContent, AfterForm, AfterLines, AlwaysLine, AtLine, ByLine, EndsLine, FormSays, GoesOn, Line, LinesRead, NeverAnswersLine, NeverWithLine, OrderLine, ReadsExpected, Says, SaysOf, StartsLine, StartsOnlyLine, Subject, by_expr, leaves_in, line_in, moment_of, over_facts, runner_in, subject_of, with_expected}
use Rattle.expect_watch.specs.Over.{AreOver, IsOver}
use Rattle.world_reader.proofs.AboutUnique.Sound.{ms_most, valid_expr}

-- ---- One line

abbrev Over : List Fact → Result Expectation ExpectFaultKind → Type 0
Over facts (Ok e) = IsOver facts e
Over facts (Err kind) = Unit {0}

over_then : {A : Type 0} (facts : List Fact) (first : Result A ExpectFaultKind) (rest : A → Result Expectation ExpectFaultKind) → ((a : A) → first ≡ Ok a → Over facts (rest a)) → Over facts (first >>= rest)
over_then facts (Ok a) rest over = over a refl
over_then facts (Err kind) rest over = tt

known_expr : (text : List ℕ) (facts : List Fact) (e known : Expr) → ReadsNumeric text (Some e) → over_facts facts e ≡ Ok known → IsExprOver [] (names_of_facts facts) known
known_expr text facts e known reads is = by_test (knows_all [] facts e) refl is where
  by_test : (b : Bool) → knows_all [] facts e ≡ b → (let r : Result Expr ExpectFaultKind = cond b (Ok e) (Err NoName) in r ≡ Ok known) → IsExprOver [] (names_of_facts facts) known
  by_test true knows same = let e_is : e ≡ known = cc in subst (IsExprOver [] (names_of_facts facts)) e_is (valid_expr text [] facts e reads knows)
  by_test false knows same = cc

small_count : (z : ℤ) (n : ℕ) → moment_of z ≡ Ok n → n ≤ last_moment
small_count z n is = by_test (is_ms z) refl is where
  by_test : (b : Bool) → is_ms z ≡ b → (let r : Result ℕ ExpectFaultKind = cond b (Ok (nat_abs z)) (Err Range) in r ≡ Ok n) → n ≤ last_moment
  by_test true within same = let n_is : nat_abs z ≡ n = cc in subst (λ (k : ℕ). k ≤ last_moment) n_is (ms_most z within)
  by_test false within same = cc

over_said : (facts : List Fact) (text : List ℕ) (rule : Expr → Result Expectation ExpectFaultKind) (said : Result Expectation ExpectFaultKind) → SaysOf text rule said → ((e : Expr) → ReadsNumeric text (Some e) → Over facts (rule e)) → Over facts said
over_said facts text rule said h over = subst (Over facts) (sym h.is) (by_expr_read h.expr h.reads) where
  by_expr_read : (o : Option Expr) → ReadsNumeric text o → Over facts (by_expr o rule)
  by_expr_read None reads = tt
  by_expr_read (Some e) reads = over e reads

over_line : (s : Subject) (line : Line) (said : Result Expectation ExpectFaultKind) → Says s line said → Over s.facts said
over_line s (AlwaysLine expr) said h = over_said s.facts expr _ said h
    (λ e reads. over_then s.facts (over_facts s.facts e) _ (λ known is. known_expr expr s.facts e known reads is))
over_line s (AtLine ms expr) said h = over_said s.facts expr _ said h
    (λ e reads. over_then s.facts (moment_of ms) _ (λ at moment. over_then s.facts (over_facts s.facts e) _ (λ known is. known_expr expr s.facts e known reads is)))
over_line s (ByLine ms runner answer) said h =
    subst (Over s.facts) (sym h) (over_then s.facts (moment_of ms) _ (λ at moment. over_then s.facts (runner_in s.runners runner) _ (λ r is. tt)))
over_line s (NeverAnswersLine runner answer) said h = subst (Over s.facts) (sym h) (over_then s.facts (runner_in s.runners runner) _ (λ r is. tt))
over_line s (StartsOnlyLine leaf expr) said h = over_said s.facts expr _ said h
    (λ e reads. over_then s.facts (leaves_in s.places leaf) _ (λ leaves found. over_then s.facts (over_facts s.facts e) _ (λ known is. known_expr expr s.facts e known reads is)))
over_line s (StartsLine leaf op count) said h =
    subst (Over s.facts) (sym h) (over_then s.facts (leaves_in s.places leaf) _ (λ leaves found. over_then s.facts (moment_of count) _ (λ n is. small_count count n is)))
over_line s (EndsLine leaf answer ms) said h =
    subst (Over s.facts) (sym h) (over_then s.facts (leaves_in s.places leaf) _ (λ leaves found. over_then s.facts (moment_of ms) _ (λ at is. tt)))
over_line s (NeverWithLine first second) said h =
    subst (Over s.facts) (sym h) (over_then s.facts (leaves_in s.places first) _ (λ a found. over_then s.facts (leaves_in s.places second) _ (λ b is. tt)))
over_line s (OrderLine first second) said h =
    subst (Over s.facts) (sym h) (over_then s.facts (leaves_in s.places first) _ (λ a found. over_then s.facts (leaves_in s.places second) _ (λ b is. tt)))

over_form : (s : Subject) (o : Option Line) (said : Result Expectation ExpectFaultKind) → FormSays s o said → Over s.facts said
over_form s None said h = subst (Over s.facts) (sym h) tt
over_form s (Some line) said h = over_line s line said h

-- ---- All lines

abbrev pub AllOver : {F : Type 0} → List Fact → Result (List Expected) F → Type 0
AllOver facts (Ok expected) = AreOver facts expected
AllOver facts (Err fault) = Unit {0}

added_over : (facts : List Fact) (before : List Expected) (line : ℕ) (said : Result Expectation ExpectFaultKind) → AreOver facts before → Over facts said → AllOver facts (said >>= with_expected before line)
added_over facts before line (Err kind) all one = tt
added_over facts before line (Ok e) all one = by_room (nat_le 1000 (length before)) where
  by_room : (b : Bool) → (let r : Result (List Expected) ExpectFaultKind = cond b (Err TooMany) (Ok (before ++ record { line = line; expectation = e } ∷ [])) in AllOver facts r)
  by_room true = tt
  by_room false = All-push (λ (x : Expected). IsOver facts x.expectation) before (record { line = line; expectation = e }) all one

content_over : (s : Subject) (before : List Expected) (line : ℕ) (text : List ℕ) (after : Result (List Expected) ExpectFaultKind) → AreOver s.facts before → AfterContent s before line text after → AllOver s.facts after
content_over s before line text after all = by_ignored (is_ignored text) where
  by_ignored : (b : Bool) → MatchBool b (after ≡ Ok before) (AfterForm s before line text after) → AllOver s.facts after
  by_ignored true is = subst (AllOver s.facts) (sym is) all
  by_ignored false form = subst (AllOver s.facts) (sym form.is) (added_over s.facts before line form.said all (over_form s (line_in text) form.said form.says))

lines_over : (s : Subject) (line : ℕ) (texts : List (List ℕ)) (before : List Expected) (read : Result (List Expected) ExpectFault) → AreOver s.facts before → AfterLines s line texts before read → AllOver s.facts read
lines_over s line [] before read all is = subst (AllOver s.facts) (sym is) all
lines_over s line (text ∷ texts) before read all h =
    by_after (λ left over goes. lines_over s (line + 1) texts left read over goes) h.0 (content_over s before line (content text) h.0 all h.1) h.2 where
      by_after : ((left : List Expected) → AreOver s.facts left → AfterLines s (line + 1) texts left read → AllOver s.facts read) → (after : Result (List Expected) ExpectFaultKind) → AllOver s.facts after
          → GoesOn line (λ left. AfterLines s (line + 1) texts left read) read after → AllOver s.facts read
      by_after again (Ok left) over goes = again left over goes
      by_after again (Err kind) over goes = subst (AllOver s.facts) (sym goes) tt

file_over : (s : Subject) (texts : List (List ℕ)) (read : Result (List Expected) ExpectFault) → LinesRead s texts read → AllOver s.facts read
file_over s [] read is = subst (AllOver s.facts) (sym is) tt
file_over s (first ∷ rest) read h = by_header (bytes_eq (without_return first) (codes "bt-expect 1")) h where
  by_header : (b : Bool) → MatchBool b (AfterLines s 2 rest [] read) (read ≡ Err (record { line = 1; kind = Header })) → AllOver s.facts read
  by_header true lines = lines_over s 2 rest [] read (All-nil (λ (x : Expected). IsOver s.facts x.expectation)) lines
  by_header false is = subst (AllOver s.facts) (sym is) tt

pub read_over : (tree : Tree) (world : World) (bytes : List ℕ) (read : Result (List Expected) ExpectFault) → ReadsExpected tree world bytes read → AllOver world.facts read
read_over tree world bytes read h = file_over (subject_of tree world) (lines_in bytes) read h
