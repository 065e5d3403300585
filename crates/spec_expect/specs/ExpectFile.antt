-- Files of expectations: what a line says, and what the lines of a file read as, or the first faulty one. Lines, words,
-- numbers, expressions and quoted texts are those of world scripts.
use Rattle.std.specs.Prelude.{◌≡◌, ℕ, ◌+◌, ◌==◌, Bool, true, false, ◌&&◌, ◌||◌, nat_eq, nat_le, if◌then◌else◌, MatchBool, List, [], ◌∷◌, ◌++◌, length, drop, codes, bytes_eq, ℤ, pos, nat_abs, Option, Some, None, option_map, option_and_then, Result, Ok, Err}
use Rattle.std.specs.List.{list_all, list_any, starts_with}
use Rattle.std.specs.Str.{is_utf8}
use Rattle.base_texts.specs.Results.{◌>>=◌}
use Rattle.spec_script.specs.declared.syntax.Cmp.{Cmp}
use Rattle.spec_script.specs.declared.syntax.Expr.{Expr}
use Rattle.spec_tree.specs.declared.term.Tree.{Tree}
use Rattle.spec_tree.specs.Numbers.{number_in}
use Rattle.spec_run.specs.declared.status.Answer.{Answer}
use Rattle.spec_run.specs.declared.status.Answer.TheVariants.{Running, Success, Failure, Skipped}
use Rattle.spec_world.specs.declared.world.Fact.{Fact}
use Rattle.spec_world.specs.declared.world.World.{World}
use Rattle.spec_world.specs.Worlds.{is_name}
use Rattle.spec_world_file.specs.WorldFile.{ReadsNumeric, after_word, comparison_in, content, ends_after, following, front_word, is_apart, is_ignored, is_line_byte, is_ms, is_runner, knows_all, lines_in, text_to_quote, without_gap, without_return, word}
use Rattle.spec_expect.specs.declared.expect_fault.ExpectFault.{ExpectFault}
use Rattle.spec_expect.specs.declared.expect_fault.ExpectFaultKind.{ExpectFaultKind}
use Rattle.spec_expect.specs.declared.expect_fault.ExpectFaultKind.TheVariants.{Header, BadLine, NoName, NoLeaf, NoRunner, Range, TooMany}
use Rattle.spec_expect.specs.declared.expectation.Expectation.{Expectation}
use Rattle.spec_expect.specs.declared.expectation.Expectation.TheVariants.{Always, At, By, NeverAnswers, StartsOnly, Starts, Ends, NeverWith, Order}
use Rattle.spec_expect.specs.declared.expectation.Expected.{Expected}
use Rattle.spec_expect.specs.declared.place.Pick.{Pick}
use Rattle.spec_expect.specs.declared.place.Pick.TheVariants.{ById, ByName, ByPath}
use Rattle.spec_expect.specs.declared.place.Place.{Place}
use Rattle.spec_expect.specs.Leaves.{marks_of, places_of}

-- the most expectations of a file
abbrev pub most_expectations : ℕ
most_expectations = 1000

-- ---- What a line says

-- a line by its form, with its numbers as they are written and the text of its expression
pub data Line : Type 0 where
  AlwaysLine : (expr : List ℕ) → Line
  AtLine : (ms : ℤ) (expr : List ℕ) → Line
  ByLine : (ms runner : ℤ) (answer : Answer) → Line
  NeverAnswersLine : (runner : ℤ) (answer : Answer) → Line
  StartsOnlyLine : (leaf : Pick) (expr : List ℕ) → Line
  StartsLine : (leaf : Pick) (op : Cmp) (count : ℤ) → Line
  EndsLine : (leaf : Pick) (answer : Answer) (ms : ℤ) → Line
  NeverWithLine : (first second : Pick) → Line
  OrderLine : (first second : Pick) → Line

-- the answer that a word names
abbrev pub answer_in : List ℕ → Option Answer
answer_in word =
    if bytes_eq word (codes "RUNNING") then Some Running
    else if bytes_eq word (codes "SUCCESS") then Some Success
    else if bytes_eq word (codes "FAILURE") then Some Failure
    else if bytes_eq word (codes "SKIPPED") then Some Skipped
    else None

-- the end of a call that a word names
abbrev pub end_in : List ℕ → Option Answer
end_in word =
    if bytes_eq word (codes "SUCCESS") then Some Success
    else if bytes_eq word (codes "FAILURE") then Some Failure
    else None

-- a quoted text tells leaves by their name, or, where a `/` or a `*` stands in it, by a pattern over their paths
abbrev pub is_pattern_byte : ℕ → Bool
is_pattern_byte b = b == 47 || b == 42

abbrev pub quoted_pick : List ℕ → Pick
quoted_pick text = if list_any is_pattern_byte text then ByPath text else ByName text

-- a quoted text that ends, where it is UTF-8 and stands apart from what follows
abbrev pub pick_quoted : List ℕ × List ℕ → Option (Pick × List ℕ)
pick_quoted found =
    if is_utf8 found.0 && is_apart found.1 then Some (quoted_pick found.0, without_gap found.1) else None

-- the leaves at the front of a text, by an ID or a quoted text, and what follows
abbrev pub pick_at_front : List ℕ → Option (Pick × List ℕ)
pick_at_front text =
    if starts_with nat_eq text (codes "'") then option_and_then pick_quoted (text_to_quote (drop 1 text))
    else if is_name (front_word text) then Some (ById (front_word text), after_word text)
    else None

-- `MS EXPR`
abbrev pub at_line : List ℕ → Option Line
at_line text = option_map (λ ms. AtLine ms (following 1 text)) (number_in (word 0 text))

-- `MS root R STATUS`
abbrev pub by_line : List ℕ → Option Line
by_line text =
    if bytes_eq (word 1 text) (codes "root") && ends_after 4 text
    then option_and_then (λ ms. option_and_then (λ runner. option_map (ByLine ms runner) (answer_in (word 3 text)))
    (number_in (word 2 text))) (number_in (word 0 text))
    else None

-- `R never STATUS`
abbrev pub root_line : List ℕ → Option Line
root_line text =
    if bytes_eq (word 1 text) (codes "never") && ends_after 3 text
    then option_and_then (λ runner. option_map (NeverAnswersLine runner) (answer_in (word 2 text))) (number_in (word 0 text))
    else None

-- `only EXPR`, after leaves
abbrev pub only_line : Pick × List ℕ → Option Line
only_line found = if bytes_eq (word 0 found.1) (codes "only") then Some (StartsOnlyLine found.0 (following 1 found.1)) else None

-- `OP N`, after leaves
abbrev pub count_line : Pick × List ℕ → Option Line
count_line found =
    if ends_after 2 found.1
    then option_and_then (λ op. option_map (StartsLine found.0 op) (number_in (word 1 found.1))) (comparison_in (word 0 found.1))
    else None

-- `STATUS by MS`, after leaves
abbrev pub ends_line : Pick × List ℕ → Option Line
ends_line found =
    if bytes_eq (word 1 found.1) (codes "by") && ends_after 3 found.1
    then option_and_then (λ answer. option_map (EndsLine found.0 answer) (number_in (word 2 found.1))) (end_in (word 0 found.1))
    else None

-- nothing more, after leaves
abbrev pub last_pick : (Pick → Line) → Pick × List ℕ → Option Line
last_pick line found = if length found.1 == 0 then Some (line found.0) else None

-- this word and other leaves, after leaves
abbrev pub then_pick : List ℕ → (Pick → Pick → Line) → Pick × List ℕ → Option Line
then_pick between line found =
    if bytes_eq (word 0 found.1) between
    then option_and_then (last_pick (line found.0)) (pick_at_front (following 1 found.1))
    else None

-- what a line says that begins with this word, by what follows the word
abbrev pub line_by : List ℕ → List ℕ → Option Line
line_by kind text =
    if bytes_eq kind (codes "always") then Some (AlwaysLine text)
    else if bytes_eq kind (codes "at") then at_line text
    else if bytes_eq kind (codes "by") then by_line text
    else if bytes_eq kind (codes "root") then root_line text
    else if bytes_eq kind (codes "start") then option_and_then only_line (pick_at_front text)
    else if bytes_eq kind (codes "starts") then option_and_then count_line (pick_at_front text)
    else if bytes_eq kind (codes "ends") then option_and_then ends_line (pick_at_front text)
    else if bytes_eq kind (codes "never") then option_and_then (then_pick (codes "with") NeverWithLine) (pick_at_front text)
    else if bytes_eq kind (codes "order") then option_and_then (then_pick (codes "before") OrderLine) (pick_at_front text)
    else None

-- what the content of a line says, if it has one of the forms
abbrev pub line_in : List ℕ → Option Line
line_in text = if list_all is_line_byte text then line_by (word 0 text) (following 1 text) else None

-- ---- What it says of a tree in a world

-- what lines speak of: the facts and the runners of a world, and the nodes of a tree
pub record Subject : Type 0 where
  pub facts : List Fact
  pub runners : ℕ
  pub places : List Place

abbrev pub subject_of : Tree → World → Subject
subject_of tree world = record { facts = world.facts; runners = world.runners; places = places_of tree }

-- a moment, or a count in the same range
abbrev pub moment_of : ℤ → Result ℕ ExpectFaultKind
moment_of ms = if is_ms ms then Ok (nat_abs ms) else Err Range

abbrev pub runner_in : ℕ → ℤ → Result ℕ ExpectFaultKind
runner_in runners number = if is_runner runners number then Ok (nat_abs number) else Err NoRunner

-- the leaves that are told so, of which there is one at least
abbrev pub leaves_in : List Place → Pick → Result (List Bool) ExpectFaultKind
leaves_in places pick =
    if list_any (λ mark. mark) (marks_of pick places) then Ok (marks_of pick places) else Err NoLeaf

-- an expression that names facts alone
abbrev pub over_facts : List Fact → Expr → Result Expr ExpectFaultKind
over_facts facts e = if knows_all [] facts e then Ok e else Err NoName

-- what is said by what a text reads as, which is to be an expression
abbrev pub by_expr : Option Expr → (Expr → Result Expectation ExpectFaultKind) → Result Expectation ExpectFaultKind
by_expr None rule = Err BadLine
by_expr (Some e) rule = rule e

-- this is said of the expression that a text is
pub record SaysOf (text : List ℕ) (rule : Expr → Result Expectation ExpectFaultKind) (said : Result Expectation ExpectFaultKind) : Type 0 where
  pub expr : Option Expr
  pub reads : ReadsNumeric text expr
  pub is : said ≡ by_expr expr rule

-- what a line expects, or what is wrong with it first
abbrev pub Says : Subject → Line → Result Expectation ExpectFaultKind → Type 0
Says s (AlwaysLine expr) said = SaysOf expr (λ e. over_facts s.facts e >>= λ e. Ok (Always e)) said
Says s (AtLine ms expr) said = SaysOf expr (λ e. moment_of ms >>= λ ms. over_facts s.facts e >>= λ e. Ok (At ms e)) said
Says s (ByLine ms runner answer) said =
    said ≡ (moment_of ms >>= λ ms. runner_in s.runners runner >>= λ runner. Ok (By ms runner answer))
Says s (NeverAnswersLine runner answer) said = said ≡ (runner_in s.runners runner >>= λ runner. Ok (NeverAnswers runner answer))
Says s (StartsOnlyLine leaf expr) said =
    SaysOf expr (λ e. leaves_in s.places leaf >>= λ leaves. over_facts s.facts e >>= λ e. Ok (StartsOnly leaves e)) said
Says s (StartsLine leaf op count) said =
    said ≡ (leaves_in s.places leaf >>= λ leaves. moment_of count >>= λ count. Ok (Starts leaves op count))
Says s (EndsLine leaf answer ms) said =
    said ≡ (leaves_in s.places leaf >>= λ leaves. moment_of ms >>= λ ms. Ok (Ends leaves answer ms))
Says s (NeverWithLine first second) said =
    said ≡ (leaves_in s.places first >>= λ first. leaves_in s.places second >>= λ second. Ok (NeverWith first second))
Says s (OrderLine first second) said =
    said ≡ (leaves_in s.places first >>= λ first. leaves_in s.places second >>= λ second. Ok (Order first second))

-- .. what may be a line of one of the forms
abbrev pub FormSays : Subject → Option Line → Result Expectation ExpectFaultKind → Type 0
FormSays s None said = said ≡ Err BadLine
FormSays s (Some line) said = Says s line said

-- ---- The lines of a file

-- one more expectation, of this line
abbrev pub with_expected : List Expected → ℕ → Expectation → Result (List Expected) ExpectFaultKind
with_expected before line expectation =
    if nat_le most_expectations (length before) then Err TooMany
    else Ok (before ++ record { line = line; expectation = expectation } ∷ [])

-- after a line that is of one of the forms, or of none
pub record AfterForm (s : Subject) (before : List Expected) (line : ℕ) (text : List ℕ) (after : Result (List Expected) ExpectFaultKind) : Type 0 where
  pub said : Result Expectation ExpectFaultKind
  pub says : FormSays s (line_in text) said
  pub is : after ≡ (said >>= with_expected before line)

-- after the content of a line: blank lines, and lines that begin with `#`, are ignored
abbrev pub AfterContent : Subject → List Expected → ℕ → List ℕ → Result (List Expected) ExpectFaultKind → Type 0
AfterContent s before line text after = MatchBool (is_ignored text) (after ≡ Ok before) (AfterForm s before line text after)

-- the lines after one are read, or it is the first faulty one
abbrev pub GoesOn : ℕ → (List Expected → Type 0) → Result (List Expected) ExpectFault → Result (List Expected) ExpectFaultKind → Type 0
GoesOn line rest read (Ok after) = rest after
GoesOn line rest read (Err kind) = read ≡ Err (record { line = line; kind = kind })

-- after all these lines, of which the first has this number
abbrev pub AfterLines : Subject → ℕ → List (List ℕ) → List Expected → Result (List Expected) ExpectFault → Type 0
AfterLines s line [] before read = read ≡ Ok before
AfterLines s line (text ∷ texts) before read =
    (after : Result (List Expected) ExpectFaultKind) × AfterContent s before line (content text) after
    × GoesOn line (λ left. AfterLines s (line + 1) texts left read) read after

-- the lines of a file, of which the first is the header
abbrev pub LinesRead : Subject → List (List ℕ) → Result (List Expected) ExpectFault → Type 0
LinesRead s [] read = read ≡ Err (record { line = 1; kind = Header })
LinesRead s (first ∷ rest) read =
    MatchBool (bytes_eq (without_return first) (codes "bt-expect 1")) (AfterLines s 2 rest [] read) (read ≡ Err (record { line = 1; kind = Header }))

-- the bytes of a file read as these expectations of a tree in a world, or have this first faulty line
abbrev pub ReadsExpected : Tree → World → List ℕ → Result (List Expected) ExpectFault → Type 0
ReadsExpected tree world bytes read = LinesRead (subject_of tree world) (lines_in bytes) read
