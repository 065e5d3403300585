-- World scripts: the lines and words of a file, what a line says, and the world that the lines make.
use Rattle.std.specs.Prelude.{◌≡◌, ℕ, zero, suc, ◌+◌, ◌-◌, ◌*◌, ◌/◌, ◌==◌, IsTrue, Bool, true, false, not, ◌&&◌, ◌||◌, nat_lt, nat_le, nat_eq, if◌then◌else◌, MatchBool, List, [], ◌∷◌, ◌++◌, map, length, take, drop, codes, bytes_eq, ℤ, pos, nat_abs, Option, Some, None, is_some, option_map, option_and_then, option_to_list, unwrap_or, Result, Ok, Err, position, slice_get}
use Rattle.std.specs.List.{slice_split, filter, list_all, list_any, ends_with, starts_with, prefix_len, suffix_len, position_or_len}
use Rattle.std.specs.Str.{is_utf8}
use Rattle.spec_script.specs.Reading.{ReadsExpr}
use Rattle.spec_script.specs.declared.syntax.Cmp.{Cmp}
use Rattle.spec_script.specs.declared.syntax.Cmp.TheVariants.{Equal, Differ, Less, AtMost, More, AtLeast}
use Rattle.spec_script.specs.declared.syntax.Expr.{Expr, out-Expr}
use Rattle.spec_script.specs.declared.syntax.Expr.TheOpen.{Expr-F, Group}
use Rattle.spec_script.specs.Scripts.{names_of, texts_of}
use Rattle.spec_script.specs.declared.value.Value.{Value}
use Rattle.spec_script.specs.declared.value.Value.TheVariants.{Int, Text}
use Rattle.spec_world.specs.declared.world.Fact.{Fact}
use Rattle.spec_world.specs.declared.world.How.{How}
use Rattle.spec_world.specs.declared.world.How.TheVariants.{To, By}
use Rattle.spec_world.specs.declared.world.Row.{Row}
use Rattle.spec_world.specs.declared.world.RowSort.{RowSort}
use Rattle.spec_world.specs.declared.world.RowSort.TheVariants.{Is, When, Timed, TimedBy, Replay, Gate, Sensed, Told}
use Rattle.spec_world.specs.declared.world.Event.{Event}
use Rattle.spec_world.specs.declared.world.Out.{Out}
use Rattle.spec_world.specs.declared.world.Set.{Set}
use Rattle.spec_world.specs.declared.world.Telling.{Telling}
use Rattle.spec_world.specs.declared.world.Telling.TheVariants as telling
use Rattle.spec_world.specs.declared.world.ToldOut.{ToldOut}
use Rattle.spec_world.specs.declared.world.What.{What}
use Rattle.spec_world.specs.declared.world.What.TheVariants.{Tick, Halt, Change, Tell}
use Rattle.spec_world.specs.declared.world.World.{World}
use Rattle.spec_world_file.specs.declared.world_fault.WorldFault.{WorldFault}
use Rattle.spec_world_file.specs.declared.world_fault.WorldFaultKind.{WorldFaultKind}
use Rattle.spec_world_file.specs.declared.world_fault.WorldFaultKind.TheVariants.{Header, BadLine, Range, DoubleName, NoName, MomentBack, TooMany}
use Rattle.spec_tree.specs.Limits.{last_moment, most_effects, most_events, most_facts, most_goals, most_needs, most_outcomes, most_outputs, most_ports, most_rows, most_runners, most_text_bytes}
use Rattle.spec_tree.specs.Names.{is_reserved}
use Rattle.spec_world.specs.Worlds.{is_name, is_comparison, is_modelled, names_of_facts, ids_of_rows, ports_told}
use Rattle.spec_tree.specs.Numbers.{in_range, is_int, number_in}

-- ---- Lines and words

-- some parts, without an empty one at the end
abbrev pub without_empty_rest : List (List ℕ) → List (List ℕ)
without_empty_rest [] = []
without_empty_rest ([] ∷ []) = []
without_empty_rest (text ∷ texts) = text ∷ without_empty_rest texts

-- the lines of a file: what stands between its line feeds
abbrev pub lines_in : List ℕ → List (List ℕ)
lines_in bytes = without_empty_rest (slice_split (λ b. b == 10) bytes)

-- a line without one carriage return at its end
abbrev pub without_return : List ℕ → List ℕ
without_return text = if ends_with nat_eq text (13 ∷ []) then take (length text - 1) text else text

-- blanks and tabs stand between words
abbrev pub is_gap : ℕ → Bool
is_gap b = b == 32 || b == 9

-- a line holds tabs and printable bytes of ASCII
abbrev pub is_line_byte : ℕ → Bool
is_line_byte b = b == 9 || nat_le 32 b && nat_le b 126

-- a text without the gap at its front
abbrev pub without_gap : List ℕ → List ℕ
without_gap text = drop (prefix_len is_gap text) text

-- a text without the gap at its end
abbrev pub before_gap : List ℕ → List ℕ
before_gap text = take (length text - suffix_len is_gap text) text

-- what a line holds, without the gaps round it
abbrev pub content : List ℕ → List ℕ
content text = before_gap (without_gap (without_return text))

-- the word at the front of a text
abbrev pub front_word : List ℕ → List ℕ
front_word text = take (position_or_len is_gap text) text

-- what follows that word and the gap after it
abbrev pub after_word : List ℕ → List ℕ
after_word text = without_gap (drop (position_or_len is_gap text) text)

-- what follows so many words
abbrev pub following : ℕ → List ℕ → List ℕ
following zero text = text
following (suc n) text = following n (after_word text)

-- the word of this number, counted from 0, or the empty text where there are fewer
abbrev pub word : ℕ → List ℕ → List ℕ
word n text = front_word (following n text)

-- whether there are no more words than this
abbrev pub ends_after : ℕ → List ℕ → Bool
ends_after n text = length (following n text) == 0

-- the words of a text: what stands between its gaps
abbrev pub words_in : List ℕ → List (List ℕ)
words_in text = filter (λ part. not (length part == 0)) (slice_split is_gap text)

-- ---- Rows, names and numbers

-- the ID of a row and its input ports
pub record Head : Type 0 where
  pub id : List ℕ
  pub ports : List (List ℕ)

-- an ID with these input ports, where all are names
abbrev pub head_with : List ℕ → List (List ℕ) → Option Head
head_with id ports = if is_name id && list_all is_name ports then Some (record { id = id; ports = ports }) else None

-- an ID, with what follows its `(`: ports between commas, and the `)`
abbrev pub head_before : List ℕ → List ℕ → Option Head
head_before id rest =
    if ends_with nat_eq rest (codes ")") then head_with id (slice_split (λ b. b == 44) (take (length rest - 1) rest)) else None

-- the head that a word is, of which these are the parts between its `(`
abbrev pub head_of : List (List ℕ) → Option Head
head_of (id ∷ []) = head_with id []
head_of (id ∷ rest ∷ []) = head_before id rest
head_of _ = None

-- the head that a word is, if it is one: `ID`, or `ID(p,q)`
abbrev pub head_in : List ℕ → Option Head
head_in word = head_of (slice_split (λ b. b == 40) word)

-- ---- What a line says

-- what happens to a runner in each round of a line of rounds, with the number as it is written
pub data Part : Type 0 where
  TickPart : (runner : ℤ) → Part
  HaltPart : (runner : ℤ) → Part

-- a line by its form, with its numbers as they are written and the text of its expression
pub data Line : Type 0 where
  FactLine : (name : List ℕ) (opening : ℤ) → Line
  IsLine : (id fact : List ℕ) (op : Cmp) (value : ℤ) → Line
  WhenLine : (head : Head) (expr : List ℕ) → Line
  TimedLine : (head : Head) (ms : ℤ) → Line
  TimedByLine : (head : Head) (expr : List ℕ) → Line
  ReplayLine : (head : Head) (ms : ℤ) (outcomes : List Bool) → Line
  GateLine : (head : Head) (expr : List ℕ) → Line
  SensedLine : (head : Head) → Line
  ToldLine : (head : Head) → Line
  FailsLine : (expr : List ℕ) → Line
  NeedsLine : (id : List ℕ) → Line
  SetsLine : (fact : List ℕ) (how : How) (value : ℤ) → Line
  OutLine : (port expr : List ℕ) → Line
  NameLine : (port : List ℕ) → Line
  GoalLine : (id : List ℕ) → Line
  RunnersLine : (count : ℤ) → Line
  AtLine : (ms : ℤ) → Line
  TickLine : (runner : ℤ) → Line
  HaltLine : (runner : ℤ) → Line
  SetLine : (fact : List ℕ) (value : ℤ) → Line
  TellLine : (runner uid : ℤ) (succeeds : Bool) (outs : List ℕ) → Line
  EveryLine : (ms last : ℤ) (parts : List Part) → Line

-- the comparison that a word names
abbrev pub comparison_in : List ℕ → Option Cmp
comparison_in word =
    if bytes_eq word (codes "==") then Some Equal
    else if bytes_eq word (codes "!=") then Some Differ
    else if bytes_eq word (codes "<") then Some Less
    else if bytes_eq word (codes "<=") then Some AtMost
    else if bytes_eq word (codes ">") then Some More
    else if bytes_eq word (codes ">=") then Some AtLeast
    else None

-- the outcomes that a word of 1 to 64 letters names, S for success and F for failure
abbrev pub outcomes_in : List ℕ → Option (List Bool)
outcomes_in word =
    if nat_lt 0 (length word) && nat_le (length word) most_outcomes && list_all (λ b. b == 83 || b == 70) word
    then Some (map (λ b. b == 83) word)
    else None

-- `NAME`
abbrev pub name_line : (List ℕ → Line) → List ℕ → Option Line
name_line line text = if is_name (word 0 text) && ends_after 1 text then Some (line (word 0 text)) else None

-- `N`
abbrev pub number_line : (ℤ → Line) → List ℕ → Option Line
number_line line text = if ends_after 1 text then option_map line (number_in (word 0 text)) else None

-- `NAME INT`
abbrev pub named_number : (List ℕ → ℤ → Line) → List ℕ → Option Line
named_number line text =
    if is_name (word 0 text) && ends_after 2 text then option_map (line (word 0 text)) (number_in (word 1 text)) else None

-- how an effect changes its fact, by the sign of its line
abbrev pub how_in : List ℕ → Option How
how_in word =
    if bytes_eq word (codes "=") then Some To
    else if bytes_eq word (codes "+=") then Some By
    else None

-- `NAME = INT` or `NAME += INT`
abbrev pub sets_line : List ℕ → Option Line
sets_line text =
    if is_name (word 0 text) && ends_after 3 text
    then option_and_then (λ how. option_map (SetsLine (word 0 text) how) (number_in (word 2 text))) (how_in (word 1 text))
    else None

-- `PORT = EXPR`, or `PORT` alone
abbrev pub out_line : List ℕ → Option Line
out_line text =
    if is_name (word 0 text) && bytes_eq (word 1 text) (codes "=") then Some (OutLine (word 0 text) (following 2 text))
    else name_line NameLine text

-- `ID is NAME OP INT`, after `is`
abbrev pub is_line : List ℕ → List ℕ → Option Line
is_line id text =
    if is_name id && is_name (word 0 text) && ends_after 3 text
    then option_and_then (λ op. option_map (IsLine id (word 0 text) op) (number_in (word 2 text))) (comparison_in (word 1 text))
    else None

-- nothing more, of the row that a word is
abbrev pub told_line : (Head → Line) → List ℕ → List ℕ → Option Line
told_line line row text = if length text == 0 then option_map line (head_in row) else None

-- `ROW is NAME OP INT`, `ROW when EXPR` or `ROW told`
abbrev pub condition_line : List ℕ → Option Line
condition_line text =
    if bytes_eq (word 1 text) (codes "is") then is_line (word 0 text) (following 2 text)
    else if bytes_eq (word 1 text) (codes "when") then option_map (λ head. WhenLine head (following 2 text)) (head_in (word 0 text))
    else if bytes_eq (word 1 text) (codes "told") then told_line SensedLine (word 0 text) (following 2 text)
    else None

-- `MS` or `(EXPR)`, of an action that lasts
abbrev pub timed_line : List ℕ → Head → Option Line
timed_line text head =
    if starts_with nat_eq text (codes "(") then Some (TimedByLine head text) else number_line (TimedLine head) text

-- `MS OUTCOMES`
abbrev pub replay_line : List ℕ → Head → Option Line
replay_line text head =
    if ends_after 2 text
    then option_and_then (λ ms. option_map (ReplayLine head ms) (outcomes_in (word 1 text))) (number_in (word 0 text))
    else None

-- `ROW timed MS`, `ROW timed (EXPR)`, `ROW replay MS OUTCOMES`, `ROW gate EXPR` or `ROW told`
abbrev pub action_line : List ℕ → Option Line
action_line text =
    if bytes_eq (word 1 text) (codes "timed") then option_and_then (timed_line (following 2 text)) (head_in (word 0 text))
    else if bytes_eq (word 1 text) (codes "replay") then option_and_then (replay_line (following 2 text)) (head_in (word 0 text))
    else if bytes_eq (word 1 text) (codes "gate") then option_map (λ head. GateLine head (following 2 text)) (head_in (word 0 text))
    else if bytes_eq (word 1 text) (codes "told") then told_line ToldLine (word 0 text) (following 2 text)
    else None

-- whether a word of a telling says SUCCESS or FAILURE
abbrev pub success_in : List ℕ → Option Bool
success_in word =
    if bytes_eq word (codes "SUCCESS") then Some true
    else if bytes_eq word (codes "FAILURE") then Some false
    else None

-- `RUNNER UID SUCCESS VALUES` or `RUNNER UID FAILURE`
abbrev pub tell_line : List ℕ → Option Line
tell_line text =
    option_and_then (λ runner. option_and_then (λ uid. option_and_then (λ succeeds.
    if succeeds || ends_after 3 text then Some (TellLine runner uid succeeds (following 3 text)) else None)
    (success_in (word 2 text))) (number_in (word 1 text))) (number_in (word 0 text))

-- `tick R` or `halt R`
abbrev pub part_in : List ℕ → List ℕ → Option Part
part_in verb runner =
    if bytes_eq verb (codes "tick") then option_map TickPart (number_in runner)
    else if bytes_eq verb (codes "halt") then option_map HaltPart (number_in runner)
    else None

-- the parts that some words are, two words each
abbrev pub parts_in : List (List ℕ) → Option (List Part)
parts_in [] = Some []
parts_in (verb ∷ []) = None
parts_in (verb ∷ runner ∷ words) = option_and_then (λ part. option_map (λ parts. part ∷ parts) (parts_in words)) (part_in verb runner)

-- `MS until MS` and one part or more
abbrev pub every_line : List ℕ → Option Line
every_line text =
    if bytes_eq (word 1 text) (codes "until") && not (ends_after 3 text)
    then option_and_then (λ ms. option_and_then (λ last. option_map (EveryLine ms last) (parts_in (words_in (following 3 text))))
    (number_in (word 2 text))) (number_in (word 0 text))
    else None

-- what a line about goals, runners and events says, which begins with this word
abbrev pub event_line : List ℕ → List ℕ → Option Line
event_line kind text =
    if bytes_eq kind (codes "goal") then name_line GoalLine text
    else if bytes_eq kind (codes "runners") then number_line RunnersLine text
    else if bytes_eq kind (codes "at") then number_line AtLine text
    else if bytes_eq kind (codes "tick") then number_line TickLine text
    else if bytes_eq kind (codes "halt") then number_line HaltLine text
    else if bytes_eq kind (codes "set") then named_number SetLine text
    else if bytes_eq kind (codes "tell") then tell_line text
    else if bytes_eq kind (codes "every") then every_line text
    else None

-- what a line says that begins with this word, by what follows the word
abbrev pub line_by : List ℕ → List ℕ → Option Line
line_by kind text =
    if bytes_eq kind (codes "fact") then named_number FactLine text
    else if bytes_eq kind (codes "condition") then condition_line text
    else if bytes_eq kind (codes "action") then action_line text
    else if bytes_eq kind (codes "fails") then Some (FailsLine text)
    else if bytes_eq kind (codes "needs") then name_line NeedsLine text
    else if bytes_eq kind (codes "sets") then sets_line text
    else if bytes_eq kind (codes "out") then out_line text
    else event_line kind text

-- what the content of a line says, if it has one of the forms
abbrev pub line_in : List ℕ → Option Line
line_in text = if list_all is_line_byte text then line_by (word 0 text) (following 1 text) else None

-- what a text reads as: an expression without text literals, or none
abbrev pub ReadsNumeric : List ℕ → Option Expr → Type 0
ReadsNumeric text (Some e) = ReadsExpr text e × (texts_of e ≡ 0)
ReadsNumeric text None = (e : Expr) → ReadsExpr text e → texts_of e ≡ 0 → ⊥

-- ---- Values that are told

-- one byte more before a text and what follows the text
abbrev pub with_byte : ℕ → Option (List ℕ × List ℕ) → Option (List ℕ × List ℕ)
with_byte b = option_map (λ found. (b ∷ found.0, found.1))

-- the number that a hexadecimal digit stands for; its letters are small
abbrev pub digit_value : ℕ → Option ℕ
digit_value c = position (nat_eq c) (codes "0123456789abcdef")

-- the byte of two such digits before a text
abbrev pub with_digits : Option ℕ → Option ℕ → Option (List ℕ × List ℕ) → Option (List ℕ × List ℕ)
with_digits (Some high) (Some low) found = with_byte (16 * high + low) found
with_digits _ _ found = None

-- a text from after its first quote on, and what follows its last one: in it `\'`, `\\`, `\n` and `\x` with two
-- digits stand for a quote, a backslash, a line feed and any byte
abbrev mutual
  pub text_to_quote : List ℕ → Option (List ℕ × List ℕ)
  text_to_quote [] = None
  text_to_quote (c ∷ rest) =
      if nat_eq c 39 then Some ([], rest)
      else if nat_eq c 92 then after_backslash rest
      else if nat_le 32 c && nat_le c 126 then with_byte c (text_to_quote rest)
      else None

  pub after_backslash : List ℕ → Option (List ℕ × List ℕ)
  after_backslash [] = None
  after_backslash (c ∷ rest) =
      if nat_eq c 39 || nat_eq c 92 then with_byte c (text_to_quote rest)
      else if nat_eq c 110 then with_byte 10 (text_to_quote rest)
      else if nat_eq c 120 then after_x rest
      else None

  pub after_x : List ℕ → Option (List ℕ × List ℕ)
  after_x (high ∷ low ∷ rest) = with_digits (digit_value high) (digit_value low) (text_to_quote rest)
  after_x _ = None

-- a text that was found, where it is UTF-8
abbrev pub text_value : List ℕ × List ℕ → Option (Value × List ℕ)
text_value found = if is_utf8 found.0 then Some (Text found.0, found.1) else None

-- the value at the front of a text, and what follows it: a quoted text, or a number
abbrev pub value_at_front : List ℕ → Option (Value × List ℕ)
value_at_front text =
    if starts_with nat_eq text (codes "'")
    then option_and_then text_value (text_to_quote (drop 1 text))
    else option_map (λ n. (Int n, drop (length (front_word text)) text)) (number_in (front_word text))

-- nothing follows, or a gap
abbrev pub is_apart : List ℕ → Bool
is_apart [] = true
is_apart (c ∷ rest) = is_gap c

-- what stands before the first `=` of a text, and what stands after it
abbrev pub before_sign : List ℕ → List ℕ
before_sign text = take (position_or_len (λ b. b == 61) text) text

abbrev pub after_sign : List ℕ → List ℕ
after_sign text = drop (position_or_len (λ b. b == 61) text + 1) text

-- a text begins with `NAME=VALUE` for this output, and this follows
pub record BeginsWith (text : List ℕ) (out : ToldOut) (rest : List ℕ) : Type 0 where
  pub port : out.port ≡ before_sign text
  pub named : IsTrue (is_name (before_sign text))
  pub value : value_at_front (after_sign text) ≡ Some (out.value, rest)
  pub apart : IsTrue (is_apart rest)

-- a text is `NAME=VALUE` for each of these outputs, with gaps between
abbrev pub ReadsOuts : List ToldOut → List ℕ → Type 0
ReadsOuts [] text = text ≡ []
ReadsOuts (out ∷ outs) text = (rest : List ℕ) × BeginsWith text out rest × ReadsOuts outs (without_gap rest)

-- a text is that for these outputs, or for none
abbrev pub ReadsTold : List ℕ → Option (List ToldOut) → Type 0
ReadsTold text (Some outs) = ReadsOuts outs text
ReadsTold text None = (outs : List ToldOut) → ReadsOuts outs text → ⊥

-- what is told
abbrev pub telling_of : Bool → List ToldOut → Telling
telling_of true outs = telling.Success outs
telling_of false outs = telling.Failure

-- whether a value is no number outside 64 bits
abbrev pub is_small : Value → Bool
is_small (Int n) = is_int n
is_small (Text text) = true

-- whether a value is a text that is too long
abbrev pub is_long : Value → Bool
is_long (Int n) = false
is_long (Text text) = nat_lt most_text_bytes (length text)

-- ---- The world so far

-- what the lines so far have made; an action is open as long as lines may add to it
pub record Reading : Type 0 where
  pub facts : List Fact
  pub rows : List Row
  pub open_row : Option Row
  pub goals : List ℕ
  pub runners : Option ℕ
  pub events : List Event
  pub moment : ℕ

-- before the first line
abbrev pub nothing_read : Reading
nothing_read = record { facts = []; rows = []; open_row = None; goals = []; runners = None; events = []; moment = 0 }

-- an open action takes its place among the rows
abbrev pub closed : Reading → Reading
closed r = record r { rows = r.rows ++ option_to_list r.open_row; open_row = None }

-- how many runners there are: one where no line says it
abbrev pub runners_of : Reading → ℕ
runners_of r = unwrap_or r.runners 1

-- a moment or a duration in milliseconds
abbrev pub is_ms : ℤ → Bool
is_ms = in_range (pos 0) (pos last_moment)

-- the time from one round to the next, in milliseconds
abbrev pub is_step : ℤ → Bool
is_step = in_range (pos 1) (pos last_moment)

-- the number of one of so many runners
abbrev pub is_runner : ℕ → ℤ → Bool
is_runner runners = in_range (pos 1) (pos runners)

-- the runner of a part, as it is written
abbrev pub runner_in : Part → ℤ
runner_in (TickPart runner) = runner
runner_in (HaltPart runner) = runner

-- a number that a node may have, in 32 bits; whether a node has it, the tree says
abbrev pub is_uid : ℤ → Bool
is_uid = in_range (pos 0) (pos 4294967295)

-- the number of the fact of this name
abbrev pub fact_number : List Fact → List ℕ → Option ℕ
fact_number facts name = position (bytes_eq name) (names_of_facts facts)

-- a number of a row, where the row compares a fact
abbrev pub where_compares : Option Row → ℕ → Option ℕ
where_compares None number = None
where_compares (Some row) number = if is_comparison row.sort then Some number else None

-- the number of the condition of this ID that compares a fact
abbrev pub comparison_number : List Row → List ℕ → Option ℕ
comparison_number rows id = option_and_then (λ n. where_compares (slice_get rows n) n) (position (bytes_eq id) (ids_of_rows rows))

-- whether no further row may have this ID
abbrev pub is_taken : List Row → List ℕ → Bool
is_taken rows id = is_reserved id || list_any (bytes_eq id) (ids_of_rows rows)

-- whether one of some names stands among the earlier ones, or among those before it
abbrev pub repeats : List (List ℕ) → List (List ℕ) → Bool
repeats earlier [] = false
repeats earlier (name ∷ names) = list_any (bytes_eq name) earlier || repeats (earlier ++ name ∷ []) names

-- whether a name is one of these ports or one of these facts
abbrev pub is_known : List (List ℕ) → List Fact → List ℕ → Bool
is_known ports facts name = list_any (bytes_eq name) ports || list_any (bytes_eq name) (names_of_facts facts)

-- whether each name of an expression is
abbrev pub knows_all : List (List ℕ) → List Fact → Expr → Bool
knows_all ports facts e = list_all (is_known ports facts) (names_of e)

-- a row of which nothing more is said
abbrev pub plain_row : List ℕ → List (List ℕ) → RowSort → Row
plain_row id ports sort = record { id = id; ports = ports; sort = sort; needs = []; sets = []; outs = [] }

-- ---- The world after a line: its faults in their order, or what it adds

-- one more fact, of a name that no other has
abbrev pub with_fact : List ℕ → ℤ → Reading → Result Reading WorldFaultKind
with_fact name opening r =
    if list_any (bytes_eq name) (names_of_facts r.facts) then Err DoubleName
    else if nat_le most_facts (length r.facts) then Err TooMany
    else Ok (record r { facts = r.facts ++ record { name = name; opening = opening } ∷ [] })

-- one more row, which is closed
abbrev pub with_row : Row → Reading → Result Reading WorldFaultKind
with_row row r = if nat_le most_rows (length r.rows) then Err TooMany else Ok (record r { rows = r.rows ++ row ∷ [] })

-- one more row, which is open
abbrev pub with_action : Row → Reading → Result Reading WorldFaultKind
with_action row r = if nat_le most_rows (length r.rows) then Err TooMany else Ok (record r { open_row = Some row })

-- what is said of the number that a name has; a name without one is not known
abbrev pub numbered : {X : Type 0} → Option ℕ → (ℕ → Result X WorldFaultKind) → Result X WorldFaultKind
numbered None said = Err NoName
numbered (Some n) said = said n

-- a condition that compares a fact
abbrev pub with_comparison : List ℕ → List ℕ → Cmp → ℤ → Reading → Result Reading WorldFaultKind
with_comparison id fact op value r =
    if is_taken r.rows id then Err DoubleName
    else numbered (fact_number r.facts fact) (λ n. with_row (plain_row id [] (Is n op value)) r)

-- whether each name is known of the expression by which a row answers
abbrev pub knows_sort : List (List ℕ) → List Fact → RowSort → Bool
knows_sort ports facts (When e) = knows_all ports facts e
knows_sort ports facts (Gate e) = knows_all ports facts e
knows_sort ports facts (TimedBy length fails) = knows_all ports facts length
knows_sort ports facts _ = true

-- a row of its own name, whose ports differ, and whose names are known
abbrev pub with_head : Head → (Row → Reading → Result Reading WorldFaultKind) → RowSort → Reading → Result Reading WorldFaultKind
with_head head add sort r =
    if is_taken r.rows head.id || repeats [] head.ports then Err DoubleName
    else if not (knows_sort head.ports r.facts sort) then Err NoName
    else if nat_lt most_ports (length head.ports) then Err TooMany
    else add (plain_row head.id head.ports sort) r

-- the row that is open becomes this one
abbrev pub with_open_row : Reading → Result Row WorldFaultKind → Result Reading WorldFaultKind
with_open_row r (Ok row) = Ok (record r { open_row = Some row })
with_open_row r (Err kind) = Err kind

-- an action that fails where this expression is not 0: it has no other such line
abbrev pub fails_by : RowSort → Row → Bool → Expr → Result Row WorldFaultKind
fails_by (Timed ms None) row known e = if known then Ok (record row { sort = Timed ms (Some e) }) else Err NoName
fails_by (Timed ms (Some other)) row known e = Err DoubleName
fails_by (TimedBy length None) row known e = if known then Ok (record row { sort = TimedBy length (Some e) }) else Err NoName
fails_by (TimedBy length (Some other)) row known e = Err DoubleName
fails_by _ row known e = Err BadLine

-- a row that fails where this expression is not 0
abbrev pub row_with_fails : List Fact → Expr → Row → Result Row WorldFaultKind
row_with_fails facts e row = fails_by row.sort row (knows_all row.ports facts e) e

-- an action that is told how it ended, with one more output for which it may be told a value
abbrev pub with_name : RowSort → Row → List ℕ → Result Row WorldFaultKind
with_name (Told outs) row port =
    if list_any (bytes_eq port) outs then Err DoubleName
    else if nat_le most_outputs (length outs) then Err TooMany
    else Ok (record row { sort = Told (outs ++ port ∷ []) })
with_name _ row port = Err BadLine

-- a row with one more of these outputs
abbrev pub row_with_name : List ℕ → Row → Result Row WorldFaultKind
row_with_name port row = with_name row.sort row port

-- a row with one more need, of the condition of this number
abbrev pub row_with_need : ℕ → Row → Result Row WorldFaultKind
row_with_need n row =
    if list_any (nat_eq n) row.needs then Err DoubleName
    else if nat_le most_needs (length row.needs) then Err TooMany
    else Ok (record row { needs = row.needs ++ n ∷ [] })

-- a row with one more effect, on a fact that no other one is on
abbrev pub row_with_effect : Set → Row → Result Row WorldFaultKind
row_with_effect effect row =
    if list_any (λ set. nat_eq effect.fact set.fact) row.sets then Err DoubleName
    else if nat_le most_effects (length row.sets) then Err TooMany
    else Ok (record row { sets = row.sets ++ effect ∷ [] })

-- a row with one more output, whose names are known
abbrev pub with_output : Out → Bool → Row → Result Row WorldFaultKind
with_output out known row =
    if list_any (λ other. bytes_eq out.port other.port) row.outs then Err DoubleName
    else if not known then Err NoName
    else if nat_le most_outputs (length row.outs) then Err TooMany
    else Ok (record row { outs = row.outs ++ out ∷ [] })

-- a row with one more output, the expression for the port of this name
abbrev pub row_with_out : List Fact → List ℕ → Expr → Row → Result Row WorldFaultKind
row_with_out facts port e row = with_output (record { port = port; expr = e }) (knows_all row.ports facts e) row

-- one more goal, the condition of this number
abbrev pub with_goal : ℕ → Reading → Result Reading WorldFaultKind
with_goal n r =
    if list_any (nat_eq n) r.goals then Err DoubleName
    else if nat_le most_goals (length r.goals) then Err TooMany
    else Ok (record r { goals = r.goals ++ n ∷ [] })

-- so many runners, which no earlier line says
abbrev pub with_runners : ℕ → Reading → Result Reading WorldFaultKind
with_runners count r = if is_some r.runners then Err DoubleName else Ok (record r { runners = Some count })

-- a moment that is not before the last one
abbrev pub with_moment : ℕ → Reading → Result Reading WorldFaultKind
with_moment ms r = if nat_lt ms r.moment then Err MomentBack else Ok (record r { moment = ms })

-- one more event, at the last moment
abbrev pub with_event : What → Reading → Result Reading WorldFaultKind
with_event what r =
    if nat_le most_events (length r.events) then Err TooMany
    else Ok (record r { events = r.events ++ record { at = r.moment; what = what } ∷ [] })

-- what a part does
abbrev pub what_in : Part → What
what_in (TickPart runner) = Tick (nat_abs runner)
what_in (HaltPart runner) = Halt (nat_abs runner)

-- so many rounds of the same events, the first one at this moment and each of the others so long after the one before
abbrev pub rounds : ℕ → ℕ → ℕ → List What → List Event
rounds zero at ms whats = []
rounds (suc n) at ms whats = map (λ what. record { at = at; what = what }) whats ++ rounds n (at + ms) ms whats

-- after how many steps of this length the last round comes that is not past the end
abbrev pub steps_to : ℕ → ℕ → Reading → ℕ
steps_to last ms r = (last - r.moment) / ms

-- rounds from the last moment on, up to and with this end; the last moment is then that of the last round
abbrev pub with_rounds : ℕ → ℕ → List What → Reading → Result Reading WorldFaultKind
with_rounds last ms whats r =
    if nat_lt last r.moment then Err MomentBack
    else if nat_lt most_events (length r.events + (steps_to last ms r + 1) * length whats) then Err TooMany
    else Ok (record r { events = r.events ++ rounds (steps_to last ms r + 1) r.moment ms whats; moment = r.moment + steps_to last ms r * ms })

-- what is said, where the number of the line stands in its range
abbrev pub ranged : Bool → Result Reading WorldFaultKind → Result Reading WorldFaultKind
ranged true said = said
ranged false said = Err Range

-- what is said where the line stands in its place
abbrev pub placed : Bool → Result Reading WorldFaultKind → Result Reading WorldFaultKind
placed true said = said
placed false said = Err BadLine

-- a telling of these outputs: each stands once, and no text is too long
abbrev pub with_telling : List ToldOut → Result Reading WorldFaultKind → Result Reading WorldFaultKind
with_telling outs said =
    if repeats [] (ports_told outs) then Err DoubleName
    else if nat_lt most_outputs (length outs) || list_any (λ out. is_long out.value) outs then Err TooMany
    else said

-- an expression that stands in parentheses
abbrev pub group_step : Expr-F Expr → Bool
group_step (Group e) = true
group_step _ = false

abbrev pub is_group : Expr → Bool
is_group e = group_step (out-Expr e)

-- the open action where it is modelled, to which lines may add
abbrev pub where_modelled : Option Row → Option Row
where_modelled None = None
where_modelled (Some row) = if is_modelled row.sort then Some row else None

-- what becomes of the open action; where none is open, the line stands in a wrong place
abbrev pub with_open : Option Row → Reading → (Row → Result Row WorldFaultKind) → Result Reading WorldFaultKind
with_open None r add = Err BadLine
with_open (Some row) r add = with_open_row r (add row)

-- what is said by what a text reads as, which is to be an expression
abbrev pub by_expr : Option Expr → (Expr → Result Reading WorldFaultKind) → Result Reading WorldFaultKind
by_expr None said = Err BadLine
by_expr (Some e) said = said e

-- this is said of the expression that a text is
pub record SaysOf (text : List ℕ) (rule : Expr → Result Reading WorldFaultKind) (said : Result Reading WorldFaultKind) : Type 0 where
  pub expr : Option Expr
  pub reads : ReadsNumeric text expr
  pub is : said ≡ by_expr expr rule

-- what is said by the outputs that a text tells, which is to be of that form
abbrev pub by_outs : Option (List ToldOut) → (List ToldOut → Result Reading WorldFaultKind) → Result Reading WorldFaultKind
by_outs None said = Err BadLine
by_outs (Some outs) said = said outs

-- this is said of the outputs that a text tells
pub record SaysOfOuts (text : List ℕ) (rule : List ToldOut → Result Reading WorldFaultKind) (said : Result Reading WorldFaultKind) : Type 0 where
  pub outs : Option (List ToldOut)
  pub reads : ReadsTold text outs
  pub is : said ≡ by_outs outs rule

-- after a line; every line but those that add to an action closes the open one
abbrev pub AfterLine : Reading → Line → Result Reading WorldFaultKind → Type 0
AfterLine r (FactLine name opening) said = said ≡ ranged (is_int opening) (with_fact name opening (closed r))
AfterLine r (IsLine id fact op value) said = said ≡ ranged (is_int value) (with_comparison id fact op value (closed r))
AfterLine r (WhenLine head expr) said = SaysOf expr (λ e. with_head head with_row (When e) (closed r)) said
AfterLine r (TimedLine head ms) said = said ≡ ranged (is_ms ms) (with_head head with_action (Timed (nat_abs ms) None) (closed r))
AfterLine r (TimedByLine head expr) said = SaysOf expr (λ e. placed (is_group e) (with_head head with_action (TimedBy e None) (closed r))) said
AfterLine r (ReplayLine head ms outcomes) said = said ≡ ranged (is_ms ms) (with_head head with_action (Replay (nat_abs ms) outcomes) (closed r))
AfterLine r (GateLine head expr) said = SaysOf expr (λ e. with_head head with_action (Gate e) (closed r)) said
AfterLine r (SensedLine head) said = said ≡ with_head head with_row Sensed (closed r)
AfterLine r (ToldLine head) said = said ≡ with_head head with_action (Told []) (closed r)
AfterLine r (FailsLine expr) said = SaysOf expr (λ e. with_open r.open_row r (row_with_fails r.facts e)) said
AfterLine r (NeedsLine id) said =
    said ≡ placed (is_some (where_modelled r.open_row)) (numbered (comparison_number r.rows id) (λ n. with_open r.open_row r (row_with_need n)))
AfterLine r (SetsLine fact how value) said =
    said ≡ placed (is_some (where_modelled r.open_row)) (ranged (is_int value) (numbered (fact_number r.facts fact)
    (λ n. with_open r.open_row r (row_with_effect (record { fact = n; how = how; value = value })))))
AfterLine r (OutLine port expr) said = SaysOf expr (λ e. with_open (where_modelled r.open_row) r (row_with_out r.facts port e)) said
AfterLine r (NameLine port) said = said ≡ with_open r.open_row r (row_with_name port)
AfterLine r (GoalLine id) said = said ≡ numbered (comparison_number (closed r).rows id) (λ n. with_goal n (closed r))
AfterLine r (RunnersLine count) said =
    said ≡ placed (length r.events == 0) (ranged (in_range (pos 1) (pos most_runners) count) (with_runners (nat_abs count) (closed r)))
AfterLine r (AtLine ms) said = said ≡ ranged (is_ms ms) (with_moment (nat_abs ms) (closed r))
AfterLine r (TickLine runner) said = said ≡ ranged (is_runner (runners_of r) runner) (with_event (Tick (nat_abs runner)) (closed r))
AfterLine r (HaltLine runner) said = said ≡ ranged (is_runner (runners_of r) runner) (with_event (Halt (nat_abs runner)) (closed r))
AfterLine r (SetLine fact value) said = said ≡ ranged (is_int value) (numbered (fact_number r.facts fact) (λ n. with_event (Change n value) (closed r)))
AfterLine r (TellLine runner uid succeeds outs) said = SaysOfOuts outs (λ told.
    ranged (is_runner (runners_of r) runner && is_uid uid && list_all (λ out. is_small out.value) told)
    (with_telling told (with_event (Tell (nat_abs runner) (nat_abs uid) (telling_of succeeds told)) (closed r)))) said
AfterLine r (EveryLine ms last parts) said =
    said ≡ ranged (is_step ms && is_ms last && list_all (λ part. is_runner (runners_of r) (runner_in part)) parts)
    (with_rounds (nat_abs last) (nat_abs ms) (map what_in parts) (closed r))

-- after what may be a line of one of the forms
abbrev pub AfterForm : Reading → Option Line → Result Reading WorldFaultKind → Type 0
AfterForm r None said = said ≡ Err BadLine
AfterForm r (Some line) said = AfterLine r line said

-- blank lines, and lines that begin with `#`, are ignored
abbrev pub is_ignored : List ℕ → Bool
is_ignored text = length text == 0 || starts_with nat_eq text (codes "#")

-- after the content of a line
abbrev pub AfterContent : Reading → List ℕ → Result Reading WorldFaultKind → Type 0
AfterContent r text said = MatchBool (is_ignored text) (said ≡ Ok r) (AfterForm r (line_in text) said)

-- after the text of a line
abbrev pub AfterText : Reading → List ℕ → Result Reading WorldFaultKind → Type 0
AfterText r text said = AfterContent r (content text) said

-- what lines of a host are read after: the facts and the moment that were read, and as many runners as there may be
abbrev pub for_host : Reading → Reading
for_host r = record nothing_read { facts = r.facts; runners = Some most_runners; moment = r.moment }

-- ---- The world of a file

-- the lines after one are read, or it is the first faulty one
abbrev pub GoesOn : ℕ → (Reading → Type 0) → Result Reading WorldFault → Result Reading WorldFaultKind → Type 0
GoesOn number rest said (Ok r) = rest r
GoesOn number rest said (Err kind) = said ≡ Err (record { line = number; kind = kind })

-- after all these lines, of which the first has this number
abbrev pub AfterLines : ℕ → List (List ℕ) → Reading → Result Reading WorldFault → Type 0
AfterLines number [] r said = said ≡ Ok r
AfterLines number (text ∷ texts) r said =
    (next : Result Reading WorldFaultKind) × AfterText r text next × GoesOn number (λ left. AfterLines (number + 1) texts left said) said next

-- the world of all that was read
abbrev pub world_of : Reading → World
world_of r = record { facts = r.facts; rows = (closed r).rows; goals = r.goals; runners = runners_of r; events = r.events }

-- the world of what was read, or the fault
abbrev pub world_after : Result Reading WorldFault → Result World WorldFault
world_after (Ok r) = Ok (world_of r)
world_after (Err fault) = Err fault

-- the fault of a file without its first line
abbrev pub no_header : Result World WorldFault
no_header = Err (record { line = 1; kind = Header })

-- the lines after the header make this world, or have this first fault
pub record LinesMake (texts : List (List ℕ)) (said : Result World WorldFault) : Type 0 where
  pub after : Result Reading WorldFault
  pub lines : AfterLines 2 texts nothing_read after
  pub is : said ≡ world_after after

-- the world of the lines of a file, of which the first is the header
abbrev pub LinesRead : List (List ℕ) → Result World WorldFault → Type 0
LinesRead [] said = said ≡ no_header
LinesRead (first ∷ rest) said = MatchBool (bytes_eq (without_return first) (codes "bt-world 1")) (LinesMake rest said) (said ≡ no_header)

-- the bytes of a file read as this world, or have this first faulty line
abbrev pub ReadsWorld : List ℕ → Result World WorldFault → Type 0
ReadsWorld bytes said = LinesRead (lines_in bytes) said

-- ---- The world of a file that a host goes on from

-- the world of what was read, and what lines of a host are read after
abbrev pub script_after : Result Reading WorldFault → Result (World × Reading) WorldFault
script_after (Ok r) = Ok (world_of r, for_host r)
script_after (Err fault) = Err fault

-- this is read of the lines of a file, of which the first is the header
abbrev pub AllAfter : List (List ℕ) → Result Reading WorldFault → Type 0
AllAfter [] after = after ≡ Err (record { line = 1; kind = Header })
AllAfter (first ∷ rest) after =
    MatchBool (bytes_eq (without_return first) (codes "bt-world 1")) (AfterLines 2 rest nothing_read after) (after ≡ Err (record { line = 1; kind = Header }))

-- the lines of a file read as this world, and lines of a host are read after this; or one is the first faulty line
pub record ScriptReads (texts : List (List ℕ)) (said : Result (World × Reading) WorldFault) : Type 0 where
  pub after : Result Reading WorldFault
  pub lines : AllAfter texts after
  pub is : said ≡ script_after after

-- .. those of these bytes
abbrev pub ReadsScript : List ℕ → Result (World × Reading) WorldFault → Type 0
ReadsScript bytes said = ScriptReads (lines_in bytes) said
