-- What the lines of a host ask, by the lines of a world script.
use Rattle.std.proofs.Common.{◌≡◌, ◌∙◌, ◌+◌, ◌≤◌, ℕ, nat_eq, Bool, true, false, ◌&&◌, ◌||◌, cond, if◌then◌else◌, List, [], ◌∷◌, ◌++◌, length, take, MatchBool, Option, Some, None, Result, Ok, Err, refl, sym, ap, subst, arith, length-append}
use Rattle.std.specs.Prelude.{ℤ, codes, nat_abs, nat_le, nat_lt, not, option_and_then, option_map, suc}
use Rattle.std.specs.List.{list_all, list_any, prefix_len, starts_with}
use Rattle.std.specs.Str.{bytes_eq}
use Rattle.std.proofs.lemmas.Bool.Decides.{nat_tests}
use Rattle.std.proofs.lemmas.Slice.Eq.{bytes_eq-Decides}
use Rattle.cli_serve.specs.Asking.{is_request_word}
use Rattle.spec_serve.specs.declared.request.Request.{Request}
use Rattle.spec_serve.specs.declared.request.Request.TheVariants.{At, Finish, Make}
use Rattle.spec_serve.specs.Requests.{Asks, RequestReads, asked, is_request, request_line, request_of}
use Rattle.spec_world.specs.declared.world.Event.{Event}
use Rattle.spec_world.specs.declared.world.ToldOut.{ToldOut}
use Rattle.spec_tree.specs.Limits.{most_events, most_outputs}
use Rattle.spec_tree.specs.Numbers.{is_int, number_in}
use Rattle.spec_world.specs.declared.world.What.{What}
use Rattle.spec_world.specs.declared.world.What.TheVariants.{Change, Halt, Tell, Tick}
use Rattle.spec_world.specs.Worlds.{is_name, ports_told}
use Rattle.spec_world_file.specs.declared.world_fault.WorldFaultKind.{WorldFaultKind}
use Rattle.spec_world_file.specs.declared.world_fault.WorldFaultKind.TheVariants.{BadLine, DoubleName, MomentBack, TooMany}
use Rattle.spec_world_file.specs.WorldFile.{AfterForm, AfterLine, AfterText, AtLine, EveryLine, FactLine, FailsLine, GateLine, GoalLine, HaltLine, Head, IsLine, Line, NameLine, NeedsLine, OutLine, Reading, ReplayLine, RunnersLine, SensedLine, SetLine, SetsLine, TellLine, TickLine, TimedByLine, TimedLine, ToldLine, WhenLine, action_line, by_outs, closed, comparison_in, condition_line, content, ends_after, event_line, every_line, fact_number, following, front_word, head_in, how_in, is_gap, is_ignored, is_line, is_line_byte, is_long, is_ms, is_runner, is_small, is_uid, line_by, line_in, name_line, named_number, number_line, numbered, out_line, outcomes_in, parts_in, ranged, repeats, replay_line, runners_of, sets_line, success_in, tell_line, telling_of, timed_line, told_line, with_event, with_moment, with_telling, word, words_in}

same_bytes : (x y : List ℕ) → bytes_eq x y ≡ true → x ≡ y
same_bytes x y tie = (bytes_eq-Decides x y).0 tie

-- ---- Lines that ask nothing

-- what a line says, if it asks something
abbrev only_asked : Option Line → Option Line
only_asked line = option_and_then (λ l. if is_request l then Some l else None) line

mapped_no : {A : Type 0} (f : A → Line) (x : Option A) → ((a : A) → is_request (f a) ≡ false) → only_asked (option_map f x) ≡ None
mapped_no f None never = refl
mapped_no f (Some a) never = ap (λ (b : Bool). if b then Some (f a) else None) (never a)

then_no : {A : Type 0} (f : A → Option Line) (x : Option A) → ((a : A) → only_asked (f a) ≡ None) → only_asked (option_and_then f x) ≡ None
then_no f None never = refl
then_no f (Some a) never = never a

if_no : (b : Bool) (x y : Option Line) → only_asked x ≡ None → only_asked y ≡ None → only_asked (if b then x else y) ≡ None
if_no true x y p q = p
if_no false x y p q = q

unless_no : (b : Bool) (x y : Option Line) → b ≡ false → only_asked y ≡ None → only_asked (if b then x else y) ≡ None
unless_no true x y p q = absurd cc
unless_no false x y p q = q

no_name : (line : List ℕ → Line) (text : List ℕ) → ((name : List ℕ) → is_request (line name) ≡ false) → only_asked (name_line line text) ≡ None
no_name line text never =
    if_no (is_name (word 0 text) && ends_after 1 text) (Some (line (word 0 text))) None
    (ap (λ (b : Bool). if b then Some (line (word 0 text)) else None) (never (word 0 text))) refl

no_number : (line : ℤ → Line) (text : List ℕ) → ((n : ℤ) → is_request (line n) ≡ false) → only_asked (number_line line text) ≡ None
no_number line text never = if_no (ends_after 1 text) (option_map line (number_in (word 0 text))) None (mapped_no line (number_in (word 0 text)) never) refl

no_fact : (text : List ℕ) → only_asked (named_number FactLine text) ≡ None
no_fact text =
    if_no (is_name (word 0 text) && ends_after 2 text) (option_map (FactLine (word 0 text)) (number_in (word 1 text))) None
    (mapped_no (FactLine (word 0 text)) (number_in (word 1 text)) (λ n. refl)) refl

no_told : (line : Head → Line) (row text : List ℕ) → ((head : Head) → is_request (line head) ≡ false) → only_asked (told_line line row text) ≡ None
no_told line row text never = if_no (nat_eq (length text) 0) (option_map line (head_in row)) None (mapped_no line (head_in row) never) refl

no_is : (id text : List ℕ) → only_asked (is_line id text) ≡ None
no_is id text =
    if_no (is_name id && is_name (word 0 text) && ends_after 3 text)
    (option_and_then (λ op. option_map (IsLine id (word 0 text) op) (number_in (word 2 text))) (comparison_in (word 1 text))) None
    (then_no (λ op. option_map (IsLine id (word 0 text) op) (number_in (word 2 text))) (comparison_in (word 1 text))
    (λ op. mapped_no (IsLine id (word 0 text) op) (number_in (word 2 text)) (λ n. refl))) refl

no_condition : (text : List ℕ) → only_asked (condition_line text) ≡ None
no_condition text =
    if_no (bytes_eq (word 1 text) (codes "is")) (is_line (word 0 text) (following 2 text)) _ (no_is (word 0 text) (following 2 text))
    (if_no (bytes_eq (word 1 text) (codes "when")) (option_map (λ head. WhenLine head (following 2 text)) (head_in (word 0 text))) _
    (mapped_no (λ head. WhenLine head (following 2 text)) (head_in (word 0 text)) (λ head. refl))
    (if_no (bytes_eq (word 1 text) (codes "told")) (told_line SensedLine (word 0 text) (following 2 text)) None
    (no_told SensedLine (word 0 text) (following 2 text) (λ head. refl)) refl))

no_replay : (text : List ℕ) (head : Head) → only_asked (replay_line text head) ≡ None
no_replay text head =
    if_no (ends_after 2 text) (option_and_then (λ ms. option_map (ReplayLine head ms) (outcomes_in (word 1 text))) (number_in (word 0 text))) None
    (then_no (λ ms. option_map (ReplayLine head ms) (outcomes_in (word 1 text))) (number_in (word 0 text))
    (λ ms. mapped_no (ReplayLine head ms) (outcomes_in (word 1 text)) (λ outcomes. refl))) refl

no_timed : (text : List ℕ) (head : Head) → only_asked (timed_line text head) ≡ None
no_timed text head =
    if_no (starts_with nat_eq text (codes "(")) (Some (TimedByLine head text)) (number_line (TimedLine head) text) refl (no_number (TimedLine head) text (λ n. refl))

no_action : (text : List ℕ) → only_asked (action_line text) ≡ None
no_action text =
    if_no (bytes_eq (word 1 text) (codes "timed")) (option_and_then (timed_line (following 2 text)) (head_in (word 0 text))) _
    (then_no (timed_line (following 2 text)) (head_in (word 0 text)) (λ head. no_timed (following 2 text) head))
    (if_no (bytes_eq (word 1 text) (codes "replay")) (option_and_then (replay_line (following 2 text)) (head_in (word 0 text))) _
    (then_no (replay_line (following 2 text)) (head_in (word 0 text)) (no_replay (following 2 text)))
    (if_no (bytes_eq (word 1 text) (codes "gate")) (option_map (λ head. GateLine head (following 2 text)) (head_in (word 0 text))) _
    (mapped_no (λ head. GateLine head (following 2 text)) (head_in (word 0 text)) (λ head. refl))
    (if_no (bytes_eq (word 1 text) (codes "told")) (told_line ToldLine (word 0 text) (following 2 text)) None
    (no_told ToldLine (word 0 text) (following 2 text) (λ head. refl)) refl)))

no_sets : (text : List ℕ) → only_asked (sets_line text) ≡ None
no_sets text =
    if_no (is_name (word 0 text) && ends_after 3 text)
    (option_and_then (λ how. option_map (SetsLine (word 0 text) how) (number_in (word 2 text))) (how_in (word 1 text))) None
    (then_no (λ how. option_map (SetsLine (word 0 text) how) (number_in (word 2 text))) (how_in (word 1 text))
    (λ how. mapped_no (SetsLine (word 0 text) how) (number_in (word 2 text)) (λ n. refl))) refl

no_out : (text : List ℕ) → only_asked (out_line text) ≡ None
no_out text =
    if_no (is_name (word 0 text) && bytes_eq (word 1 text) (codes "=")) (Some (OutLine (word 0 text) (following 2 text))) (name_line NameLine text)
    refl (no_name NameLine text (λ name. refl))

no_every : (text : List ℕ) → only_asked (every_line text) ≡ None
no_every text =
    if_no (bytes_eq (word 1 text) (codes "until") && not (ends_after 3 text))
    (option_and_then (λ ms. option_and_then (λ last. option_map (EveryLine ms last) (parts_in (words_in (following 3 text)))) (number_in (word 2 text))) (number_in (word 0 text))) None
    (then_no (λ ms. option_and_then (λ last. option_map (EveryLine ms last) (parts_in (words_in (following 3 text)))) (number_in (word 2 text))) (number_in (word 0 text))
    (λ ms. then_no (λ last. option_map (EveryLine ms last) (parts_in (words_in (following 3 text)))) (number_in (word 2 text))
    (λ last. mapped_no (EveryLine ms last) (parts_in (words_in (following 3 text))) (λ parts. refl)))) refl

neither : (a b : Bool) → (a || b) ≡ false → (a ≡ false) × (b ≡ false)
neither true b h = absurd cc
neither false b h = (refl, h)

no_event : (kind text : List ℕ) → is_request_word kind ≡ false → only_asked (event_line kind text) ≡ None
no_event kind text never =
    let at : Bool = bytes_eq kind (codes "at") in
    let tick : Bool = bytes_eq kind (codes "tick") in
    let halt : Bool = bytes_eq kind (codes "halt") in
    let set : Bool = bytes_eq kind (codes "set") in
    let tell : Bool = bytes_eq kind (codes "tell") in
    let a = neither (at || tick || halt || set) tell never in
    let b = neither (at || tick || halt) set a.0 in
    let c = neither (at || tick) halt b.0 in
    let d = neither at tick c.0 in
    if_no (bytes_eq kind (codes "goal")) (name_line GoalLine text) _ (no_name GoalLine text (λ name. refl))
    (if_no (bytes_eq kind (codes "runners")) (number_line RunnersLine text) _ (no_number RunnersLine text (λ n. refl))
    (unless_no at (number_line AtLine text) _ d.0
    (unless_no tick (number_line TickLine text) _ d.1
    (unless_no halt (number_line HaltLine text) _ c.1
    (unless_no set (named_number SetLine text) _ b.1
    (unless_no tell (tell_line text) _ a.1
    (if_no (bytes_eq kind (codes "every")) (every_line text) None (no_every text) refl)))))))

no_line : (kind text : List ℕ) → is_request_word kind ≡ false → only_asked (line_by kind text) ≡ None
no_line kind text never =
    if_no (bytes_eq kind (codes "fact")) (named_number FactLine text) _ (no_fact text)
    (if_no (bytes_eq kind (codes "condition")) (condition_line text) _ (no_condition text)
    (if_no (bytes_eq kind (codes "action")) (action_line text) _ (no_action text)
    (if_no (bytes_eq kind (codes "fails")) (Some (FailsLine text)) _ refl
    (if_no (bytes_eq kind (codes "needs")) (name_line NeedsLine text) _ (no_name NeedsLine text (λ name. refl))
    (if_no (bytes_eq kind (codes "sets")) (sets_line text) _ (no_sets text)
    (if_no (bytes_eq kind (codes "out")) (out_line text) (event_line kind text) (no_out text) (no_event kind text never)))))))

unasked_line : (text : List ℕ) → is_request_word (word 0 text) ≡ false → request_line text ≡ None
unasked_line text never = if_no (list_all is_line_byte text) (line_by (word 0 text) (following 1 text)) None (no_line (word 0 text) (following 1 text) never) refl

-- a line that begins with no word of a request asks nothing
pub no_request : (r : Reading) (text : List ℕ) → bytes_eq (content text) (codes "finish") ≡ false → is_request_word (front_word (content text)) ≡ false →
    RequestReads r text (Err BadLine)
no_request r text unfinished never =
    let bad : Result (Request × Reading) WorldFaultKind = Err BadLine in
    subst (λ (b : Bool). MatchBool b (bad ≡ Ok (Finish, r)) (Asks r (content text) bad)) (sym unfinished)
    (record {
      said = Err BadLine;
      after = subst (λ (line : Option Line). AfterForm r line (Err BadLine)) (sym (unasked_line (content text) never)) refl;
      is = refl;
    })

-- ---- Lines that ask something

-- all that a line says is asked
abbrev AllAsked : Option Line → Type 0
AllAsked line = only_asked line ≡ line

mapped_all : {A : Type 0} (f : A → Line) (x : Option A) → ((a : A) → is_request (f a) ≡ true) → AllAsked (option_map f x)
mapped_all f None all = refl
mapped_all f (Some a) all = ap (λ (b : Bool). if b then Some (f a) else None) (all a)

then_all : {A : Type 0} (f : A → Option Line) (x : Option A) → ((a : A) → AllAsked (f a)) → AllAsked (option_and_then f x)
then_all f None all = refl
then_all f (Some a) all = all a

if_all : (b : Bool) (x y : Option Line) → AllAsked x → AllAsked y → AllAsked (if b then x else y)
if_all true x y p q = p
if_all false x y p q = q

all_number : (line : ℤ → Line) (text : List ℕ) → ((n : ℤ) → is_request (line n) ≡ true) → AllAsked (number_line line text)
all_number line text all = if_all (ends_after 1 text) (option_map line (number_in (word 0 text))) None (mapped_all line (number_in (word 0 text)) all) refl

all_set : (text : List ℕ) → AllAsked (named_number SetLine text)
all_set text =
    if_all (is_name (word 0 text) && ends_after 2 text) (option_map (SetLine (word 0 text)) (number_in (word 1 text))) None
    (mapped_all (SetLine (word 0 text)) (number_in (word 1 text)) (λ n. refl)) refl

all_told : (runner uid : ℤ) (succeeds : Bool) (text : List ℕ) →
    AllAsked (if succeeds || ends_after 3 text then Some (TellLine runner uid succeeds (following 3 text)) else None)
all_told runner uid succeeds text = if_all (succeeds || ends_after 3 text) (Some (TellLine runner uid succeeds (following 3 text))) None refl refl

all_tell : (text : List ℕ) → AllAsked (tell_line text)
all_tell text =
    then_all (λ runner. option_and_then (λ uid. option_and_then (λ succeeds.
    if succeeds || ends_after 3 text then Some (TellLine runner uid succeeds (following 3 text)) else None)
    (success_in (word 2 text))) (number_in (word 1 text))) (number_in (word 0 text))
    (λ runner. then_all (λ uid. option_and_then (λ succeeds.
    if succeeds || ends_after 3 text then Some (TellLine runner uid succeeds (following 3 text)) else None)
    (success_in (word 2 text))) (number_in (word 1 text))
    (λ uid. then_all (λ succeeds. if succeeds || ends_after 3 text then Some (TellLine runner uid succeeds (following 3 text)) else None)
    (success_in (word 2 text)) (λ succeeds. all_told runner uid succeeds text)))

-- the words of requests, one by one
by_word : {P : Type 0} (a b c d e : Bool) → (a || b || c || d || e) ≡ true →
    (a ≡ true → P) → (b ≡ true → P) → (c ≡ true → P) → (d ≡ true → P) → (e ≡ true → P) → P
by_word true b c d e h p q r s t = p refl
by_word false true c d e h p q r s t = q refl
by_word false false true d e h p q r s t = r refl
by_word false false false true e h p q r s t = s refl
by_word false false false false true h p q r s t = t refl
by_word false false false false false h p q r s t = absurd cc

-- what is known of a word that begins the line of a request
record Begins (kind : List ℕ) : Type 0 where
  asks : (text : List ℕ) → AllAsked (line_by kind text)
  first : ℕ
  others : List ℕ
  is : kind ≡ first ∷ others
  kept : (rest : List ℕ) → is_ignored (first ∷ rest) ≡ false

unmarked : (n : ℕ) → (nat_eq (suc n) 0 || false) ≡ false
unmarked n = let apart : nat_eq (suc n) 0 ≡ false = grind (arith, nat_tests) in ap (λ (b : Bool). b || false) apart

begins_same : (kind other : List ℕ) → bytes_eq kind other ≡ true → Begins other → Begins kind
begins_same kind other tie b = subst Begins (sym (same_bytes kind other tie)) b

begins : (kind : List ℕ) → is_request_word kind ≡ true → Begins kind
begins kind is_asked =
    by_word (bytes_eq kind (codes "at")) (bytes_eq kind (codes "tick")) (bytes_eq kind (codes "halt")) (bytes_eq kind (codes "set")) (bytes_eq kind (codes "tell")) is_asked
    (λ tie. begins_same kind (codes "at") tie
    (record { asks = λ text. all_number AtLine text (λ n. refl); first = 97; others = codes "t"; is = refl; kept = λ rest. unmarked (length rest) }))
    (λ tie. begins_same kind (codes "tick") tie
    (record { asks = λ text. all_number TickLine text (λ n. refl); first = 116; others = codes "ick"; is = refl; kept = λ rest. unmarked (length rest) }))
    (λ tie. begins_same kind (codes "halt") tie
    (record { asks = λ text. all_number HaltLine text (λ n. refl); first = 104; others = codes "alt"; is = refl; kept = λ rest. unmarked (length rest) }))
    (λ tie. begins_same kind (codes "set") tie
    (record { asks = all_set; first = 115; others = codes "et"; is = refl; kept = λ rest. unmarked (length rest) }))
    (λ tie. begins_same kind (codes "tell") tie
    (record { asks = all_tell; first = 116; others = codes "ell"; is = refl; kept = λ rest. unmarked (length rest) }))

asked_line : (text : List ℕ) → is_request_word (word 0 text) ≡ true → request_line text ≡ line_in text
asked_line text is_asked = if_all (list_all is_line_byte text) (line_by (word 0 text) (following 1 text)) None ((begins (word 0 text) is_asked).asks (following 1 text)) refl

-- the first byte of a word is that of the text
first_of_word : (apart : Bool) (x n : ℕ) (xs : List ℕ) (first : ℕ) (others : List ℕ) →
    take (cond apart (1 + n) 0) (x ∷ xs) ≡ first ∷ others → x ≡ first
first_of_word true x n xs first others h =
    let next : suc n ≡ 1 + n = omega arith in
    let heads : x ∷ take n xs ≡ first ∷ others = ap (λ (k : ℕ). take k (x ∷ xs)) next ∙ h in
    cc
first_of_word false x n xs first others h = absurd cc

-- a text with such a word at its front is not ignored
kept_line : (text : List ℕ) (first : ℕ) (others : List ℕ) → front_word text ≡ first ∷ others → ((rest : List ℕ) → is_ignored (first ∷ rest) ≡ false) →
    is_ignored text ≡ false
kept_line [] first others front kept = absurd cc
kept_line (x ∷ xs) first others front kept =
    let same : x ≡ first = first_of_word (not (is_gap x)) x (prefix_len (λ b. not (is_gap b)) xs) xs first others front in
    subst (λ (b : ℕ). is_ignored (b ∷ xs) ≡ false) (sym same) (kept xs)

-- what the text of a line leaves, by what is asked
after_request : (r : Reading) (text : List ℕ) (said : Result Reading WorldFaultKind) → is_request_word (front_word (content text)) ≡ true →
    AfterText r text said → AfterForm r (request_line (content text)) said
after_request r text said is_asked after =
    let b = begins (front_word (content text)) is_asked in
    let kept : is_ignored (content text) ≡ false = kept_line (content text) b.first b.others b.is b.kept in
    let form : AfterForm r (line_in (content text)) said =
    subst (λ (ignored : Bool). MatchBool ignored (said ≡ Ok r) (AfterForm r (line_in (content text)) said)) kept after in
    subst (λ (line : Option Line). AfterForm r line said) (sym (asked_line (content text) is_asked)) form

-- what is said to the text of a line that asks something
pub request_reads : (r : Reading) (text : List ℕ) (said : Result Reading WorldFaultKind) (asks : Result (Request × Reading) WorldFaultKind) →
    bytes_eq (content text) (codes "finish") ≡ false → is_request_word (front_word (content text)) ≡ true → AfterText r text said → asks ≡ asked said →
    RequestReads r text asks
request_reads r text said asks unfinished is_asked after is =
    subst (λ (b : Bool). MatchBool b (asks ≡ Ok (Finish, r)) (Asks r (content text) asks)) (sym unfinished)
    (record { said = said; after = after_request r text said is_asked after; is = is })

pub finish_reads : (r : Reading) (text : List ℕ) → bytes_eq (content text) (codes "finish") ≡ true → RequestReads r text (Ok (Finish, r))
finish_reads r text finished =
    let done : Result (Request × Reading) WorldFaultKind = Ok (Finish, r) in
    subst (λ (b : Bool). MatchBool b (done ≡ Ok (Finish, r)) (Asks r (content text) done)) (sym finished) refl

-- ---- The event that a line adds

-- at most one event
abbrev HasFew : Result Reading WorldFaultKind → Type 0
HasFew (Ok r) = length r.events ≤ 1
HasFew (Err kind) = Unit {0}

few_ranged : (b : Bool) (said : Result Reading WorldFaultKind) → HasFew said → HasFew (ranged b said)
few_ranged true said few = few
few_ranged false said few = tt

few_if : (b : Bool) (x y : Result Reading WorldFaultKind) → HasFew x → HasFew y → HasFew (if b then x else y)
few_if true x y p q = p
few_if false x y p q = q

few_numbered : (n : Option ℕ) (said : ℕ → Result Reading WorldFaultKind) → ((k : ℕ) → HasFew (said k)) → HasFew (numbered n said)
few_numbered None said few = tt
few_numbered (Some k) said few = few k

one_event : (events : List Event) (event : Event) → events ≡ [] → length (events ++ event ∷ []) ≤ 1
one_event events event none = subst (λ (es : List Event). length (es ++ event ∷ []) ≤ 1) (sym none) (omega arith)

few_event : (what : What) (r : Reading) → r.events ≡ [] → HasFew (with_event what r)
few_event what r none =
    few_if (nat_le most_events (length r.events)) (Err TooMany) (Ok (record r { events = r.events ++ record { at = r.moment; what = what } ∷ [] })) tt
    (one_event r.events (record { at = r.moment; what = what }) none)

few_none : (events : List Event) → events ≡ [] → length events ≤ 1
few_none events none = subst (λ (es : List Event). length es ≤ 1) (sym none) (omega arith)

few_moment : (ms : ℕ) (r : Reading) → r.events ≡ [] → HasFew (with_moment ms r)
few_moment ms r none = few_if (nat_lt ms r.moment) (Err MomentBack) (Ok (record r { moment = ms })) tt (few_none r.events none)

few_telling : (outs : List ToldOut) (said : Result Reading WorldFaultKind) → HasFew said → HasFew (with_telling outs said)
few_telling outs said few =
    few_if (repeats [] (ports_told outs)) (Err DoubleName) (if nat_lt most_outputs (length outs) || list_any (λ out. is_long out.value) outs then Err TooMany else said) tt
    (few_if (nat_lt most_outputs (length outs) || list_any (λ out. is_long out.value) outs) (Err TooMany) said tt few)

few_outs : (outs : Option (List ToldOut)) (said : List ToldOut → Result Reading WorldFaultKind) → ((told : List ToldOut) → HasFew (said told)) → HasFew (by_outs outs said)
few_outs None said few = tt
few_outs (Some told) said few = few told

few_asked : (r : Reading) (line : Line) (said : Result Reading WorldFaultKind) → is_request line ≡ true → r.events ≡ [] → AfterLine r line said → HasFew said
few_asked r (AtLine ms) said is_asked none after =
    subst HasFew (sym after) (few_ranged (is_ms ms) (with_moment (nat_abs ms) (closed r)) (few_moment (nat_abs ms) (closed r) none))
few_asked r (TickLine runner) said is_asked none after =
    subst HasFew (sym after) (few_ranged (is_runner (runners_of r) runner) (with_event (Tick (nat_abs runner)) (closed r)) (few_event (Tick (nat_abs runner)) (closed r) none))
few_asked r (HaltLine runner) said is_asked none after =
    subst HasFew (sym after) (few_ranged (is_runner (runners_of r) runner) (with_event (Halt (nat_abs runner)) (closed r)) (few_event (Halt (nat_abs runner)) (closed r) none))
few_asked r (SetLine fact value) said is_asked none after =
    subst HasFew (sym after) (few_ranged (is_int value) (numbered (fact_number r.facts fact) (λ n. with_event (Change n value) (closed r)))
    (few_numbered (fact_number r.facts fact) (λ n. with_event (Change n value) (closed r)) (λ n. few_event (Change n value) (closed r) none)))
few_asked r (TellLine runner uid succeeds outs) said is_asked none after =
    subst HasFew (sym after.is) (few_outs after.outs _ (λ told.
    few_ranged (is_runner (runners_of r) runner && is_uid uid && list_all (λ out. is_small out.value) told) _
    (few_telling told (with_event (Tell (nat_abs runner) (nat_abs uid) (telling_of succeeds told)) (closed r))
    (few_event (Tell (nat_abs runner) (nat_abs uid) (telling_of succeeds told)) (closed r) none))))
few_asked r line said is_asked none after = absurd cc

few_by : (r : Reading) (line : Line) (is_asked : Bool) (said : Result Reading WorldFaultKind) → is_request line ≡ is_asked → r.events ≡ [] →
    AfterForm r (if is_asked then Some line else None) said → HasFew said
few_by r line true said is none after = few_asked r line said is none after
few_by r line false said is none after = subst HasFew (sym after) tt

few_line : (r : Reading) (line : Option Line) (said : Result Reading WorldFaultKind) → r.events ≡ [] → AfterForm r (only_asked line) said → HasFew said
few_line r None said none after = subst HasFew (sym after) tt
few_line r (Some line) said none after = few_by r line (is_request line) said refl none after

-- ---- What is asked

events_taken : (all left : List Event) (event : Event) → length all ≤ 1 → all ≡ left ++ event ∷ [] → (left ≡ []) × (all ≡ event ∷ [])
events_taken all [] event few is = (refl, is)
events_taken all (e ∷ left) event few is =
    absurd (omega (arith, few, ap length is, length-append left (event ∷ [])))

abbrev asks_ok : Request → Reading → Result (Request × Reading) WorldFaultKind
asks_ok request left = Ok (request, left)

-- what is asked by a line that added an event, which was taken
event_is : (after left : Reading) (event : Event) → length after.events ≤ 1 → after.events ≡ left.events ++ event ∷ [] → left ≡ record after { events = left.events } →
    (left.events ≡ []) × (asks_ok (Make event) left ≡ asked (Ok after))
event_is after left event few took kept =
    let t = events_taken after.events left.events event few took in (
      t.0,
      ap (asks_ok (Make event)) (kept ∙ ap (λ (es : List Event). record after { events = es }) t.0)
          ∙ ap (λ (es : List Event). asks_ok (request_of es) (record after { events = [] })) (sym t.1),
    )

moment_is : (after left : Reading) → after.events ≡ [] → left.events ≡ [] → left ≡ record after { events = left.events } → asks_ok At left ≡ asked (Ok after)
moment_is after left old none kept =
    ap (asks_ok At) (kept ∙ ap (λ (es : List Event). record after { events = es }) none)
    ∙ ap (λ (es : List Event). asks_ok (request_of es) (record after { events = [] })) (sym old)

few_after : (r after : Reading) (text : List ℕ) → r.events ≡ [] → is_request_word (front_word (content text)) ≡ true → AfterText r text (Ok after) → length after.events ≤ 1
few_after r after text none is_asked said =
    few_line r (line_in (content text)) (Ok after) none (after_request r text (Ok after) is_asked said)

-- a line that asks for an event
pub event_reads : (r after left : Reading) (text : List ℕ) (event : Event) → r.events ≡ [] →
    bytes_eq (content text) (codes "finish") ≡ false → is_request_word (front_word (content text)) ≡ true → AfterText r text (Ok after) →
    after.events ≡ left.events ++ event ∷ [] → left ≡ record after { events = left.events } →
    (left.events ≡ []) × RequestReads r text (Ok (Make event, left))
event_reads r after left text event none unfinished is_asked said took kept =
    let is = event_is after left event (few_after r after text none is_asked said) took kept in
    (is.0, request_reads r text (Ok after) (Ok (Make event, left)) unfinished is_asked said is.1)

-- .. or tells a moment
pub moment_reads : (r after left : Reading) (text : List ℕ) →
    bytes_eq (content text) (codes "finish") ≡ false → is_request_word (front_word (content text)) ≡ true → AfterText r text (Ok after) →
    after.events ≡ [] → left.events ≡ [] → left ≡ record after { events = left.events } → RequestReads r text (Ok (At, left))
moment_reads r after left text unfinished is_asked said old none kept =
    request_reads r text (Ok after) (Ok (At, left)) unfinished is_asked said (moment_is after left old none kept)

-- .. or is no line of a world script
pub fault_reads : (r : Reading) (text : List ℕ) (kind : WorldFaultKind) →
    bytes_eq (content text) (codes "finish") ≡ false → is_request_word (front_word (content text)) ≡ true → AfterText r text (Err kind) → RequestReads r text (Err kind)
fault_reads r text kind unfinished is_asked said = request_reads r text (Err kind) (Err kind) unfinished is_asked said refl

-- ---- What is known of a line by its tests

pub tested_line : (line text : List ℕ) → line ≡ content text → false ≡ bytes_eq line (codes "finish") → bytes_eq (content text) (codes "finish") ≡ false
tested_line line text is test = subst (λ (z : List ℕ). bytes_eq z (codes "finish") ≡ false) is (sym test)

pub tested_word : (line first text : List ℕ) (b : Bool) → line ≡ content text → first ≡ front_word line → b ≡ is_request_word first →
    is_request_word (front_word (content text)) ≡ b
tested_word line first text b is front test = subst (λ (z : List ℕ). is_request_word z ≡ b) (front ∙ ap front_word is) (sym test)
