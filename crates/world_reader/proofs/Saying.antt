-- What a call leaves is what the definition says of a line of a row.
use Rattle.std.proofs.Common.{◌≡◌, ℕ, Bool, true, false, ◌||◌, ◌&&◌, ◌==◌, List, map, length, Option, Some, None, Result, Ok, Err, ℤ, refl, sym, ◌∙◌, ap, subst, if◌then◌else◌}
use Rattle.std.specs.Prelude.{codes, nat_abs, nat_eq, nat_le, nat_lt, option_map, option_and_then}
use Rattle.std.specs.List.{list_all, starts_with}
use Rattle.std.specs.Str.Parse.{signed_digits_value}
use Rattle.base_texts.specs.declared.stop.Stop.{Stop}
use Rattle.base_texts.specs.declared.stop.Stop.TheVariants as stop
use Rattle.spec_script.specs.declared.syntax.Expr.{Expr}
use Rattle.spec_world.specs.declared.world.Row.{Row}
use Rattle.spec_world.specs.declared.world.RowSort.{RowSort}
use Rattle.spec_world.specs.declared.world.RowSort.TheVariants.{TimedBy}
use Rattle.spec_world.specs.declared.world.What.{What}
use Rattle.spec_world_file.specs.declared.world_fault.WorldFaultKind.{WorldFaultKind}
use Rattle.spec_world_file.specs.declared.world_fault.WorldFaultKind.TheVariants.{Header, BadLine, Range, DoubleName, NoName, MomentBack, TooMany}
use Rattle.spec_world_file.specs.WorldFile.{Line, EveryLine, Part, TimedLine, TimedByLine, ReplayLine, AfterForm, AfterLine, Reading, following, ends_after, is_ms, is_runner, is_step, runner_in, runners_of, what_in, with_rounds, is_group, number_line, outcomes_in, placed, replay_line, timed_line, told_line, with_action, word, ReadsNumeric, SaysOf, closed, ranged, with_head}
use Rattle.spec_tree.specs.Numbers.{is_canonical, number_in}
use Rattle.spec_world_file.specs.WorldFile as file
use Rattle.world_lines.specs.Ranges.{Passes}
use Rattle.world_draft.specs.Drafts.{DraftSays, row_of}
use Rattle.world_draft.specs.Readings.{Leaves}
use Rattle.world_draft.specs.Rounds.{PartsSay}
use Rattle.world_draft.specs.declared.draft.Draft.{Draft}

pub leaves_map : {A X F : Type 0} (result : Result A (Stop F)) (left : X) (P Q : Result X F → Type 0) → ((said : Result X F) → P said → Q said) → Leaves result left P → Leaves result left Q
leaves_map (Ok a) left P Q h k = h (Ok left) k
leaves_map (Err stop.NoMemory) left P Q h k = k
leaves_map (Err (stop.Fault f)) left P Q h k = h (Err f) k

-- what is said of an expression that was read
pub says_some : (text : List ℕ) (e : Expr) (rule : Expr → Result Reading WorldFaultKind) (said : Result Reading WorldFaultKind) → ReadsNumeric text (Some e) → said ≡ rule e → SaysOf text rule said
says_some text e rule said reads is = record { expr = Some e; reads = reads; is = is }

-- what is said of a head that was read
pub of_head : {A : Type 0} (r left : Reading) (line : file.Head → Option Line) (head : file.Head) (word : List ℕ) (result : Result A (Stop WorldFaultKind)) → Some head ≡ file.head_in word → Leaves result left (AfterForm r (line head)) → Leaves result left (AfterForm r (option_and_then line (file.head_in word)))
of_head r left line head word result is h = subst (λ (o : Option file.Head). Leaves result left (AfterForm r (option_and_then line o))) is h

-- what is said of a head that was read, in a line that the head alone makes
pub of_mapped : {A : Type 0} (r left : Reading) (line : file.Head → Line) (head : file.Head) (word : List ℕ) (result : Result A (Stop WorldFaultKind)) → Some head ≡ file.head_in word → Leaves result left (AfterForm r (Some (line head))) → Leaves result left (AfterForm r (option_map line (file.head_in word)))
of_mapped r left line head word result is h = subst (λ (o : Option file.Head). Leaves result left (AfterForm r (option_map line o))) is h

-- what is added is what is said of the head
pub adds : {A : Type 0} (result : Result A (Stop WorldFaultKind)) (left now : Reading) (head : file.Head) (sort : RowSort) (add : Row → Reading → Result Reading WorldFaultKind) (d : Draft) (row : Row) → DraftSays (Ok d) head sort now → row ≡ row_of d → Leaves result left (λ said. said ≡ add row now) → Leaves result left (λ said. said ≡ with_head head add sort now)
adds result left now head sort add d row h is = leaves_map result left (λ said. said ≡ add row now) (λ said. said ≡ with_head head add sort now) (λ said k. k ∙ ap (λ (w : Row). add w now) is ∙ sym (h.1 add))

-- and so is its fault
pub refuses : (s : Stop WorldFaultKind) (left now : Reading) (head : file.Head) (sort : RowSort) (add : Row → Reading → Result Reading WorldFaultKind) → DraftSays (Err s) head sort now → Leaves {A = Unit {0}} (Err s) left (λ said. said ≡ with_head head add sort now)
refuses stop.NoMemory left now head sort add h = tt
refuses (stop.Fault kind) left now head sort add h = sym (h add)

-- a row that answers by an expression
pub says_head :
    {A : Type 0} (result : Result A (Stop WorldFaultKind)) (left r now : Reading) (text : List ℕ) (e : Expr) (head : file.Head) (add : Row → Reading → Result Reading WorldFaultKind) (sort : Expr → RowSort) →
    now ≡ closed r → ReadsNumeric text (Some e) → Leaves result left (λ said. said ≡ with_head head add (sort e) now) → Leaves result left (SaysOf text (λ x. with_head head add (sort x) (closed r)))
says_head result left r now text e head add sort is reads =
    leaves_map result left (λ said. said ≡ with_head head add (sort e) now) (SaysOf text (λ x. with_head head add (sort x) (closed r)))
    (λ said k. says_some text e (λ x. with_head head add (sort x) (closed r)) said reads (k ∙ ap (λ (q : Reading). with_head head add (sort e) q) is))

placed_is : (t : Bool) (said : Result Reading WorldFaultKind) → t ≡ true → said ≡ placed t said
placed_is true said h = refl
placed_is false said h = absurd (cc)

-- a row whose length is an expression
abbrev pub length_said : (r : Reading) (head : file.Head) → Expr → Result Reading WorldFaultKind
length_said r head e = placed (is_group e) (with_head head with_action (TimedBy e None) (closed r))

pub says_length :
    {A : Type 0} (result : Result A (Stop WorldFaultKind)) (left r now : Reading) (text : List ℕ) (e : Expr) (head : file.Head) →
    is_group e ≡ true → now ≡ closed r → ReadsNumeric text (Some e) → Leaves result left (λ said. said ≡ with_head head with_action (TimedBy e None) now) → Leaves result left (SaysOf text (length_said r head))
says_length result left r now text e head group is reads =
    leaves_map result left (λ said. said ≡ with_head head with_action (TimedBy e None) now) (SaysOf text (length_said r head))
    (λ said k. says_some text e (length_said r head) said reads
    (k ∙ ap (λ (q : Reading). with_head head with_action (TimedBy e None) q) is ∙ placed_is (is_group e) (with_head head with_action (TimedBy e None) (closed r)) group))

-- .. and is not in parentheses
pub says_bare : (r : Reading) (text : List ℕ) (e : Expr) (head : file.Head) → is_group e ≡ false → ReadsNumeric text (Some e) → SaysOf text (length_said r head) (Err BadLine)
says_bare r text e head bare reads =
    says_some text e (length_said r head) (Err BadLine) reads (ap (λ (t : Bool). placed t (with_head head with_action (TimedBy e None) (closed r))) (sym bare))

-- the line of an action that begins with a parenthesis, and of any other
pub timed_by_is : (text : List ℕ) (o : Option file.Head) → starts_with nat_eq text (codes "(") ≡ true → option_map (λ head. TimedByLine head text) o ≡ option_and_then (timed_line text) o
timed_by_is text None opens = refl
timed_by_is text (Some head) opens = ap (λ (t : Bool). if t then Some (TimedByLine head text) else number_line (TimedLine head) text) (sym opens)

pub timed_ms_is : (text : List ℕ) (o : Option file.Head) → starts_with nat_eq text (codes "(") ≡ false → option_and_then (λ head. number_line (TimedLine head) text) o ≡ option_and_then (timed_line text) o
timed_ms_is text None other = refl
timed_ms_is text (Some head) other = ap (λ (t : Bool). if t then Some (TimedByLine head text) else number_line (TimedLine head) text) (sym other)

ranged_is : (t : Bool) (said : Result Reading WorldFaultKind) → t ≡ true → said ≡ ranged t said
ranged_is true said h = refl
ranged_is false said h = absurd (cc)

number_is : (w text : List ℕ) → w ≡ word 0 text → is_canonical w ≡ true → number_in (word 0 text) ≡ Some (signed_digits_value 10 w)
number_is w text is canonical = ap number_in (sym is) ∙ ap (λ (t : Bool). if t then Some (signed_digits_value 10 w) else None) canonical

-- a row that lasts
pub lasts :
    {A : Type 0} (result : Result A (Stop WorldFaultKind)) (left r now : Reading) (line : Option Line) (z : ℤ) (ms : ℕ) (head : file.Head) (sort : ℕ → RowSort) (form : ℤ → Line) →
    ((x : ℤ) (said : Result Reading WorldFaultKind) → said ≡ ranged (is_ms x) (with_head head with_action (sort (nat_abs x)) (closed r)) → AfterLine r (form x) said) →
    now ≡ closed r → line ≡ Some (form z) → Passes is_ms nat_abs z (Some ms) → Leaves result left (λ said. said ≡ with_head head with_action (sort ms) now) → Leaves result left (AfterForm r line)
lasts result left r now line z ms head sort form after is said_line passes =
    leaves_map result left (λ said. said ≡ with_head head with_action (sort ms) now) (AfterForm r line)
    (λ said k. subst (λ (o : Option Line). AfterForm r o said) (sym said_line)
    (after z said (k ∙ ap (λ (n : ℕ). with_head head with_action (sort n) now) passes.1 ∙ ap (λ (q : Reading). with_head head with_action (sort (nat_abs z)) q) is ∙ ranged_is (is_ms z) (with_head head with_action (sort (nat_abs z)) (closed r)) passes.0)))

ends_is : (text rest : List ℕ) (n : ℕ) → rest ≡ following n text → (length rest == 0) ≡ true → ends_after n text ≡ true
ends_is text rest n is h = ap (λ (bs : List ℕ). length bs == 0) (sym is) ∙ h

pub timed_is : (text w rest : List ℕ) (head : file.Head) → w ≡ word 0 text → rest ≡ following 1 text → (length rest == 0) ≡ true → is_canonical w ≡ true → number_line (TimedLine head) text ≡ Some (TimedLine head (signed_digits_value 10 w))
timed_is text w rest head is is_rest none canonical =
    ap (λ (t : Bool). if t then option_map (TimedLine head) (number_in (word 0 text)) else None) (ends_is text rest 1 is_rest none)
    ∙ ap (option_map (TimedLine head)) (number_is w text is canonical)

pub replay_is :
    (text w letters rest : List ℕ) (head : file.Head) → w ≡ word 0 text → letters ≡ word 1 text → rest ≡ following 2 text → (length rest == 0) ≡ true → is_canonical w ≡ true →
    (nat_lt 0 (length letters) && nat_le (length letters) 64 && list_all (λ b. b == 83 || b == 70) letters) ≡ true →
    replay_line text head ≡ Some (ReplayLine head (signed_digits_value 10 w) (map (λ b. b == 83) letters))
replay_is text w letters rest head is is_letters is_rest none canonical all =
    ap (λ (t : Bool). if t then option_and_then (λ ms. option_map (ReplayLine head ms) (outcomes_in (word 1 text))) (number_in (word 0 text)) else None) (ends_is text rest 2 is_rest none)
    ∙ ap (option_and_then (λ ms. option_map (ReplayLine head ms) (outcomes_in (word 1 text)))) (number_is w text is canonical)
    ∙ ap (option_map (ReplayLine head (signed_digits_value 10 w))) (ap outcomes_in (sym is_letters) ∙ ap (λ (t : Bool). if t then Some (map (λ b. b == 83) letters) else None) all)

-- a row of which a line says nothing more
pub nothing_more :
    {A : Type 0} (result : Result A (Stop WorldFaultKind)) (left r now : Reading) (line : file.Head → Line) (head : file.Head) (row text : List ℕ) (add : Row → Reading → Result Reading WorldFaultKind) (sort : RowSort) →
    ((said : Result Reading WorldFaultKind) → said ≡ with_head head add sort (closed r) → AfterLine r (line head) said) →
    now ≡ closed r → Some head ≡ file.head_in row → (length text == 0) ≡ true → Leaves result left (λ said. said ≡ with_head head add sort now) → Leaves result left (AfterForm r (told_line line row text))
nothing_more result left r now line head row text add sort after is is_head none =
    let said_line : told_line line row text ≡ Some (line head) =
    ap (λ (t : Bool). if t then option_map line (file.head_in row) else None) none ∙ ap (option_map line) (sym is_head) in
    leaves_map result left (λ said. said ≡ with_head head add sort now) (AfterForm r (told_line line row text))
    (λ said k. subst (λ (o : Option Line). AfterForm r o said) (sym said_line) (after said (k ∙ ap (λ (q : Reading). with_head head add sort q) is)))

-- rounds whose numbers and runners are in their ranges
pub rounds_said :
    {A : Type 0} (result : Result A (Stop WorldFaultKind)) (left r now : Reading) (ms last : ℤ) (time end : ℕ) (written : List Part) (whats : List What) →
    now ≡ closed r → Passes is_step nat_abs ms (Some time) → Passes is_ms nat_abs last (Some end) →
    list_all (λ part. is_runner (runners_of r) (runner_in part)) written ≡ true → whats ≡ map what_in written →
    Leaves result left (λ said. said ≡ with_rounds end time whats now) → Leaves result left (AfterLine r (EveryLine ms last written))
rounds_said result left r now ms last time end written whats is step ended within whats_are =
    let there : Bool = list_all (λ part. is_runner (runners_of r) (runner_in part)) written in
    let all : (is_step ms && is_ms last && there) ≡ true =
    ap (λ (b : Bool). b && is_ms last && there) step.0 ∙ ap (λ (b : Bool). true && b && there) ended.0 ∙ within in
    leaves_map result left (λ said. said ≡ with_rounds end time whats now) (AfterLine r (EveryLine ms last written))
    (λ said k.
    k ∙ ap (λ (n : ℕ). with_rounds n time whats now) ended.1 ∙ ap (λ (n : ℕ). with_rounds (nat_abs last) n whats now) step.1
    ∙ ap (λ (ws : List What). with_rounds (nat_abs last) (nat_abs ms) ws now) whats_are
    ∙ ap (λ (q : Reading). with_rounds (nat_abs last) (nat_abs ms) (map what_in written) q) is
    ∙ ranged_is (is_step ms && is_ms last && there) (with_rounds (nat_abs last) (nat_abs ms) (map what_in written) (closed r)) all)

never_both : (b : Bool) → (b && false) ≡ false
never_both true = refl
never_both false = refl

-- .. of which a runner is not there
pub rounds_refused : (s : Stop WorldFaultKind) (left r : Reading) (ms last : ℤ) (written : List Part) → PartsSay (Err s) written (runners_of r) →
    Leaves {A = Unit {0}} (Err s) left (AfterLine r (EveryLine ms last written))
rounds_refused stop.NoMemory left r ms last written h = tt
rounds_refused (stop.Fault Range) left r ms last written h =
    let said : Result Reading WorldFaultKind = with_rounds (nat_abs last) (nat_abs ms) (map what_in written) (closed r) in
    sym (ap (λ (b : Bool). ranged (is_step ms && is_ms last && b) said) h ∙ ap (λ (b : Bool). ranged b said) (never_both (is_step ms && is_ms last)))
rounds_refused (stop.Fault Header) left r ms last written h = absurd h
rounds_refused (stop.Fault BadLine) left r ms last written h = absurd h
rounds_refused (stop.Fault DoubleName) left r ms last written h = absurd h
rounds_refused (stop.Fault NoName) left r ms last written h = absurd h
rounds_refused (stop.Fault MomentBack) left r ms last written h = absurd h
rounds_refused (stop.Fault TooMany) left r ms last written h = absurd h
