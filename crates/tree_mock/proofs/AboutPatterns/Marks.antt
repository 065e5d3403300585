-- How the texts end that a pattern matches, and the marks of ends.
use Rattle.std.proofs.Common.{◌≡◌, ◌≢◌, ◌+◌, ◌-◌, ◌<◌, ◌≤◌, ℕ, List, [], ◌∷◌, ◌++◌, Bool, true, false, nat_eq, length, length-append, length-drop, drop, take, get_or, slice_set, refl, ap, sym, ◌∙◌, append_assoc, arith}
use Rattle.std.proofs.lemmas.Bool.Decides.{nat_tests}
use Rattle.std.proofs.lemmas.Grind.{get_or-set_at}
use Rattle.std.proofs.lemmas.List.{drop_more, get_or-set_other, take-append-drop}
use Rattle.std.specs.Prelude.{if◌then◌else◌}
use Rattle.spec_tree_file.specs.Patterns.{begins, is_star, matches, some_end}
use Rattle.tree_mock.specs.Ends.{AreMarks, IsEnd, last, mark_of, marked}
use Rattle.tree_mock.specs.Patterns.{is_plain}
use Rattle.tree_mock.specs.declared.patterns.ends.End.{End}
use Rattle.tree_mock.proofs.AboutPatterns.Ends.{some_end-found}
use Rattle.tree_mock.proofs.AboutPatterns.Pieces.{append_nothing, ends_so, false_from, nothing_left, passed_first}
use Rattle.tree_mock.proofs.AboutPatterns.Stars.{begun}

-- ---- Ends

-- this is how the text ends
abbrev pub Ended : List ℕ → List ℕ → Type 0
Ended tail text = (before : List ℕ) × (text ≡ before ++ tail)

ended_by : (byte : ℕ) (pattern tail text : List ℕ) (b : Bool) → is_star byte ≡ b → ((rest : List ℕ) → matches pattern rest ≡ true → Ended tail rest)
    → (if b then some_end (matches pattern) text else begins byte (matches pattern) text) ≡ true → Ended tail text
ended_by byte pattern tail text true star inner h =
    let found = some_end-found (matches pattern) text h in
    let below = inner found.0 found.2 in
    (found.1.0 ++ below.0, found.1.1 ∙ ap (λ (t : List ℕ). found.1.0 ++ t) below.1 ∙ sym (append_assoc found.1.0 below.0 tail))
ended_by byte pattern tail text false star inner h =
    let found = begun byte (matches pattern) text h in
    let below = inner found.0 found.2 in
    (byte ∷ below.0, found.1 ∙ ap (λ (t : List ℕ). byte ∷ t) below.1)

ended : (beginning tail text : List ℕ) → is_plain tail ≡ true → matches (beginning ++ tail) text ≡ true → Ended tail text
ended [] tail text p h =
    let found = passed_first tail [] text p (ap (λ (q : List ℕ). matches q text) (append_nothing tail) ∙ h) in
    ([], found.1 ∙ ap (λ (t : List ℕ). tail ++ t) (nothing_left found.0 found.2) ∙ append_nothing tail)
ended (byte ∷ beginning) tail text p h =
    let pattern = beginning ++ tail in
    ended_by byte pattern tail text (is_star byte) refl (λ rest m. ended beginning tail rest p m)
    (sym (ap (λ (b : Bool). if b then some_end (matches pattern) text else begins byte (matches pattern) text) refl) ∙ h)

-- a text that a pattern matches ends as the pattern does after its last star
pub ends_alike : (pattern text : List ℕ) (count : ℕ) → count ≤ length pattern → is_plain (last count pattern) ≡ true → matches pattern text ≡ true
    → (count ≤ length text) × (last count text ≡ last count pattern)
ends_alike pattern text count within p h =
    let start = length pattern - count in
    let tail = last count pattern in
    let whole : take start pattern ++ tail ≡ pattern = take-append-drop start pattern in
    let found = ended (take start pattern) tail text p (ap (λ (q : List ℕ). matches q text) whole ∙ h) in
    let counted : length tail ≡ count = omega (arith, within, length-drop start pattern) in
    let lengths : length text ≡ length found.0 + length tail = ap (λ (t : List ℕ). length t) found.1 ∙ length-append found.0 tail in (
      omega (arith, lengths, counted),
      ap (λ (n : ℕ). last n text) (sym counted) ∙ ap (λ (t : List ℕ). drop (length t - length tail) t) found.1 ∙ ends_so tail found.0,
    )

-- ---- Marks

-- an end with one byte more
last_more : (count : ℕ) (text : List ℕ) → count < length text → last (count + 1) text ≡ get_or text (length text - 1 - count) 0 ∷ last count text
last_more count text less =
    let at : length text - (count + 1) ≡ length text - 1 - count = omega arith in
    let next : (length text - 1 - count) + 1 ≡ length text - count = omega (arith, less) in
    ap (λ (n : ℕ). drop n text) at
    ∙ drop_more text (length text - 1 - count) 0 (omega (arith, less))
    ∙ ap (λ (n : ℕ). get_or text (length text - 1 - count) 0 ∷ drop n text) next

pub mark_more : (count : ℕ) (text : List ℕ) → count < length text → mark_of (last (count + 1) text) ≡ marked (mark_of (last count text)) (get_or text (length text - 1 - count) 0)
mark_more count text less = ap mark_of (last_more count text less)

more_by : (text marks : List ℕ) (len mark count : ℕ) (b : Bool) → nat_eq count (len + 1) ≡ b → length marks ≡ 17 → len < 16
    → ((n : ℕ) → n ≤ len → get_or marks n 0 ≡ mark_of (last n text)) → mark ≡ mark_of (last (len + 1) text) → count ≤ len + 1
    → get_or (slice_set marks (len + 1) mark) count 0 ≡ mark_of (last count text)
more_by text marks len mark count true same room few before is within =
    let here : count ≡ len + 1 = grind (arith, nat_tests) in
    get_or-set_at marks (len + 1) count mark 0 here (omega (arith, room, few)) ∙ is ∙ ap (λ (n : ℕ). mark_of (last n text)) (sym here)
more_by text marks len mark count false other room few before is within =
    let there : count ≢ len + 1 = λ (e : count ≡ len + 1). grind (arith, nat_tests) in
    get_or-set_other marks (len + 1) count mark 0 there ∙ before count (omega (arith, within, there))

-- the marks with that of one byte more
pub marks_more : (text marks : List ℕ) (len mark : ℕ) → length marks ≡ 17 → len < 16 → ((n : ℕ) → n ≤ len → get_or marks n 0 ≡ mark_of (last n text))
    → mark ≡ mark_of (last (len + 1) text) → (count : ℕ) → count ≤ len + 1 → get_or (slice_set marks (len + 1) mark) count 0 ≡ mark_of (last count text)
marks_more text marks len mark room few before is count within = more_by text marks len mark count (nat_eq count (len + 1)) refl room few before is within

-- a pattern matches no path whose end has another mark
pub unended : (pattern path marks : List ℕ) (end : End) → IsEnd pattern end → AreMarks path marks → get_or marks end.len 0 ≢ end.mark → matches pattern path ≡ false
unended pattern path marks end is are other =
    false_from (matches pattern path)
    (λ m. let alike = ends_alike pattern path end.len is.within is.plain m in
    other (are end.len is.few alike.0 ∙ ap mark_of alike.1 ∙ sym is.mark))
