-- The places of the last starts, as notes are gone through.
use Rattle.std.proofs.Common.{◌≡◌, ◌≢◌, ℕ, suc, ◌+◌, ◌<◌, ◌≤◌, nat_eq, Bool, true, false, not, ◌&&◌, ◌||◌, List, [], ◌∷◌, ◌++◌, length, get_or, set, refl, ap, sym, ◌∙◌, arith}
use Rattle.std.specs.Prelude.{option_to_list}
use Rattle.std.specs.List.{list_all, list_any}
use Rattle.std.proofs.lemmas.Bool.Decides.{nat_tests}
use Rattle.std.proofs.lemmas.List.{get_or-set_same, get_or-set_other}
use Rattle.std.proofs.lemmas.Grind.{get_or-set_at}
use Rattle.std.proofs.lemmas.Option.{slice_get-get_or}
use Rattle.std.proofs.Math.ListN.{length-set}
use Rattle.spec_run.specs.declared.note.Note.{Note}
use Rattle.spec_run.specs.declared.note.Note.TheVariants as note
use Rattle.cli_serve.specs.Starts.{KnowsLast, is_at}
use Rattle.spec_run.specs.declared.status.Answer.{Answer}
use Rattle.spec_serve.specs.Inputs.{starts}

-- the places after notes, of which the first stands at this place
abbrev pub placed : List ℕ → ℕ → List Note → List ℕ
placed places at [] = places
placed places at (note.Started uid answer ∷ notes) = placed (set places uid at) (at + 1) notes
placed places at (other ∷ notes) = placed places (at + 1) notes

and-true : (b : Bool) → (b && true) ≡ b
and-true true = refl
and-true false = refl

and-false : (b : Bool) → (b && false) ≡ false
and-false true = refl
and-false false = refl

kept_at : (places : List ℕ) (uid p q : ℕ) → uid < length places → get_or places uid 0 ≡ q → is_at places uid p ≡ nat_eq p q
kept_at places uid p q there is =
    ap (λ o. list_all (nat_eq p) (option_to_list o)) (slice_get-get_or places uid 0 there) ∙ ap (λ n. list_all (nat_eq p) (n ∷ [])) is
    ∙ and-true (nat_eq p q)

-- what is kept for a node, as notes are gone through: its place is no longer kept where it is started again
abbrev Stays : List Note → ℕ → ℕ → ℕ → Type 0
Stays notes at uid p =
    (places : List ℕ) (q : ℕ) → uid < length places → get_or places uid 0 ≡ q → p ≤ q →
    is_at (placed places at notes) uid p ≡ (nat_eq p q && not (list_any (starts uid) notes))

stays_started : (other : ℕ) (answer : Answer) (notes : List Note) (at uid p : ℕ) → p < at → Stays notes (at + 1) uid p → Stays (note.Started other answer ∷ notes) at uid p
stays_started other answer notes at uid p before rest places q there is above = by (nat_eq uid other) refl
  where
    room : uid < length (set places other at)
    room = omega (arith, length-set {A = ℕ})

    by : (b : Bool) → nat_eq uid other ≡ b →
        is_at (placed (set places other at) (at + 1) notes) uid p ≡ (nat_eq p q && not (b || list_any (starts uid) notes))
    by true e =
        let same : uid ≡ other = grind (arith, nat_tests) in
        let kept : get_or (set places other at) uid 0 ≡ at = get_or-set_at places other uid at 0 same (omega arith) in
        let before_at : nat_eq p at ≡ false = grind (arith, nat_tests) in
        rest (set places other at) at room kept (omega arith)
        ∙ ap (λ c. c && not (list_any (starts uid) notes)) before_at ∙ sym (and-false (nat_eq p q))
    by false e =
        let differ : uid ≢ other = grind (arith, nat_tests) in
        rest (set places other at) q room (get_or-set_other places other uid at 0 differ ∙ is) above

stays : (notes : List Note) (at uid p : ℕ) → p < at → Stays notes at uid p
stays [] at uid p before = λ places q there is above. kept_at places uid p q there is ∙ sym (and-true (nat_eq p q))
stays (note.Started other answer ∷ notes) at uid p before =
    stays_started other answer notes at uid p before (stays notes (at + 1) uid p (omega arith))
stays (other ∷ notes) at uid p before = stays notes (at + 1) uid p (omega arith)

next : (before later : List Note) (places : List ℕ) (at uid : ℕ) (answer : Answer) →
    is_at (placed places (at + 1) (before ++ note.Started uid answer ∷ later)) uid ((at + 1) + length before) ≡ not (list_any (starts uid) later) →
    is_at (placed places (at + 1) (before ++ note.Started uid answer ∷ later)) uid (at + suc (length before)) ≡ not (list_any (starts uid) later)
next before later places at uid answer h =
    let same : at + suc (length before) ≡ (at + 1) + length before = omega arith in
    ap (is_at (placed places (at + 1) (before ++ note.Started uid answer ∷ later)) uid) same ∙ h

-- after a start its node has its place
starts_at : (before later : List Note) (places : List ℕ) (at uid : ℕ) (answer : Answer) → uid < length places →
    is_at (placed places at (before ++ note.Started uid answer ∷ later)) uid (at + length before) ≡ not (list_any (starts uid) later)
starts_at [] later places at uid answer there =
    let room : uid < length (set places uid at) = omega (arith, length-set {A = ℕ}) in
    let same : nat_eq (at + 0) at ≡ true = grind (arith, nat_tests) in
    stays later (at + 1) uid (at + 0) (omega arith) (set places uid at) at room (get_or-set_same places uid at 0 there) (omega arith)
    ∙ ap (λ c. c && not (list_any (starts uid) later)) same
starts_at (note.Started other a ∷ before) later places at uid answer there =
    let room : uid < length (set places other at) = omega (arith, length-set {A = ℕ}) in
    next before later (set places other at) at uid answer (starts_at before later (set places other at) (at + 1) uid answer room)
starts_at (other ∷ before) later places at uid answer there =
    next before later places at uid answer (starts_at before later places (at + 1) uid answer there)

-- the places know the last starts
pub knows : (places : List ℕ) (notes : List Note) (after : List ℕ) → length after ≡ length places → after ≡ placed places 0 notes → KnowsLast after notes
knows places notes after room made before later uid answer is there =
    let same : placed places 0 (before ++ note.Started uid answer ∷ later) ≡ after = ap (placed places 0) (sym is) ∙ sym made in
    let at : 0 + length before ≡ length before = omega arith in
    ap (λ (ps : List ℕ). is_at ps uid (length before)) (sym same)
    ∙ ap (is_at (placed places 0 (before ++ note.Started uid answer ∷ later)) uid) (sym at)
    ∙ starts_at before later places 0 uid answer (omega arith)
