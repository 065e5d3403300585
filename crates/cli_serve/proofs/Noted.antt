-- The lines of notes with those of the inputs of the leaves that were started, note by note.
use Rattle.std.proofs.Common.{◌≡◌, ℕ, ◌+◌, ◌<◌, ◌≤◌, ◌⊎◌, inl, inr, Bool, true, false, not, nat_eq, nat_lt, List, [], ◌∷◌, ◌++◌, map, length, take, drop, get_or, Option, Some, None, refl, ap, sym, subst, ◌∙◌, arith, if◌then◌else◌}
use Rattle.std.specs.Prelude.{option_to_list}
use Rattle.std.specs.List.{concat, list_all, list_any}
use Rattle.std.proofs.lemmas.Bool.Decides.{nat_tests}
use Rattle.std.proofs.lemmas.List.{drop_more, length-take, take-append-drop}
use Rattle.std.proofs.lemmas.Option.{slice_get_past}
use Rattle.spec_script.specs.declared.value.Value.{Value}
use Rattle.spec_output.specs.Lines.{LineNames, node_inputs, note_line}
use Rattle.spec_run.specs.declared.note.Note.{Note}
use Rattle.spec_run.specs.declared.note.Note.TheVariants as note
use Rattle.spec_run.specs.declared.status.Answer.{Answer}
use Rattle.spec_serve.specs.Inputs.{input_lines, started_lines, starts, told_notes}
use Rattle.cli_serve.specs.Starts.{KnowsLast, is_at, started_last}
use Rattle.spec_outside.specs.Appending.{Appended, AppendedPrefix}
use Rattle.cli_serve.proofs.Inputs.{no_inputs}
use Rattle.cli_serve.proofs.Written.{Written, more_written, prefix_more, rest_is}

-- the lines after that of a note, where these notes come later
abbrev pub lines_after : LineNames → (ℕ → List (Option Value)) → Note → List Note → List (List ℕ)
lines_after names kept (note.Started uid answer) later = started_lines names kept uid later
lines_after names kept other later = []

told_first : (names : LineNames) (kept : ℕ → List (Option Value)) (n : Note) (later : List Note) →
    told_notes names kept (n ∷ later) ≡ note_line names n ∷ (lines_after names kept n later ++ told_notes names kept later)
told_first names kept (note.Started uid answer) later = refl
told_first names kept other later = refl

-- a node without a place has no other place
no_place : (places : List ℕ) (uid place : ℕ) → length places ≤ uid → is_at places uid place ≡ true
no_place places uid place past = ap (λ o. list_all (nat_eq place) (option_to_list o)) (slice_get_past places uid past)

within_or_past : (uid n : ℕ) → (uid < n) ⊎ (n ≤ uid)
within_or_past uid n = by (nat_lt uid n) refl
  where
    by : (b : Bool) → nat_lt uid n ≡ b → (uid < n) ⊎ (n ≤ uid)
    by true e = inl (grind (arith, nat_tests))
    by false e = inr (grind (arith, nat_tests))

module _ (names : LineNames) (kept : ℕ → List (Option Value)) (places : List ℕ) (later : List Note) (place : ℕ) where
  -- the place that is kept for a start is its own where none comes later
  abbrev Knows : Note → Type 0
  Knows n = (uid : ℕ) (answer : Answer) → n ≡ note.Started uid answer → uid < length places → is_at places uid place ≡ not (list_any (starts uid) later)

  -- the lines of the inputs of a node that was not started later
  lines_last : (uid : ℕ) → ((list_any (starts uid) later ≡ false) ⊎ (kept uid ≡ [])) →
      started_lines names kept uid later ≡ input_lines uid (node_inputs names uid) (kept uid)
  lines_last uid (inl last) = ap (λ (b : Bool). if b then [] else input_lines uid (node_inputs names uid) (kept uid)) last
  lines_last uid (inr nothing) = by (list_any (starts uid) later)
    where
      none : input_lines uid (node_inputs names uid) (kept uid) ≡ []
      none = ap (input_lines uid (node_inputs names uid)) nothing ∙ no_inputs uid (node_inputs names uid)

      by : (b : Bool) → (if b then [] else input_lines uid (node_inputs names uid) (kept uid)) ≡ input_lines uid (node_inputs names uid) (kept uid)
      by true = sym none
      by false = refl

  last_start : (uid : ℕ) (b : Bool) → b ≡ true → (uid < length places → b ≡ not (list_any (starts uid) later)) → (length places ≤ uid → kept uid ≡ []) →
      (list_any (starts uid) later ≡ false) ⊎ (kept uid ≡ [])
  last_start uid b at known nothing = by (within_or_past uid (length places))
    where
      over : (c : Bool) → true ≡ not c → c ≡ false
      over true e = e
      over false e = refl

      by : (uid < length places) ⊎ (length places ≤ uid) → (list_any (starts uid) later ≡ false) ⊎ (kept uid ≡ [])
      by (inl there) = inl (over (list_any (starts uid) later) (sym at ∙ known there))
      by (inr past) = inr (nothing past)

  -- after the last start of a node stand the lines of its inputs
  pub started_here : (n : Note) (uid : ℕ) → started_last places place n ≡ Some uid → Knows n → (length places ≤ uid → kept uid ≡ []) →
      lines_after names kept n later ≡ input_lines uid (node_inputs names uid) (kept uid)
  started_here (note.Started other answer) uid is knows nothing = by (is_at places other place) refl is
    where
      by : (b : Bool) → is_at places other place ≡ b → (if b then Some other else None) ≡ Some uid →
          started_lines names kept other later ≡ input_lines uid (node_inputs names uid) (kept uid)
      by true at e =
          let same : other ≡ uid = cc in
          subst (λ (u : ℕ). started_lines names kept other later ≡ input_lines u (node_inputs names u) (kept u)) same
          (lines_last other (last_start other (is_at places other place) at (knows other answer refl) (subst (λ (u : ℕ). length places ≤ u → kept u ≡ []) (sym same) nothing)))
      by false at e = absurd (cc)
  started_here other uid is knows nothing = absurd (cc)

  -- after another note stand none
  pub not_started : (n : Note) → started_last places place n ≡ None → Knows n → lines_after names kept n later ≡ []
  not_started (note.Started uid answer) is knows = by (is_at places uid place) refl is
    where
      over : (c : Bool) → false ≡ not c → c ≡ true
      over true e = refl
      over false e = e

      by : (b : Bool) → is_at places uid place ≡ b → (if b then Some uid else None) ≡ None → started_lines names kept uid later ≡ []
      by true at e = absurd (cc)
      by false at e = found (within_or_past uid (length places))
        where
          found : (uid < length places) ⊎ (length places ≤ uid) → started_lines names kept uid later ≡ []
          found (inl there) = ap (λ (c : Bool). if c then [] else input_lines uid (node_inputs names uid) (kept uid)) (over (list_any (starts uid) later) (sym at ∙ knows uid answer refl there))
          found (inr past) = absurd (let wrong : true ≡ false = sym (no_place places uid place past) ∙ at in cc)
  not_started other is knows = refl

module _ (names : LineNames) (kept : ℕ → List (Option Value)) (notes : List Note) (places : List ℕ) (i : ℕ) (d : Note) where
  abbrev here : Note
  here = get_or notes i d

  abbrev later : List Note
  later = drop (i + 1) notes

  -- the line of the note at a place comes first
  next_noted : i < length notes → told_notes names kept (drop i notes) ≡ note_line names here ∷ (lines_after names kept here later ++ told_notes names kept later)
  next_noted there = ap (told_notes names kept) (drop_more notes i d there) ∙ told_first names kept here later

  -- the places know the last starts at each place
  knows_here : KnowsLast places notes → i < length notes → Knows names kept places later i here
  knows_here knows there uid answer started within =
      let cut : notes ≡ take i notes ++ note.Started uid answer ∷ later =
      sym (take-append-drop i notes) ∙ ap (λ (ns : List Note). take i notes ++ ns) (drop_more notes i d there ∙ ap (λ (m : Note). m ∷ later) started) in
      let at : length (take i notes) ≡ i = omega (arith, length-take i notes) in
      ap (is_at places uid) (sym at) ∙ knows (take i notes) later uid answer cut within

  -- the line of the note was written
  pub line_noted : {all : List (List ℕ)} {a b : Option (List ℕ)} (part : List Note) (c : Option (List ℕ)) → i < length notes → part ≡ here ∷ [] →
      Written all (told_notes names kept (drop i notes)) a b → Appended b c (concat (map (note_line names) part)) →
      Written all (lines_after names kept here later ++ told_notes names kept later) a c
  line_noted {all} {a} {b} part c there is w p =
      more_written (note_line names here ∷ []) c (rest_is (next_noted there) w) (subst (λ (ns : List Note). Appended b c (concat (map (note_line names) ns))) is p)

  -- a prefix of it
  pub prefix_noted : {all : List (List ℕ)} {a b : Option (List ℕ)} (part : List Note) (c : Option (List ℕ)) → i < length notes → part ≡ here ∷ [] →
      Written all (told_notes names kept (drop i notes)) a b → AppendedPrefix b c (concat (map (note_line names) part)) → AppendedPrefix a c (concat all)
  prefix_noted {all} {a} {b} part c there is w p =
      prefix_more (note_line names here ∷ []) (lines_after names kept here later ++ told_notes names kept later) c (rest_is (next_noted there) w)
      (subst (λ (ns : List Note). AppendedPrefix b c (concat (map (note_line names) ns))) is p)

  -- of a node that is not started again the lines of the inputs are next
  next_inputs : {all : List (List ℕ)} {a c : Option (List ℕ)} (uid : ℕ) (values : List (Option Value)) → KnowsLast places notes → i < length notes →
      started_last places i here ≡ Some uid → (length places ≤ uid → kept uid ≡ []) → values ≡ kept uid →
      Written all (lines_after names kept here later ++ told_notes names kept later) a c →
      Written all (input_lines uid (node_inputs names uid) values ++ told_notes names kept later) a c
  next_inputs {all} {a} {c} uid values knows there is nothing held w =
      rest_is (ap (λ (ls : List (List ℕ)). ls ++ told_notes names kept later)
      (started_here names kept places later i here uid is (knows_here knows there) nothing ∙ ap (input_lines uid (node_inputs names uid)) (sym held))) w

  -- they were written
  pub inputs_noted : {all : List (List ℕ)} {a c : Option (List ℕ)} (uid : ℕ) (values : List (Option Value)) (e : Option (List ℕ)) → KnowsLast places notes → i < length notes →
      started_last places i here ≡ Some uid → (length places ≤ uid → kept uid ≡ []) → values ≡ kept uid →
      Written all (lines_after names kept here later ++ told_notes names kept later) a c → Appended c e (concat (input_lines uid (node_inputs names uid) values)) →
      Written all (told_notes names kept later) a e
  inputs_noted {all} {a} {c} uid values e knows there is nothing held w p =
      more_written (input_lines uid (node_inputs names uid) values) e (next_inputs uid values knows there is nothing held w) p

  -- a prefix of them
  pub prefix_inputs : {all : List (List ℕ)} {a c : Option (List ℕ)} (uid : ℕ) (values : List (Option Value)) (e : Option (List ℕ)) → KnowsLast places notes → i < length notes →
      started_last places i here ≡ Some uid → (length places ≤ uid → kept uid ≡ []) → values ≡ kept uid →
      Written all (lines_after names kept here later ++ told_notes names kept later) a c → AppendedPrefix c e (concat (input_lines uid (node_inputs names uid) values)) →
      AppendedPrefix a e (concat all)
  prefix_inputs {all} {a} {c} uid values e knows there is nothing held w p =
      prefix_more (input_lines uid (node_inputs names uid) values) (told_notes names kept later) e (next_inputs uid values knows there is nothing held w) p

  -- no other note has lines after its own
  pub none_noted : {all : List (List ℕ)} {a c : Option (List ℕ)} → KnowsLast places notes → i < length notes → started_last places i here ≡ None →
      Written all (lines_after names kept here later ++ told_notes names kept later) a c → Written all (told_notes names kept later) a c
  none_noted {all} {a} {c} knows there is w =
      rest_is (ap (λ (ls : List (List ℕ)). ls ++ told_notes names kept later) (not_started names kept places later i here is (knows_here knows there))) w
