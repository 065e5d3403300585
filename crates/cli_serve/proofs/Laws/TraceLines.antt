-- The lines of a block as it is told, without those that stand in no trace, are the lines of the block.
use Rattle.std.proofs.Common.{◌≡◌, ℕ, ℤ, List, [], ◌∷◌, ◌++◌, map, Bool, true, false, not, Option, refl, ap, ◌∙◌}
use Rattle.std.proofs.lemmas.List.Elements.{filter-append}
use Rattle.std.specs.List.{filter, list_any}
use Rattle.spec_script.specs.declared.value.Value.{Value}
use Rattle.spec_output.specs.Lines.{LineNames, change_lines, entry_line, fact_line, header_line, lines_of, node_inputs, note_line}
use Rattle.spec_run.specs.declared.block.Block.{Block}
use Rattle.spec_run.specs.declared.block.Header.{Header}
use Rattle.spec_run.specs.declared.block.Header.TheVariants as header
use Rattle.spec_run.specs.declared.note.Note.{Note}
use Rattle.spec_run.specs.declared.note.Note.TheVariants as note
use Rattle.spec_run.specs.Run.{RunState}
use Rattle.spec_serve.specs.Inputs.{input_lines, kept_inputs, runner_of, started_lines, starts, told_lines, told_notes}
use Rattle.spec_serve.specs.Traces.{is_extra}

-- whether a line may stand in a trace
abbrev pub stays : List ℕ → Bool
stays line = not (is_extra line)

-- the lines that may
abbrev pub kept_lines : List (List ℕ) → List (List ℕ)
kept_lines lines = filter stays lines

-- lines that all may
all_stay : {X : Type 0} (line : X → List ℕ) → ((x : X) → stays (line x) ≡ true) → (xs : List X) → kept_lines (map line xs) ≡ map line xs
all_stay line stay [] = refl
all_stay line stay (x ∷ xs) = rw (stay x) (ap (λ lines. line x ∷ lines) (all_stay line stay xs))

module _ (names : LineNames) where
  header_stays : (h : Header) → stays (header_line names h) ≡ true
  header_stays (header.Tick runner at) = refl
  header_stays (header.Halt runner at) = refl
  header_stays (header.Change fact value at) = refl
  header_stays (header.Finish runner at) = refl
  header_stays (header.Tell runner uid succeeds at) = refl

  note_stays : (n : Note) → stays (note_line names n) ≡ true
  note_stays (note.Changed uid old new) = refl
  note_stays (note.Started uid answer) = refl
  note_stays (note.Ran uid answer) = refl
  note_stays (note.Halted uid) = refl
  note_stays (note.Root runner answer) = refl
  note_stays (note.Faulted runner uid cause) = refl
  note_stays (note.Quenched runner uid) = refl

  fact_stays : (fact : ℕ × ℤ) → stays (fact_line names fact) ≡ true
  fact_stays fact = refl

  entry_stays : (entry : ℕ × ℕ × Value) → stays (entry_line names entry) ≡ true
  entry_stays entry = refl

  changes_stay : (block : Block) → kept_lines (change_lines names block) ≡ change_lines names block
  changes_stay block =
      filter-append stays (map (fact_line names) block.facts) (map (entry_line names) block.entries)
      ∙ ap (λ lines. lines ++ kept_lines (map (entry_line names) block.entries)) (all_stay (fact_line names) fact_stays block.facts)
      ∙ ap (λ lines. map (fact_line names) block.facts ++ lines) (all_stay (entry_line names) entry_stays block.entries)

  -- ---- Inputs

  inputs_go : (uid : ℕ) (ports : List (List ℕ)) (values : List (Option Value)) → kept_lines (input_lines uid ports values) ≡ []
  inputs_go uid [] values = refl
  inputs_go uid (port ∷ ports) [] = refl
  inputs_go uid (port ∷ ports) (value ∷ values) = inputs_go uid ports values

  module _ (kept : ℕ → List (Option Value)) where
    started_go : (uid : ℕ) (later : List Note) (again : Bool) → list_any (starts uid) later ≡ again → kept_lines (started_lines names kept uid later) ≡ []
    started_go uid later true is = rw is refl
    started_go uid later false is = rw is (inputs_go uid (node_inputs names uid) (kept uid))

    notes_stay : (notes : List Note) → kept_lines (told_notes names kept notes) ≡ map (note_line names) notes
    notes_stay [] = refl
    notes_stay (note.Started uid answer ∷ notes) =
        ap (λ lines. note_line names (note.Started uid answer) ∷ lines)
        (filter-append stays (started_lines names kept uid notes) (told_notes names kept notes)
        ∙ ap (λ lines. lines ++ kept_lines (told_notes names kept notes)) (started_go uid notes (list_any (starts uid) notes) refl)
        ∙ notes_stay notes)
    notes_stay (note.Changed uid old new ∷ notes) = ap (λ lines. note_line names (note.Changed uid old new) ∷ lines) (notes_stay notes)
    notes_stay (note.Ran uid answer ∷ notes) = ap (λ lines. note_line names (note.Ran uid answer) ∷ lines) (notes_stay notes)
    notes_stay (note.Halted uid ∷ notes) = ap (λ lines. note_line names (note.Halted uid) ∷ lines) (notes_stay notes)
    notes_stay (note.Root runner answer ∷ notes) = ap (λ lines. note_line names (note.Root runner answer) ∷ lines) (notes_stay notes)
    notes_stay (note.Faulted runner uid cause ∷ notes) = ap (λ lines. note_line names (note.Faulted runner uid cause) ∷ lines) (notes_stay notes)
    notes_stay (note.Quenched runner uid ∷ notes) = ap (λ lines. note_line names (note.Quenched runner uid) ∷ lines) (notes_stay notes)

  -- ---- A block

  pub block_stays : (s : RunState) (block : Block) → kept_lines (told_lines names s block) ≡ lines_of names block
  block_stays s block =
      let kept : ℕ → List (Option Value) = kept_inputs s (runner_of block.header) in
      let rest : kept_lines (told_notes names kept block.notes ++ change_lines names block) ≡ map (note_line names) block.notes ++ change_lines names block =
      filter-append stays (told_notes names kept block.notes) (change_lines names block)
      ∙ ap (λ lines. lines ++ kept_lines (change_lines names block)) (notes_stay kept block.notes)
      ∙ ap (λ lines. map (note_line names) block.notes ++ lines) (changes_stay block) in
      rw (header_stays block.header) (ap (λ lines. header_line names block.header ∷ lines) rest)
