-- Lines as one text, with their origins beside it.
use Rattle.std.specs.Prelude.{ℕ, ◌+◌, List, [], ◌∷◌, ◌++◌, map, flat_map}
use Rattle.spec_world_file.specs.Blocks.{Line, filled}

-- the text of lines, each with its line feed
abbrev pub flat_text : List Line → List ℕ
flat_text lines = flat_map (λ line. line.text ++ 10 ∷ []) lines

-- the text of lines, and their origins
pub record FlatLines : Type 0 where
  pub text : List ℕ
  pub origins : List ℕ

abbrev pub flat_lines : List Line → FlatLines
flat_lines lines = record { text = flat_text lines; origins = map (λ line. line.origin) lines }

-- one more line
abbrev pub with_flat_line : Line → FlatLines → FlatLines
with_flat_line line before = record { text = (before.text ++ line.text) ++ 10 ∷ []; origins = before.origins ++ line.origin ∷ [] }

-- what was there before, and lines in which a variable has this value and this place
abbrev pub flat_filled : (variable : ℕ) (value : List ℕ) (place : ℕ) → FlatLines → FlatLines → FlatLines
flat_filled x value place lines before = record { text = before.text ++ filled x value place lines.text; origins = before.origins ++ lines.origins }

-- what was there before, and lines once for each of the values of a variable, of which the first has this place
abbrev pub flat_each : (variable place : ℕ) (values : List (List ℕ)) → FlatLines → FlatLines → FlatLines
flat_each x place [] lines before = before
flat_each x place (value ∷ values) lines before = flat_each x (place + 1) values lines (flat_filled x value place lines before)
