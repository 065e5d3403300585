-- What the ports of a node give: a truth, the first case that has a text, and a memo to start with.
use Rattle.std.specs.Prelude.{◌≡◌, ℕ, ◌+◌, ℤ, List, [], ◌∷◌, Bool, if◌then◌else◌, length, codes}
use Rattle.std.specs.Prelude.{Option, Some, None, Result, Ok, Err, option_map, option_and_then, slice_index_or}
use Rattle.std.specs.List.{All}
use Rattle.std.specs.Str.{bytes_eq}
use Rattle.spec_script.specs.declared.value.Value.{Value}
use Rattle.spec_script.specs.declared.value.Value.TheVariants.{Int, Text}
use Rattle.spec_script.specs.Operators.{is_true}
use Rattle.spec_run.specs.declared.memory.Memo.{Memo}
use Rattle.spec_tree.specs.BuiltIns.{ports_of, rate_of}
use Rattle.spec_run.specs.Ports.{is_case, number_by, text_by}
use Rattle.run_arena.specs.declared.nodes.Node.{Node}
use Rattle.run_arena.specs.declared.source.Source.{Source}
use Rattle.run_arena.specs.declared.source.Source.TheVariants.{Absent, Lit}
use Rattle.run_arena.specs.Sources.{IsSourceOf, source_value}

-- a node has a source for each port of its kind, and each slot among them is one of a board of this many
pub record HasPorts (slots : ℕ) (node : Node) : Type 0 where
  pub as_many : length node.ports ≡ length (ports_of node.kind)
  pub known : All (IsSourceOf slots) node.ports

-- what a node's port of this place is given
abbrev pub port_at : Node → ℕ → Source
port_at node place = slice_index_or node.ports place Absent

-- the number that is given
abbrev pub source_number : List (Option Value) → Source → Option ℤ
source_number board source = number_by (source_value board source)

-- the truth that is given: of a literal text whether it is `true`, of a number whether it is not 0
abbrev pub source_truth : List (Option Value) → Source → Option Bool
source_truth board (Lit (Text t)) = Some (bytes_eq t (codes "true"))
source_truth board source = option_map is_true (source_number board source)

-- the rate that is given, in thousandths of a hertz: a literal's, or so many hertz of a number
abbrev pub source_rate : List (Option Value) → Source → Option ℕ
source_rate board (Lit (Text t)) = rate_of (Text t)
source_rate board source = option_and_then (λ n. rate_of (Int n)) (source_number board source)

-- the text that is given
abbrev pub source_text : List (Option Value) → Source → Option (List ℕ)
source_text board source = text_by (source_value board source)

-- the place of the first of these cases that has this text, where they are counted from this place on; the place
-- after them where none has it
abbrev pub first_case : List (Option Value) → List Source → ℕ → List ℕ → ℕ
first_case board [] place text = place
first_case board (c ∷ cs) place text = if is_case (source_text board c) text then place else first_case board cs (place + 1) text

-- the case of this text, or the place after them
abbrev pub case_of : List (Option Value) → List Source → Option (List ℕ) → ℕ
case_of board cases (Some text) = first_case board cases 0 text
case_of board cases None = length cases

-- the case that is selected by a variable, which stands before its cases
abbrev pub case_selected : List (Option Value) → List Source → ℕ
case_selected board [] = 0
case_selected board (variable ∷ cases) = case_of board cases (source_text board variable)

-- the memo after what gave no error, or the error
abbrev pub with_memo : {E : Type 0} → Result (Unit {0}) E → Memo → Result Memo E
with_memo (Ok _) memo = Ok memo
with_memo (Err e) memo = Err e
