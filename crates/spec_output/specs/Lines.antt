-- The lines of a trace: one text for each thing that a block tells, with its line feed at the end.
use Rattle.std.specs.Prelude.{ℕ, ℤ, ◌-◌, ◌/◌, ◌%◌, ◌++◌, List, [], ◌∷◌, Option, Some, None, map, slice_index, slice_index_or, codes, decimal, nat_eq, nat_lt, if◌then◌else◌}
use Rattle.std.specs.Fmt.{signed_decimal}
use Rattle.std.specs.List.{flat_map}
use Rattle.spec_script.specs.declared.value.Value.{Value}
use Rattle.spec_script.specs.declared.value.Value.TheVariants.{Int, Text}
use Rattle.spec_tree.specs.Boards.{owner, slots}
use Rattle.spec_run.specs.Leaves.{row_of}
use Rattle.spec_run.specs.declared.block.Block.{Block}
use Rattle.spec_run.specs.declared.block.Header.{Header}
use Rattle.spec_run.specs.declared.block.Header.TheVariants as header
use Rattle.spec_run.specs.declared.fault.Cause.{Cause}
use Rattle.spec_run.specs.declared.fault.Cause.TheVariants as cause
use Rattle.spec_run.specs.declared.fault.NumericPort.{NumericPort}
use Rattle.spec_run.specs.declared.fault.NumericPort.TheVariants as port
use Rattle.spec_run.specs.declared.note.Note.{Note}
use Rattle.spec_run.specs.declared.note.Note.TheVariants as note
use Rattle.spec_run.specs.declared.status.Status.{Status}
use Rattle.spec_run.specs.declared.status.Status.TheVariants as status
use Rattle.spec_run.specs.declared.status.Answer.{Answer}
use Rattle.spec_run.specs.declared.status.Answer.TheVariants as answer
use Rattle.spec_tree.specs.declared.cell.Cell.{Cell}
use Rattle.spec_tree.specs.declared.term.Kind.{Kind}
use Rattle.spec_tree.specs.declared.term.Kind.TheVariants.{Leaf}
use Rattle.spec_tree.specs.declared.term.Term.{Term, fold-Term}
use Rattle.spec_tree.specs.declared.term.Tree.{Tree}
use Rattle.spec_world.specs.declared.world.Row.{Row}
use Rattle.spec_world.specs.declared.world.World.{World}

-- the word of a status
abbrev pub status_word : Status → List ℕ
status_word status.Idle = codes "IDLE"
status_word status.Running = codes "RUNNING"
status_word status.Success = codes "SUCCESS"
status_word status.Failure = codes "FAILURE"

-- the word of an answer
abbrev pub answer_word : Answer → List ℕ
answer_word answer.Running = codes "RUNNING"
answer_word answer.Success = codes "SUCCESS"
answer_word answer.Failure = codes "FAILURE"
answer_word answer.Skipped = codes "SKIPPED"

-- the name of a numeric port
abbrev pub port_word : NumericPort → List ℕ
port_word port.SuccessCount = codes "success_count"
port_word port.FailureCount = codes "failure_count"
port_word port.NumAttempts = codes "num_attempts"
port_word port.NumCycles = codes "num_cycles"
port_word port.Msec = codes "msec"
port_word port.DelayMsec = codes "delay_msec"
port_word port.ThenSkip = codes "then_skip"
port_word port.NumberOfRetries = codes "number_of_retries"
port_word port.Hz = codes "hz"

-- the names of the facts of a world, in the order of their numbers
abbrev pub fact_names : World → List (List ℕ)
fact_names world = map (λ fact. fact.name) world.facts

-- the name of the fact of this number, or nothing where it has none
abbrev pub fact_name : List (List ℕ) → ℕ → List ℕ
fact_name names number = slice_index_or names number []

-- the input ports of a row, where there is one
abbrev pub inputs_of_row : Option Row → List (List ℕ)
inputs_of_row (Some row) = row.ports
inputs_of_row None = []

-- the inputs of a node: those of its row, where it is a leaf
abbrev pub own_inputs : List Row → Kind → List ℕ → List (List ℕ)
own_inputs rows Leaf id = inputs_of_row (row_of rows id)
own_inputs rows _ id = []

-- the inputs of each node of a term, in pre-order
abbrev pub inputs_of : List Row → Term → List (List (List ℕ))
inputs_of rows = fold-Term (List (List (List ℕ))) (λ node. own_inputs rows node.kind node.id ∷ flat_map (λ inputs. inputs) node.children)

-- the names that the lines need: of the facts by their number, of the cells by slot, and of the inputs of each node in
-- pre-order
pub record LineNames : Type 0 where
  pub facts : List (List ℕ)
  pub cells : List Cell
  pub inputs : List (List (List ℕ))

-- those of a tree and a world
abbrev pub line_names : Tree → World → LineNames
line_names tree world = record { facts = fact_names world; cells = slots tree; inputs = inputs_of world.rows tree.term }

-- the cell of a slot, and the words for it
abbrev pub cell_at : LineNames → ℕ → Cell
cell_at names slot = slice_index_or names.cells slot (owner 0 [])

-- the words for a cell: the number of its scope, and its key
abbrev pub cell_words : Cell → List ℕ
cell_words cell = decimal cell.scope ++ codes " " ++ cell.key

-- the inputs of the node of a uid
abbrev pub node_inputs : LineNames → ℕ → List (List ℕ)
node_inputs names uid = slice_index_or names.inputs (uid - 1) []

-- the input of the node of a uid at a place
abbrev pub input_name : LineNames → ℕ → ℕ → List ℕ
input_name names uid place = slice_index_or (node_inputs names uid) place []

-- the words of a cause of a fault of the node of this uid
abbrev pub cause_words : LineNames → ℕ → Cause → List ℕ
cause_words names uid (cause.NoEntry slot) = codes "NoEntry " ++ cell_words (cell_at names slot)
cause_words names uid (cause.NoInput place) = codes "NoInput " ++ input_name names uid place
cause_words names uid cause.Overflow = codes "Overflow"
cause_words names uid cause.Range = codes "Range"
cause_words names uid cause.ZeroDivisor = codes "ZeroDivisor"
cause_words names uid cause.NotWhole = codes "NotWhole"
cause_words names uid cause.Mixed = codes "Mixed"
cause_words names uid cause.TextTooLong = codes "TextTooLong"
cause_words names uid (cause.BadPort port) = codes "BadPort " ++ port_word port

-- the line of an event
abbrev pub header_line : LineNames → Header → List ℕ
header_line names (header.Tick runner at) = codes "tick " ++ decimal runner ++ codes " at " ++ decimal at ++ codes "\n"
header_line names (header.Halt runner at) = codes "halt " ++ decimal runner ++ codes " at " ++ decimal at ++ codes "\n"
header_line names (header.Change fact value at) =
    codes "set " ++ fact_name names.facts fact ++ codes " " ++ signed_decimal value ++ codes " at " ++ decimal at ++ codes "\n"
header_line names (header.Finish runner at) = codes "finish " ++ decimal runner ++ codes " at " ++ decimal at ++ codes "\n"
header_line names (header.Tell runner uid succeeds at) =
    codes "tell " ++ decimal runner ++ codes " " ++ decimal uid ++ (if succeeds then codes " SUCCESS at " else codes " FAILURE at ") ++ decimal at ++ codes "\n"

-- the line of a note
abbrev pub note_line : LineNames → Note → List ℕ
note_line names (note.Changed uid old new) =
    codes "node " ++ decimal uid ++ codes " " ++ status_word old ++ codes " " ++ status_word new ++ codes "\n"
note_line names (note.Started uid answer) = codes "call " ++ decimal uid ++ codes " start " ++ answer_word answer ++ codes "\n"
note_line names (note.Ran uid answer) = codes "call " ++ decimal uid ++ codes " running " ++ answer_word answer ++ codes "\n"
note_line names (note.Halted uid) = codes "call " ++ decimal uid ++ codes " halted\n"
note_line names (note.Root runner answer) = codes "root " ++ decimal runner ++ codes " " ++ answer_word answer ++ codes "\n"
note_line names (note.Faulted runner uid cause) =
    codes "fault " ++ decimal runner ++ codes " " ++ decimal uid ++ codes " " ++ cause_words names uid cause ++ codes "\n"
note_line names (note.Quenched runner uid) = codes "quench " ++ decimal runner ++ codes " " ++ decimal uid ++ codes "\n"

-- the line of a fact that changed, with its new value
abbrev pub fact_line : LineNames → ℕ × ℤ → List ℕ
fact_line names fact = codes "fact " ++ fact_name names.facts fact.0 ++ codes " " ++ signed_decimal fact.1 ++ codes "\n"

-- the hexadecimal digit of a number below 16
abbrev pub hex_digit : ℕ → ℕ
hex_digit n = slice_index (codes "0123456789abcdef") n

-- a byte as it stands in a quoted text
abbrev pub quoted_byte : ℕ → List ℕ
quoted_byte b =
    if nat_eq b 39 then codes "\\'"
    else if nat_eq b 92 then codes "\\\\"
    else if nat_eq b 10 then codes "\\n"
    else if nat_lt b 32 then codes "\\x" ++ hex_digit (b / 16) ∷ hex_digit (b % 16) ∷ []
    else b ∷ []

-- a text in single quotes
abbrev pub quoted : List ℕ → List ℕ
quoted text = codes "'" ++ flat_map quoted_byte text ++ codes "'"

-- a value as it is printed: a number in decimal, a text in quotes
abbrev pub value_words : Value → List ℕ
value_words (Int n) = signed_decimal n
value_words (Text text) = quoted text

-- the line of an entry of a runner's board that changed or is new
abbrev pub entry_line : LineNames → ℕ × ℕ × Value → List ℕ
entry_line names entry =
    codes "board " ++ decimal entry.0 ++ codes " " ++ cell_words (cell_at names entry.1) ++ codes " " ++ value_words entry.2 ++ codes "\n"

-- the lines of the facts and the entries that changed
abbrev pub change_lines : LineNames → Block → List (List ℕ)
change_lines names block = map (fact_line names) block.facts ++ map (entry_line names) block.entries

-- the lines of a block: its event, what happened in order, and what changed
abbrev pub lines_of : LineNames → Block → List (List ℕ)
lines_of names block = header_line names block.header ∷ (map (note_line names) block.notes ++ change_lines names block)
