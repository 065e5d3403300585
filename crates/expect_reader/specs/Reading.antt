-- What the calls of the reader give, against what the definition of a file of expectations says.
use Rattle.std.specs.Prelude.{ℕ, ◌≡◌, ◌==◌, List, codes, length, bytes_eq, Option, Some, None, option_and_then, Result, Ok, Err, if◌then◌else◌}
use Rattle.base_texts.specs.declared.stop.Stop.{Stop}
use Rattle.base_texts.specs.declared.stop.Stop.TheVariants as stop
use Rattle.spec_script.specs.declared.syntax.Expr.{Expr}
use Rattle.spec_world_file.specs.WorldFile.{ReadsNumeric, following, word}
use Rattle.spec_expect.specs.declared.expect_fault.ExpectFault.{ExpectFault}
use Rattle.spec_expect.specs.declared.expect_fault.ExpectFaultKind.{ExpectFaultKind}
use Rattle.spec_expect.specs.declared.expect_fault.ExpectFaultKind.TheVariants.{BadLine}
use Rattle.spec_expect.specs.declared.place.Pick.{Pick}
use Rattle.spec_expect.specs.ExpectFile as file
use Rattle.spec_expect.specs.declared.expectation.Expected.{Expected}
use Rattle.spec_expect.specs.ExpectFile.{AfterLines, Line, NeverWithLine, OrderLine, count_line, ends_line, only_line, pick_at_front, then_pick}
use Rattle.expect_reader.specs.declared.subject.Subject.{Subject}

-- what contracts see of what lines speak of
abbrev pub subject_seen : Subject → file.Subject
subject_seen s = record { facts = s.facts.now; runners = s.runners; places = s.places.now }

-- the value or the fault is one that is said; want of memory may come anywhere
abbrev pub GivesSaid : {X F : Type 0} → Result X (Stop F) → (Result X F → Type 0) → Type 0
GivesSaid (Ok x) IsSaid = IsSaid (Ok x)
GivesSaid (Err stop.NoMemory) IsSaid = Unit {0}
GivesSaid (Err (stop.Fault f)) IsSaid = IsSaid (Err f)

-- .. seen as a list
abbrev pub GivesItems : {X F : Type 0} → Result X (Stop F) → (Result X F → Type 0) → Type 0
GivesItems = GivesSaid

-- the expression that a text is, or none
abbrev pub ReadsAs : List ℕ → Result Expr (Stop ExpectFaultKind) → Type 0
ReadsAs text (Ok e) = ReadsNumeric text (Some e)
ReadsAs text (Err stop.NoMemory) = Unit {0}
ReadsAs text (Err (stop.Fault BadLine)) = ReadsNumeric text None
ReadsAs text (Err (stop.Fault _)) = ⊥

-- the fault of a line, with its number
abbrev pub located : Stop ExpectFaultKind → ℕ → Stop ExpectFault
located stop.NoMemory line = stop.NoMemory
located (stop.Fault kind) line = stop.Fault (record { line = line; kind = kind })

-- ---- Leaves that a line tells

-- a fault is `BadLine`, where this holds
abbrev pub IsBadLine : Type 0 → Stop ExpectFaultKind → Type 0
IsBadLine Holds stop.NoMemory = Unit {0}
IsBadLine Holds (stop.Fault kind) = (kind ≡ BadLine) × Holds

-- the leaves that follow this word, after which nothing follows
abbrev pub alone : Pick × List ℕ → Option Pick
alone found = if length found.1 == 0 then Some found.0 else None

abbrev pub last_after : List ℕ → List ℕ → Option Pick
last_after between text = if bytes_eq (word 0 text) between then option_and_then alone (pick_at_front (following 1 text)) else None

-- what a line about leaves says that begins with this word, by what follows the word
abbrev pub leaves_line : List ℕ → List ℕ → Option Line
leaves_line kind text =
    if bytes_eq kind (codes "start") then option_and_then only_line (pick_at_front text)
    else if bytes_eq kind (codes "starts") then option_and_then count_line (pick_at_front text)
    else if bytes_eq kind (codes "ends") then option_and_then ends_line (pick_at_front text)
    else if bytes_eq kind (codes "never") then option_and_then (then_pick (codes "with") NeverWithLine) (pick_at_front text)
    else if bytes_eq kind (codes "order") then option_and_then (then_pick (codes "before") OrderLine) (pick_at_front text)
    else None

-- ---- Lines

-- whatever these lines read as after what was read before them, all lines read as, of which the first has the number 2
abbrev pub IsAfter : file.Subject → List (List ℕ) → List Expected → ℕ → List (List ℕ) → List Expected → Type 0
IsAfter s all first line rest before =
    (read : Result (List Expected) ExpectFault) → AfterLines s line rest before read → AfterLines s 2 all first read
