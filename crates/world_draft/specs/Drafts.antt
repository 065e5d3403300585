-- A row that is not finished.
use Rattle.std.specs.Prelude.{◌≡◌, ◌<◌, ◌||◌, ℕ, Bool, true, false, nat_lt, List, [], length, bytes_eq, Option, Some, None, IfSome, Result, Ok, Err, if◌then◌else◌}
use Rattle.std.specs.List.{list_any}
use Rattle.spec_script.specs.declared.syntax.Expr.{Expr}
use Rattle.spec_tree.specs.Limits.{most_ports, most_rows}
use Rattle.spec_world.specs.Worlds.{ids_of_rows}
use Rattle.base_texts.specs.declared.stop.Stop.{Stop}
use Rattle.base_texts.specs.declared.stop.Stop.TheVariants as stop
use Rattle.spec_world_file.specs.WorldFile.{Head, Reading, is_taken, knows_sort, repeats, with_head}
use Rattle.spec_world.specs.declared.world.Row.{Row}
use Rattle.spec_world.specs.declared.world.RowSort.{RowSort}
use Rattle.spec_world_file.specs.declared.world_fault.WorldFaultKind.{WorldFaultKind}
use Rattle.spec_world_file.specs.declared.world_fault.WorldFaultKind.TheVariants.{DoubleName, NoName, TooMany}
use Rattle.world_draft.specs.declared.draft.Draft.{Draft}

-- the row that a draft makes
abbrev pub row_of : Draft → Row
row_of d = record { id = d.id; ports = d.ports; sort = d.sort; needs = d.needs.items; sets = d.sets.items; outs = d.outs.items }

-- there is room for the row that is open
pub record HasRoom (rows : List Row) (draft : Option Draft) : Type 0 where
  pub free : IfSome draft (λ d. list_any (bytes_eq d.id) (ids_of_rows rows) ≡ false)
  pub room : IfSome draft (λ d. length rows < most_rows)

-- the ID and the ports of a row whose names are known and whose ports are not too many, or else the fault
abbrev pub Allowed : Result (List ℕ × List (List ℕ)) (Stop WorldFaultKind) → List ℕ → List (List ℕ) → RowSort → Reading → Type 0
Allowed (Ok head) id ports sort r =
    (head.0 ≡ id) × (head.1 ≡ ports) × (knows_sort ports r.facts sort ≡ true) × (nat_lt most_ports (length ports) ≡ false)
Allowed (Err stop.NoMemory) id ports sort r = Unit {0}
Allowed (Err (stop.Fault NoName)) id ports sort r = knows_sort ports r.facts sort ≡ false
Allowed (Err (stop.Fault TooMany)) id ports sort r = (knows_sort ports r.facts sort ≡ true) × (nat_lt most_ports (length ports) ≡ true)
Allowed (Err (stop.Fault kind)) id ports sort r = ⊥

-- whether the ID is taken, or one of the ports stands twice
abbrev pub is_double : Reading → List ℕ → List (List ℕ) → Bool
is_double r id ports = is_taken r.rows id || repeats [] ports

-- the ID and the ports of a row that may be added, or else the fault: one that stands twice comes first
abbrev pub HeadChecked : Result (List ℕ × List (List ℕ)) (Stop WorldFaultKind) → List ℕ → List (List ℕ) → RowSort → Reading → Type 0
HeadChecked (Err (stop.Fault DoubleName)) id ports sort r = is_double r id ports ≡ true
HeadChecked (Err stop.NoMemory) id ports sort r = Unit {0}
HeadChecked result id ports sort r = (is_double r id ports ≡ false) × Allowed result id ports sort r

-- a draft of a row that may be added, however it is, or the fault of its head
abbrev pub DraftSays : Result Draft (Stop WorldFaultKind) → Head → RowSort → Reading → Type 0
DraftSays (Ok draft) head sort r =
    (list_any (bytes_eq draft.id) (ids_of_rows r.rows) ≡ false)
    × ((add : Row → Reading → Result Reading WorldFaultKind) → with_head head add sort r ≡ add (row_of draft) r)
DraftSays (Err stop.NoMemory) head sort r = Unit {0}
DraftSays (Err (stop.Fault kind)) head sort r = (add : Row → Reading → Result Reading WorldFaultKind) → with_head head add sort r ≡ Err kind

-- what is said of an expression by which an action is to fail, where no line says it yet
abbrev pub fails_said : Option Expr → Bool → Expr → Result (Option Expr) WorldFaultKind
fails_said (Some other) known e = Err DoubleName
fails_said None known e = if known then Ok (Some e) else Err NoName
