-- Valid worlds: what every world is that a world script describes.
use Rattle.std.specs.Prelude.{◌≡◌, ℕ, ◌≤◌, ◌<◌, ◌^◌, nat_le, nat_eq, Bool, true, false, not, ◌&&◌, IsTrue, List, [], ◌++◌, length, map, ℤ, pos, negsuc, int_le, IfSome, Some, slice_get, bytes_eq}
use Rattle.std.specs.List.{All, Contains, IsDistinct}
use Rattle.std.specs.List.Sorted.{IsNonDecreasingBy}
use Rattle.spec_script.specs.Grammar.{height}
use Rattle.spec_script.specs.Identifiers.{is_identifier}
use Rattle.spec_script.specs.declared.syntax.Expr.{Expr}
use Rattle.spec_script.specs.Scripts.{names_of, texts_of}
use Rattle.spec_script.specs.declared.value.Value.{Value}
use Rattle.spec_script.specs.declared.value.Value.TheVariants.{Int, Text}
use Rattle.spec_tree.specs.Limits.{last_moment, most_effects, most_events, most_facts, most_goals, most_name_bytes, most_needs, most_outcomes, most_outputs, most_ports, most_rows, most_runners, most_text_bytes}
use Rattle.spec_tree.specs.Names.{is_reserved}
use Rattle.spec_tree.specs.Numbers.{is_int}
use Rattle.spec_world.specs.declared.world.Event.{Event}
use Rattle.spec_world.specs.declared.world.Fact.{Fact}
use Rattle.spec_world.specs.declared.world.Out.{Out}
use Rattle.spec_world.specs.declared.world.Row.{Row}
use Rattle.spec_world.specs.declared.world.RowSort.{RowSort}
use Rattle.spec_world.specs.declared.world.RowSort.TheVariants.{Is, When, Timed, TimedBy, Replay, Gate, Sensed, Told}
use Rattle.spec_world.specs.declared.world.Set.{Set}
use Rattle.spec_world.specs.declared.world.Telling.{Telling}
use Rattle.spec_world.specs.declared.world.Telling.TheVariants as telling
use Rattle.spec_world.specs.declared.world.ToldOut.{ToldOut}
use Rattle.spec_world.specs.declared.world.What.{What}
use Rattle.spec_world.specs.declared.world.What.TheVariants.{Tick, Halt, Change, Tell}
use Rattle.spec_world.specs.declared.world.World.{World}

-- ---- Names and numbers

-- names of facts, IDs of rows and their ports are identifiers of few bytes
abbrev pub is_name : List ℕ → Bool
is_name word = is_identifier word && nat_le (length word) most_name_bytes

-- the names of some facts, in the order of their numbers
abbrev pub names_of_facts : List Fact → List (List ℕ)
names_of_facts facts = map (λ fact. fact.name) facts

-- the IDs of some rows, in the order of their numbers
abbrev pub ids_of_rows : List Row → List (List ℕ)
ids_of_rows rows = map (λ row. row.id) rows

-- the facts that some effects set
abbrev pub facts_set : List Set → List ℕ
facts_set sets = map (λ set. set.fact) sets

-- the ports that some outputs write
abbrev pub ports_written : List Out → List (List ℕ)
ports_written outs = map (λ out. out.port) outs

-- the outputs for which values are told
abbrev pub ports_told : List ToldOut → List (List ℕ)
ports_told outs = map (λ (out : ToldOut). out.port) outs

-- at most so many names, no two of them the same
pub record AreNames (most : ℕ) (names : List (List ℕ)) : Type 0 where
  pub few : length names ≤ most
  pub named : All (λ name. IsTrue (is_name name)) names
  pub distinct : IsDistinct bytes_eq names

-- at most so many numbers, no two of them the same
pub record AreNumbers (most : ℕ) (numbers : List ℕ) : Type 0 where
  pub few : length numbers ≤ most
  pub distinct : IsDistinct nat_eq numbers

-- ---- Rows

-- an expression over the input ports of a row and the facts: it gives numbers alone, and is no higher than 64
pub record IsExprOver (ports facts : List (List ℕ)) (e : Expr) : Type 0 where
  pub low : height e ≤ 64
  pub textless : texts_of e ≡ 0
  pub named : All (Contains (ports ++ facts)) (names_of e)

-- the rows that compare a fact
abbrev pub is_comparison : RowSort → Bool
is_comparison (Is fact op value) = true
is_comparison _ = false

-- the rows that are conditions; the others are actions
abbrev pub is_condition : RowSort → Bool
is_condition (Is fact op value) = true
is_condition (When e) = true
is_condition Sensed = true
is_condition _ = false

-- the rows whose leaves are told what they answer
abbrev pub is_told : RowSort → Bool
is_told Sensed = true
is_told (Told outs) = true
is_told _ = false

-- the actions that are modelled, to which lines add needs, effects and outputs by expressions
abbrev pub is_modelled : RowSort → Bool
is_modelled sort = not (is_condition sort) && not (is_told sort)

-- the outputs for which the leaves of a row may be told values
abbrev pub outs_told : RowSort → List (List ℕ)
outs_told (Told outs) = outs
outs_told _ = []

-- for each row whether it compares a fact, in the order of their numbers
abbrev pub comparisons : List Row → List Bool
comparisons rows = map (λ row. is_comparison row.sort) rows

-- the number of a row that compares a fact
abbrev pub IsComparisonIn : List Row → ℕ → Type 0
IsComparisonIn rows number = slice_get (comparisons rows) number ≡ Some true

-- how a row answers: a condition that compares a fact has no ports
abbrev pub IsValidSort : List Fact → List (List ℕ) → RowSort → Type 0
IsValidSort facts ports (Is fact op value) = (fact < length facts) × IsTrue (is_int value) × (ports ≡ [])
IsValidSort facts ports (When e) = IsExprOver ports (names_of_facts facts) e
IsValidSort facts ports (Timed ms fails) = (ms ≤ last_moment) × IfSome fails (IsExprOver ports (names_of_facts facts))
IsValidSort facts ports (TimedBy length fails) = IsExprOver ports (names_of_facts facts) length × IfSome fails (IsExprOver ports (names_of_facts facts))
IsValidSort facts ports (Replay ms outcomes) = (ms ≤ last_moment) × (1 ≤ length outcomes) × (length outcomes ≤ most_outcomes)
IsValidSort facts ports (Gate e) = IsExprOver ports (names_of_facts facts) e
IsValidSort facts ports Sensed = Unit {0}
IsValidSort facts ports (Told outs) = AreNames most_outputs outs

-- an effect on a fact
abbrev pub IsValidSet : List Fact → Set → Type 0
IsValidSet facts set = (set.fact < length facts) × IsTrue (is_int set.value)

-- nothing that lines add to an action that is modelled
abbrev pub IsBare : Row → Type 0
IsBare row = (row.needs ≡ []) × (row.sets ≡ []) × (row.outs ≡ [])

-- a row among the facts and the rows of a world
pub record IsValidRow (facts : List Fact) (rows : List Row) (row : Row) : Type 0 where
  pub own : is_reserved row.id ≡ false
  pub ports : AreNames most_ports row.ports
  pub sort : IsValidSort facts row.ports row.sort
  pub needs : AreNumbers most_needs row.needs
  pub needed : All (IsComparisonIn rows) row.needs
  pub sets : AreNumbers most_effects (facts_set row.sets)
  pub effects : All (IsValidSet facts) row.sets
  pub outs : AreNames most_outputs (ports_written row.outs)
  pub outputs : All (λ out. IsExprOver row.ports (names_of_facts facts) out.expr) row.outs
  pub bare : is_modelled row.sort ≡ false → IsBare row

-- ---- Worlds

-- a value that is told: a number of 64 bits, or a text that is not too long
abbrev pub IsValidValue : Value → Type 0
IsValidValue (Int n) = IsTrue (is_int n)
IsValidValue (Text text) = length text ≤ most_text_bytes

-- what a leaf is told
abbrev pub IsValidTelling : Telling → Type 0
IsValidTelling (telling.Success outs) = AreNames most_outputs (ports_told outs) × All (λ out. IsValidValue out.value) outs
IsValidTelling telling.Failure = Unit {0}

-- what an event does: it names a runner or a fact that is there; whether a telling finds its leaf, the tree decides
abbrev pub IsValidWhat : List Fact → ℕ → What → Type 0
IsValidWhat facts runners (Tick runner) = (1 ≤ runner) × (runner ≤ runners)
IsValidWhat facts runners (Halt runner) = (1 ≤ runner) × (runner ≤ runners)
IsValidWhat facts runners (Change fact value) = (fact < length facts) × IsTrue (is_int value)
IsValidWhat facts runners (Tell runner uid telling) = (1 ≤ runner) × (runner ≤ runners) × (uid < 2 ^ 32) × IsValidTelling telling

-- an event, at a moment of at most 1,000,000,000,000 ms
abbrev pub IsValidEvent : List Fact → ℕ → Event → Type 0
IsValidEvent facts runners event = (event.at ≤ last_moment) × IsValidWhat facts runners event.what

-- a world: its names and numbers name what is there, and it is within the limits
pub record IsValidWorld (w : World) : Type 0 where
  pub facts : AreNames most_facts (names_of_facts w.facts)
  pub openings : All (λ fact. IsTrue (is_int fact.opening)) w.facts
  pub ids : AreNames most_rows (ids_of_rows w.rows)
  pub rows : All (IsValidRow w.facts w.rows) w.rows
  pub goals : AreNumbers most_goals w.goals
  pub wanted : All (IsComparisonIn w.rows) w.goals
  pub some_runner : 1 ≤ w.runners
  pub few_runners : w.runners ≤ most_runners
  pub few_events : length w.events ≤ most_events
  pub events : All (IsValidEvent w.facts w.runners) w.events
  pub in_order : IsNonDecreasingBy (λ event. event.at) w.events
