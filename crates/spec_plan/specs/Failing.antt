-- The conditions that failed in a tick.
use Rattle.std.specs.Prelude.{ℕ, ◌+◌, ◌==◌, max, Bool, false, not, List, [], ◌∷◌, ◌++◌, map, Option}
use Rattle.std.specs.List.{filter, find, flat_map, list_any, range_with_len}
use Rattle.spec_run.specs.declared.note.Note.{Note}
use Rattle.spec_run.specs.declared.note.Note.TheVariants as note
use Rattle.spec_run.specs.declared.status.Answer.TheVariants as answer
use Rattle.spec_world.specs.declared.world.Row.{Row}
use Rattle.spec_plan.specs.Templates.{is_empty}
use Rattle.spec_plan.specs.declared.part.Part.{Part}
use Rattle.spec_plan.specs.declared.part.Part.TheVariants.{Condition}
use Rattle.spec_plan.specs.Expansion.{untried}
use Rattle.spec_plan.specs.Forests.{Forest, Empty, Tree}
use Rattle.spec_plan.specs.Planned.{id_of}
use Rattle.spec_plan.specs.declared.places.Place.{Place}
use Rattle.spec_plan.specs.declared.places.Spot.{Spot}

-- the nodes of some trees in pre-order, each with its level
abbrev pub spots_from : ℕ → Forest → List Spot
spots_from level Empty = []
spots_from level (Tree key part below rest) =
    record { key = key; part = part; level = level } ∷ (spots_from (level + 1) below ++ spots_from level rest)

-- a node of this number, where it is a condition
abbrev pub own_place : ℕ → ℕ → ℕ → Part → List Place
own_place uid key level (Condition row) = record { key = key; uid = uid; row = row; level = level } ∷ []
own_place uid key level _ = []

-- the conditions among some nodes, of which the first has this number
abbrev pub places_from : ℕ → List Spot → List Place
places_from uid [] = []
places_from uid (n ∷ nodes) = own_place uid n.key n.level n.part ++ places_from (uid + 1) nodes

-- the conditions of a plan tree in pre-order; its nodes are numbered from 1
abbrev pub conditions : Forest → List Place
conditions tree = places_from 1 (spots_from 0 tree)

-- how many levels there are down to the deepest of some conditions
abbrev pub levels : List Place → ℕ
levels [] = 0
levels (c ∷ places) = max (c.level + 1) (levels places)

-- conditions in breadth-first order: level by level, and on each from left to right
abbrev pub at_level : List Place → ℕ → List Place
at_level places level = filter (λ (c : Place). c.level == level) places

abbrev pub breadth_first : List Place → List Place
breadth_first places = flat_map (at_level places) (range_with_len 0 (levels places))

-- the node of this number answered FAILURE
abbrev pub is_failure_of : ℕ → Note → Bool
is_failure_of uid (note.Started own answer.Failure) = own == uid
is_failure_of uid (note.Ran own answer.Failure) = own == uid
is_failure_of uid _ = false

abbrev pub has_failed : List Note → ℕ → Bool
has_failed notes uid = list_any (is_failure_of uid) notes

-- the conditions that answered FAILURE by these notes, in breadth-first order
abbrev pub failed : Forest → List Note → List Place
failed tree notes = breadth_first (filter (λ (c : Place). has_failed notes c.uid) (conditions tree))

-- the IDs of some conditions
abbrev pub ids_of : List Row → List Place → List (List ℕ)
ids_of rows places = map (λ (c : Place). id_of rows c.row) places

-- the first of some conditions that has an untried template
abbrev pub has_untried : List Row → Forest → Place → Bool
has_untried rows tree c = not (is_empty (untried rows c.key tree))

abbrev pub first_open : List Row → Forest → List Place → Option Place
first_open rows tree places = find (has_untried rows tree) places
