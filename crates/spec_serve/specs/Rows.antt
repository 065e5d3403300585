-- The world of a tree that is served without one: no facts, one runner, and for each ID of its leaves a row by which they are
-- told what they answer.
use Rattle.std.specs.Prelude.{ℕ, nat_lt, nat_le, Bool, true, false, not, ◌&&◌, ◌||◌, if◌then◌else◌, List, [], ◌∷◌, ◌++◌, map, filter, length, codes, bytes_eq, Option, Some, None, option_to_list, Result, Ok, Err}
use Rattle.std.specs.List.{flat_map, list_all, list_any}
use Rattle.spec_run.specs.Joins.{is_leaf}
use Rattle.spec_tree.specs.declared.term.Port.{Port}
use Rattle.spec_tree.specs.declared.term.Term.{Term}
use Rattle.spec_tree.specs.Limits.{most_made_ports, most_made_rows}
use Rattle.spec_tree.specs.Names.{is_among}
use Rattle.spec_tree.specs.Terms.{leaf_ids}
use Rattle.spec_tree.specs.Trees.{Node, nodes_of}
use Rattle.spec_tree_file.specs.Attributes.{Attributes, value_of}
use Rattle.spec_tree_file.specs.declared.element.Element.{Element, fold-Element}
use Rattle.spec_tree_file.specs.Models.{attributes_of, can_be_written, children_of, holds_models, is_model, name_of}
use Rattle.spec_world.specs.declared.world.Row.{Row}
use Rattle.spec_world.specs.declared.world.RowSort.{RowSort}
use Rattle.spec_world.specs.declared.world.RowSort.TheVariants.{Sensed, Told}
use Rattle.spec_world.specs.declared.world.World.{World}
use Rattle.spec_world.specs.Worlds.{outs_told}
use Rattle.spec_world_file.specs.declared.world_fault.WorldFault.{WorldFault}
use Rattle.spec_world_file.specs.declared.world_fault.WorldFaultKind.TheVariants.{TooMany}

-- ---- What nodes say of an ID

-- names without those that stood before
abbrev pub each_once : List (List ℕ) → List (List ℕ) → List (List ℕ)
each_once before [] = []
each_once before (name ∷ names) = if is_among name before then each_once before names else name ∷ each_once (name ∷ before) names

-- whether a text comes before another one, by its bytes
abbrev pub is_before : List ℕ → List ℕ → Bool
is_before [] [] = false
is_before [] (b ∷ other) = true
is_before (a ∷ text) [] = false
is_before (a ∷ text) (b ∷ other) = nat_lt a b || (nat_le a b && is_before text other)

-- a name in its place among others, once
abbrev pub with_name : List ℕ → List (List ℕ) → List (List ℕ)
with_name name [] = name ∷ []
with_name name (other ∷ names) =
    if is_before name other then name ∷ other ∷ names
    else if bytes_eq name other then other ∷ names
    else other ∷ with_name name names

-- names among others, each in its place, once
abbrev pub with_names : List (List ℕ) → List (List ℕ) → List (List ℕ)
with_names [] others = others
with_names (name ∷ names) others = with_names names (with_name name others)

-- the ports that the leaves of an ID give
abbrev pub ports_given : List ℕ → Term → List (List ℕ)
ports_given id term =
    with_names (flat_map (λ (n : Node). map (λ (p : Port). p.name) n.ports) (filter (λ (n : Node). is_leaf n.kind && bytes_eq n.id id) (nodes_of term))) []

-- ---- What elements say of an ID

-- the start of an element: its name and its attributes
pub record Start : Type 0 where
  pub name : List ℕ
  pub attributes : Attributes

-- the starts of an element and of all in it
abbrev pub starts_of : Element → List Start
starts_of = fold-Element (List Start) (λ e. record { name = e.name; attributes = e.attributes } ∷ flat_map (λ below. below) e.children)

-- the starts of those of some elements that hold no models
abbrev pub starts_in : List Element → List Start
starts_in es = flat_map starts_of (filter (λ e. not (holds_models (name_of e))) es)

-- the starts of the elements of the trees of a file
abbrev pub tree_starts : Element → List Start
tree_starts root = starts_in (children_of root)

-- the ID of the node that an element of a name with attributes stands for
abbrev pub node_id : List ℕ → Attributes → Option (List ℕ)
node_id name attributes = if is_model name then value_of (codes "ID") attributes else Some name

-- whether it stands for a node of this ID
abbrev pub is_of : List ℕ → List ℕ → Attributes → Bool
is_of id name attributes = list_any (bytes_eq id) (option_to_list (node_id name attributes))

-- whether an element of this name has the form of a condition
abbrev pub is_condition : List ℕ → Bool
is_condition name = bytes_eq name (codes "Condition")

-- whether each element of an ID has it
abbrev pub are_conditions : List ℕ → Element → Bool
are_conditions id root = list_all (λ (e : Start). is_condition e.name) (filter (λ (e : Start). is_of id e.name e.attributes) (tree_starts root))

-- ---- Rows

-- the models of a file, as they stand in it
abbrev pub model_elements : List Element → List Element
model_elements [] = []
model_elements (e ∷ es) = if holds_models (name_of e) then filter (λ m. is_model (name_of m)) (children_of e) else model_elements es

-- the model of an ID
abbrev pub model_of : List ℕ → List Element → Option Element
model_of id [] = None
model_of id (e ∷ es) = if is_of id (name_of e) (attributes_of e) then Some e else model_of id es

-- the names of those of some ports that have one direction or both, and can be written, in their order
abbrev pub ports_towards : List ℕ → List Element → List (List ℕ)
ports_towards direction ports =
    filter can_be_written
    (flat_map (λ p. option_to_list (value_of (codes "name") (attributes_of p)))
    (filter (λ p. bytes_eq (name_of p) direction || bytes_eq (name_of p) (codes "inout_port")) ports))

-- the ports of a model that have one direction or both
abbrev pub ports_of : List ℕ → Element → List (List ℕ)
ports_of direction model = ports_towards direction (children_of model)

-- how the leaves of a row are told: a condition has no outputs
abbrev pub told_sort : Bool → List (List ℕ) → RowSort
told_sort true outputs = Sensed
told_sort false outputs = Told outputs

-- the row of an ID with these inputs and outputs
abbrev pub told_row : List ℕ → Bool → List (List ℕ) → List (List ℕ) → Row
told_row id condition inputs outputs =
    record { id = id; ports = inputs; sort = told_sort condition outputs; needs = []; sets = []; outs = [] }

-- the row of an ID by its model; where it has none, by whether its elements are conditions and by the ports of its nodes
abbrev pub row_for : Option Element → List ℕ → Bool → List (List ℕ) → Row
row_for (Some model) id condition ports =
    told_row id (is_condition (name_of model)) (ports_of (codes "input_port") model) (ports_of (codes "output_port") model)
row_for None id condition ports = told_row id condition ports ports

-- the row of an ID in a file
abbrev pub row_of : Element → Term → List ℕ → Row
row_of root term id =
    row_for (model_of id (model_elements (children_of root))) id (are_conditions id root) (ports_given id term)

-- the rows of the IDs of leaves, in the order in which they stand first
abbrev pub told_rows : Element → Term → List Row
told_rows root term = map (row_of root term) (each_once [] (leaf_ids term))

-- whether a row is within the limits
abbrev pub is_small_row : Row → Bool
is_small_row row = nat_le (length row.ports) most_made_ports && nat_le (length (outs_told row.sort)) most_made_ports

-- something is beyond the limits; no line of a file is at fault
abbrev pub too_many : WorldFault
too_many = record { line = 0; kind = TooMany }

-- the world of these rows, if they are within the limits
abbrev pub world_of : List Row → Result World WorldFault
world_of rows =
    if nat_le (length rows) most_made_rows && list_all is_small_row rows
    then Ok (record { facts = []; rows = rows; goals = []; runners = 1; events = [] })
    else Err too_many

-- the world of a tree, by the elements of its file
abbrev pub told_world : Element → Term → Result World WorldFault
told_world root term = world_of (told_rows root term)
