-- Where the models of a file stand, by their IDs.
use Rattle.std.specs.Prelude.{◌≡◌, ℕ, ◌+◌, Bool, if◌then◌else◌, List, [], ◌∷◌, ◌++◌, bytes_eq, Option, Some, None, is_some, option_to_list}
use Rattle.std.specs.List.{list_any}
use Rattle.std.specs.Map.{keys_of, lookup}
use Rattle.spec_serve.specs.Rows.{node_id}
use Rattle.spec_tree.specs.Names.{is_among}
use Rattle.spec_tree_file.specs.declared.element.Element.{Element}
use Rattle.spec_tree_file.specs.Models.{attributes_of, is_model, name_of}

-- places by IDs
abbrev pub Places : Type 0
Places = List (List ℕ × ℕ)

-- whether a model of an ID has a place
abbrev pub has_model : Places → List ℕ → Bool
has_model places id = is_some (lookup (bytes_eq id) places)

-- the ID of which an element is a model
abbrev pub modelled_id : Element → Option (List ℕ)
modelled_id e = if is_model (name_of e) then node_id (name_of e) (attributes_of e) else None

-- with the place of a model of this ID, which counts if it is the first one
abbrev pub with_place : List ℕ → ℕ → Places → Places
with_place id at places = if is_among id (keys_of places) then places else places ++ (id, at) ∷ []

-- .. of the ID of which an element is a model, if it is one
abbrev pub with_model : Option (List ℕ) → ℕ → Places → Places
with_model None at places = places
with_model (Some id) at places = with_place id at places

-- the place of the first model of an ID among elements, of which the first stands at this place
abbrev pub model_place : List ℕ → ℕ → List Element → Option ℕ
model_place id at [] = None
model_place id at (e ∷ es) = if list_any (bytes_eq id) (option_to_list (modelled_id e)) then Some at else model_place id (at + 1) es

-- places by which the first model of each ID is found
abbrev pub FindModels : Places → List Element → Type 0
FindModels places models = (id : List ℕ) → lookup (bytes_eq id) places ≡ model_place id 0 models
