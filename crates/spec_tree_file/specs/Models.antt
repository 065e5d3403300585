-- The node models of a tree file, and the first fault of a file that has none.
use Rattle.std.specs.Prelude.{ℕ, List, [], ◌∷◌, ◌++◌, codes, Bool, ◌&&◌, ◌||◌, if◌then◌else◌, is_some, Option, Some, None, Result, Ok, Err}
use Rattle.std.specs.Map.{lookup}
use Rattle.std.specs.Str.{bytes_eq}
use Rattle.spec_tree_file.specs.declared.element.Element.{Element, out-Element}
use Rattle.spec_tree_file.specs.Marks.{is_name}
use Rattle.spec_tree.specs.BuiltIns.{kind_named}
use Rattle.spec_tree.specs.Names.{is_among}
use Rattle.spec_tree.specs.Values.{is_port_name}
use Rattle.spec_tree_file.specs.declared.manifest_fault.ManifestFault.{ManifestFault}
use Rattle.spec_tree_file.specs.declared.manifest_fault.ManifestFault.TheVariants.{DoubleModel, BadModel}
use Rattle.spec_tree_file.specs.declared.models.ModelPort.{ModelPort}
use Rattle.spec_tree_file.specs.declared.models.NodeModel.{NodeModel}
use Rattle.spec_tree_file.specs.Attributes.{Attributes, value_of}
use Rattle.spec_tree_file.specs.ReadSteps.{go_on}

-- the models of a file by their IDs, in the order of the file
abbrev pub Models : Type 0
Models = List (List ℕ × NodeModel)

-- the model of this ID
abbrev pub model_of : List ℕ → Models → Option NodeModel
model_of id models = lookup (bytes_eq id) models

-- the name of an element
abbrev pub name_of : Element → List ℕ
name_of e = (out-Element e).name

-- its attributes
abbrev pub attributes_of : Element → Attributes
attributes_of e = (out-Element e).attributes

-- its children
abbrev pub children_of : Element → List Element
children_of e = (out-Element e).children

-- its place
abbrev pub place_of : Element → ℕ
place_of e = (out-Element e).place

-- ---- The ports of a model

-- a child of a model that is a port; its other children are ignored
abbrev pub is_port : List ℕ → Bool
is_port name = bytes_eq name (codes "input_port") || bytes_eq name (codes "output_port") || bytes_eq name (codes "inout_port")

-- whether a port of this name can be written as an attribute of a node
abbrev pub can_be_written : List ℕ → Bool
can_be_written name = is_port_name name && is_name name

-- the ports so far, with all their names
pub record Ports : Type 0 where
  pub ports : List ModelPort
  pub names : List (List ℕ)

-- the ports of nodes: a name that can't be written gives none
abbrev pub with_written : List ModelPort → List ℕ → Option (List ℕ) → List ModelPort
with_written ports name fallback = if can_be_written name then ports ++ (record { name = name; fallback = fallback }) ∷ [] else ports

-- with a port of this name and fallback; every name counts for repeats
abbrev pub with_port : Ports → List ℕ → Option (List ℕ) → Ports
with_port p name fallback = record { ports = with_written p.ports name fallback; names = p.names ++ name ∷ [] }

-- the port of this element, which needs a name that no earlier one has
abbrev pub with_port_named : Ports → Element → Option (List ℕ) → Result Ports ManifestFault
with_port_named p e None = Err (BadModel (place_of e))
with_port_named p e (Some name) =
    if is_among name p.names then Err (BadModel (place_of e)) else Ok (with_port p name (value_of (codes "default") (attributes_of e)))

-- the ports with that of this child of the model, where it is one
abbrev pub with_child : Ports → Element → Result Ports ManifestFault
with_child p e = if is_port (name_of e) then with_port_named p e (value_of (codes "name") (attributes_of e)) else Ok p

-- the ports with those of these children of the model, up to the first fault
abbrev pub with_children : Ports → List Element → Result Ports ManifestFault
with_children p [] = Ok p
with_children p (e ∷ es) = go_on (λ q. with_children q es) (with_child p e)

-- ---- The models

-- a child of `TreeNodesModel` that is a model; its other children are ignored
abbrev pub is_model : List ℕ → Bool
is_model name = bytes_eq name (codes "Action") || bytes_eq name (codes "Condition")

-- whether some model has this ID
abbrev pub has_model : Models → List ℕ → Bool
has_model models id = is_some (model_of id models)

-- the models with one of this ID and these ports
abbrev pub with_ports : Models → List ℕ → Ports → Models
with_ports models id p = models ++ (id, record { id = id; ports = p.ports }) ∷ []

-- before the first port
abbrev pub no_ports : Ports
no_ports = record { ports = []; names = [] }

-- the model of this element, which needs an ID that no earlier one has; a built-in node needs no model, and one is ignored
abbrev pub with_model_of : Models → Element → Option (List ℕ) → Result Models ManifestFault
with_model_of models e None = Err (BadModel (place_of e))
with_model_of models e (Some id) =
    if is_some (kind_named id) then Ok models
    else if has_model models id then Err (DoubleModel (place_of e))
    else go_on (λ p. Ok (with_ports models id p)) (with_children no_ports (children_of e))

-- the models with that of this element, where it is one
abbrev pub with_model : Models → Element → Result Models ManifestFault
with_model models e = if is_model (name_of e) then with_model_of models e (value_of (codes "ID") (attributes_of e)) else Ok models

-- the models with those of these elements, up to the first fault
abbrev pub with_models : Models → List Element → Result Models ManifestFault
with_models models [] = Ok models
with_models models (e ∷ es) = go_on (λ more. with_models more es) (with_model models e)

-- ---- The file

-- the element that holds the models
abbrev pub holds_models : List ℕ → Bool
holds_models name = bytes_eq name (codes "TreeNodesModel")

-- a second one is a fault
abbrev pub no_second : Models → List Element → Result Models ManifestFault
no_second models [] = Ok models
no_second models (e ∷ es) = if holds_models (name_of e) then Err (DoubleModel (place_of e)) else no_second models es

-- the models of the first of these elements that holds some
abbrev pub models_in : List Element → Result Models ManifestFault
models_in [] = Ok []
models_in (e ∷ es) =
    if holds_models (name_of e) then go_on (λ models. no_second models es) (with_models [] (children_of e)) else models_in es

-- the models of a file, whatever its document element is
abbrev pub manifest_in : Element → Result Models ManifestFault
manifest_in root = models_in (children_of root)
