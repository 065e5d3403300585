-- The table of a model's ports, and its defaults.
use Rattle.std.specs.Prelude.{◌≡◌, ℕ, List, filter_map, Bool, Option, Some, None, option_and_then}
use Rattle.std.specs.Cmp.Lexicographic.{slice_cmp}
use Rattle.std.specs.List.{list_any}
use Rattle.std.specs.Ordering.{is_eq, nat_cmp}
use Rattle.std.specs.Str.{bytes_eq}
use Rattle.spec_tree.specs.Names.{is_among}
use Rattle.spec_tree.specs.declared.built_ins.Range.TheVariants.{AnyValue}
use Rattle.spec_tree.specs.declared.term.Port.{Port}
use Rattle.spec_tree_file.specs.declared.models.ModelPort.{ModelPort}
use Rattle.spec_tree_file.specs.Content.{port_said}
use Rattle.tree_manifest.specs.declared.defaults.Defaults.{Defaults}

-- whether a name is among names that are kept in order
abbrev pub is_kept : List ℕ → List (List ℕ) → Bool
is_kept name kept = list_any (λ key. is_eq (slice_cmp nat_cmp name key)) kept

-- a name is kept exactly where it is among these
abbrev pub AreKept : List (List ℕ) → List (List ℕ) → Type 0
AreKept kept names = (name : List ℕ) → is_kept name kept ≡ is_among name names

-- a name is kept exactly where a port has it
abbrev pub AreNames : List (List ℕ) → List ModelPort → Type 0
AreNames kept ports = (name : List ℕ) → is_kept name kept ≡ list_any (λ port. bytes_eq name port.name) ports

-- the port with its default, where it has one that may stand
abbrev pub default_of : ModelPort → Option Port
default_of port = option_and_then (port_said AnyValue port.name) port.fallback

-- those of a model
abbrev pub defaults_of : List ModelPort → List Port
defaults_of ports = filter_map default_of ports

-- the name of a port whose text says nothing
abbrev pub name_unless : List ℕ → Option Port → Option (List ℕ)
name_unless name (Some port) = None
name_unless name None = Some name

-- the name of a port that has a default that may not stand
abbrev pub faulty_name : ModelPort → Option (List ℕ)
faulty_name port = option_and_then (λ text. name_unless port.name (port_said AnyValue port.name text)) port.fallback

-- those of a model
abbrev pub faulty_names : List ModelPort → List (List ℕ)
faulty_names ports = filter_map faulty_name ports

-- what is kept of the defaults of a model
abbrev pub AreDefaults : Defaults → List ModelPort → Type 0
AreDefaults kept ports = (kept.ports ≡ defaults_of ports) × (kept.faulty.items ≡ faulty_names ports)
