-- What the value of a port says: a literal, or the key of a blackboard entry.
use Rattle.std.specs.Prelude.{ℕ, ◌-◌, ◌==◌, List, length, slice_index, slice_range, Bool, not, is_some, ◌&&◌, ◌||◌, nat_eq, if◌then◌else◌, codes, Option, Some, None}
use Rattle.std.specs.Option.{option_map_or}
use Rattle.std.specs.Str.{bytes_eq}
use Rattle.spec_script.specs.declared.value.Value.{Value}
use Rattle.spec_script.specs.declared.value.Value.TheVariants.{Int, Text}
use Rattle.spec_script.specs.Identifiers.{is_identifier}
use Rattle.spec_tree.specs.declared.built_ins.Range.{Range}
use Rattle.spec_tree.specs.declared.term.PortValue.{PortValue}
use Rattle.spec_tree.specs.declared.term.PortValue.TheVariants.{Lit, Key}
use Rattle.spec_tree.specs.BuiltIns.{fits}
use Rattle.spec_tree.specs.Numbers.{int_in, is_int}

-- whether an attribute of this name can be a port: `name`, `ID` and what begins with `_` are none
abbrev pub is_port_name : List ℕ → Bool
is_port_name name = not (bytes_eq name (codes "name") || bytes_eq name (codes "ID") || nat_eq (slice_index name 0) 95)

-- whether a text begins with `{` and ends with `}`
abbrev pub in_braces : List ℕ → Bool
in_braces text = slice_index text 0 == 123 && slice_index text (length text - 1) == 125

-- the key that a text in braces names at a port of this name: `{=}` names that of the port's own name
abbrev pub key_said : List ℕ → List ℕ → List ℕ
key_said port text = if bytes_eq text (codes "{=}") then port else slice_range text 1 (length text - 1)

-- a key is an identifier
abbrev pub key_value : List ℕ → Option PortValue
key_value key = if is_identifier key then Some (Key key) else None

-- a literal is a number exactly where it writes one of 64 bits canonically, else it is the text itself
abbrev pub literal : List ℕ → Value
literal text = option_map_or Int (int_in text) (Text text)

-- a literal, if it is of the range
abbrev pub literal_value : Range → Value → Option PortValue
literal_value range value = if fits range value then Some (Lit value) else None

-- what a text says at a port of this range and name, if it may stand there
abbrev pub value_in : Range → List ℕ → List ℕ → Option PortValue
value_in range port text = if in_braces text then key_value (key_said port text) else literal_value range (literal text)

-- whether a text says this value: a number has 64 bits, and a text is none of the other things that a text can say
abbrev pub is_plain : Value → Bool
is_plain (Int n) = is_int n
is_plain (Text text) = not (is_some (int_in text)) && not (in_braces text)

-- whether a port of this range may have this value
abbrev pub value_fits : Range → PortValue → Bool
value_fits range (Key key) = is_identifier key
value_fits range (Lit value) = is_plain value && fits range value
