-- Values of entries, ports and facts, as C is told them.
use Rattle.std.specs.Prelude.{ℕ, ℤ, pos, min, List, [], length, Option, Some, None}
use Rattle.spec_script.specs.declared.value.Value.{Value}
use Rattle.spec_script.specs.declared.value.Value.TheVariants.{Int, Text}
use Rattle.spec_tree.specs.declared.term.PortValue.{PortValue}
use Rattle.spec_tree.specs.declared.term.PortValue.TheVariants.{Lit, Key}
use Rattle.host_library.specs.declared.values.Valued.{Valued}

abbrev pub no_value : Valued
no_value = record { kind = 0; length = 0; number = pos 0 }

abbrev pub int_told : ℤ → Valued
int_told n = record { kind = 1; length = 0; number = n }

-- a text is of kind 2, and the key of an entry of kind 3; a length has 32 bits
abbrev pub text_told : ℕ → List ℕ → Valued
text_told kind text = record { kind = kind; length = min (length text) 4294967295; number = pos 0 }

abbrev pub value_told : Option Value → Valued
value_told (Some (Int n)) = int_told n
value_told (Some (Text text)) = text_told 2 text
value_told None = no_value

-- the text of a value; none of a number
abbrev pub text_of : Option Value → List ℕ
text_of (Some (Int n)) = []
text_of (Some (Text text)) = text
text_of None = []

-- what a port is given
abbrev pub given_told : Option PortValue → Valued
given_told (Some (Lit value)) = value_told (Some value)
given_told (Some (Key key)) = text_told 3 key
given_told None = no_value

abbrev pub given_text : Option PortValue → List ℕ
given_text (Some (Lit value)) = text_of (Some value)
given_text (Some (Key key)) = key
given_text None = []
