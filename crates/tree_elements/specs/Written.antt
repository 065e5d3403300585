-- Elements that can be written.
use Rattle.std.specs.Prelude.{ℕ, Bool, ◌&&◌, List}
use Rattle.std.specs.List.{list_all}
use Rattle.spec_script.specs.Texts.{name_stands, value_stands}
use Rattle.spec_tree_file.specs.declared.element.Element.{Element, Element-F, fold-Element}
use Rattle.spec_tree_file.specs.Marks.{no_name_twice}

-- an attribute that can be written
abbrev pub can_stand : List ℕ × List ℕ → Bool
can_stand a = name_stands a.0 && value_stands a.1

-- whether an element can be written, where this is known of its children
abbrev pub writes_step : Element-F Bool → Bool
writes_step f = name_stands f.name && (list_all can_stand f.attributes && (no_name_twice f.attributes && list_all (λ (child : Bool). child) f.children))

-- whether an element can be written: its name, its attributes, of which no name stands twice, and all that stands in it
abbrev pub can_be_written : Element → Bool
can_be_written = fold-Element Bool writes_step
