-- Elements as they are printed.
use Rattle.spec_tree_file.specs.declared.element.Element.{Element, Element-F, fold-Element, roll-Element}
use Rattle.spec_tree.specs.PrintedTree.{Lines, element_lines}

abbrev pub lines_step : Element-F Lines → Lines
lines_step f = element_lines f.name f.attributes f.children

-- the lines of an element, for an indentation
abbrev pub lines_of : Element → Lines
lines_of = fold-Element Lines lines_step

abbrev pub unplaced_step : Element-F Element → Element
unplaced_step f = roll-Element (record { name = f.name; attributes = f.attributes; children = f.children; place = 0 })

-- an element without the places that it and its parts have in a file
abbrev pub unplaced : Element → Element
unplaced = fold-Element Element unplaced_step
