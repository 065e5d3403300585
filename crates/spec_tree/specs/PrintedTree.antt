-- The printed tree: a tree file with what was read of a tree, line by line.
use Rattle.std.specs.Prelude.{ℕ, ◌==◌, nat_lt, Bool, true, false, not, ◌&&◌, if◌then◌else◌, List, [], ◌∷◌, ◌++◌, map, codes, decimal, bytes_eq, Option, Some, None}
use Rattle.std.specs.Fmt.{signed_decimal}
use Rattle.std.specs.List.{flat_map, list_any}
use Rattle.spec_script.specs.Identifiers.{is_identifier}
use Rattle.spec_script.specs.declared.syntax.Script.{Script}
use Rattle.spec_script.specs.declared.value.Value.TheVariants.{Int, Text}
use Rattle.spec_tree.specs.Names.{is_reserved}
use Rattle.spec_tree.specs.declared.term.Guards.{Guards}
use Rattle.spec_tree.specs.declared.term.Kind.{Kind}
use Rattle.spec_tree.specs.declared.term.Kind.TheVariants.{Leaf, SubTree}
use Rattle.spec_tree.specs.declared.term.Port.{Port}
use Rattle.spec_tree.specs.declared.term.PortValue.{PortValue}
use Rattle.spec_tree.specs.declared.term.PortValue.TheVariants.{Lit, Key}
use Rattle.spec_tree.specs.declared.term.Term.{Term, Term-F, fold-Term}
use Rattle.spec_tree.specs.declared.term.Tree.{Tree}

-- ---- Attributes

-- a name and a value
abbrev pub Attribute : Type 0
Attribute = List ℕ × List ℕ

-- a byte of a value as it stands between two `"`: 38 is `&`, 60 is `<` and 34 is `"`
abbrev pub escaped_byte : ℕ → List ℕ
escaped_byte c =
    if c == 38 then codes "&amp;"
    else if c == 60 then codes "&lt;"
    else if c == 34 then codes "&quot;"
    else if nat_lt c 32 then codes "&#" ++ decimal c ++ codes ";"
    else c ∷ []

-- an attribute with the blank before it
abbrev pub attribute_text : Attribute → List ℕ
attribute_text a = codes " " ++ a.0 ++ codes "=\"" ++ flat_map escaped_byte a.1 ++ codes "\""

-- an attribute that is there under a condition
abbrev pub attribute_if : Bool → List ℕ → List ℕ → List Attribute
attribute_if true name value = (name, value) ∷ []
attribute_if false name value = []

-- what a port is given, as it is written
abbrev pub port_text : PortValue → List ℕ
port_text (Lit (Int n)) = signed_decimal n
port_text (Lit (Text text)) = text
port_text (Key key) = codes "{" ++ key ++ codes "}"

-- a port as an attribute
abbrev pub port_attribute : Port → Attribute
port_attribute port = (port.name, port_text port.value)

-- a script that is there
abbrev pub script_attribute : List ℕ → Option Script → List Attribute
script_attribute name (Some script) = (name, script.text) ∷ []
script_attribute name None = []

-- the guards under their names
abbrev pub guard_attributes : Guards → List Attribute
guard_attributes g =
    script_attribute (codes "_failureIf") g.failure_if
    ++ script_attribute (codes "_successIf") g.success_if
    ++ script_attribute (codes "_skipIf") g.skip_if
    ++ script_attribute (codes "_while") g.while_true
    ++ script_attribute (codes "_onSuccess") g.on_success
    ++ script_attribute (codes "_onFailure") g.on_failure
    ++ script_attribute (codes "_post") g.post
    ++ script_attribute (codes "_onHalted") g.on_halted

-- ---- Nodes

-- a leaf is written by its own name where this is an identifier that no other element has
abbrev pub is_compact : Kind → List ℕ → Bool
is_compact Leaf id = is_identifier id && not (is_reserved id)
is_compact SubTree id = false
is_compact kind id = true

-- the name of an element that names its node by the attribute `ID`
abbrev pub explicit_name : Kind → List ℕ
explicit_name SubTree = codes "SubTree"
explicit_name kind = codes "Action"

-- the name of a node's element
abbrev pub element_name : Kind → List ℕ → List ℕ
element_name kind id = if is_compact kind id then id else explicit_name kind

-- the attributes of a node, in their order
abbrev pub node_attributes : {X : Type 0} → Term-F X → List Attribute
node_attributes node =
    attribute_if (not (is_compact node.kind node.id)) (codes "ID") node.id
    ++ attribute_if (not (bytes_eq node.name node.id)) (codes "name") node.name
    ++ attribute_if node.autoremap (codes "_autoremap") (codes "true")
    ++ map port_attribute node.ports
    ++ script_attribute (codes "code") node.code
    ++ guard_attributes node.guards

-- a mark after its `<`, up to its end
abbrev pub opening_text : List ℕ → List Attribute → List ℕ
opening_text name attributes = name ++ flat_map attribute_text attributes

-- a line at this indentation
abbrev pub indented : List ℕ → List ℕ → List ℕ
indented blanks text = blanks ++ text ++ codes "\n"

-- one level deeper
abbrev pub deeper : List ℕ → List ℕ
deeper blanks = blanks ++ codes "  "

-- lines by their indentation
abbrev pub Lines : Type 0
Lines = List ℕ → List (List ℕ)

-- the tree of a SubTree node is written apart
abbrev pub written_below : {X : Type 0} → Kind → List X → List X
written_below SubTree children = []
written_below kind children = children

-- an element with these attributes and, one level deeper, what stands in it
abbrev pub element_lines : List ℕ → List Attribute → List Lines → Lines
element_lines name attributes [] blanks = indented blanks (codes "<" ++ opening_text name attributes ++ codes "/>") ∷ []
element_lines name attributes (c ∷ cs) blanks =
    indented blanks (codes "<" ++ opening_text name attributes ++ codes ">")
    ∷ (flat_map (λ (below : Lines). below (deeper blanks)) (c ∷ cs) ++ indented blanks (codes "</" ++ name ++ codes ">") ∷ [])

-- a tree by its ID, with what stands in it
abbrev pub WrittenTree : Type 0
WrittenTree = List ℕ × List Lines

-- what is printed of a term: its lines, and the trees that it opens, in pre-order, each by its ID with what stands in it
pub record Printed : Type 0 where
  pub lines : Lines
  pub opened : List WrittenTree

-- the tree that a node opens itself
abbrev pub opened_by : Kind → List ℕ → List Lines → List WrittenTree
opened_by SubTree id below = (id, below) ∷ []
opened_by kind id below = []

-- what is printed of a node, where that of its children is known
abbrev pub printed_node : Term-F Printed → Printed
printed_node node = record {
  lines = element_lines (element_name node.kind node.id) (node_attributes node) (written_below node.kind (map (λ (c : Printed). c.lines) node.children));
  opened = opened_by node.kind node.id (map (λ (c : Printed). c.lines) node.children) ++ flat_map (λ (c : Printed). c.opened) node.children;
}

-- what is printed of a term
abbrev pub printed : Term → Printed
printed = fold-Term Printed printed_node

-- ---- Trees

-- a tree joins these, but for one whose ID stands there already
abbrev pub with_tree : List WrittenTree → WrittenTree → List WrittenTree
with_tree trees t = if list_any (λ (known : WrittenTree). bytes_eq t.0 known.0) trees then trees else trees ++ t ∷ []

-- the trees joined by these, one after the other
abbrev pub with_trees : List WrittenTree → List WrittenTree → List WrittenTree
with_trees trees [] = trees
with_trees trees (t ∷ ts) = with_trees (with_tree trees t) ts

-- the main tree, and then every other tree that is opened, once, in the order of their first openings
abbrev pub trees_of : Tree → List WrittenTree
trees_of tree = with_trees ((tree.main, (printed tree.term).lines ∷ []) ∷ []) (printed tree.term).opened

-- a tree in its element
abbrev pub tree_element : WrittenTree → Lines
tree_element t = element_lines (codes "BehaviorTree") ((codes "ID", t.0) ∷ []) t.1

-- the attributes of the document element
abbrev pub root_attributes : Tree → List Attribute
root_attributes tree = (codes "BTCPP_format", codes "4") ∷ (codes "main_tree_to_execute", tree.main) ∷ []

-- the lines of the printed tree, each with its line feed
abbrev pub tree_lines : Tree → List (List ℕ)
tree_lines tree = element_lines (codes "root") (root_attributes tree) (map tree_element (trees_of tree)) []
