-- What the code's list of trees means, and the lines of single marks.
use Rattle.std.specs.Prelude.{ℕ, List, ◌++◌, codes, map}
use Rattle.spec_tree.specs.declared.term.Term.{Term, out-Term}
use Rattle.spec_tree.specs.PrintedTree.{Attribute, WrittenTree, element_name, indented, node_attributes, opening_text, printed}
use Rattle.text_lines.specs.declared.tree.WrittenTree.{WrittenTree as Written}

-- a tree by its ID, with the lines of the nodes in it
abbrev pub written : Written → WrittenTree
written t = (t.id.now, map (λ node. (printed node).lines) t.nodes.now)

-- the line of a start mark or an empty mark
abbrev pub start_mark : List ℕ → List ℕ → List Attribute → List ℕ → List ℕ
start_mark blanks name attributes ending = indented blanks (codes "<" ++ opening_text name attributes ++ ending)

-- the line of a node's mark
abbrev pub node_mark : List ℕ → Term → List ℕ → List ℕ
node_mark blanks term ending =
    start_mark blanks (element_name (out-Term term).kind (out-Term term).id) (node_attributes (out-Term term)) ending

-- the line of an end mark
abbrev pub end_mark : List ℕ → List ℕ → List ℕ
end_mark blanks name = indented blanks (codes "</" ++ name ++ codes ">")
