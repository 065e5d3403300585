-- Comments that stand before a printed tree, each on a line of its own.
use Rattle.std.specs.Prelude.{List, ℕ, ◌++◌, codes}
use Rattle.std.specs.Str.{IsUtf8}
use Rattle.spec_tree_file.specs.Marks.{Comment, IsMark}

-- a comment with this text, and its line feed
abbrev pub remark_line : List ℕ → List ℕ
remark_line body = codes "<!--" ++ body ++ codes "-->\n"

-- a text that can stand in a comment
pub record CanRemark (body : List ℕ) : Type 0 where
  pub mark : IsMark (Comment body)
  pub utf8 : IsUtf8 body
