-- How the marks of a tree file are written.
pub use Rattle.spec_script.specs.Texts.{is_name_first, is_name_rest, is_name, is_not_zero}
use Rattle.std.specs.Prelude.{ℕ, Bool, true, false, not, ◌==◌, ◌&&◌, ◌||◌, List, [], ◌∷◌, ◌++◌, map, length, codes, IsTrue}
use Rattle.std.specs.List.{list_all, list_any, flat_map, AllByRecursion}
use Rattle.std.specs.Str.{bytes_eq}
use Rattle.spec_script.specs.Identifiers.{is_white}
use Rattle.spec_tree_file.specs.References.{begins_with, decoded}

-- `"` and `'`
abbrev pub is_quote : ℕ → Bool
is_quote c = c == 34 || c == 39

-- a byte that may stand in a value between two such quotes: all but the quote, `<` and 0
abbrev pub is_value_byte : ℕ → ℕ → Bool
is_value_byte quote c = not (c == quote || c == 60 || c == 0)

-- whether the text has this word in it
abbrev pub holds : List ℕ → List ℕ → Bool
holds word [] = false
holds word (c ∷ cs) = begins_with word (c ∷ cs) || holds word cs

-- An attribute as it is written, with the white space before its name and around its `=`.
pub record Attribute : Type 0 where
  pub gap : List ℕ
  pub name : List ℕ
  pub before : List ℕ
  pub after : List ℕ
  pub quote : ℕ
  pub value : List ℕ

-- 61 is `=`
abbrev pub attribute_written : Attribute → List ℕ
attribute_written a = a.gap ++ (a.name ++ (a.before ++ (61 ∷ (a.after ++ (a.quote ∷ (a.value ++ a.quote ∷ []))))))

-- a start mark or an empty mark after its `<`, up to the white space before its end
pub record Opening : Type 0 where
  pub name : List ℕ
  pub attributes : List Attribute
  pub gap : List ℕ

-- the bytes of such a mark
abbrev pub opening_written : Opening → List ℕ
opening_written o = o.name ++ (flat_map attribute_written o.attributes ++ o.gap)

-- a mark as it is written
pub data Mark : Type 0 where
  Start : Opening → Mark
  Empty : Opening → Mark
  End : (name gap : List ℕ) → Mark
  Instruction : (body : List ℕ) → Mark
  Comment : (body : List ℕ) → Mark

-- the end of an instruction
abbrev pub instruction_end : List ℕ
instruction_end = codes "?>"

-- the end of a comment
abbrev pub comment_end : List ℕ
comment_end = codes "-->"

-- `<a>`, `<a/>`, `</a>`, `<?a?>` or `<!--a-->`: 60 is `<`, 62 is `>`, 47 is `/`, 63 is `?`, 33 is `!`, and 45 is `-`
abbrev pub mark_written : Mark → List ℕ
mark_written (Start o) = 60 ∷ (opening_written o ++ 62 ∷ [])
mark_written (Empty o) = 60 ∷ (opening_written o ++ 47 ∷ 62 ∷ [])
mark_written (End name gap) = 60 ∷ 47 ∷ (name ++ (gap ++ 62 ∷ []))
mark_written (Instruction body) = 60 ∷ 63 ∷ (body ++ instruction_end)
mark_written (Comment body) = 60 ∷ 33 ∷ 45 ∷ 45 ∷ (body ++ comment_end)

-- the names of attributes, and what their values say
abbrev pub pairs_of : List Attribute → List (List ℕ × List ℕ)
pairs_of attributes = map (λ a. (a.name, decoded a.value)) attributes

-- whether no name occurs twice
abbrev pub no_name_twice : List (List ℕ × List ℕ) → Bool
no_name_twice [] = true
no_name_twice (a ∷ more) = not (list_any (λ b. bytes_eq b.0 a.0) more) && no_name_twice more

-- An attribute's form. White space stands before its name, and may stand around its `=`.
pub record IsAttribute (a : Attribute) : Type 0 where
  pub gap : IsTrue (list_all is_white a.gap)
  pub apart : IsTrue (not (length a.gap == 0))
  pub name : IsTrue (is_name a.name)
  pub before : IsTrue (list_all is_white a.before)
  pub after : IsTrue (list_all is_white a.after)
  pub quote : IsTrue (is_quote a.quote)
  pub value : IsTrue (list_all (is_value_byte a.quote) a.value)

-- the form of a start mark or an empty mark
pub record IsOpening (o : Opening) : Type 0 where
  pub name : IsTrue (is_name o.name)
  pub attributes : AllByRecursion IsAttribute o.attributes
  pub gap : IsTrue (list_all is_white o.gap)

-- A mark's form. An instruction and a comment end at the first of their ends.
abbrev pub IsMark : Mark → Type 0
IsMark (Start o) = IsOpening o
IsMark (Empty o) = IsOpening o
IsMark (End name gap) = IsTrue (is_name name) × IsTrue (list_all is_white gap)
IsMark (Instruction body) = IsTrue (list_all is_not_zero body) × IsTrue (not (holds instruction_end body))
IsMark (Comment body) = IsTrue (list_all is_not_zero body) × IsTrue (not (holds comment_end body))

-- whether no attribute's name occurs twice in a mark
abbrev pub is_single : Mark → Bool
is_single (Start o) = no_name_twice (pairs_of o.attributes)
is_single (Empty o) = no_name_twice (pairs_of o.attributes)
is_single _ = true
