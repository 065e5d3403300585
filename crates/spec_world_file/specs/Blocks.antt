-- Body lines with variables, blocks, and the lines that a block stands for.
use Rattle.std.specs.Prelude.{ℕ, ◌+◌, ◌==◌, Bool, true, false, not, ◌&&◌, ◌||◌, nat_le, if◌then◌else◌, List, [], ◌∷◌, ◌++◌, map, flat_map, codes, decimal, Option, Some, None, slice_get}
use Rattle.spec_world_file.specs.declared.sort.Sort.{Sort}

-- ---- Variables

-- a variable is an upper-case letter
abbrev pub is_variable : ℕ → Bool
is_variable b = nat_le 65 b && nat_le b 90

-- the marks `$` and `#`
abbrev pub is_mark : ℕ → Bool
is_mark b = b == 36 || b == 35

-- whether a text begins with a byte that passes a test
abbrev pub begins_with : (ℕ → Bool) → List ℕ → Bool
begins_with test [] = false
begins_with test (b ∷ text) = test b

-- whether such a byte follows each mark of a text
abbrev pub after_marks : (ℕ → Bool) → List ℕ → Bool
after_marks test [] = true
after_marks test (b ∷ text) = (not (is_mark b) || begins_with test text) && after_marks test text

-- what a mark with its variable stands for: `$X` for the value of X, `#X` for its place
abbrev pub standing : (mark : ℕ) (value : List ℕ) (place : ℕ) → List ℕ
standing mark value place = if mark == 36 then value else decimal place

-- a text in which a variable has this value and this place
abbrev pub filled : (variable : ℕ) (value : List ℕ) (place : ℕ) → List ℕ → List ℕ
filled x value place [] = []
filled x value place (b ∷ []) = b ∷ []
filled x value place (b ∷ c ∷ text) =
    if is_mark b && c == x then standing b value place ++ filled x value place text else b ∷ filled x value place (c ∷ text)

-- ---- Lines and blocks

-- a line, and the number of the line of the file from which it comes
pub record Line : Type 0 where
  pub origin : ℕ
  pub text : List ℕ

-- a line in which a variable has this value and this place
abbrev pub filled_line : (variable : ℕ) (value : List ℕ) (place : ℕ) → Line → Line
filled_line x value place line = record line { text = filled x value place line.text }

-- some lines once for each of the values of a variable, in their order, of which the first has this place
abbrev pub once_each : (variable place : ℕ) (values : List (List ℕ)) → List Line → List Line
once_each x place [] lines = []
once_each x place (value ∷ values) lines = map (filled_line x value place) lines ++ once_each x (place + 1) values lines

-- lines and blocks in their order; a block has a variable, a sort by its number, and what stands in it
pub data Parts : Type 0 where
  NoPart : Parts
  AndLine : (parts : Parts) (line : Line) → Parts
  AndBlock : (parts : Parts) (variable sort : ℕ) (inner : Parts) → Parts

-- the values of a sort, or none where there is no sort
abbrev pub values_in : Option Sort → List (List ℕ)
values_in (Some sort) = sort.values
values_in None = []

-- the values of the sort of this number
abbrev pub values_at : List Sort → ℕ → List (List ℕ)
values_at sorts number = values_in (slice_get sorts number)

-- the lines that parts stand for; a block stands for its lines once for each value of its sort
abbrev pub lines_of : List Sort → Parts → List Line
lines_of sorts NoPart = []
lines_of sorts (AndLine parts line) = lines_of sorts parts ++ line ∷ []
lines_of sorts (AndBlock parts x sort inner) = lines_of sorts parts ++ once_each x 1 (values_at sorts sort) (lines_of sorts inner)

-- a world script of these lines
abbrev pub script_of : List Line → List ℕ
script_of lines = codes "bt-world 1\n" ++ flat_map (λ line. line.text ++ 10 ∷ []) lines

-- ---- From items to parts

-- what the lines of a file say of its text, one after the other
pub data Item : Type 0 where
  Body : (line : Line) → Item
  Forall : (variable sort : ℕ) → Item
  End : Item

-- a block that is open, and the parts before it
pub record Block : Type 0 where
  pub before : Parts
  pub variable : ℕ
  pub sort : ℕ

-- the parts so far of the innermost block that is open, and the open blocks, the innermost first
pub record Building : Type 0 where
  pub parts : Parts
  pub blocks : List Block

-- nothing so far
abbrev pub nothing_built : Building
nothing_built = record { parts = NoPart; blocks = [] }

-- the innermost block ends, and is a part of what is around it; where none is open, nothing changes
abbrev pub ended : Parts → List Block → Building
ended parts [] = record { parts = parts; blocks = [] }
ended parts (block ∷ blocks) = record { parts = AndBlock block.before block.variable block.sort parts; blocks = blocks }

-- after one more item
abbrev pub with_item : Building → Item → Building
with_item b (Body line) = record b { parts = AndLine b.parts line }
with_item b (Forall variable sort) = record { parts = NoPart; blocks = record { before = b.parts; variable = variable; sort = sort } ∷ b.blocks }
with_item b End = ended b.parts b.blocks

-- after these items
abbrev pub with_items : Building → List Item → Building
with_items b [] = b
with_items b (item ∷ items) = with_items (with_item b item) items

-- the parts that items make
abbrev pub parts_of : List Item → Parts
parts_of items = (with_items nothing_built items).parts
