-- How many bytes lines have, without the lines: products over the blocks round them.
use Rattle.std.specs.Prelude.{ℕ, ◌+◌, ◌*◌, ◌==◌, if◌then◌else◌, List, [], ◌∷◌, drop, length}
use Rattle.spec_world_file.specs.Blocks.{Body, End, Forall, Item, is_mark, standing, values_at}
use Rattle.spec_world_file.specs.declared.sort.Sort.{Sort}
use Rattle.world_ground.specs.declared.sizes.Around.{Around}

-- how many bytes a mark stands for, over all these values, of which the first has this place
abbrev pub values_size : (mark place : ℕ) (values : List (List ℕ)) → ℕ
values_size mark place [] = 0
values_size mark place (value ∷ values) = length (standing mark value place) + values_size mark (place + 1) values

-- how many instances a line has in these blocks, the innermost first
abbrev pub instances : List Sort → List Around → ℕ
instances sorts [] = 1
instances sorts (block ∷ blocks) = length (values_at sorts block.sort) * instances sorts blocks

-- how many bytes a mark and its variable stand for, over all instances; what no block replaces stays
abbrev pub mark_size : List Sort → List Around → (mark variable : ℕ) → ℕ
mark_size sorts [] mark x = 2
mark_size sorts (block ∷ blocks) mark x =
    if x == block.variable then values_size mark 1 (values_at sorts block.sort) * instances sorts blocks
    else length (values_at sorts block.sort) * mark_size sorts blocks mark x

-- a sum over a text, of this for each byte, and of that for each mark with its variable
abbrev pub scan : ℕ → (ℕ → ℕ → ℕ) → List ℕ → ℕ
scan each marked [] = 0
scan each marked (b ∷ []) = each
scan each marked (b ∷ c ∷ text) = if is_mark b then marked b c + scan each marked text else each + scan each marked (c ∷ text)

-- how many bytes all instances of a line have, with their line feeds
abbrev pub line_size : List Sort → List Around → List ℕ → ℕ
line_size sorts around text = instances sorts around + scan (instances sorts around) (mark_size sorts around) text

-- the size of what was there so far, and the blocks that are open
pub record Sizing : Type 0 where
  pub size : ℕ
  pub around : List Around

-- the header has 11 bytes
abbrev pub nothing_sized : Sizing
nothing_sized = record { size = 11; around = [] }

-- after one more item
abbrev pub sized_item : List Sort → Sizing → Item → Sizing
sized_item sorts s (Body line) = record s { size = s.size + line_size sorts s.around line.text }
sized_item sorts s (Forall variable sort) = record s { around = record { variable = variable; sort = sort } ∷ s.around }
sized_item sorts s End = record s { around = drop 1 s.around }
