-- What holds of what was read: small sorts, and items that make blocks.
use Rattle.std.specs.Prelude.{◌≡◌, ℕ, zero, suc, ◌≤◌, Bool, true, ◌&&◌, nat_le, List, [], ◌∷◌, length}
use Rattle.std.specs.List.{list_all}
use Rattle.spec_world.specs.Worlds.{is_name}
use Rattle.spec_world_file.specs.declared.sort.Sort.{Sort}
use Rattle.spec_world_file.specs.GroundFile.{Reading}
use Rattle.spec_world_file.specs.Blocks.{Item, Body, End, Forall, after_marks, is_variable}

-- a line is no longer than a file may be
abbrev pub is_short : List ℕ → Bool
is_short text = nat_le (length text) 1048576

-- the variable of a block is one
abbrev pub is_item : Item → Bool
is_item (Forall x sort) = is_variable x
is_item _ = true

-- a sort has at most 16 values, which are names
abbrev pub is_small : Sort → Bool
is_small sort = nat_le (length sort.values) 16 && list_all is_name sort.values

-- a body line is short, and stands in at most three blocks
abbrev pub FitsIn : ℕ → Item → Type 0
FitsIn depth (Body line) = (depth ≤ 3) × (length line.text ≤ 1048576)
FitsIn depth _ = Unit {0}

-- items lead from so many open blocks to so many, and a variable follows each mark of a body line
abbrev pub Laid : ℕ → List Item → ℕ → Type 0
Laid from [] to = from ≡ to
Laid from (Body line ∷ items) to = FitsIn from (Body line) × (after_marks is_variable line.text ≡ true) × Laid from items to
Laid from (Forall x sort ∷ items) to = (is_variable x ≡ true) × Laid (suc from) items to
Laid zero (End ∷ items) to = ⊥
Laid (suc from) (End ∷ items) to = Laid from items to

-- what was read of so many lines has small sorts, at most three open blocks, and items that lead to these
pub record IsSound (lines : ℕ) (r : Reading) : Type 0 where
  pub sorts_are : list_all is_small r.sorts ≡ true
  pub shallow : length r.blocks ≤ 3
  pub laid : Laid 0 r.items (length r.blocks)
  pub few : length r.items ≤ lines
