-- The sizes of lines, added up item by item, are the size of their text.
use Rattle.std.proofs.Common.{◌≡◌, ℕ, ◌+◌, ◌*◌, true, List, [], ◌∷◌, ◌++◌, map, length, refl, sym, ◌∙◌, ap, arith, length-append}
use Rattle.std.specs.List.{flat_map}
use Rattle.spec_world_file.specs.Blocks as blocks
use Rattle.spec_world_file.specs.Blocks.{Body, Building, End, Forall, Item, Line, Parts, after_marks, ended, filled_line, is_variable, lines_of, nothing_built, once_each, parts_of, script_of, values_at, with_item, with_items}
use Rattle.world_ground.specs.Sizes.{Sizing, instances, nothing_sized, sized_item}
use Rattle.world_ground.specs.Sound.{Laid}
use Rattle.world_ground.specs.declared.sizes.Around.{Around}
use Rattle.spec_world_file.specs.declared.sort.Sort.{Sort}
use Rattle.world_ground.proofs.Scans.{AreNames, over_values, scan_is, text_size}

-- a sum over the texts of lines
abbrev sum_lines : (List ℕ → ℕ) → List Line → ℕ
sum_lines f [] = 0
sum_lines f (line ∷ lines) = f line.text + sum_lines f lines

sum-append : (f : List ℕ → ℕ) (xs ys : List Line) → sum_lines f (xs ++ ys) ≡ sum_lines f xs + sum_lines f ys
sum-append f [] ys = omega arith
sum-append f (line ∷ lines) ys = let rest = sum-append f lines ys in omega arith

-- a line with its line feeds, in these blocks
abbrev whole_size : List Sort → List Around → List ℕ → ℕ
whole_size sorts around text = instances sorts around + text_size sorts around text

-- ---- Lines once for each value

abbrev each_size : (n x place : ℕ) (values : List (List ℕ)) (size : List ℕ → ℕ) → List ℕ → ℕ
each_size n x place values size text = length values * n + over_values x place values size text

none_each : (n x place : ℕ) (size : List ℕ → ℕ) (lines : List Line) → sum_lines (each_size n x place [] size) lines ≡ 0
none_each n x place size [] = refl
none_each n x place size (line ∷ lines) = let rest = none_each n x place size lines in omega arith

one_each : (n x place : ℕ) (value : List ℕ) (values : List (List ℕ)) (size : List ℕ → ℕ) (lines : List Line) →
    sum_lines (λ text. n + size text) (map (filled_line x value place) lines) + sum_lines (each_size n x (place + 1) values size) lines ≡ sum_lines (each_size n x place (value ∷ values) size) lines
one_each n x place value values size [] = refl
one_each n x place value values size (line ∷ lines) = let rest = one_each n x place value values size lines in omega arith

sum_each : (n x place : ℕ) (values : List (List ℕ)) (size : List ℕ → ℕ) (lines : List Line) → sum_lines (λ text. n + size text) (once_each x place values lines) ≡ sum_lines (each_size n x place values size) lines
sum_each n x place [] size lines = sym (none_each n x place size lines)
sum_each n x place (value ∷ values) size lines =
    sum-append (λ text. n + size text) (map (filled_line x value place) lines) (once_each x (place + 1) values lines)
    ∙ ap (λ m. sum_lines (λ text. n + size text) (map (filled_line x value place) lines) + m) (sum_each n x (place + 1) values size lines)
    ∙ one_each n x place value values size lines

-- ---- Items

abbrev around_block : blocks.Block → Around
around_block block = record { variable = block.variable; sort = block.sort }

abbrev around : List blocks.Block → List Around
around open_blocks = map around_block open_blocks

-- the size of what stands before the blocks that are open
abbrev before_size : List Sort → List blocks.Block → ℕ
before_size sorts [] = 0
before_size sorts (block ∷ open_blocks) = sum_lines (whole_size sorts (around open_blocks)) (lines_of sorts block.before) + before_size sorts open_blocks

-- the size of what was built, over all instances
abbrev built_size : List Sort → Building → ℕ
built_size sorts b = sum_lines (whole_size sorts (around b.blocks)) (lines_of sorts b.parts) + before_size sorts b.blocks

abbrev sizing_of : List Sort → Building → Sizing
sizing_of sorts b = record { size = 11 + built_size sorts b; around = around b.blocks }

same_around : (sorts : List Sort) (m n : ℕ) (rounds : List Around) → m ≡ n → (let s : Sizing = record { size = m; around = rounds } in s) ≡ record { size = n; around = rounds }
same_around sorts m n rounds e = ap (λ k. let s : Sizing = record { size = k; around = rounds } in s) e

module _ (sorts : List Sort) (named : AreNames sorts) where
  step_line : (b : Building) (line : Line) → after_marks is_variable line.text ≡ true → sized_item sorts (sizing_of sorts b) (Body line) ≡ sizing_of sorts (with_item b (Body line))
  step_line b line h =
      let rounds = around b.blocks in
      let size = scan_is sorts named rounds line.text h in
      let more = sum-append (whole_size sorts rounds) (lines_of sorts b.parts) (line ∷ []) in
      same_around sorts _ _ rounds (omega arith)

  step_end : (parts : Parts) (open_blocks : List blocks.Block) → sized_item sorts (sizing_of sorts (record { parts = parts; blocks = open_blocks })) End ≡ sizing_of sorts (ended parts open_blocks)
  step_end parts [] = refl
  step_end parts (block ∷ open_blocks) =
      let rounds = around open_blocks in
      let more = sum-append (whole_size sorts rounds) (lines_of sorts block.before) (once_each block.variable 1 (values_at sorts block.sort) (lines_of sorts parts)) in
      let each = sum_each (instances sorts rounds) block.variable 1 (values_at sorts block.sort) (text_size sorts rounds) (lines_of sorts parts) in
      same_around sorts _ _ rounds (omega arith)

  step_forall : (b : Building) (x sort : ℕ) → sized_item sorts (sizing_of sorts b) (Forall x sort) ≡ sizing_of sorts (with_item b (Forall x sort))
  step_forall b x sort = same_around sorts _ _ (record { variable = x; sort = sort } ∷ around b.blocks) (omega arith)

-- after these items
abbrev pub sized_items : List Sort → Sizing → List Item → Sizing
sized_items sorts s [] = s
sized_items sorts s (item ∷ items) = sized_items sorts (sized_item sorts s item) items

laid_end : (parts : Parts) (open_blocks : List blocks.Block) (items : List Item) (to : ℕ) → Laid (length open_blocks) (End ∷ items) to → Laid (length (ended parts open_blocks).blocks) items to
laid_end parts [] items to h = absurd h
laid_end parts (block ∷ open_blocks) items to h = h

sized_is : (sorts : List Sort) → AreNames sorts → (b : Building) (items : List Item) (to : ℕ) → Laid (length b.blocks) items to → sized_items sorts (sizing_of sorts b) items ≡ sizing_of sorts (with_items b items)
sized_is sorts named b [] to h = refl
sized_is sorts named b (Body line ∷ items) to h = ap (λ (s : Sizing). sized_items sorts s items) (step_line sorts named b line h.1) ∙ sized_is sorts named (with_item b (Body line)) items to h.2
sized_is sorts named b (Forall x sort ∷ items) to h = ap (λ (s : Sizing). sized_items sorts s items) (step_forall sorts named b x sort) ∙ sized_is sorts named (with_item b (Forall x sort)) items to h.1
sized_is sorts named b (End ∷ items) to h =
    ap (λ (s : Sizing). sized_items sorts s items) (step_end sorts named b.parts b.blocks) ∙ sized_is sorts named (with_item b End) items to (laid_end b.parts b.blocks items to h)

open_after : (b : Building) (items : List Item) (to : ℕ) → Laid (length b.blocks) items to → length (with_items b items).blocks ≡ to
open_after b [] to h = h
open_after b (Body line ∷ items) to h = open_after (with_item b (Body line)) items to h.2
open_after b (Forall x sort ∷ items) to h = open_after (with_item b (Forall x sort)) items to h.1
open_after b (End ∷ items) to h = open_after (with_item b End) items to (laid_end b.parts b.blocks items to h)

-- ---- The text

text_is : (sorts : List Sort) (lines : List Line) → sum_lines (whole_size sorts []) lines ≡ length (flat_map (λ (line : Line). line.text ++ 10 ∷ []) lines)
text_is sorts [] = refl
text_is sorts (line ∷ lines) =
    let rest = text_is sorts lines in
    let feed = length-append line.text (10 ∷ []) in
    let both = length-append (line.text ++ 10 ∷ []) (flat_map (λ (l : Line). l.text ++ 10 ∷ []) lines) in
    omega arith

script_size : (sorts : List Sort) (lines : List Line) → 11 + sum_lines (whole_size sorts []) lines ≡ length (script_of lines)
script_size sorts lines =
    let text = text_is sorts lines in
    omega arith

closed_blocks : (sorts : List Sort) (parts : Parts) (open_blocks : List blocks.Block) → length open_blocks ≡ 0 → 11 + built_size sorts (record { parts = parts; blocks = open_blocks }) ≡ length (script_of (lines_of sorts parts))
closed_blocks sorts parts [] none = let size = script_size sorts (lines_of sorts parts) in omega arith
closed_blocks sorts parts (block ∷ open_blocks) none = absurd (omega arith)

-- the size of all items is that of the world script that they stand for
pub items_size : (sorts : List Sort) → AreNames sorts → (items : List Item) → Laid 0 items 0 → (sized_items sorts nothing_sized items).size ≡ length (script_of (lines_of sorts (parts_of items)))
items_size sorts named items h =
    ap (λ (s : Sizing). s.size) (sized_is sorts named nothing_built items 0 h) ∙ closed_blocks sorts (parts_of items) (with_items nothing_built items).blocks (open_after nothing_built items 0 h)
