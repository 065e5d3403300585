-- Lines that are replaced in one text are replaced one by one.
use Rattle.std.proofs.Common.{◌≡◌, ℕ, ◌+◌, Bool, true, false, ◌&&◌, ◌==◌, if◌then◌else◌, List, [], ◌∷◌, ◌++◌, ◌<◌, map, length, drop, get_or, refl, sym, ◌∙◌, ap, append_assoc, append-nil, arith}
use Rattle.std.proofs.lemmas.Bool.Decides.{nat_tests}
use Rattle.std.specs.List.{list_all}
use Rattle.std.proofs.lemmas.Grind.{flat_map-append}
use Rattle.std.proofs.lemmas.List.{drop_more, map-append}
use Rattle.spec_script.proofs.Bools.{both}
use Rattle.world_ground.proofs.Marked.{both_true, if_false, right_false}
use Rattle.spec_world_file.specs.Blocks as blocks
use Rattle.spec_world_file.specs.Blocks.{Body, Building, End, Forall, Item, Line, Parts, ended, filled, filled_line, is_mark, is_variable, lines_of, nothing_built, once_each, parts_of, standing, values_at, with_item, with_items}
use Rattle.world_ground.specs.Flat.{FlatLines, flat_each, flat_filled, flat_lines, flat_text, with_flat_line}
use Rattle.world_ground.specs.Making.{Making, made_item, nothing_made}
use Rattle.world_ground.specs.Sound.{is_item}
use Rattle.world_ground.specs.declared.make.Block.{Block}
use Rattle.spec_world_file.specs.declared.sort.Sort.{Sort}

if_append : (b : Bool) (t e t' e' z : List ℕ) → t' ≡ t ++ z → e' ≡ e ++ z → (if b then t' else e') ≡ (if b then t else e) ++ z
if_append true t e t' e' z p q = p
if_append false t e t' e' z p q = q

-- ---- A text with its line feed

module _ (x : ℕ) (value : List ℕ) (place : ℕ) (apart : (10 == x) ≡ false) where
  feed : (rest : List ℕ) → filled x value place (10 ∷ rest) ≡ 10 ∷ filled x value place rest
  feed [] = refl
  feed (c ∷ rest) = refl

  filled_feed : (text rest : List ℕ) → filled x value place (text ++ 10 ∷ rest) ≡ filled x value place text ++ 10 ∷ filled x value place rest
  filled_feed [] rest = feed rest
  filled_feed (b ∷ []) rest =
      if_false (is_mark b && 10 == x) _ _ (right_false (is_mark b) (10 == x) apart) ∙ ap (λ t. b ∷ t) (feed rest)
  filled_feed (b ∷ c ∷ text) rest =
      if_append (is_mark b && c == x) _ _ _ _ (10 ∷ filled x value place rest)
      (ap (λ t. standing b value place ++ t) (filled_feed text rest) ∙ sym (append_assoc (standing b value place) (filled x value place text) (10 ∷ filled x value place rest)))
      (ap (λ t. b ∷ t) (filled_feed (c ∷ text) rest))

  filled_lines : (lines : List Line) → filled x value place (flat_text lines) ≡ flat_text (map (filled_line x value place) lines)
  filled_lines [] = refl
  filled_lines (line ∷ lines) =
      ap (filled x value place) (append_assoc line.text (10 ∷ []) (flat_text lines))
      ∙ filled_feed line.text (flat_text lines)
      ∙ ap (λ t. filled x value place line.text ++ 10 ∷ t) (filled_lines lines)
      ∙ sym (append_assoc (filled x value place line.text) (10 ∷ []) (flat_text (map (filled_line x value place) lines)))

same_origins : (x : ℕ) (value : List ℕ) (place : ℕ) (lines : List Line) → map (λ line. line.origin) (map (filled_line x value place) lines) ≡ map (λ line. line.origin) lines
same_origins x value place [] = refl
same_origins x value place (line ∷ lines) = ap (λ t. line.origin ∷ t) (same_origins x value place lines)

flat-append : (xs ys : List Line) → flat_lines (xs ++ ys) ≡ record { text = flat_text xs ++ flat_text ys; origins = map (λ line. line.origin) xs ++ map (λ line. line.origin) ys }
flat-append xs ys =
    ap (λ t. let f : FlatLines = record { text = t; origins = map (λ line. line.origin) (xs ++ ys) } in f) (flat_map-append (λ (line : Line). line.text ++ 10 ∷ []) xs ys)
    ∙ ap (λ o. let f : FlatLines = record { text = flat_text xs ++ flat_text ys; origins = o } in f) (map-append (λ (line : Line). line.origin) xs ys)

filled_after : (x : ℕ) (value : List ℕ) (place : ℕ) → (10 == x) ≡ false → (lines before : List Line) →
    (let f : FlatLines = record { text = flat_text before ++ filled x value place (flat_text lines); origins = map (λ line. line.origin) before ++ map (λ line. line.origin) lines } in f)
    ≡ flat_lines (before ++ map (filled_line x value place) lines)
filled_after x value place apart lines before =
    ap (λ t. let f : FlatLines = record { text = flat_text before ++ t; origins = map (λ line. line.origin) before ++ map (λ line. line.origin) lines } in f) (filled_lines x value place apart lines)
    ∙ ap (λ o. let f : FlatLines = record { text = flat_text before ++ flat_text (map (filled_line x value place) lines); origins = map (λ line. line.origin) before ++ o } in f) (sym (same_origins x value place lines))
    ∙ sym (flat-append before (map (filled_line x value place) lines))

-- lines once for each value, in one text
pub flat_once_each : (x place : ℕ) (values : List (List ℕ)) → (10 == x) ≡ false → (lines before : List Line) →
    flat_each x place values (flat_lines lines) (flat_lines before) ≡ flat_lines (before ++ once_each x place values lines)
flat_once_each x place [] apart lines before = ap flat_lines (sym (append-nil before))
flat_once_each x place (value ∷ values) apart lines before =
    ap (flat_each x (place + 1) values (flat_lines lines)) (filled_after x value place apart lines before)
    ∙ flat_once_each x (place + 1) values apart lines (before ++ map (filled_line x value place) lines)
    ∙ ap flat_lines (append_assoc before (map (filled_line x value place) lines) (once_each x (place + 1) values lines))

-- one value more
pub each_step : (x i : ℕ) (values : List (List ℕ)) (value : List ℕ) (lines before next total : FlatLines) → i < length values → value ≡ get_or values i value → next ≡ flat_filled x value (i + 1) lines before →
    flat_each x (i + 1) (drop i values) lines before ≡ total → flat_each x (i + 1 + 1) (drop (i + 1) values) lines next ≡ total
each_step x i values value lines before next total within is made h =
    ap (flat_each x (i + 1 + 1) (drop (i + 1) values) lines) (made ∙ ap (λ (v : List ℕ). flat_filled x v (i + 1) lines before) is)
    ∙ sym (ap (λ (vs : List (List ℕ)). flat_each x (i + 1) vs lines before) (drop_more values i value within))
    ∙ h

-- ---- Items

-- after these items
abbrev pub made_items : List Sort → Making → List Item → Making
made_items sorts m [] = m
made_items sorts m (item ∷ items) = made_items sorts (made_item sorts m item) items

abbrev flat_block : List Sort → blocks.Block → Block
flat_block sorts block = record { before = flat_lines (lines_of sorts block.before); variable = block.variable; sort = block.sort }

-- what is made of what was built
abbrev made_of : List Sort → Building → Making
made_of sorts b = record { lines = flat_lines (lines_of sorts b.parts); blocks = map (flat_block sorts) b.blocks }

abbrev has_variable : blocks.Block → Bool
has_variable block = is_variable block.variable

no_feed : (x : ℕ) → is_variable x ≡ true → (10 == x) ≡ false
no_feed x h = grind (arith, nat_tests)

one_line : (sorts : List Sort) (parts : Parts) (line : Line) → with_flat_line line (flat_lines (lines_of sorts parts)) ≡ flat_lines (lines_of sorts parts ++ line ∷ [])
one_line sorts parts line =
    ap (λ t. let f : FlatLines = record { text = t; origins = map (λ line. line.origin) (lines_of sorts parts) ++ line.origin ∷ [] } in f)
    (append_assoc (flat_text (lines_of sorts parts)) line.text (10 ∷ []) ∙ ap (λ t. flat_text (lines_of sorts parts) ++ t) (sym (append-nil (line.text ++ 10 ∷ []))))
    ∙ sym (flat-append (lines_of sorts parts) (line ∷ []))

step_end : (sorts : List Sort) (parts : Parts) (open_blocks : List blocks.Block) → list_all has_variable open_blocks ≡ true →
    made_item sorts (made_of sorts (record { parts = parts; blocks = open_blocks })) End ≡ made_of sorts (ended parts open_blocks)
step_end sorts parts [] h = refl
step_end sorts parts (block ∷ open_blocks) h =
    ap (λ l. let m : Making = record { lines = l; blocks = map (flat_block sorts) open_blocks } in m)
    (flat_once_each block.variable 1 (values_at sorts block.sort) (no_feed block.variable (both (is_variable block.variable) (list_all has_variable open_blocks) h).0) (lines_of sorts parts) (lines_of sorts block.before))

step : (sorts : List Sort) (b : Building) (item : Item) → list_all has_variable b.blocks ≡ true → made_item sorts (made_of sorts b) item ≡ made_of sorts (with_item b item)
step sorts b (Body line) h = ap (λ l. let m : Making = record { lines = l; blocks = map (flat_block sorts) b.blocks } in m) (one_line sorts b.parts line)
step sorts b (Forall x sort) h = refl
step sorts b End h = step_end sorts b.parts b.blocks h

kept_end : (parts : Parts) (open_blocks : List blocks.Block) → list_all has_variable open_blocks ≡ true → list_all has_variable (ended parts open_blocks).blocks ≡ true
kept_end parts [] h = refl
kept_end parts (block ∷ open_blocks) h = (both (is_variable block.variable) (list_all has_variable open_blocks) h).1

kept : (b : Building) (item : Item) → is_item item ≡ true → list_all has_variable b.blocks ≡ true → list_all has_variable (with_item b item).blocks ≡ true
kept b (Body line) v h = h
kept b (Forall x sort) v h = both_true (is_variable x) (list_all has_variable b.blocks) v h
kept b End v h = kept_end b.parts b.blocks h

made_is : (sorts : List Sort) (b : Building) (items : List Item) → list_all is_item items ≡ true → list_all has_variable b.blocks ≡ true → made_items sorts (made_of sorts b) items ≡ made_of sorts (with_items b items)
made_is sorts b [] v h = refl
made_is sorts b (item ∷ items) v h =
    let vs = both (is_item item) (list_all is_item items) v in
    ap (λ (m : Making). made_items sorts m items) (step sorts b item h) ∙ made_is sorts (with_item b item) items vs.1 (kept b item vs.0 h)

-- the lines that are made of items are those that they stand for
pub made_lines : (sorts : List Sort) (items : List Item) → list_all is_item items ≡ true → (made_items sorts nothing_made items).lines ≡ flat_lines (lines_of sorts (parts_of items))
made_lines sorts items v = ap (λ (m : Making). m.lines) (made_is sorts nothing_built items v refl)
