-- Texts that are written one after the other.
use Rattle.std.proofs.Common.{◌≡◌, ℕ, ◌+◌, ◌-◌, ◌<◌, List, [], ◌∷◌, ◌++◌, Option, map, length, get_or, take, drop, ap, sym, subst, ◌∙◌, append-nil, arith}
use Rattle.std.proofs.Math.Seq.{take-add}
use Rattle.std.proofs.lemmas.List.{get_or-drop, take_rest, take_more, drop_more, take-append-drop, map-append}
use Rattle.std.proofs.lemmas.List.Folds.{concat-append}
use Rattle.std.specs.List.{concat}
use Rattle.spec_run.specs.declared.block.Block.{Block}
use Rattle.spec_output.specs.Lines.{LineNames, change_lines, header_line, lines_of, note_line}
use Rattle.spec_outside.specs.Appending.{Appended, AppendedPrefix}
use Rattle.base_outside.proofs.Appends.{Appended-trans, AppendedPrefix-whole, AppendedPrefix-longer, AppendedPrefix-after}

-- a text that was added to an empty line is the line
pub alone : {line old : List ℕ} (text : List ℕ) → old ≡ [] → line ≡ old ++ text → line ≡ text
alone text none put = put ∙ ap (λ (z : List ℕ). z ++ text) none

-- the texts up to one more
pub concat-map_more :
    {X : Type 0} (f : X → List ℕ) (xs : List X) (i : ℕ) (d : X) →
    i < length xs → concat (map f (take (i + 1) xs)) ≡ concat (map f (take i xs)) ++ f (get_or xs i d)
concat-map_more f xs i d h =
    ap (λ ys. concat (map f ys)) (take_more xs i d h) ∙ ap concat (map-append f (take i xs) (get_or xs i d ∷ []))
    ∙ concat-append (map f (take i xs)) (f (get_or xs i d) ∷ [])
    ∙ ap (λ (z : List ℕ). concat (map f (take i xs)) ++ z) (append-nil (f (get_or xs i d)))

-- the texts so far, to which the next is added
pub concat-map_next :
    {X : Type 0} (f : X → List ℕ) (xs : List X) (i : ℕ) (d : X) (old new : List ℕ) →
    i < length xs → new ≡ old ++ f (get_or xs i d) → old ≡ concat (map f (take i xs)) → new ≡ concat (map f (take (i + 1) xs))
concat-map_next f xs i d old new h more so_far =
    more ∙ ap (λ (z : List ℕ). z ++ f (get_or xs i d)) so_far ∙ sym (concat-map_more f xs i d h)

-- the first of the items from a place on
pub first_left : {X : Type 0} (xs : List X) (at : ℕ) (d : X) → get_or (take (length xs - at) (drop at xs)) 0 d ≡ get_or xs at d
first_left xs at d =
    let same : at + 0 ≡ at = omega arith in
    ap (λ ys. get_or ys 0 d) (take_rest xs at) ∙ get_or-drop at xs 0 d ∙ ap (λ i. get_or xs i d) same

-- the texts before a place, and the rest
pub concat-map_split :
    {X : Type 0} (f : X → List ℕ) (xs : List X) (i : ℕ) →
    concat (map f xs) ≡ concat (map f (take i xs)) ++ concat (map f (drop i xs))
concat-map_split f xs i =
    ap (λ ys. concat (map f ys)) (sym (take-append-drop i xs)) ∙ ap concat (map-append f (take i xs) (drop i xs))
    ∙ concat-append (map f (take i xs)) (map f (drop i xs))

-- the texts up to some more
pub concat-map_further :
    {X : Type 0} (f : X → List ℕ) (xs : List X) (i n : ℕ) → concat (map f (take (i + n) xs)) ≡ concat (map f (take i xs)) ++ concat (map f (take n (drop i xs)))
concat-map_further f xs i n =
    ap (λ ys. concat (map f ys)) (take-add i n xs) ∙ ap concat (map-append f (take i xs) (take n (drop i xs)))
    ∙ concat-append (map f (take i xs)) (map f (take n (drop i xs)))

-- one more text was written
pub Appended-map_more :
    {X : Type 0} (f : X → List ℕ) (xs : List X) (i : ℕ) (d : X) (a b c : Option (List ℕ)) →
    i < length xs → Appended a b (concat (map f (take i xs))) → Appended b c (f (get_or xs i d)) →
    Appended a c (concat (map f (take (i + 1) xs)))
Appended-map_more f xs i d a b c h p q =
    subst (Appended a c) (sym (concat-map_more f xs i d h)) (Appended-trans a b c (concat (map f (take i xs))) (f (get_or xs i d)) p q)

-- some more texts were written
pub Appended-map_further :
    {X : Type 0} (f : X → List ℕ) (xs : List X) (i n : ℕ) (a b c : Option (List ℕ)) →
    Appended a b (concat (map f (take i xs))) → Appended b c (concat (map f (take n (drop i xs)))) → Appended a c (concat (map f (take (i + n) xs)))
Appended-map_further f xs i n a b c p q =
    subst (Appended a c) (sym (concat-map_further f xs i n))
    (Appended-trans a b c (concat (map f (take i xs))) (concat (map f (take n (drop i xs)))) p q)

-- the texts before a place were written
pub AppendedPrefix-map_some :
    {X : Type 0} (f : X → List ℕ) (xs : List X) (i : ℕ) (a b : Option (List ℕ)) →
    Appended a b (concat (map f (take i xs))) → AppendedPrefix a b (concat (map f xs))
AppendedPrefix-map_some f xs i a b p =
    subst (AppendedPrefix a b) (sym (concat-map_split f xs i))
    (AppendedPrefix-longer a b (concat (map f (take i xs))) (concat (map f (drop i xs))) (AppendedPrefix-whole a b (concat (map f (take i xs))) p))

-- the texts before a place were written, and a prefix of the next
pub AppendedPrefix-map_next :
    {X : Type 0} (f : X → List ℕ) (xs : List X) (i : ℕ) (d : X) (a b c : Option (List ℕ)) →
    i < length xs → Appended a b (concat (map f (take i xs))) → AppendedPrefix b c (f (get_or xs i d)) →
    AppendedPrefix a c (concat (map f xs))
AppendedPrefix-map_next f xs i d a b c h p q =
    subst (AppendedPrefix a c) (sym (concat-map_split f xs i))
    (AppendedPrefix-after a b c (concat (map f (take i xs))) (concat (map f (drop i xs))) p
    (subst (AppendedPrefix b c) (sym (ap (λ ys. concat (map f ys)) (drop_more xs i d h)))
    (AppendedPrefix-longer b c (f (get_or xs i d)) (concat (map f (drop (i + 1) xs))) q)))

-- the texts before a place were written, and a prefix of some more
pub AppendedPrefix-map_further :
    {X : Type 0} (f : X → List ℕ) (xs : List X) (i n : ℕ) (a b c : Option (List ℕ)) →
    Appended a b (concat (map f (take i xs))) → AppendedPrefix b c (concat (map f (take n (drop i xs)))) → AppendedPrefix a c (concat (map f xs))
AppendedPrefix-map_further f xs i n a b c p q =
    subst (AppendedPrefix a c) (sym (concat-map_split f xs (i + n)))
    (AppendedPrefix-longer a c _ (concat (map f (drop (i + n) xs)))
    (subst (AppendedPrefix a c) (sym (concat-map_further f xs i n))
    (AppendedPrefix-after a b c (concat (map f (take i xs))) (concat (map f (take n (drop i xs)))) p q)))

-- some texts were written, and then others
pub Appended-both :
    (xs ys : List (List ℕ)) (a b c : Option (List ℕ)) → Appended a b (concat xs) → Appended b c (concat ys) → Appended a c (concat (xs ++ ys))
Appended-both xs ys a b c p q = subst (Appended a c) (sym (concat-append xs ys)) (Appended-trans a b c (concat xs) (concat ys) p q)

-- a prefix of some texts was written, after which others stand
pub AppendedPrefix-first :
    (xs ys : List (List ℕ)) (a b : Option (List ℕ)) → AppendedPrefix a b (concat xs) → AppendedPrefix a b (concat (xs ++ ys))
AppendedPrefix-first xs ys a b p = subst (AppendedPrefix a b) (sym (concat-append xs ys)) (AppendedPrefix-longer a b (concat xs) (concat ys) p)

-- some texts were written, and a prefix of others
pub AppendedPrefix-second :
    (xs ys : List (List ℕ)) (a b c : Option (List ℕ)) → Appended a b (concat xs) → AppendedPrefix b c (concat ys) → AppendedPrefix a c (concat (xs ++ ys))
AppendedPrefix-second xs ys a b c p q = subst (AppendedPrefix a c) (sym (concat-append xs ys)) (AppendedPrefix-after a b c (concat xs) (concat ys) p q)

-- the lines of a block were written
pub Appended-lines_of :
    (names : LineNames) (block : Block) (a b c d : Option (List ℕ)) →
    Appended a b (header_line names block.header) → Appended b c (concat (map (note_line names) block.notes)) →
    Appended c d (concat (change_lines names block)) → Appended a d (concat (lines_of names block))
Appended-lines_of names block a b c d p q r =
    let notes = map (note_line names) block.notes in
    let changes = change_lines names block in
    Appended-trans a b d (header_line names block.header) (concat (notes ++ changes)) p (Appended-both notes changes b c d q r)

-- the header of a block was written, and a prefix of its notes
pub AppendedPrefix-lines_of_notes :
    (names : LineNames) (block : Block) (a b c : Option (List ℕ)) →
    Appended a b (header_line names block.header) → AppendedPrefix b c (concat (map (note_line names) block.notes)) →
    AppendedPrefix a c (concat (lines_of names block))
AppendedPrefix-lines_of_notes names block a b c p q =
    let notes = map (note_line names) block.notes in
    let changes = change_lines names block in
    AppendedPrefix-after a b c (header_line names block.header) (concat (notes ++ changes)) p (AppendedPrefix-first notes changes b c q)

-- the header and the notes of a block were written, and a prefix of its changes
pub AppendedPrefix-lines_of_changes :
    (names : LineNames) (block : Block) (a b c d : Option (List ℕ)) →
    Appended a b (header_line names block.header) → Appended b c (concat (map (note_line names) block.notes)) →
    AppendedPrefix c d (concat (change_lines names block)) → AppendedPrefix a d (concat (lines_of names block))
AppendedPrefix-lines_of_changes names block a b c d p q r =
    let notes = map (note_line names) block.notes in
    let changes = change_lines names block in
    AppendedPrefix-after a b d (header_line names block.header) (concat (notes ++ changes)) p (AppendedPrefix-second notes changes b c d q r)
