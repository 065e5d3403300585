-- Notes that are put into a room, one after another.
use Rattle.std.proofs.Common.{◌≡◌, ℕ, ◌+◌, ◌<◌, List, [], ◌∷◌, ◌++◌, length, map, take, drop, set, get_or, sym, ap, ◌∙◌, append_assoc, length-take, arith}
use Rattle.std.proofs.lemmas.List.{drop_more, length-map, map_more}
use Rattle.std.proofs.Math.Seq.{set-append_seam}
use Rattle.spec_run.specs.declared.note.Note.{Note}
use Rattle.host_library.specs.declared.notes.NoteTold.{NoteTold}
use Rattle.host_library.specs.Notes.{note_told, notes_in}

module _ (notes : List Note) (room : List NoteTold) (i : ℕ) (none : Note) where
  -- the next one is put
  pub put_more : i < length notes → i < length room → set (notes_in i notes room) i (note_told (get_or notes i none)) ≡ notes_in (i + 1) notes room
  put_more within place =
      let before = map note_told (take i notes) in
      let rest = drop (i + 1) room in
      let next = note_told (get_or notes i none) in
      let held = get_or room i next in
      let many : length before ≡ i = length-map (take i notes) note_told ∙ omega (arith, length-take i notes) in
      ap (λ (behind : List NoteTold). set (before ++ behind) i next) (drop_more room i next place)
      ∙ ap (λ j. set (before ++ held ∷ rest) j next) (sym many)
      ∙ set-append_seam before held rest next
      ∙ sym (append_assoc before (next ∷ []) rest)
      ∙ ap (λ (told : List NoteTold). told ++ rest) (sym (map_more note_told notes i none within))
