-- One line after the other, and the world at the end.
use Rattle.std.proofs.Common.{◌≡◌, ℕ, ◌+◌, ◌<◌, ◌≤◌, ◌==◌, List, [], ◌∷◌, map, length, drop, get_or, Result, Ok, Err, sym, subst, arith}
use Rattle.std.specs.Prelude.{IfOk}
use Rattle.std.specs.List.{slice_split}
use Rattle.std.proofs.lemmas.List.{drop_more}
use Rattle.std.proofs.lemmas.List.Splits.{length-slice_split}
use Rattle.std.proofs.lemmas.List.Sums.{count_by-le-length}
use Rattle.base_texts.specs.declared.stop.Stop.{Stop}
use Rattle.spec_world.specs.declared.world.World.{World}
use Rattle.spec_world_file.specs.declared.world_fault.WorldFault.{WorldFault}
use Rattle.spec_world_file.specs.declared.world_fault.WorldFaultKind.{WorldFaultKind}
use Rattle.spec_world.specs.Worlds.{IsValidWorld}
use Rattle.spec_world_file.specs.WorldFile.{Reading, AfterLines, AfterText, GoesOn, ReadsWorld, lines_in, without_empty_rest}
use Rattle.world_reader.specs.Readings.{Gives}

module _ {X : Type 0} (f : X → List ℕ) (d : X) (xs : List X) (i : ℕ) (r : Reading) (within : i < length xs) where
  next_line : (n : ℕ) (said : Result Reading WorldFault) (next : Result Reading WorldFaultKind) → AfterText r (f (get_or xs i d)) next → GoesOn n (λ left. AfterLines (n + 1) (map f (drop (i + 1) xs)) left said) said next → AfterLines n (map f (drop i xs)) r said
  next_line n said next text on = subst (λ (ts : List X). AfterLines n (map f ts) r said) (sym (drop_more xs i d within)) (next, text, on)

  -- what is said of the rest is said of it after this line
  pub goes_on : (left : Reading) (said : Result Reading WorldFault) → AfterText r (f (get_or xs i d)) (Ok left) → AfterLines (i + 1 + 2) (map f (drop (i + 1) xs)) left said → AfterLines (i + 2) (map f (drop i xs)) r said
  goes_on left said text rest =
      let number : i + 1 + 2 ≡ i + 2 + 1 = omega arith in
      next_line (i + 2) said (Ok left) text (subst (λ (n : ℕ). AfterLines n (map f (drop (i + 1) xs)) left said) number rest)

-- ---- The end of reading

shorter : (texts : List (List ℕ)) → length (without_empty_rest texts) ≤ length texts
shorter [] = omega arith
shorter ([] ∷ []) = omega arith
shorter ([] ∷ u ∷ us) = omega (arith, shorter (u ∷ us))
shorter ((c ∷ cs) ∷ []) = omega arith
shorter ((c ∷ cs) ∷ u ∷ us) = omega (arith, shorter (u ∷ us))

-- a file has no more lines than bytes, but for one
pub few_lines : (bytes : List ℕ) → length (lines_in bytes) ≤ length bytes + 1
few_lines bytes = omega (arith, shorter (slice_split (λ b. b == 10) bytes), length-slice_split (λ b. b == 10) bytes, count_by-le-length (λ b. b == 10) bytes)

pub valid_if_read : (bytes : List ℕ) → ((w : World) → ReadsWorld bytes (Ok w) → IsValidWorld w) → (result : Result World (Stop WorldFault)) → Gives result (ReadsWorld bytes) → IfOk result IsValidWorld
valid_if_read bytes law (Ok w) h = law w h
valid_if_read bytes law (Err s) h = tt
