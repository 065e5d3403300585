-- One line after the other.
use Rattle.std.proofs.Common.{◌≡◌, ℕ, ◌+◌, ◌<◌, List, map, length, drop, get_or, Result, Ok, Err, sym, ◌∙◌, ap, arith}
use Rattle.std.proofs.lemmas.List.{drop_more}
use Rattle.base_texts.specs.declared.stop.Stop.{Stop}
use Rattle.base_texts.specs.declared.stop.Stop.TheVariants as stop
use Rattle.spec_world_file.specs.declared.ground_fault.GroundFault.{GroundFault}
use Rattle.spec_world_file.specs.GroundFile.{Reading, goes_on, with_line, with_lines}
use Rattle.world_ground.specs.Readings.{Leaves}

module _ {X : Type 0} (f : X → List ℕ) (d : X) (xs : List X) (i n : ℕ) (r : Reading) (within : i < length xs) (is : n ≡ i + 2) where
  next : with_lines (i + 2) (map f (drop i xs)) r ≡ goes_on (with_line n (f (get_or xs i d)) r) (with_lines (i + 2 + 1) (map f (drop (i + 1) xs)))
  next =
      ap (λ (ts : List X). with_lines (i + 2) (map f ts) r) (drop_more xs i d within)
      ∙ ap (λ (m : ℕ). goes_on (with_line m (f (get_or xs i d)) r) (with_lines (i + 2 + 1) (map f (drop (i + 1) xs)))) (sym is)

  -- what is said of all lines is said of the rest after this line
  pub goes : (left : Reading) (total : Result Reading GroundFault) → with_line n (f (get_or xs i d)) r ≡ Ok left → with_lines (i + 2) (map f (drop i xs)) r ≡ total → with_lines (i + 1 + 2) (map f (drop (i + 1) xs)) left ≡ total
  goes left total e h =
      let number : i + 1 + 2 ≡ i + 2 + 1 = omega arith in
      ap (λ (m : ℕ). with_lines m (map f (drop (i + 1) xs)) left) number
      ∙ sym (ap (λ (s : Result Reading GroundFault). goes_on s (with_lines (i + 2 + 1) (map f (drop (i + 1) xs)))) e)
      ∙ sym next
      ∙ h

  -- the fault of this line is that of all lines
  pub fails : (A : Type 0) (s : Stop GroundFault) (left now : Reading) (total : Result Reading GroundFault) → Leaves {A = A} (Err s) left (with_line n (f (get_or xs i d)) r) → with_lines (i + 2) (map f (drop i xs)) r ≡ total → Leaves {A = A} (Err s) now total
  fails A stop.NoMemory left now total e h = tt
  fails A (stop.Fault fault) left now total e h =
      sym h ∙ next ∙ ap (λ (s : Result Reading GroundFault). goes_on s (with_lines (i + 2 + 1) (map f (drop (i + 1) xs)))) e
