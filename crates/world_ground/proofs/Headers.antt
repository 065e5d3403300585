-- The first line of a file.
use Rattle.std.proofs.Common.{◌≡◌, ℕ, ◌-◌, ◌≤◌, Bool, List, [], ◌∷◌, map, length, length-drop, take, drop, get_or, ap, arith}
use Rattle.std.specs.Prelude.{bytes_eq, codes}
use Rattle.std.proofs.lemmas.List.{take_all}
use Rattle.spec_world_file.specs.WorldFile.{without_return}
use Rattle.spec_world_file.specs.GroundFile.{ground_of, headed}

-- where there is a first line, its test decides
pub headed_is : {X : Type 0} (f : X → List ℕ) (d : X) (xs : List X) (b : Bool) → 1 ≤ length xs → b ≡ bytes_eq (without_return (f (get_or xs 0 d))) (codes "bt-ground 1") → headed b (map f (drop 1 xs)) ≡ ground_of (map f xs)
headed_is f d [] b l e = absurd (omega arith)
headed_is f d (x ∷ xs) b l e = ap (λ (t : Bool). headed t (map f xs)) e

-- what follows the first is the rest
pub rest_whole : {X : Type 0} (xs : List X) → take (length xs - 1) (drop 1 xs) ≡ drop 1 xs
rest_whole xs = take_all _ _ (omega (arith, length-drop 1 xs))
