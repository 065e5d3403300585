-- What the places of a code stand for.
use Rattle.std.specs.Prelude.{ℕ, zero, suc, List, [], ◌∷◌}
use Rattle.script_code.specs.declared.instr.Instr.{Instr}

-- What a place of a code stands for: what its instruction makes of the places that follow it, of which the next is number 0.
-- The place at the end stands for one thing, and those past the end for another.
abbrev pub at_place : {R : Type 0} → (Instr → (ℕ → R) → R) → R → R → List Instr → ℕ → R
at_place makes end past [] zero = end
at_place makes end past [] (suc n) = past
at_place makes end past (i ∷ code) zero = makes i (at_place makes end past code)
at_place makes end past (i ∷ code) (suc n) = at_place makes end past code n
