-- Numbers that have to stand in a range.
use Rattle.std.specs.Prelude.{◌≡◌, true, false, Bool, Option, Some, None}

-- a number that passes the test of its range, or none where the number does not pass it
abbrev pub Passes : {X Y : Type 0} → (Y → Bool) → (Y → X) → Y → Option X → Type 0
Passes test seen number (Some x) = (test number ≡ true) × (x ≡ seen number)
Passes test seen number None = test number ≡ false
