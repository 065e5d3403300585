-- Levels of operators, and comparisons of numbers.
use Rattle.std.proofs.Common.{◌≡◌, ℕ, ◌<◌, ◌≤◌, true, ◌==◌, arith}
use Rattle.std.specs.Prelude.{nat_le}
use Rattle.std.proofs.lemmas.Bool.Decides.{nat_tests}
use Rattle.spec_script.specs.declared.syntax.BinOp.{BinOp}
use Rattle.spec_script.specs.declared.syntax.BinOp.TheVariants.{Add, Sub, Mul, Div, And, Or, BitAnd, BitOr, BitXor, Compare}
use Rattle.spec_script.specs.declared.syntax.Cmp.TheVariants.{Equal, Differ, Less, AtMost, More, AtLeast}
use Rattle.spec_script.specs.Grammar.{level}

pub level_some : (op : BinOp) → (0 < level op) × (level op < 10)
level_some Add = (omega arith, omega arith)
level_some Sub = (omega arith, omega arith)
level_some Mul = (omega arith, omega arith)
level_some Div = (omega arith, omega arith)
level_some And = (omega arith, omega arith)
level_some Or = (omega arith, omega arith)
level_some BitAnd = (omega arith, omega arith)
level_some BitOr = (omega arith, omega arith)
level_some BitXor = (omega arith, omega arith)
level_some (Compare Equal) = (omega arith, omega arith)
level_some (Compare Differ) = (omega arith, omega arith)
level_some (Compare Less) = (omega arith, omega arith)
level_some (Compare AtMost) = (omega arith, omega arith)
level_some (Compare More) = (omega arith, omega arith)
level_some (Compare AtLeast) = (omega arith, omega arith)

-- tests that hold or fail
pub le-yes : (a b : ℕ) → a ≤ b → nat_le a b ≡ true
le-yes a b h = grind (arith, nat_tests)

pub le-from : (a b : ℕ) → nat_le a b ≡ true → a ≤ b
le-from a b h = grind (arith, nat_tests)

pub eq-from : (a b : ℕ) → (a == b) ≡ true → a ≡ b
eq-from a b h = grind (arith, nat_tests)
