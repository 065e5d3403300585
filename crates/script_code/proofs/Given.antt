-- The one value that a code leaves on a stack.
use Rattle.std.proofs.Common.{◌≡◌, ◌<◌, ℤ, List, [], ◌∷◌, map, length, sym, ap, ◌∙◌, arith, true≢false, true, false, Bool, is_ok}
use Rattle.std.specs.Prelude.{Result, Ok, Err}
use Rattle.spec_script.specs.declared.value.Value.{Value}
use Rattle.spec_script.specs.declared.value.Value.TheVariants.{Int}
use Rattle.spec_script.specs.declared.fault.ExecFault.{ExecFault}
use Rattle.base_texts.specs.Results.{◌>>=◌}
use Rattle.script_code.specs.Running.{on_top, put}

-- whether there is a value
abbrev some : Result (List Value) ExecFault → Bool
some (Ok []) = false
some (Ok (x ∷ xs)) = true
some (Err f) = false

pub value_there : (r : Result Value ExecFault) (xs : List Value) → put r [] ≡ Ok xs → 0 < length xs
value_there (Ok v) [] is = absurd (true≢false (ap some is))
value_there (Ok v) (x ∷ xs) is = omega arith
value_there (Err f) xs is = absurd (true≢false (sym (ap is_ok is)))

pub value_given : (r : Result Value ExecFault) (xs below : List Value) (x : Value) → put r [] ≡ Ok xs → xs ≡ x ∷ below → r ≡ Ok x
value_given (Ok v) xs below x is same = ap (λ (l : Result (List Value) ExecFault). l >>= on_top (λ x below. Ok x)) (is ∙ ap Ok same)
value_given (Err f) xs below x is same = absurd (true≢false (sym (ap is_ok is)))

pub number_there : (r : Result Value ExecFault) (ns : List ℤ) → put r [] ≡ Ok (map Int ns) → 0 < length ns
number_there r [] is = absurd (omega (arith, value_there r [] is))
number_there r (n ∷ ns) is = omega arith

pub number_given : (r : Result Value ExecFault) (ns below : List ℤ) (n : ℤ) → put r [] ≡ Ok (map Int ns) → ns ≡ n ∷ below → r ≡ Ok (Int n)
number_given r ns below n is same = value_given r (map Int ns) (map Int below) (Int n) is (ap (map Int) same)
