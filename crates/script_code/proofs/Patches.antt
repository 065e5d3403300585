-- A jump is written after the instructions that it passes over.
use Rattle.std.proofs.Common.{◌≡◌, ℕ, ◌+◌, ◌-◌, ℤ, pos, Bool, true, false, true≢false, drop, List, [], ◌∷◌, ◌++◌, length, sym, ap, ◌∙◌, arith, append_assoc, length-append}
use Rattle.std.specs.Prelude.{Option, Some, None, slice_set}
use Rattle.std.proofs.Math.Seq.{drop-append_seam, set-append_seam}
use Rattle.spec_script.specs.declared.syntax.BinOp.{BinOp}
use Rattle.script_code.specs.declared.instr.Instr.{Instr}
use Rattle.script_code.specs.declared.instr.Instr.TheVariants as instr
use Rattle.script_code.specs.Postfixes.{with_number, lone_number, applied}

abbrev number_or_zero : Option ℤ → ℤ
number_or_zero (Some n) = n
number_or_zero None = pos 0

abbrev is_there : Option ℤ → Bool
is_there (Some n) = true
is_there None = false

lone : (b : List Instr) (n : ℤ) → lone_number b ≡ Some n → b ≡ instr.Number n ∷ []
lone (instr.Number m ∷ []) n is = ap (λ o. instr.Number (number_or_zero o) ∷ []) is
lone b n is = absurd (true≢false (sym (ap is_there is)))

-- an operator that takes in its right operand
pub take_in : (op : BinOp) (n : ℤ) (code front b : List Instr) (place : ℕ) → place ≡ length front → code ≡ front ++ b → lone_number (drop place code) ≡ Some n → slice_set code place (with_number op n) ≡ front ++ applied op b
take_in op n code front b place at is found =
    let rest : drop place code ≡ b = (λ k. drop (at k) (is k)) ∙ drop-append_seam front b in
    let same : b ≡ instr.Number n ∷ [] = lone b n (ap lone_number (sym rest) ∙ found) in
    (λ k. slice_set ((is ∙ ap (λ z. front ++ z) same) k) (at k) (with_number op n))
    ∙ set-append_seam front (instr.Number n) [] (with_number op n)
    ∙ ap (λ z. front ++ applied op z) (sym same)

-- the jump over the right operand of `&&` or `||`
pub patch : (jump : ℕ → Instr) (t : Instr) (code front b : List Instr) (place : ℕ) → place ≡ length front → code ≡ front ++ jump 0 ∷ b → slice_set code place (jump (length code - place)) ++ t ∷ [] ≡ front ++ jump (length b + 1) ∷ (b ++ t ∷ [])
patch jump t code front b place at is =
    let j = jump (length b + 1) in
    let long : length code - place ≡ length b + 1 = omega (arith, ap length is, length-append front (jump 0 ∷ b), at) in
    let written : slice_set code place j ≡ front ++ j ∷ b =
    ap (λ c. slice_set c place j) is ∙ ap (λ n. slice_set (front ++ jump 0 ∷ b) n j) at ∙ set-append_seam front (jump 0) b j in
    ap (λ n. slice_set code place (jump n) ++ t ∷ []) long ∙ ap (λ c. c ++ t ∷ []) written ∙ append_assoc front (j ∷ b) (t ∷ [])

-- the two jumps of `? :`
pub patch_choice : (code front b c : List Instr) (test end : ℕ) → test ≡ length front → end ≡ length front + 1 + length b → code ≡ front ++ instr.Unless 0 ∷ (b ++ instr.Skip 0 ∷ c) →
    slice_set (slice_set code test (instr.Unless (end - test))) end (instr.Skip (length code - end - 1)) ≡ front ++ instr.Unless (length b + 1) ∷ (b ++ instr.Skip (length c) ∷ c)
patch_choice code front b c test end at_test at_end is =
    let i = instr.Unless (length b + 1) in
    let j = instr.Skip (length c) in
    let first : end - test ≡ length b + 1 = omega arith in
    let second : length code - end - 1 ≡ length c = omega (arith, ap length is, length-append front (instr.Unless 0 ∷ (b ++ instr.Skip 0 ∷ c)), length-append b (instr.Skip 0 ∷ c)) in
    let there : end ≡ length (front ++ i ∷ b) = omega (arith, length-append front (i ∷ b)) in
    (λ k. slice_set (slice_set code test (instr.Unless (first k))) end (instr.Skip (second k)))
    ∙ ap (λ l. slice_set (slice_set l test i) end j) is
    ∙ ap (λ n. slice_set (slice_set (front ++ instr.Unless 0 ∷ (b ++ instr.Skip 0 ∷ c)) n i) end j) at_test
    ∙ ap (λ l. slice_set l end j) (set-append_seam front (instr.Unless 0) (b ++ instr.Skip 0 ∷ c) i ∙ sym (append_assoc front (i ∷ b) (instr.Skip 0 ∷ c)))
    ∙ ap (λ n. slice_set ((front ++ i ∷ b) ++ instr.Skip 0 ∷ c) n j) there
    ∙ set-append_seam (front ++ i ∷ b) (instr.Skip 0) c j
    ∙ append_assoc front (i ∷ b) (j ∷ c)
