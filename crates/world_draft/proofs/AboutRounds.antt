-- Rounds of events, one after another.
use Rattle.std.proofs.Common.{◌≡◌, ◌<◌, ◌≤◌, ◌+◌, ◌-◌, ◌*◌, ℕ, zero, suc, List, ◌++◌, map, ap, subst, sym, ◌∙◌, arith}
use Rattle.std.proofs.Math.Nat.{add-mul}
use Rattle.spec_world.specs.declared.world.Event.{Event}
use Rattle.spec_world.specs.declared.world.What.{What}
use Rattle.spec_world_file.specs.WorldFile.{rounds}

less_one : (n : ℕ) → suc n - 1 ≡ n
less_one n = omega arith

pub one_more : (n k : ℕ) → suc n * k ≡ n * k + k
one_more n k =
    let next : suc n ≡ n + 1 = omega arith in
    let one : n * k + 1 * k ≡ n * k + k = omega arith in
    ap (λ (m : ℕ). m * k) next ∙ add-mul n 1 k ∙ one

-- the first of the rounds that are left, and the others
pub one_round : (left at ms : ℕ) (whats : List What) → 0 < left → rounds left at ms whats ≡ map (λ what. record { at = at; what = what }) whats ++ rounds (left - 1) (at + ms) ms whats
one_round zero at ms whats some = absurd (omega arith)
one_round (suc n) at ms whats some =
    let round : List Event = map (λ what. record { at = at; what = what }) whats in
    ap (λ (k : ℕ). round ++ rounds k (at + ms) ms whats) (sym (less_one n))

-- the next round comes before the end, and so do those after it
pub round_fits : (left at ms most : ℕ) → 0 < left → at + left * ms ≤ most → (at + ms ≤ most) × (at + ms + (left - 1) * ms ≤ most)
round_fits zero at ms most some fits = absurd (omega arith)
round_fits (suc n) at ms most some fits =
    let more : suc n * ms ≡ n * ms + ms = one_more n ms in
    (omega (arith, fits, more), subst (λ (k : ℕ). at + ms + k * ms ≤ most) (sym (less_one n)) (omega (arith, fits, more)))
