-- The children still to come of a round, and of a Parallel.
use Rattle.std.proofs.Common.{◌≡◌, ℕ, suc, ◌+◌, ◌-◌, ◌<◌, Bool, false, ap, ◌∙◌, arith}
use Rattle.spec_run.specs.declared.memory.Counts.{Counts}
use Rattle.spec_run.specs.declared.status.Answer.{Answer}
use Rattle.spec_run.specs.declared.status.RoundEnd.{RoundEnd}
use Rattle.spec_run.specs.Rules.Parallels.{counted, parallel, parallel_after}
use Rattle.spec_run.specs.Rules.Sequences.{round, round_after}
use Rattle.spec_run.specs.Steps.{Rule, visit, visit_or_pass}

-- one child is left at least
pub one_left : (n place : ℕ) → place < n → n - place ≡ suc (n - (place + 1))
one_left n place within = omega arith

pub parallel_here : (n place : ℕ) (c : Counts) → place < n →
    parallel n (n - place) place c ≡ visit_or_pass place (parallel_after n c (parallel n (n - (place + 1)) (place + 1) c)) (λ a. parallel_after n (counted a c) (parallel n (n - (place + 1)) (place + 1) (counted a c)))
parallel_here n place c within = ap (λ (k : ℕ). parallel n k place c) (one_left n place within)

pub round_here : (goes : Answer) (ends : RoundEnd → Rule) (n place : ℕ) (seen : Bool) → place < n →
    round goes ends (n - place) place seen ≡ visit place (λ a. round_after goes ends place seen (λ b. round goes ends (n - (place + 1)) (place + 1) b) a)
round_here goes ends n place seen within = ap (λ (k : ℕ). round goes ends k place seen) (one_left n place within)

-- a round that begins at the first child
pub round_first : (goes : Answer) (ends : RoundEnd → Rule) (n : ℕ) → 0 < n →
    round goes ends n 0 false ≡ visit 0 (λ a. round_after goes ends 0 false (λ b. round goes ends (n - (0 + 1)) (0 + 1) b) a)
round_first goes ends n within =
    let none_left : n ≡ n - 0 = omega arith in
    ap (λ (k : ℕ). round goes ends k 0 false) none_left ∙ round_here goes ends n 0 false within
