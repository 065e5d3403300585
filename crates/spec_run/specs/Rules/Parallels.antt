-- Parallel: it visits all children, until enough have succeeded or failed.
use Rattle.std.specs.Prelude.{ℕ, zero, suc, ◌+◌, ◌-◌, false, ◌||◌, ◌&&◌, Bool, if◌then◌else◌, nat_eq, nat_le, nat_lt}
use Rattle.spec_run.specs.declared.memory.Counts.{Counts}
use Rattle.spec_run.specs.declared.memory.Memo.{Memo}
use Rattle.spec_run.specs.declared.memory.Memo.TheVariants.{Counts as Counted}
use Rattle.spec_run.specs.declared.status.Answer.{Answer}
use Rattle.spec_run.specs.declared.status.Answer.TheVariants.{Running, Success, Failure, Skipped}
use Rattle.spec_run.specs.Steps.{Rule, keep, over, visit_or_pass}

-- SUCCESS holds where the successes reach the success count, with the skipped ones where these count
abbrev pub success_holds : Counts → Bool
success_holds c = nat_le c.need c.successes || c.skips && nat_le c.need (c.successes + c.skipped)

-- FAILURE holds where fewer of n children are left for SUCCESS than it needs, or the failures reach the
-- failure count
abbrev pub failure_holds : ℕ → Counts → Bool
failure_holds n c = nat_lt (n - c.failures) c.need || nat_le c.most c.failures

-- one more child has answered
abbrev pub counted : Answer → Counts → Counts
counted Success c = record c { successes = c.successes + 1 }
counted Failure c = record c { failures = c.failures + 1 }
counted Skipped c = record c { skipped = c.skipped + 1 }
counted Running c = c

-- after each child, visited or not, the thresholds are tried, first that of SUCCESS; then the others go on
abbrev pub parallel_after : ℕ → Counts → Rule → Rule
parallel_after n c others = if success_holds c then over Success else if failure_holds n c then over Failure else others

-- after the last child: SKIPPED where all were skipped in this visit, else RUNNING
abbrev pub parallel_end : ℕ → Counts → Rule
parallel_end n c = if nat_eq c.skipped n then over Skipped else keep Running (Counted (record c { skipped = 0 }))

-- the children that are left, of which the first has this place: one that has completed is not visited
abbrev pub parallel : ℕ → ℕ → ℕ → Counts → Rule
parallel n zero place c = parallel_end n c
parallel n (suc left) place c =
    visit_or_pass place (parallel_after n c (parallel n left (place + 1) c))
    (λ a. parallel_after n (counted a c) (parallel n left (place + 1) (counted a c)))

-- the counts of a memo; one of another kind has none
abbrev pub counts_of : Memo → Counts
counts_of (Counted c) = c
counts_of _ = record { need = 0; most = 0; skips = false; successes = 0; failures = 0; skipped = 0 }
