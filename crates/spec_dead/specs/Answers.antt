-- Sets of answers.
use Rattle.std.specs.Prelude.{Bool, true, false, ◌||◌, if◌then◌else◌}
use Rattle.spec_run.specs.declared.status.Answer.{Answer}
use Rattle.spec_run.specs.declared.status.Answer.TheVariants.{Running, Success, Failure, Skipped}
use Rattle.spec_dead.specs.declared.answers.Answers.{Answers}

-- no answer
abbrev pub no_answer : Answers
no_answer = record { running = false; success = false; failure = false; skipped = false }

-- every answer
abbrev pub any_answer : Answers
any_answer = record { running = true; success = true; failure = true; skipped = true }

-- one answer alone
abbrev pub only : Answer → Answers
only Running = record no_answer { running = true }
only Success = record no_answer { success = true }
only Failure = record no_answer { failure = true }
only Skipped = record no_answer { skipped = true }

-- whether an answer is among these
abbrev pub may : Answer → Answers → Bool
may Running a = a.running
may Success a = a.success
may Failure a = a.failure
may Skipped a = a.skipped

-- the answers of both sets
abbrev pub either : Answers → Answers → Answers
either a b = record {
  running = a.running || b.running;
  success = a.success || b.success;
  failure = a.failure || b.failure;
  skipped = a.skipped || b.skipped;
}

-- these answers where something holds, and else none
abbrev pub only_if : Bool → Answers → Answers
only_if holds a = if holds then a else no_answer

-- all of these answers but one
abbrev pub without : Answer → Answers → Answers
without Running a = record a { running = false }
without Success a = record a { success = false }
without Failure a = record a { failure = false }
without Skipped a = record a { skipped = false }

-- these answers, with SUCCESS and FAILURE exchanged
abbrev pub exchanged : Answers → Answers
exchanged a = record a { success = a.failure; failure = a.success }

-- these answers, where one of them becomes another one
abbrev pub becoming : Answer → Answer → Answers → Answers
becoming from to a = either (without from a) (only_if (may from a) (only to))
