-- PipelineSequence: it visits its children in order, and those that have succeeded again.
use Rattle.std.specs.Prelude.{ℕ, zero, suc, ◌+◌, Bool, true, false, if◌then◌else◌, nat_lt}
use Rattle.spec_run.specs.declared.memory.Memo.TheVariants.{Index}
use Rattle.spec_run.specs.declared.status.Answer.{Answer}
use Rattle.spec_run.specs.declared.status.Answer.TheVariants.{Running, Success, Failure, Skipped}
use Rattle.spec_run.specs.Steps.{Rule, keep, over, visit}

-- RUNNING of the child at this place goes on where it stands before the farthest one, and else makes it the farthest:
-- the children after it stay as they are
abbrev pub pipeline_runs : ℕ → ℕ → Rule → Rule
pipeline_runs farthest place others = if nat_lt place farthest then others else keep Running (Index place true)

-- after the answer of the child at this place, where the others go on with whether some child of this visit was not
-- skipped
abbrev pub pipeline_after : ℕ → ℕ → Bool → (Bool → Rule) → Answer → Rule
pipeline_after farthest place seen others Running = pipeline_runs farthest place (others true)
pipeline_after farthest place seen others Success = others true
pipeline_after farthest place seen others Failure = over Failure
pipeline_after farthest place seen others Skipped = others seen

-- after the last child: SUCCESS, or SKIPPED where all were skipped in this visit
abbrev pub pipeline_end : Bool → Rule
pipeline_end true = over Success
pipeline_end false = over Skipped

-- the children that are left, of which the first has this place; `farthest` is the farthest child that has answered
-- RUNNING since the start, and `seen` says whether a child of this visit has answered other than SKIPPED
abbrev pub pipeline : ℕ → ℕ → ℕ → Bool → Rule
pipeline farthest zero place seen = pipeline_end seen
pipeline farthest (suc left) place seen =
    visit place (λ a. pipeline_after farthest place seen (λ b. pipeline farthest left (place + 1) b) a)
