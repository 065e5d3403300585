-- What became of expectations, and the lines that say so.
use Rattle.std.specs.Prelude.{ℕ, List, [], ◌∷◌, ◌++◌, codes, decimal, Bool, true, false, not, if◌then◌else◌, map}
use Rattle.std.specs.List.{count_by, flat_map}
use Rattle.spec_run.specs.declared.block.Block.{Block}
use Rattle.spec_run.specs.Served.{Setup}
use Rattle.spec_expect.specs.declared.expectation.Expectation.{Expectation}
use Rattle.spec_expect.specs.declared.expectation.Expected.{Expected}
use Rattle.spec_expect.specs.declared.verdict.Verdict.{Verdict}
use Rattle.spec_expect.specs.declared.verdict.Verdict.TheVariants.{Pass, Fail}
use Rattle.spec_expect.specs.Met.{lost_at, meets}
use Rattle.spec_expect.specs.Stories.{Story, story_of}

-- what becomes of an expectation in a run
abbrev pub verdict_of : Setup → Story → Expectation → Verdict
verdict_of of story expectation =
    if meets of.world.facts expectation story then Pass else Fail (lost_at of.world.facts expectation story)

-- the line of an expectation that has this line in its file
abbrev pub verdict_line : ℕ → Verdict → List ℕ
verdict_line line Pass = codes "pass " ++ decimal line ++ codes "\n"
verdict_line line (Fail at) = codes "fail " ++ decimal line ++ codes " " ++ decimal at ++ codes "\n"

-- .. in the run with these blocks
abbrev pub line_of : Setup → List Block → Expected → List ℕ
line_of of blocks expected = verdict_line expected.line (verdict_of of (story_of of blocks) expected.expectation)

abbrev pub lines_of : Setup → List Block → List Expected → List ℕ
lines_of of blocks expected = flat_map (line_of of blocks) expected

-- whether a run with these blocks meets an expectation
abbrev pub is_met : Setup → List Block → Expected → Bool
is_met of blocks expected = meets of.world.facts expected.expectation (story_of of blocks)

-- how many are met, and how many are not
abbrev pub passed : Setup → List Block → List Expected → ℕ
passed of blocks expected = count_by (is_met of blocks) expected

abbrev pub failed : Setup → List Block → List Expected → ℕ
failed of blocks expected = count_by (λ (e : Expected). not (is_met of blocks e)) expected

-- the line of the sum
abbrev pub sum_line : ℕ → ℕ → List ℕ
sum_line passed failed = codes "expected " ++ decimal passed ++ codes " passed, " ++ decimal failed ++ codes " failed\n"
