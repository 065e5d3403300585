use Rattle.std.proofs.Common.{◌++◌, ◌∙◌, codes}
use Rattle.base_outside.proofs.Writings.{lines-equal}
use Rattle.cli_refusals.proofs.Writings.{refused_lines}
use Rattle.spec_program.specs.Refusals.{expect_words, ground_words, join_words, rules_words, tree_words, world_words}
use Rattle.cli_refusals.proofs.refusal.write_refusal.Goals as goal

pub returns-in-Unread-clause-refused : goal.returns-in-Unread-clause-refused
returns-in-Unread-clause-refused g c = rw c.in-Unread.is c.write_unread.ensures.printed

pub returns-in-TooLong-clause-refused : goal.returns-in-TooLong-clause-refused
returns-in-TooLong-clause-refused g c = rw c.in-TooLong.is c.write_too_long.ensures.printed

pub returns-in-Ok-clause-refused : goal.returns-in-Ok-clause-refused
returns-in-Ok-clause-refused g c = rw c.in-Tree.is (rw (c.as_slice.ensures.value ∙ c.in-Ok.ensures) at c.write_last-in-Ok.ensures.printed)

pub returns-in-Ok-world_refusal-clause-refused : goal.returns-in-Ok-world_refusal-clause-refused
returns-in-Ok-world_refusal-clause-refused g c = rw c.in-World.is (rw (c.as_slice-in-Ok-world_refusal.ensures.value ∙ c.in-Ok-world_refusal.ensures) at c.write_last-in-Ok-world_refusal.ensures.printed)

pub returns-in-Ok-join_refusal-clause-refused : goal.returns-in-Ok-join_refusal-clause-refused
returns-in-Ok-join_refusal-clause-refused g c = rw c.in-Join.is (rw (c.as_slice-in-Ok-join_refusal.ensures.value ∙ c.in-Ok-join_refusal.ensures) at c.write_last-in-Ok-join_refusal.ensures.printed)

pub returns-in-Ok-rules_refusal-clause-refused : goal.returns-in-Ok-rules_refusal-clause-refused
returns-in-Ok-rules_refusal-clause-refused g c = rw c.in-Rules.is (rw (c.as_slice-in-Ok-rules_refusal.ensures.value ∙ c.in-Ok-rules_refusal.ensures) at c.write_last-in-Ok-rules_refusal.ensures.printed)

pub returns-in-Ok-ground_refusal-clause-refused : goal.returns-in-Ok-ground_refusal-clause-refused
returns-in-Ok-ground_refusal-clause-refused g c = rw c.in-Ground.is (rw (c.as_slice-in-Ok-ground_refusal.ensures.value ∙ c.in-Ok-ground_refusal.ensures) at c.write_last-in-Ok-ground_refusal.ensures.printed)

pub returns-in-Ok-expect_refusal-clause-refused : goal.returns-in-Ok-expect_refusal-clause-refused
returns-in-Ok-expect_refusal-clause-refused g c = rw c.in-Expect.is (rw (c.as_slice-in-Ok-expect_refusal.ensures.value ∙ c.in-Ok-expect_refusal.ensures) at c.write_last-in-Ok-expect_refusal.ensures.printed)

pub write_last-requires-clause-lines : goal.write_last-requires-clause-lines
write_last-requires-clause-lines g c = refused_lines (codes "refused words")

pub write_last-requires-in-NoGoal-clause-lines : goal.write_last-requires-in-NoGoal-clause-lines
write_last-requires-in-NoGoal-clause-lines g c = refused_lines (codes "refused world NoGoal")

pub write_last-requires-in-Ok-clause-lines : goal.write_last-requires-in-Ok-clause-lines
write_last-requires-in-Ok-clause-lines g c =
    lines-equal _ _ (c.as_slice.ensures.value ∙ c.in-Ok.ensures) (refused_lines (codes "refused tree " ++ tree_words c.in-Tree.fault))

pub write_last-requires-in-Ok-world_refusal-clause-lines : goal.write_last-requires-in-Ok-world_refusal-clause-lines
write_last-requires-in-Ok-world_refusal-clause-lines g c =
    lines-equal _ _ (c.as_slice-in-Ok-world_refusal.ensures.value ∙ c.in-Ok-world_refusal.ensures) (refused_lines (codes "refused world " ++ world_words c.in-World.fault))

pub write_last-requires-in-Ok-join_refusal-clause-lines : goal.write_last-requires-in-Ok-join_refusal-clause-lines
write_last-requires-in-Ok-join_refusal-clause-lines g c =
    lines-equal _ _ (c.as_slice-in-Ok-join_refusal.ensures.value ∙ c.in-Ok-join_refusal.ensures) (refused_lines (codes "refused world " ++ join_words c.in-Join.fault))

pub write_last-requires-in-Ok-rules_refusal-clause-lines : goal.write_last-requires-in-Ok-rules_refusal-clause-lines
write_last-requires-in-Ok-rules_refusal-clause-lines g c =
    lines-equal _ _ (c.as_slice-in-Ok-rules_refusal.ensures.value ∙ c.in-Ok-rules_refusal.ensures) (refused_lines (codes "refused rules " ++ rules_words c.in-Rules.fault))

pub write_last-requires-in-Ok-expect_refusal-clause-lines : goal.write_last-requires-in-Ok-expect_refusal-clause-lines
write_last-requires-in-Ok-expect_refusal-clause-lines g c =
    lines-equal _ _ (c.as_slice-in-Ok-expect_refusal.ensures.value ∙ c.in-Ok-expect_refusal.ensures) (refused_lines (codes "refused expect " ++ expect_words c.in-Expect.fault))

pub write_last-requires-in-Ok-ground_refusal-clause-lines : goal.write_last-requires-in-Ok-ground_refusal-clause-lines
write_last-requires-in-Ok-ground_refusal-clause-lines g c =
    lines-equal _ _ (c.as_slice-in-Ok-ground_refusal.ensures.value ∙ c.in-Ok-ground_refusal.ensures) (refused_lines (codes "refused ground " ++ ground_words c.in-Ground.fault))
