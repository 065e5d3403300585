use Rattle.std.proofs.Common.{◌==◌, not, arith}
use Rattle.std.proofs.lemmas.List.Sums.{prefix_len-le-length}
use Rattle.world_ground.proofs.write.line_len.Goals as goal

pub returns-then-until-text : goal.returns-then-until-text
returns-then-until-text c = omega (arith, c.until_feed-until.ensures)

pub returns-else-until-text : goal.returns-else-until-text
returns-else-until-text c = omega (arith, c.until_feed-until.ensures, prefix_len-le-length (λ b. not (b == 10)) c.args.text.now)
