use Rattle.std.proofs.Common.{arith, not}
use Rattle.std.proofs.lemmas.List.Sums.{prefix_len-le-length}
use Rattle.spec_world_file.specs.WorldFile.{is_gap}
use Rattle.world_lines.proofs.lines.cut.Goals as goal

pub split_at-requires : goal.split_at-requires
split_at-requires c = omega (arith, prefix_len-le-length (λ b. not (is_gap b)) c.args.text.now, c.word_len.ensures)
