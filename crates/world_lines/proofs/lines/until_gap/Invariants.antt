use Rattle.std.proofs.Common.{◌≡◌, ◌≤◌, ◌+◌, length, take}
use Rattle.std.specs.List.{suffix_len}
use Rattle.spec_world_file.specs.WorldFile.{is_gap}
use Rattle.world_lines.proofs.lines.until_gap.Given as goal

abbrev pub invariant-gap : goal.invariant-gap
invariant-gap l = record {
  within : l.len ≤ length l.text;
  counted : l.len + suffix_len is_gap l.text ≡ length l.text + suffix_len is_gap (take l.len l.text);
}

abbrev pub decreases-gap : goal.decreases-gap
decreases-gap l = l.len
