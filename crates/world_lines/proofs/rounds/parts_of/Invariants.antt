use Rattle.std.proofs.Common.{◌≡◌, ◌≤◌, ◌-◌, ◌++◌, drop, map, length}
use Rattle.std.specs.Prelude.{option_map}
use Rattle.spec_world_file.specs.WorldFile as file
use Rattle.world_lines.specs.Written.{seen_part}
use Rattle.world_lines.proofs.rounds.parts_of.Given as goal

-- the parts so far, and those that are left, are all
abbrev pub invariant-parts : goal.invariant-parts
invariant-parts l = record {
  all : file.parts_in (map (λ word. word.now) l.fn.words) ≡ option_map (λ more. map seen_part l.parts.items ++ more) (file.parts_in (drop l.place (map (λ word. word.now) l.fn.words)));
  within : l.place ≤ length l.fn.words;
}

abbrev pub decreases-parts : goal.decreases-parts
decreases-parts l = length l.fn.words - l.place
