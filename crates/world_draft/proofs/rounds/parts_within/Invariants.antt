use Rattle.std.proofs.Common.{◌≡◌, drop, map, take}
use Rattle.std.specs.List.{list_all}
use Rattle.spec_world_file.specs.WorldFile as file
use Rattle.world_lines.specs.Written.{seen_part}
use Rattle.world_draft.specs.Rounds.{is_within, what_of}
use Rattle.world_draft.proofs.rounds.parts_within.Given as goal

abbrev pub invariant-loop-part : goal.invariant-loop-part
invariant-loop-part l = record {
  held : map what_of l.parts.items ≡ map file.what_in (map seen_part (take l.part-index l.written));
  rest : list_all (is_within l.runners) (map seen_part (drop l.part-index l.written)) ≡ list_all (is_within l.runners) (map seen_part l.written);
}
