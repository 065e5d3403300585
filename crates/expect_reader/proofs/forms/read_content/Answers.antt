use Rattle.std.proofs.Common.{◌≡◌, rules, true}
use Rattle.std.specs.List.{list_all}
use Rattle.spec_world_file.specs.WorldFile.{is_line_byte}
use Rattle.world_lines.proofs.Ascii.{line_once}
use Rattle.expect_reader.proofs.forms.read_content.Goals as goal

pub read_by_word-requires : goal.read_by_word-requires
read_by_word-requires c =
    let line : list_all is_line_byte c.args.text.now ≡ true = search rules in
    line_once c.args.text.now c.cut.result.1.now c.cut.ensures.rest line
