use Rattle.spec_tree_file.specs.Marks.{is_value_byte}
use Rattle.tree_elements.proofs.Cuts.{front_cut, rest_cut, value_stops}
use Rattle.tree_elements.proofs.scan.value_after.Goals as goal

pub byte_at-requires-clause-utf8 : goal.byte_at-requires-clause-utf8
byte_at-requires-clause-utf8 c =
    rest_cut (is_value_byte c.args.quote) c.args.bytes.now c.split_at.result.1.now c.value_len.result (value_stops c.args.quote c.requires.ascii) c.requires.utf8 c.split_at.ensures.back c.value_len.ensures.value

pub decode-requires : goal.decode-requires
decode-requires c =
    front_cut (is_value_byte c.args.quote) c.args.bytes.now c.split_at.result.0.now c.value_len.result (value_stops c.args.quote c.requires.ascii) c.requires.utf8 c.split_at.ensures.front c.value_len.ensures.value
