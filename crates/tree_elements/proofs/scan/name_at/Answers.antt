use Rattle.spec_tree_file.specs.Marks.{is_name_rest}
use Rattle.tree_elements.proofs.Cuts.{front_cut, rest_cut, name_stops}
use Rattle.tree_elements.proofs.scan.name_at.Goals as goal

pub copied-requires : goal.copied-requires
copied-requires c =
    front_cut is_name_rest c.args.bytes.now c.split_at.result.0.now c.name_len.result name_stops c.requires
    c.split_at.ensures.front c.name_len.ensures.value

pub returns-clause-utf8 : goal.returns-clause-utf8
returns-clause-utf8 c =
    rest_cut is_name_rest c.args.bytes.now c.split_at.result.1.now c.name_len.result name_stops c.requires c.split_at.ensures.back c.name_len.ensures.value
