use Rattle.spec_tree_file.specs.Elements.{is_text_byte}
use Rattle.tree_elements.proofs.Cuts.{rest_cut, text_stops}
use Rattle.tree_elements.proofs.scan.text_at.Goals as goal

pub returns-clause-utf8 : goal.returns-clause-utf8
returns-clause-utf8 c =
    rest_cut is_text_byte c.args.bytes.now c.split_at.result.1.now c.text_length.result text_stops c.requires c.split_at.ensures.back c.text_length.ensures.value
