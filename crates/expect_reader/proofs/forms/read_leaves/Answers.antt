use Rattle.expect_reader.proofs.Rests.{pick_rest}
use Rattle.expect_reader.proofs.forms.read_leaves.Goals as goal

pub read_only-requires : goal.read_only-requires
read_only-requires c = pick_rest c.args.text.now c.in_ok-pick.pick c.in_ok-pick.rest.now c.requires c.in_ok-pick.ensures.front
