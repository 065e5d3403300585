use Rattle.std.proofs.lemmas.Str.{IsUtf8-append}
use Rattle.tree_mock.proofs.apart.joined.Goals as goal

pub of-requires : goal.of-requires
of-requires c =
    rw (c.in_ok-extend_from_slice.ensures.items, c.in_ok-both.ensures.items, c.list.ensures.bytes, c.list-2.ensures.bytes)
    (IsUtf8-append c.args.first.now c.args.second.now c.list.ensures.utf8 c.list-2.ensures.utf8)
