use Rattle.std.proofs.Common.{◌∙◌, ◌++◌, List, ℕ, ap, subst, sym}
use Rattle.std.specs.Str.{IsUtf8}
use Rattle.std.proofs.lemmas.Str.{IsUtf8-append}
use Rattle.expect_reader.proofs.places.joined.Goals as goal

pub of-requires : goal.of-requires
of-requires c =
    subst IsUtf8 (sym (c.in_ok-extend_from_slice.ensures.items ∙ ap (λ (xs : List ℕ). xs ++ c.args.text.now) (c.in_ok-path.ensures.items ∙ c.list.ensures.bytes)))
    (IsUtf8-append c.args.above.now c.args.text.now c.list.ensures.utf8 c.requires)
