use Rattle.std.proofs.Common.{List, ℕ, ◌++◌, ap, subst, sym, ◌∙◌}
use Rattle.std.specs.Str.{IsUtf8}
use Rattle.std.proofs.lemmas.Str.{IsUtf8-append}
use Rattle.base_texts.proofs.txt.Txt.joined.Goals as goal

pub of-requires-clause-utf8 : goal.of-requires-clause-utf8
of-requires-clause-utf8 c =
    let first = c.args.self.now in
    let more = c.args.more.now in
    let front = ap (λ (xs : List ℕ). xs ++ c.list-2.result.now) (c.in_ok-bytes.ensures.items ∙ c.list.ensures.bytes) in
    subst IsUtf8 (sym (c.in_ok-extend_from_slice.ensures.items ∙ (front ∙ ap (λ (xs : List ℕ). first ++ xs) c.list-2.ensures.bytes)))
    (IsUtf8-append first more c.list.ensures.utf8 c.list-2.ensures.utf8)
