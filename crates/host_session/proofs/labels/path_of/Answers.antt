use Rattle.std.proofs.Common.{List, ℕ, ◌++◌, ap, subst, sym, ◌∙◌}
use Rattle.std.specs.Str.{IsUtf8}
use Rattle.std.proofs.lemmas.Str.{IsUtf8-append}
use Rattle.host_session.proofs.labels.path_of.Goals as goal

pub of-requires : goal.of-requires
of-requires c =
    let above = c.args.above.now in
    let name = c.args.name.now in
    let front = ap (λ (xs : List ℕ). xs ++ c.list-2.result.now) (c.in_ok-path.ensures.items ∙ c.list.ensures.bytes) in
    subst IsUtf8 (sym (c.in_ok-extend_from_slice.ensures.items ∙ (front ∙ ap (λ (xs : List ℕ). above ++ xs) c.list-2.ensures.bytes)))
    (IsUtf8-append above name c.list.ensures.utf8 c.list-2.ensures.utf8)
