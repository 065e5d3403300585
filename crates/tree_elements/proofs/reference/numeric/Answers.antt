use Rattle.std.proofs.Common.{◌≡◌, ℕ, List, true, take, ap, sym, ◌∙◌, subst}
use Rattle.std.specs.Char.{is_digit}
use Rattle.std.specs.List.{list_all, prefix_len}
use Rattle.tree_elements.proofs.Prefixes.{taken}
use Rattle.tree_elements.proofs.reference.numeric.Goals as goal

pub numbered-requires-clause-digits : goal.numbered-requires-clause-digits
numbered-requires-clause-digits c =
    let p = λ (d : ℕ). is_digit d c.args.base in
    let bytes = c.args.bytes.now in
    let is : c.split_at.result.0.now ≡ take (prefix_len p bytes) bytes = c.split_at.ensures.front ∙ ap (λ (n : ℕ). take n bytes) c.digits_len-len.ensures.value in
    subst (λ (z : List ℕ). list_all p z ≡ true) (sym is) (taken p bytes)
