use Rattle.std.proofs.Common.{◌≡◌, ℕ, ◌-◌, ◌<◌, List, length, take, drop, get_or, ap, sym, subst, ◌∙◌, arith}
use Rattle.std.proofs.lemmas.List.{length-drop, take_all}
use Rattle.std.proofs.lemmas.Nat.{le_bytes_8}
use Rattle.plan_tree.proofs.Words.{word_long, word_small}
use Rattle.plan_tree.proofs.texts.word_at.Goals as goal

pub returns : goal.returns
returns c =
    let text = c.args.text.now in
    let at = c.args.at in
    let word : c.in-Some.word.now ≡ take 8 (drop at text) =
    c.in-Some.ensures.cases.same ∙ ap (take 8) (take_all (length text - at) (drop at text) (omega (arith, length-drop at text))) in
    le_bytes_8 c.in-Some.word.now c.from_le_bytes.result (ap (λ (l : List ℕ). length l) word ∙ word_long text at c.requires)
    (λ i. subst (λ (l : List ℕ). get_or l i 0 < 256) (sym word) (word_small text at (λ j. (c.type_inv.text j).fits) i)) c.from_le_bytes.ensures
    ∙ word
