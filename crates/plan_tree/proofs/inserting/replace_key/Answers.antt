use Rattle.std.proofs.Common.{◌≡◌, ◌==◌, ◌-◌, ℕ, ◌∙◌, ap, sym, arith, slice_set}
use Rattle.std.proofs.lemmas.Iterator.Adapters.{position_from-zero}
use Rattle.plan_tree.proofs.NewNodes.{not_replaced_from, replaced_from}
use Rattle.plan_tree.proofs.inserting.replace_key.Goals as goal

pub returns-in-Some : goal.returns-in-Some
returns-in-Some c =
    let at = replaced_from c.args.old c.args.new 0 c.args.keys.now c.in-Some.place (sym (position_from-zero (λ (k : ℕ). k == c.args.old) c.args.keys.now) ∙ sym c.in-Some.ensures) in
    let first : c.in-Some.place ≡ c.in-Some.place - 0 = omega arith in
    ap (λ (n : ℕ). slice_set c.args.keys.now n c.args.new) first ∙ at.1

pub returns-in_default : goal.returns-in_default
returns-in_default c = not_replaced_from c.args.old c.args.new 0 c.args.keys.now (sym (position_from-zero (λ (k : ℕ). k == c.args.old) c.args.keys.now) ∙ sym c.in_default.ensures)
