use Rattle.std.proofs.Common.{◌≡◌, ◌==◌, ◌-◌, ℕ, take, ap, sym, ◌∙◌, arith}
use Rattle.std.proofs.lemmas.Iterator.Adapters.{position_from-zero}
use Rattle.plan_reorder.proofs.Listed.{all_before_from, before_from}
use Rattle.plan_reorder.proofs.conflicts.keys_before.Goals as goal

pub returns-in-Some : goal.returns-in-Some
returns-in-Some c =
    let at = before_from c.args.key 0 c.args.keys.now c.in-Some.place (sym (position_from-zero (λ (k : ℕ). k == c.args.key) c.args.keys.now) ∙ sym c.in-Some.ensures) in
    let first : c.in-Some.place ≡ c.in-Some.place - 0 = omega arith in
    ap (λ (n : ℕ). take n c.args.keys.now) first ∙ at.1

pub returns-in-None : goal.returns-in-None
returns-in-None c = all_before_from c.args.key 0 c.args.keys.now (sym (position_from-zero (λ (k : ℕ). k == c.args.key) c.args.keys.now) ∙ sym c.in-None.ensures)
