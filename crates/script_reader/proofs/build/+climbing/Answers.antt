use Rattle.std.proofs.Common.{◌≡◌, ℕ, ◌<◌, ◌≤◌, ◌+◌, ◌-◌, max, Option, Some, None, ap, sym, ◌∙◌, subst, arith}
use Rattle.spec_script.specs.Grammar.{level, height}
use Rattle.spec_script.specs.declared.syntax.Expr.{Expr, roll-Expr}
use Rattle.spec_script.specs.declared.syntax.Expr.TheOpen.{Binary}
use Rattle.spec_script.proofs.Trees.{height_is}
use Rattle.script_reader.specs.Climb.{Found, climb, more, seen, sound, from_token, then_found}
use Rattle.script_reader.proofs.Climbing.{height_some}
use Rattle.script_reader.proofs.Building.{climb-first, more-infix}
use Rattle.script_reader.proofs.build.+climbing.Goals as goal

pub climb-turns-init : goal.climb-turns-init
climb-turns-init t c =
    let a = c.in-Some.a in
    let ts = c.args.tokens.now in
    let left = c.args.limit - 1 in
    let some : 0 < c.args.limit = omega arith in
    let tall = height_some a.expr in
    let enough : left < left + height a.expr = omega arith in
    let found = sym c.in_ok-a.ensures.value ∙ ap (seen ts) c.in-Some.is in
    let well = subst (sound ts (left + 1)) c.in-Some.is c.in_ok-a.ensures.sound in
    record {
      going = (left, enough, climb-first c.args.limit c.args.place (from_token ts c.args.at) a.expr (from_token ts a.next) some found);
      tall = well.0;
      low = omega (arith, well.1);
      within = well.2;
    }

pub climb-turns-preserved : goal.climb-turns-preserved
climb-turns-preserved t c =
    let a = c.turns.a in
    let b = c.in-Some-2.b in
    let n = c.in_ok-a-in-Operation.a in
    let op = c.in-Operation.op in
    let ts = c.args.tokens.now in
    let left = c.args.limit - 1 in
    let inv = c.turns.invariant in
    let low : height a.expr ≤ left = omega (arith, inv.tall) in
    let rest = from_token ts (a.next + 1) in
    let m = more-infix (climb left) left inv.going.0 c.args.place op a.expr (from_token ts a.next) rest low inv.going.1 c.in-Operation.ensures.value in
    let found : climb left (level op + 1) rest ≡ Some (b.expr, from_token ts b.next) =
    ap (λ (k : ℕ). climb left (k + 1) rest) (sym c.level.ensures.value) ∙ sym c.in_ok-b-in-Operation.ensures.value ∙ ap (seen ts) c.in-Some-2.is in
    let well = subst (sound ts left) c.in-Some-2.is c.in_ok-b-in-Operation.ensures.sound in
    let made = c.in_ok-a-in-Operation.ensures in
    let whole : more (climb left) left m.0 c.args.place n.expr (from_token ts n.next) ≡ climb c.args.limit c.args.place (from_token ts c.args.at) =
    ap (λ (e : Expr). more (climb left) left m.0 c.args.place e (from_token ts n.next)) made.0
    ∙ ap (λ (k : ℕ). more (climb left) left m.0 c.args.place (roll-Expr (Binary op a.expr b.expr)) (from_token ts k)) made.2
    ∙ sym (m.2 ∙ ap (λ (o : Option Found). then_found o (λ x. more (climb left) left m.0 c.args.place (roll-Expr (Binary op a.expr x)))) found)
    ∙ inv.going.2 in
    let tall : n.height ≡ height n.expr =
    made.1 ∙ ap (λ (k : ℕ). 1 + max k b.height) inv.tall ∙ ap (λ (k : ℕ). 1 + max (height a.expr) k) well.0 ∙ sym (ap height made.0 ∙ height_is (Binary op a.expr b.expr)) in
    let enough : left < m.0 + height n.expr = omega (arith, inv.going.1, m.1, inv.tall, tall, made.1, well.0) in
    record {
      going = (m.0, enough, whole);
      tall = tall;
      low = omega (arith, made.1, well.1, inv.tall);
      within = omega (arith, made.2, well.2);
    }

pub climb-returns-in_default-2-clause-value : goal.climb-returns-in_default-2-clause-value
climb-returns-in_default-2-clause-value t c =
    let a = c.turns.a in
    let op = c.in-Operation.op in
    let ts = c.args.tokens.now in
    let left = c.args.limit - 1 in
    let inv = c.turns.invariant in
    let low : height a.expr ≤ left = omega (arith, inv.tall) in
    let rest = from_token ts (a.next + 1) in
    let m = more-infix (climb left) left inv.going.0 c.args.place op a.expr (from_token ts a.next) rest low inv.going.1 c.in-Operation.ensures.value in
    let none : c.in_ok-b-in-Operation.field-0 ≡ None = c.in_default-2.is in
    let found : climb left (level op + 1) rest ≡ None =
    ap (λ (k : ℕ). climb left (k + 1) rest) (sym c.level.ensures.value) ∙ sym c.in_ok-b-in-Operation.ensures.value ∙ ap (seen ts) none in
    sym (ap (λ (o : Option Found). then_found o (λ x. more (climb left) left m.0 c.args.place (roll-Expr (Binary op a.expr x)))) found) ∙ sym m.2 ∙ inv.going.2
