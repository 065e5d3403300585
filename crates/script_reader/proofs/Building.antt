-- Expressions are built as climbing finds them.
use Rattle.std.proofs.Common.{◌≡◌, ℕ, zero, suc, ◌<◌, ◌≤◌, ◌+◌, ◌-◌, Bool, cond, List, ◌∷◌, length, get_or, map, drop, Option, Some, None, refl, ap, sym, ◌∙◌, arith}
use Rattle.std.proofs.lemmas.List.{drop_more, drop-map}
use Rattle.spec_script.specs.declared.syntax.BinOp.{BinOp}
use Rattle.spec_script.specs.declared.syntax.Expr.{Expr, roll-Expr}
use Rattle.spec_script.specs.declared.syntax.Expr.TheOpen.{Binary}
use Rattle.spec_script.specs.declared.token.Token.{Token}
use Rattle.spec_script.specs.declared.token.Placed.{Placed}
use Rattle.spec_script.specs.Grammar.{level, height}
use Rattle.script_reader.specs.Climb.{Found, first, climb, then_found, Next, Ends, Infix, Asks, next_of, last_part, go_on, more, from_token}
use Rattle.spec_script.proofs.Levels.{le-yes}
use Rattle.script_reader.proofs.Climbing.{le-no}

-- the first of the tokens from one on
pub first-at : (ts : List Placed) (i : ℕ) (p : Placed) → i < length ts → p ≡ get_or ts i p → from_token ts i ≡ p.token ∷ from_token ts (i + 1)
first-at ts i p within is =
    let bare_one : Placed → Token = λ q. q.token in
    drop-map bare_one i ts ∙ ap (map bare_one) (drop_more ts i p within ∙ ap (λ (q : Placed). q ∷ drop (i + 1) ts) (sym is)) ∙ ap (λ (us : List Token). p.token ∷ us) (sym (drop-map bare_one (i + 1) ts))

pub more-ends : (lower : ℕ → List Token → Option Found) (left turns place : ℕ) (e : Expr) (ts : List Token) → next_of place ts ≡ Ends → more lower left turns place e ts ≡ Some (e, ts)
more-ends lower left zero place e ts h = ap (λ (n : Next). go_on (λ f r. None) lower left e ts n) h
more-ends lower left (suc turns) place e ts h = ap (λ (n : Next). go_on (more lower left turns place) lower left e ts n) h

go_on-high : (again : Expr → List Token → Option Found) (lower : ℕ → List Token → Option Found) (left : ℕ) (e : Expr) (ts : List Token) (n : Next) → left < height e → (n ≡ Ends → ⊥) → go_on again lower left e ts n ≡ None
go_on-high again lower left e ts Ends high some = absurd (some refl)
go_on-high again lower left e ts (Infix op rest) high some = ap (λ (b : Bool). cond b (then_found (lower (level op + 1) rest) (λ x. again (roll-Expr (Binary op e x)))) None) (le-no (height e) left high)
go_on-high again lower left e ts (Asks rest) high some = ap (λ (b : Bool). cond b (then_found (lower 0 rest) (last_part lower e)) None) (le-no (height e) left high)

-- an expression that is too high does not go on
pub more-high : (lower : ℕ → List Token → Option Found) (left turns place : ℕ) (e : Expr) (ts : List Token) → left < height e → (next_of place ts ≡ Ends → ⊥) → more lower left turns place e ts ≡ None
more-high lower left zero place e ts high some = go_on-high (λ f r. None) lower left e ts (next_of place ts) high some
more-high lower left (suc turns) place e ts high some = go_on-high (more lower left turns place) lower left e ts (next_of place ts) high some

pub more-asks : (lower : ℕ → List Token → Option Found) (left turns place : ℕ) (e : Expr) (ts rest : List Token) → height e ≤ left → next_of place ts ≡ Asks rest →
    more lower left turns place e ts ≡ then_found (lower 0 rest) (last_part lower e)
more-asks lower left zero place e ts rest low h =
    ap (λ (n : Next). go_on (λ f r. None) lower left e ts n) h ∙ ap (λ (b : Bool). cond b (then_found (lower 0 rest) (last_part lower e)) None) (le-yes (height e) left low)
more-asks lower left (suc turns) place e ts rest low h =
    ap (λ (n : Next). go_on (more lower left turns place) lower left e ts n) h ∙ ap (λ (b : Bool). cond b (then_found (lower 0 rest) (last_part lower e)) None) (le-yes (height e) left low)

-- one turn more
pub more-infix : (lower : ℕ → List Token → Option Found) (left turns place : ℕ) (op : BinOp) (e : Expr) (ts rest : List Token) → height e ≤ left → left < turns + height e → next_of place ts ≡ Infix op rest →
    (fewer : ℕ) × (turns ≡ 1 + fewer) × (more lower left turns place e ts ≡ then_found (lower (level op + 1) rest) (λ x. more lower left fewer place (roll-Expr (Binary op e x))))
more-infix lower left zero place op e ts rest low enough h = absurd (omega arith)
more-infix lower left (suc turns) place op e ts rest low enough h =
    let n : suc turns ≡ 1 + turns = omega arith in (
      turns,
      n,
      ap (λ (n : Next). go_on (more lower left turns place) lower left e ts n) h
          ∙ ap (λ (b : Bool). cond b (then_found (lower (level op + 1) rest) (λ x. more lower left turns place (roll-Expr (Binary op e x)))) None) (le-yes (height e) left low),
    )

-- the expression that begins with an operand
pub climb-first : (limit place : ℕ) (ts : List Token) (e : Expr) (rest : List Token) → 0 < limit → first (climb (limit - 1)) ts ≡ Some (e, rest) →
    more (climb (limit - 1)) (limit - 1) (limit - 1) place e rest ≡ climb limit place ts
climb-first zero place ts e rest some is = absurd (omega arith)
climb-first (suc left) place ts e rest some is =
    let n : suc left - 1 ≡ left = omega arith in
    let found : first (climb left) ts ≡ Some (e, rest) = ap (λ (k : ℕ). first (climb k) ts) (sym n) ∙ is in
    ap (λ (k : ℕ). more (climb k) k k place e rest) n ∙ sym (ap (λ (o : Option Found). then_found o (more (climb left) left left place)) found)
