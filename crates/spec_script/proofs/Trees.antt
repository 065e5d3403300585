-- Expressions layer by layer.
use Rattle.std.proofs.Common.{◌≡◌, ℕ, Bool, List, subst}
use Rattle.spec_script.specs.declared.syntax.Expr.{Expr, Expr-F, roll-Expr, map-Expr, ind-Expr, fold-roll-Expr}
use Rattle.spec_script.specs.declared.token.Token.{Token}
use Rattle.spec_script.specs.Grammar.{spelled, spelled_step, fits, fits_step, height, height_step}

-- what holds of each layer where it holds of the parts holds of every expression
pub induct : (P : Expr → Type 0) → ((y : Expr-F ((e : Expr) × P e)) → P (roll-Expr (map-Expr ((e : Expr) × P e) Expr (λ e. e.0) y))) → (e : Expr) → P e
induct P step = ind-Expr P (λ x y is. subst (λ (z : Expr-F Expr). P (roll-Expr z)) is (step y))

pub spelled_is : (x : Expr-F Expr) → spelled (roll-Expr x) ≡ spelled_step (map-Expr Expr (List Token) spelled x)
spelled_is x = fold-roll-Expr (List Token) spelled_step x

pub fits_is : (x : Expr-F Expr) → fits (roll-Expr x) ≡ fits_step (map-Expr Expr (ℕ → Bool) fits x)
fits_is x = fold-roll-Expr (ℕ → Bool) fits_step x

pub height_is : (x : Expr-F Expr) → height (roll-Expr x) ≡ height_step (map-Expr Expr ℕ height x)
height_is x = fold-roll-Expr ℕ height_step x
