-- An expression gives the same over two maps of names to places that agree on its names.
use Rattle.std.proofs.Common.{◌≡◌, ℕ, List, [], ◌++◌, refl, ap, subst, sym, ◌∙◌}
use Rattle.std.specs.Prelude.{Result}
use Rattle.std.specs.List.{All}
use Rattle.std.proofs.lemmas.List.Elements.{All-head}
use Rattle.spec_script.specs.declared.fault.ExecFault.{ExecFault}
use Rattle.spec_script.specs.declared.syntax.Expr.{Expr, ind-Expr, map-Expr, fold-roll-Expr}
use Rattle.spec_script.specs.declared.syntax.Expr.TheOpen.{Expr-F, Num, Lit, Look, Group, Unary, Binary, Choose}
use Rattle.spec_script.specs.declared.value.Value.{Value}
use Rattle.spec_script.specs.Evaluation.{eval_of, eval_step}
use Rattle.spec_script.specs.Operators.{chosen, combined, unary_on}
use Rattle.base_texts.specs.Results.{◌>>=◌}
use Rattle.spec_script.specs.Scripts.{names_of, names_step}
use Rattle.run_driver.proofs.Parts.{All-left, All-right}

module _ (f g : List ℕ → ℕ) where
  abbrev pub Agree : List (List ℕ) → Type 0
  Agree names = All (λ name. f name ≡ g name) names

  module _ (look : ℕ → Result Value ExecFault) where
    abbrev value_f : Expr → Result Value ExecFault
    value_f = eval_of (λ name. look (f name))

    abbrev value_g : Expr → Result Value ExecFault
    value_g = eval_of (λ name. look (g name))

    abbrev SameValue : Expr → Type 0
    SameValue e = Agree (names_of e) → value_f e ≡ value_g e

    -- a node of an expression, where it holds of its parts
    value_at : (y : Expr-F ((e : Expr) × SameValue e)) →
        Agree (names_step (map-Expr Expr (List (List ℕ)) names_of (map-Expr ((e : Expr) × SameValue e) Expr (λ e. e.0) y))) →
        eval_step (λ name. look (f name)) (map-Expr Expr (Result Value ExecFault) value_f (map-Expr ((e : Expr) × SameValue e) Expr (λ e. e.0) y))
        ≡ eval_step (λ name. look (g name)) (map-Expr Expr (Result Value ExecFault) value_g (map-Expr ((e : Expr) × SameValue e) Expr (λ e. e.0) y))
    value_at (Num n) agree = refl
    value_at (Lit t) agree = refl
    value_at (Look name) agree = ap look (All-head (λ name. f name ≡ g name) name [] agree)
    value_at (Group a) agree = a.1 agree
    value_at (Unary op a) agree = ap (λ (r : Result Value ExecFault). r >>= unary_on op) (a.1 agree)
    value_at (Binary op a b) agree =
        let first = a.1 (All-left (λ name. f name ≡ g name) (names_of a.0) (names_of b.0) agree) in
        let second = b.1 (All-right (λ name. f name ≡ g name) (names_of a.0) (names_of b.0) agree) in
        λ i. combined op (first i) (second i)
    value_at (Choose a b c) agree =
        let front = All-left (λ name. f name ≡ g name) (names_of a.0 ++ names_of b.0) (names_of c.0) agree in
        let first = a.1 (All-left (λ name. f name ≡ g name) (names_of a.0) (names_of b.0) front) in
        let second = b.1 (All-right (λ name. f name ≡ g name) (names_of a.0) (names_of b.0) front) in
        let third = c.1 (All-right (λ name. f name ≡ g name) (names_of a.0 ++ names_of b.0) (names_of c.0) agree) in
        λ i. chosen (first i) (second i) (third i)

    pub same_value : (e : Expr) → SameValue e
    same_value = ind-Expr SameValue (λ x y is agree.
        fold-roll-Expr (Result Value ExecFault) (eval_step (λ name. look (f name))) x
        ∙ subst (λ (z : Expr-F Expr). Agree (names_step (map-Expr Expr (List (List ℕ)) names_of z)) →
        eval_step (λ name. look (f name)) (map-Expr Expr (Result Value ExecFault) value_f z) ≡ eval_step (λ name. look (g name)) (map-Expr Expr (Result Value ExecFault) value_g z)) is (value_at y)
        (subst Agree (fold-roll-Expr (List (List ℕ)) names_step x) agree)
        ∙ sym (fold-roll-Expr (Result Value ExecFault) (eval_step (λ name. look (g name))) x))
