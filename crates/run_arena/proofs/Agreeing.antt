-- A script means the same over two maps of names to slots that agree on its names.
use Rattle.std.proofs.Common.{◌≡◌, ℕ, pos, ◌||◌, List, [], ◌∷◌, ◌++◌, refl, sym, ap, subst, ◌∙◌}
use Rattle.std.specs.Prelude.{Option, Result}
use Rattle.std.specs.List.{flat_map}
use Rattle.std.proofs.lemmas.List.Elements.{All-head, All-tail}
use Rattle.spec_script.specs.declared.fault.ExecFault.{ExecFault}
use Rattle.spec_script.specs.declared.syntax.Expr.{Expr, ind-Expr, map-Expr, fold-roll-Expr}
use Rattle.spec_script.specs.declared.syntax.Expr.TheOpen.{Expr-F, Num, Lit, Look, Group, Unary, Binary, Choose}
use Rattle.spec_script.specs.declared.syntax.Stmt.{Stmt}
use Rattle.spec_script.specs.declared.syntax.Stmt.TheVariants.{Create, Assign, Change, Plain}
use Rattle.spec_script.specs.declared.value.Value.{Value}
use Rattle.spec_script.specs.declared.value.Value.TheVariants.{Int}
use Rattle.spec_script.specs.Entries.{entry_of}
use Rattle.spec_script.specs.Evaluation.{eval_of, followed, if_there, stmt_of, stmts_of, written}
use Rattle.spec_script.specs.Operators.{chosen, combined, unary_on}
use Rattle.base_texts.specs.Results.{◌>>=◌}
use Rattle.spec_script.specs.Scripts.{names_of, names_step, stmt_names}
use Rattle.script_code.specs.Meeting.{Evaluated, choice_meets, evaluated, evaluated_step, is_ok_and, looked_at, operands_meet, stmt_meets, stmts_meet}
use Rattle.script_code.specs.Programs.{program_of}
use Rattle.run_driver.proofs.Agreeing as agreed
use Rattle.run_driver.proofs.Parts.{All-left, All-right}

module _ (f g : List ℕ → ℕ) where
  abbrev pub Agree : List (List ℕ) → Type 0
  Agree = agreed.Agree f g

  same_value : (look : ℕ → Result Value ExecFault) (e : Expr) → Agree (names_of e) → eval_of (λ name. look (f name)) e ≡ eval_of (λ name. look (g name)) e
  same_value = agreed.same_value f g

  module _ (look : ℕ → Result Value ExecFault) where
    abbrev met_f : Expr → Evaluated
    met_f = evaluated (λ name. look (f name))

    abbrev met_g : Expr → Evaluated
    met_g = evaluated (λ name. look (g name))

    abbrev SameMet : Expr → Type 0
    SameMet e = Agree (names_of e) → met_f e ≡ met_g e

    met_at : (y : Expr-F ((e : Expr) × SameMet e)) →
        Agree (names_step (map-Expr Expr (List (List ℕ)) names_of (map-Expr ((e : Expr) × SameMet e) Expr (λ e. e.0) y))) →
        evaluated_step (λ name. look (f name)) (map-Expr Expr Evaluated met_f (map-Expr ((e : Expr) × SameMet e) Expr (λ e. e.0) y))
        ≡ evaluated_step (λ name. look (g name)) (map-Expr Expr Evaluated met_g (map-Expr ((e : Expr) × SameMet e) Expr (λ e. e.0) y))
    met_at (Num n) agree = refl
    met_at (Lit t) agree = refl
    met_at (Look name) agree = ap (λ (k : ℕ). looked_at (look k)) (All-head (λ name. f name ≡ g name) name [] agree)
    met_at (Group a) agree = let inner = a.1 agree in λ i. record { value = (inner i).value; meets = (inner i).meets }
    met_at (Unary op a) agree = let inner = a.1 agree in λ i. record { value = (inner i).value >>= unary_on op; meets = (inner i).meets }
    met_at (Binary op a b) agree =
        let first = a.1 (All-left (λ name. f name ≡ g name) (names_of a.0) (names_of b.0) agree) in
        let second = b.1 (All-right (λ name. f name ≡ g name) (names_of a.0) (names_of b.0) agree) in
        λ i. record { value = combined op (first i).value (second i).value; meets = operands_meet op (first i) (second i) }
    met_at (Choose a b c) agree =
        let front = All-left (λ name. f name ≡ g name) (names_of a.0 ++ names_of b.0) (names_of c.0) agree in
        let first = a.1 (All-left (λ name. f name ≡ g name) (names_of a.0) (names_of b.0) front) in
        let second = b.1 (All-right (λ name. f name ≡ g name) (names_of a.0) (names_of b.0) front) in
        let third = c.1 (All-right (λ name. f name ≡ g name) (names_of a.0 ++ names_of b.0) (names_of c.0) agree) in
        λ i. record { value = chosen (first i).value (second i).value (third i).value; meets = choice_meets (first i) (second i) (third i) }

    same_met : (e : Expr) → SameMet e
    same_met = ind-Expr SameMet (λ x y is agree.
        fold-roll-Expr Evaluated (evaluated_step (λ name. look (f name))) x
        ∙ subst (λ (z : Expr-F Expr). Agree (names_step (map-Expr Expr (List (List ℕ)) names_of z)) →
        evaluated_step (λ name. look (f name)) (map-Expr Expr Evaluated met_f z) ≡ evaluated_step (λ name. look (g name)) (map-Expr Expr Evaluated met_g z)) is (met_at y)
        (subst Agree (fold-roll-Expr (List (List ℕ)) names_step x) agree)
        ∙ sym (fold-roll-Expr Evaluated (evaluated_step (λ name. look (g name))) x))

  same_stmt : (s : Stmt) (entries : List (Option Value)) → Agree (stmt_names s) → stmt_of f s entries ≡ stmt_of g s entries
  same_stmt (Create name e) entries agree =
      let here = All-head (λ name. f name ≡ g name) name (names_of e) agree in
      let value = same_value (entry_of entries) e (All-tail (λ name. f name ≡ g name) name (names_of e) agree) in
      λ i. written (here i) entries (value i)
  same_stmt (Assign name e) entries agree =
      let here = All-head (λ name. f name ≡ g name) name (names_of e) agree in
      let value = same_value (entry_of entries) e (All-tail (λ name. f name ≡ g name) name (names_of e) agree) in
      λ i. written (here i) entries (if_there (here i) entries (value i))
  same_stmt (Change op name e) entries agree =
      let here = All-head (λ name. f name ≡ g name) name (names_of e) agree in
      let value = same_value (entry_of entries) e (All-tail (λ name. f name ≡ g name) name (names_of e) agree) in
      λ i. written (here i) entries (if_there (here i) entries (combined op (entry_of entries (here i)) (value i)))
  same_stmt (Plain e) entries agree = λ i. record { answer = same_value (entry_of entries) e agree i; entries = entries }

  same_stmts : (last : Value) (stmts : List Stmt) (entries : List (Option Value)) → Agree (flat_map stmt_names stmts) → stmts_of f last stmts entries ≡ stmts_of g last stmts entries
  same_stmts last [] entries agree = refl
  same_stmts last (s ∷ stmts) entries agree =
      let first = same_stmt s entries (All-left (λ name. f name ≡ g name) (stmt_names s) (flat_map stmt_names stmts) agree) in
      let rest = All-right (λ name. f name ≡ g name) (stmt_names s) (flat_map stmt_names stmts) agree in
      λ i. followed (first i).answer (first i).entries (λ value left. same_stmts value stmts left rest i)

  same_stmt_meets : (s : Stmt) (entries : List (Option Value)) → Agree (stmt_names s) → stmt_meets f s entries ≡ stmt_meets g s entries
  same_stmt_meets (Create name e) entries agree =
      ap (λ (m : Evaluated). m.meets) (same_met (entry_of entries) e (All-tail (λ name. f name ≡ g name) name (names_of e) agree))
  same_stmt_meets (Assign name e) entries agree =
      ap (λ (m : Evaluated). m.meets) (same_met (entry_of entries) e (All-tail (λ name. f name ≡ g name) name (names_of e) agree))
  same_stmt_meets (Change op name e) entries agree =
      let here = All-head (λ name. f name ≡ g name) name (names_of e) agree in
      let met = same_met (entry_of entries) e (All-tail (λ name. f name ≡ g name) name (names_of e) agree) in
      λ i. operands_meet op (looked_at (entry_of entries (here i))) (met i)
  same_stmt_meets (Plain e) entries agree = ap (λ (m : Evaluated). m.meets) (same_met (entry_of entries) e agree)

  same_stmts_meet : (stmts : List Stmt) (entries : List (Option Value)) → Agree (flat_map stmt_names stmts) → stmts_meet f stmts entries ≡ stmts_meet g stmts entries
  same_stmts_meet [] entries agree = refl
  same_stmts_meet (s ∷ stmts) entries agree =
      let here = All-left (λ name. f name ≡ g name) (stmt_names s) (flat_map stmt_names stmts) agree in
      let met = same_stmt_meets s entries here in
      let run = same_stmt s entries here in
      let rest = All-right (λ name. f name ≡ g name) (stmt_names s) (flat_map stmt_names stmts) agree in
      λ i. met i || is_ok_and (run i).answer (λ (value : Value). same_stmts_meet stmts (run i).entries rest i)

  -- the statements of a script
  pub same_program : (stmts : List Stmt) → Agree (flat_map stmt_names stmts) → program_of f stmts ≡ program_of g stmts
  same_program stmts agree = λ i. record {
    run = λ entries. same_stmts (Int (pos 0)) stmts entries agree i;
    meets = λ entries. same_stmts_meet stmts entries agree i;
  }
