-- What stands in expressions and statements: names, text literals, and what the reader grants of them.
use Rattle.std.specs.Prelude.{ℕ, ◌+◌, List, [], ◌∷◌, ◌++◌, fold, if◌then◌else◌}
use Rattle.std.specs.List.{flat_map, list_any}
use Rattle.std.specs.Str.{bytes_eq}
use Rattle.spec_script.specs.declared.syntax.Expr.{Expr, fold-Expr}
use Rattle.spec_script.specs.declared.syntax.Expr.TheOpen.{Expr-F, Num, Lit, Look, Group, Unary, Binary, Choose}
use Rattle.spec_script.specs.declared.syntax.Stmt.{Stmt}
use Rattle.spec_script.specs.declared.syntax.Stmt.TheVariants.{Create, Assign, Change, Plain}

-- the names in an expression, where those in its parts are known
abbrev pub names_step : Expr-F (List (List ℕ)) → List (List ℕ)
names_step (Num n) = []
names_step (Lit t) = []
names_step (Look name) = name ∷ []
names_step (Group a) = a
names_step (Unary op a) = a
names_step (Binary op a b) = a ++ b
names_step (Choose a b c) = a ++ b ++ c

-- the names that an expression looks at
abbrev pub names_of : Expr → List (List ℕ)
names_of = fold-Expr (List (List ℕ)) names_step

-- the names of a statement
abbrev pub stmt_names : Stmt → List (List ℕ)
stmt_names (Create name e) = name ∷ names_of e
stmt_names (Assign name e) = name ∷ names_of e
stmt_names (Change op name e) = name ∷ names_of e
stmt_names (Plain e) = names_of e

-- names, with one more where it is not yet among them
abbrev pub append_once : List (List ℕ) → List ℕ → List (List ℕ)
append_once names name = if list_any (bytes_eq name) names then names else names ++ name ∷ []

-- the names of statements, each once, in the order in which they first stand there
abbrev pub distinct_names : List Stmt → List (List ℕ)
distinct_names stmts = fold append_once [] (flat_map stmt_names stmts)

-- how many text literals stand in an expression, where it is known of its parts
abbrev pub texts_step : Expr-F ℕ → ℕ
texts_step (Num n) = 0
texts_step (Lit t) = 1
texts_step (Look name) = 0
texts_step (Group a) = a
texts_step (Unary op a) = a
texts_step (Binary op a b) = a + b
texts_step (Choose a b c) = a + b + c

-- how many text literals stand in an expression
abbrev pub texts_of : Expr → ℕ
texts_of = fold-Expr ℕ texts_step
