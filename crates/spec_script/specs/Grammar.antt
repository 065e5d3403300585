-- The grammar of scripts. An expression has its parentheses in it, so it says with which tokens it is
-- written, and whether each of its parts may stand without parentheses where it stands.
use Rattle.std.specs.Prelude.{◌≡◌, ℕ, ◌+◌, ◌<◌, max, Bool, true, false, ◌&&◌, ◌==◌, nat_le, List, [], ◌∷◌, ◌++◌, length, map, Option, Some, None}
use Rattle.std.specs.List.{list_all}
use Rattle.spec_script.specs.declared.syntax.BinOp.{BinOp}
use Rattle.spec_script.specs.declared.syntax.BinOp.TheVariants.{Add, Sub, Mul, Div, And, Or, BitAnd, BitOr, BitXor, Compare}
use Rattle.spec_script.specs.declared.syntax.Cmp.{Cmp}
use Rattle.spec_script.specs.declared.syntax.Cmp.TheVariants.{Equal, Differ, Less, AtMost, More, AtLeast}
use Rattle.spec_script.specs.declared.syntax.UnOp.{UnOp}
use Rattle.spec_script.specs.declared.syntax.UnOp.TheVariants.{Neg, Not, Flip}
use Rattle.spec_script.specs.declared.syntax.Expr.{Expr, fold-Expr}
use Rattle.spec_script.specs.declared.syntax.Expr.TheOpen.{Expr-F, Num, Lit, Look, Group, Unary, Binary, Choose}
use Rattle.spec_script.specs.declared.syntax.Stmt.{Stmt}
use Rattle.spec_script.specs.declared.syntax.Stmt.TheVariants.{Create, Assign, Change, Plain}
use Rattle.spec_script.specs.declared.token.Token.{Token}
use Rattle.spec_script.specs.declared.token.Token.TheVariants.{Number, Text, Word, Operator, Bang, Tilde, Question, Colon, Open, Close, Semicolon, Creates, Assigns, Changes}

-- the levels of the comparisons
abbrev pub comparison_level : Cmp → ℕ
comparison_level Equal = 6
comparison_level Differ = 6
comparison_level Less = 7
comparison_level AtMost = 7
comparison_level More = 7
comparison_level AtLeast = 7

-- the operators from the loosest to the tightest; `? :` has level 0, and what has no operator between
-- operands has level 10
abbrev pub level : BinOp → ℕ
level Or = 1
level And = 2
level BitOr = 3
level BitXor = 4
level BitAnd = 5
level (Compare c) = comparison_level c
level Add = 8
level Sub = 8
level Mul = 9
level Div = 9

-- the sign of an operator before one operand
abbrev pub unary_sign : UnOp → Token
unary_sign Neg = Operator Sub
unary_sign Not = Bang
unary_sign Flip = Tilde

-- the tokens of an expression, where those of its parts are known
abbrev pub spelled_step : Expr-F (List Token) → List Token
spelled_step (Num n) = Number n ∷ []
spelled_step (Lit t) = Text t ∷ []
spelled_step (Look name) = Word name ∷ []
spelled_step (Group a) = Open ∷ (a ++ Close ∷ [])
spelled_step (Unary op a) = unary_sign op ∷ a
spelled_step (Binary op a b) = a ++ Operator op ∷ b
spelled_step (Choose a b c) = a ++ Question ∷ (b ++ Colon ∷ c)

-- the tokens with which an expression is written
abbrev pub spelled : Expr → List Token
spelled = fold-Expr (List Token) spelled_step

-- Operators between operands group to the left: the left operand may have the same level, the right one
-- has a tighter one. `? :` groups to the right: its test has a tighter level.
abbrev pub fits_step : Expr-F (ℕ → Bool) → ℕ → Bool
fits_step (Num n) place = true
fits_step (Lit t) place = true
fits_step (Look name) place = true
fits_step (Group a) place = a 0
fits_step (Unary op a) place = a 10
fits_step (Binary op a b) place = nat_le place (level op) && (a (level op) && b (level op + 1))
fits_step (Choose a b c) place = place == 0 && (a 1 && (b 0 && c 0))

-- whether an expression may stand without parentheses where this level or a tighter one is wanted
abbrev pub fits : Expr → ℕ → Bool
fits = fold-Expr (ℕ → Bool) fits_step

-- the height of an expression, where that of its parts is known
abbrev pub height_step : Expr-F ℕ → ℕ
height_step (Num n) = 1
height_step (Lit t) = 1
height_step (Look name) = 1
height_step (Group a) = 1 + a
height_step (Unary op a) = 1 + a
height_step (Binary op a b) = 1 + max a b
height_step (Choose a b c) = 1 + max a (max b c)

-- the height of an expression
abbrev pub height : Expr → ℕ
height = fold-Expr ℕ height_step

-- the operators that may stand before `=`
abbrev pub changes : BinOp → Bool
changes Add = true
changes Sub = true
changes Mul = true
changes Div = true
changes And = false
changes Or = false
changes BitAnd = false
changes BitOr = false
changes BitXor = false
changes (Compare c) = false

-- the expression of a statement
abbrev pub expr_of : Stmt → Expr
expr_of (Create name e) = e
expr_of (Assign name e) = e
expr_of (Change op name e) = e
expr_of (Plain e) = e

-- the tokens with which a statement is written
abbrev pub spelled_stmt : Stmt → List Token
spelled_stmt (Create name e) = Word name ∷ Creates ∷ spelled e
spelled_stmt (Assign name e) = Word name ∷ Assigns ∷ spelled e
spelled_stmt (Change op name e) = Word name ∷ Changes op ∷ spelled e
spelled_stmt (Plain e) = spelled e

-- whether a statement's operator may stand before `=`
abbrev pub sign_fits : Stmt → Bool
sign_fits (Create name e) = true
sign_fits (Assign name e) = true
sign_fits (Change op name e) = changes op
sign_fits (Plain e) = true

-- whether a statement's expression and its sign fit
abbrev pub fits_stmt : Stmt → Bool
fits_stmt s = sign_fits s && fits (expr_of s) 0

-- a script has statements between its semicolons, or nothing
abbrev pub spelled_slot : Option Stmt → List Token
spelled_slot None = []
spelled_slot (Some s) = spelled_stmt s

-- lists of tokens with semicolons between them
abbrev pub separated : List (List Token) → List Token
separated [] = []
separated (ts ∷ []) = ts
separated (ts ∷ us ∷ uss) = ts ++ Semicolon ∷ separated (us ∷ uss)

-- the statements, without the empty ones
abbrev pub kept : List (Option Stmt) → List Stmt
kept [] = []
kept (None ∷ slots) = kept slots
kept (Some s ∷ slots) = s ∷ kept slots

-- the tokens are this expression
pub record IsExpr (ts : List Token) (e : Expr) : Type 0 where
  pub written : ts ≡ spelled e
  pub fit : fits e 0 ≡ true

-- the tokens are these statements, of which some may be empty, but not all
pub record IsStmts (ts : List Token) (slots : List (Option Stmt)) : Type 0 where
  pub written : ts ≡ separated (map spelled_slot slots)
  pub fit : list_all fits_stmt (kept slots) ≡ true
  pub some : 0 < length (kept slots)
