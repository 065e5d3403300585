-- How the reader finds an expression, by the levels of its operators. Only clauses of private functions cite
-- this; it is proved to find exactly the expressions of the grammar.
use Rattle.std.specs.Prelude.{◌≡◌, ℕ, zero, suc, ◌+◌, ◌≤◌, ◌<◌, ◌==◌, nat_le, if◌then◌else◌, List, [], ◌∷◌, drop, length, Option, Some, None, Result, Ok, Err, Vec}
use Rattle.std.specs.Global.{Global}
use Rattle.std.specs.Borrow.{Bor}
use Rattle.spec_script.specs.declared.syntax.BinOp.{BinOp}
use Rattle.spec_script.specs.declared.syntax.BinOp.TheVariants.{Sub}
use Rattle.spec_script.specs.declared.syntax.UnOp.{UnOp}
use Rattle.spec_script.specs.declared.syntax.UnOp.TheVariants.{Neg, Not, Flip}
use Rattle.spec_script.specs.declared.syntax.Expr.{Expr, roll-Expr}
use Rattle.spec_script.specs.declared.syntax.Expr.TheOpen.{Num, Lit, Look, Group, Unary, Binary, Choose}
use Rattle.spec_script.specs.declared.token.Token.{Token}
use Rattle.spec_script.specs.declared.token.Token.TheVariants.{Number, Text, Word, Operator, Bang, Tilde, Question, Colon, Open, Close, Creates, Assigns, Changes}
use Rattle.spec_script.specs.declared.token.Placed.{Placed}
use Rattle.script_reader.specs.declared.build.Built.{Built}
use Rattle.script_reader.specs.declared.build.Follow.{Follow}
use Rattle.script_reader.specs.declared.build.Follow.TheVariants.{Nothing, Operation, Choosing}
use Rattle.spec_script.specs.declared.syntax.Stmt.{Stmt}
use Rattle.spec_script.specs.declared.syntax.Stmt.TheVariants.{Create, Assign, Change, Plain}
use Rattle.spec_script.specs.declared.fault.ScriptFault.{ScriptFault}
use Rattle.spec_script.specs.declared.fault.ScriptFault.TheVariants.{TooNested}
use Rattle.base_texts.specs.declared.stop.Stop.{Stop}
use Rattle.base_texts.specs.declared.stop.Stop.TheVariants as stop
use Rattle.spec_script.specs.Grammar.{level, height, kept, IsExpr, IsStmts}
use Rattle.spec_script.specs.Reading.{bare, high_expr, high_stmt}

-- an expression and the tokens after it
abbrev pub Found : Type 0
Found = Expr × List Token

-- what is made of an expression that was found
abbrev pub then_found : Option Found → (Expr → List Token → Option Found) → Option Found
then_found None next = None
then_found (Some f) next = next f.0 f.1

-- the expression in parentheses, if `)` comes first
abbrev pub closed : Expr → List Token → Option Found
closed e [] = None
closed e (Close ∷ ts) = Some (roll-Expr (Group e), ts)
closed e (t ∷ ts) = None

-- the operation of a sign on an expression
abbrev pub negated : UnOp → Expr → List Token → Option Found
negated op e ts = Some (roll-Expr (Unary op e), ts)

-- of the operators only `-` stands before an operand too
abbrev pub only_minus : BinOp → Option Found → Option Found
only_minus Sub f = f
only_minus op f = None

-- the operand at the front, given how expressions of less height are found
abbrev pub first : (ℕ → List Token → Option Found) → List Token → Option Found
first lower [] = None
first lower (Number n ∷ ts) = Some (roll-Expr (Num n), ts)
first lower (Text t ∷ ts) = Some (roll-Expr (Lit t), ts)
first lower (Word name ∷ ts) = Some (roll-Expr (Look name), ts)
first lower (Operator op ∷ ts) = only_minus op (then_found (lower 10 ts) (negated Neg))
first lower (Bang ∷ ts) = then_found (lower 10 ts) (negated Not)
first lower (Tilde ∷ ts) = then_found (lower 10 ts) (negated Flip)
first lower (Open ∷ ts) = then_found (lower 0 ts) closed
first lower (t ∷ ts) = None

-- what follows an expression and takes it as its first part: an operator of this level or a tighter one, or `?` at level 0
pub data Next : Type 0 where
  Ends : Next
  Infix : BinOp → List Token → Next
  Asks : List Token → Next

-- what follows an expression in a place of this level, by the first of these tokens
abbrev pub next_of : ℕ → List Token → Next
next_of place [] = Ends
next_of place (Operator op ∷ ts) = if nat_le place (level op) then Infix op ts else Ends
next_of place (Question ∷ ts) = if place == 0 then Asks ts else Ends
next_of place (t ∷ ts) = Ends

-- the choice of which the first two parts were found: a `:` and the last part come first
abbrev pub last_part : (ℕ → List Token → Option Found) → Expr → Expr → List Token → Option Found
last_part lower a b [] = None
last_part lower a b (Colon ∷ ts) = then_found (lower 0 ts) (λ c rest. Some (roll-Expr (Choose a b c), rest))
last_part lower a b (t ∷ ts) = None

-- an expression with what follows it, where less than this height is left for its parts
abbrev pub go_on : (Expr → List Token → Option Found) → (ℕ → List Token → Option Found) → ℕ → Expr → List Token → Next → Option Found
go_on again lower left e ts Ends = Some (e, ts)
go_on again lower left e ts (Infix op rest) =
    if nat_le (height e) left then then_found (lower (level op + 1) rest) (λ b. again (roll-Expr (Binary op e b))) else None
go_on again lower left e ts (Asks rest) =
    if nat_le (height e) left then then_found (lower 0 rest) (last_part lower e) else None

-- an expression with what follows it, in at most so many turns
abbrev pub more : (ℕ → List Token → Option Found) → ℕ → ℕ → ℕ → Expr → List Token → Option Found
more lower left zero place e ts = go_on (λ f rest. None) lower left e ts (next_of place ts)
more lower left (suc turns) place e ts = go_on (more lower left turns place) lower left e ts (next_of place ts)

-- the expression at the front, no higher than this, as long as a place of this level can have it
abbrev pub climb : ℕ → ℕ → List Token → Option Found
climb zero place ts = None
climb (suc left) place ts = then_found (first (climb left) ts) (more (climb left) left left place)

-- the tokens from this one on
abbrev pub from_token : List Placed → ℕ → List Token
from_token ts at = drop at (bare ts)

-- what was built, with the tokens after it
abbrev pub seen : List Placed → Option Built → Option Found
seen ts None = None
seen ts (Some b) = Some (b.expr, from_token ts b.next)

-- its height is the expression's, and no more than this, and it ends within the tokens
abbrev pub sound : List Placed → ℕ → Option Built → Type 0
sound ts limit None = Unit {0}
sound ts limit (Some b) = (b.height ≡ height b.expr) × (b.height ≤ limit) × (b.next ≤ length ts)

-- the first of some tokens, and those after it
abbrev pub IsFirst : List Placed → ℕ → Option (Bor Token) → Type 0
IsFirst ts at None = from_token ts at ≡ []
IsFirst ts at (Some t) = (from_token ts at ≡ t.now ∷ from_token ts (at + 1)) × (at < length ts)

-- what the code found to follow an expression, with the tokens after it
abbrev pub follows : List Token → Follow → Next
follows rest Nothing = Ends
follows rest (Operation op) = Infix op rest
follows rest Choosing = Asks rest

-- what follows is a token that is there
abbrev pub Within : List Placed → ℕ → Follow → Type 0
Within ts at Nothing = Unit {0}
Within ts at (Operation op) = at < length ts
Within ts at Choosing = at < length ts

-- the statement that is made of an expression that was found
abbrev pub as_stmt : (Expr → Stmt) → Option Found → Option (Stmt × List Token)
as_stmt make None = None
as_stmt make (Some f) = Some (make f.0, f.1)

-- how a statement begins
pub data Beginning : Type 0 where
  Assigned : (Expr → Stmt) → List Token → Beginning
  Evaluated : Beginning

-- how a statement begins with this name, by what follows the name
abbrev pub assigned_by : List ℕ → List Token → Beginning
assigned_by name [] = Evaluated
assigned_by name (Creates ∷ ts) = Assigned (Create name) ts
assigned_by name (Assigns ∷ ts) = Assigned (Assign name) ts
assigned_by name (Changes op ∷ ts) = Assigned (Change op name) ts
assigned_by name (t ∷ ts) = Evaluated

-- how the statement that begins with these tokens does
abbrev pub beginning : List Token → Beginning
beginning [] = Evaluated
beginning (Word name ∷ ts) = assigned_by name ts
beginning (t ∷ ts) = Evaluated

-- the expression at the front, no higher than 64
unfoldable pub whole_expr : List Token → Option Found
whole_expr ts = climb 64 0 ts

-- the statement that begins so
abbrev pub begun : List Token → Beginning → Option (Stmt × List Token)
begun ts (Assigned make rest) = as_stmt make (whole_expr rest)
begun ts Evaluated = as_stmt Plain (whole_expr ts)

-- the statement at the front, if its expression is no higher than 64
abbrev pub statement_at : List Token → Option (Stmt × List Token)
statement_at ts = begun ts (beginning ts)

-- a statement that was built, with the tokens after it
abbrev pub seen_stmt : List Placed → Option (Stmt × ℕ) → Option (Stmt × List Token)
seen_stmt ts None = None
seen_stmt ts (Some b) = Some (b.0, from_token ts b.1)

-- a statement that was built ends within the tokens
abbrev pub ends_within : List Placed → Option (Stmt × ℕ) → Type 0
ends_within ts None = Unit {0}
ends_within ts (Some b) = b.1 ≤ length ts

-- the tokens are these statements, and what was built are they, if none is too high
abbrev pub BuiltStmts : List Placed → Result (Vec Stmt Global) (Stop ScriptFault) → Type 0
BuiltStmts ts (Ok v) = (slots : List (Option Stmt)) × IsStmts (bare ts) slots × (v.items ≡ kept slots) × (high_stmt slots ts ≡ None)
BuiltStmts ts (Err (stop.Fault (TooNested place))) = (slots : List (Option Stmt)) × IsStmts (bare ts) slots × (high_stmt slots ts ≡ Some place)
BuiltStmts ts (Err (stop.Fault fault)) = ⊥
BuiltStmts ts (Err stop.NoMemory) = Unit {0}

-- the tokens are an expression, and what was built is it, if it is not too high
abbrev pub BuiltExpr : List Placed → Result Expr (Stop ScriptFault) → Type 0
BuiltExpr ts (Ok e) = IsExpr (bare ts) e × (high_expr e ts ≡ None)
BuiltExpr ts (Err (stop.Fault (TooNested place))) = (e : Expr) × IsExpr (bare ts) e × (high_expr e ts ≡ Some place)
BuiltExpr ts (Err (stop.Fault fault)) = ⊥
BuiltExpr ts (Err stop.NoMemory) = Unit {0}
