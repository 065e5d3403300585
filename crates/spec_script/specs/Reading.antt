-- What a text reads as, and each fault with its place.
use Rattle.std.specs.Prelude.{◌≡◌, ℕ, ◌+◌, ◌≤◌, ◌<◌, ◌⊎◌, nat_le, if◌then◌else◌, List, [], ◌∷◌, ◌++◌, length, drop, map, Option, Some, None}
use Rattle.spec_script.specs.declared.fault.ScriptFault.{ScriptFault}
use Rattle.spec_script.specs.declared.fault.ScriptFault.TheVariants.{TooLong, Syntax, RealNumber, NumberTooWide, TooNested}
use Rattle.spec_script.specs.declared.syntax.Expr.{Expr}
use Rattle.spec_script.specs.declared.syntax.Stmt.{Stmt}
use Rattle.spec_script.specs.declared.syntax.Script.{Script}
use Rattle.spec_script.specs.declared.token.Token.{Token}
use Rattle.spec_script.specs.declared.token.Placed.{Placed}
use Rattle.spec_script.specs.Tokens.{read_tokens}
use Rattle.spec_script.specs.Grammar.{IsExpr, IsStmts, expr_of, height, kept, spelled_stmt}

-- the tokens without their places
abbrev pub bare : List Placed → List Token
bare ts = map (λ t. t.token) ts

-- the tokens of a text, up to its first fault
abbrev pub tokens_of : List ℕ → List Placed
tokens_of text = (read_tokens 0 0 text).tokens

-- the first fault of the tokens of a text
abbrev pub token_fault : List ℕ → Option ScriptFault
token_fault text = (read_tokens 0 0 text).fault

-- the place of the first token
abbrev pub first_place : List Placed → Option ℕ
first_place [] = None
first_place (t ∷ ts) = Some t.place

-- where an expression is higher than 64: the place of its first token
abbrev pub high_expr : Expr → List Placed → Option ℕ
high_expr e ts = if nat_le (height e) 64 then None else first_place ts

-- the place of the first token of the first statement whose expression is higher than 64
abbrev pub high_stmt : List (Option Stmt) → List Placed → Option ℕ
high_stmt [] ts = None
high_stmt (None ∷ slots) ts = high_stmt slots (drop 1 ts)
high_stmt (Some s ∷ slots) ts =
    if nat_le (height (expr_of s)) 64 then high_stmt slots (drop (length (spelled_stmt s) + 1) ts) else first_place ts

-- with some tokens after these they are whole
pub record Begins {X : Type 0} (Is : List Token → X → Type 0) (ts : List Token) : Type 0 where
  pub following : List Token
  pub whole : X
  pub is : Is (ts ++ following) whole

-- the token at this place is the first with which nothing goes on
pub record StuckAt {X : Type 0} (Is : List Token → X → Type 0) (ts : List Placed) (place : ℕ) : Type 0 where
  pub front : List Placed
  pub token : Token
  pub rest : List Placed
  pub at : ts ≡ front ++ (record { token = token; place = place }) ∷ rest
  pub begins : Begins Is (bare front)
  pub stuck : Begins Is (bare front ++ token ∷ []) → ⊥

-- the tokens begin something, and are nothing whole
pub record Unfinished {X : Type 0} (Is : List Token → X → Type 0) (ts : List Placed) : Type 0 where
  pub begins : Begins Is (bare ts)
  pub open_end : (x : X) → Is (bare ts) x → ⊥

-- tokens that begin something, and then a fault of a token
pub record FaultAfter {X : Type 0} (Is : List Token → X → Type 0) (text : List ℕ) (fault : ScriptFault) : Type 0 where
  pub begins : Begins Is (bare (tokens_of text))
  pub found : token_fault text ≡ Some fault

-- a fault of the grammar, with its place
abbrev pub GrammarFault : {X : Type 0} → (List Token → X → Type 0) → List ℕ → ℕ → Type 0
GrammarFault Is text place =
    StuckAt Is (tokens_of text) place ⊎ ((token_fault text ≡ None) × Unfinished Is (tokens_of text) × (place ≡ length text))

-- the text is this, and no part of it is too high
pub record Reads {X : Type 0} (Is : List Token → X → Type 0) (high : X → List Placed → Option ℕ) (text : List ℕ) (x : X) : Type 0 where
  pub short : length text ≤ 4096
  pub clean : token_fault text ≡ None
  pub is : Is (bare (tokens_of text)) x
  pub low : high x (tokens_of text) ≡ None

-- the text is this, and a part of it that begins here is too high
pub record Nested {X : Type 0} (Is : List Token → X → Type 0) (high : X → List Placed → Option ℕ) (text : List ℕ) (place : ℕ) : Type 0 where
  pub clean : token_fault text ≡ None
  pub whole : X
  pub is : Is (bare (tokens_of text)) whole
  pub high_at : high whole (tokens_of text) ≡ Some place

-- the text has this fault
abbrev pub Faulty : {X : Type 0} → (List Token → X → Type 0) → (X → List Placed → Option ℕ) → List ℕ → ScriptFault → Type 0
Faulty Is high text TooLong = 4096 < length text
Faulty Is high text (Syntax place) = (length text ≤ 4096) × (FaultAfter Is text (Syntax place) ⊎ GrammarFault Is text place)
Faulty Is high text (RealNumber place) = (length text ≤ 4096) × FaultAfter Is text (RealNumber place)
Faulty Is high text (NumberTooWide place) = (length text ≤ 4096) × FaultAfter Is text (NumberTooWide place)
Faulty Is high text (TooNested place) = (length text ≤ 4096) × Nested Is high text place

-- the text reads as this expression
abbrev pub ReadsExpr : List ℕ → Expr → Type 0
ReadsExpr text e = Reads IsExpr high_expr text e

-- the text reads as this script
abbrev pub ReadsScript : List ℕ → Script → Type 0
ReadsScript text s = (s.text ≡ text) × ((slots : List (Option Stmt)) × Reads IsStmts high_stmt text slots × (s.stmts ≡ kept slots))

-- the text has this fault as a script
abbrev pub StmtsFault : List ℕ → ScriptFault → Type 0
StmtsFault text fault = Faulty IsStmts high_stmt text fault
