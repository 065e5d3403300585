-- A script that is read from its text can be compiled.
use Rattle.std.proofs.Common.{◌≡◌, ℕ, ◌+◌, ◌<◌, ◌≤◌, List, [], ◌∷◌, ◌++◌, Bool, true, false, cond, nat_le, Option, Some, None, map, length, drop, refl, sym, ap, subst, ◌∙◌, length-append, arith}
use Rattle.std.specs.List.{All, AllByRecursion, list_all}
use Rattle.std.proofs.Math.Seq.{drop-append-add}
use Rattle.std.proofs.lemmas.Bool.Decides.{nat_tests}
use Rattle.std.proofs.lemmas.List.{drop-map, length-map}
use Rattle.std.proofs.lemmas.List.Elements.{All-nil, All-cons}
use Rattle.spec_script.specs.declared.syntax.Expr.{Expr, fold_out-Expr}
use Rattle.spec_script.specs.declared.syntax.Expr.TheOpen.{Expr-F, Num, Lit, Look, Group, Unary, Binary, Choose}
use Rattle.spec_script.specs.declared.syntax.Script.{Script}
use Rattle.spec_script.specs.declared.syntax.Stmt.{Stmt}
use Rattle.spec_script.specs.declared.syntax.Stmt.TheVariants.{Create, Assign, Change, Plain}
use Rattle.spec_script.specs.declared.token.Placed.{Placed}
use Rattle.spec_script.specs.declared.token.Token.{Token}
use Rattle.spec_script.specs.declared.token.Token.TheVariants.{Semicolon}
use Rattle.spec_script.specs.Grammar.{expr_of, fits, fits_stmt, height, kept, separated, sign_fits, spelled, spelled_slot, spelled_step, spelled_stmt}
use Rattle.spec_script.specs.Reading.{ReadsScript, bare, first_place, high_stmt}
use Rattle.script_code.specs.Sources.{IsCompilable}
use Rattle.run_arena.proofs.Parts.{and_left, and_right}

-- ---- each expression has a token in the text

some_token : (x : Expr-F (List Token)) → 0 < length (spelled_step x)
some_token (Num n) = omega arith
some_token (Lit t) = omega arith
some_token (Look name) = omega arith
some_token (Group a) = omega arith
some_token (Unary op a) = omega arith
some_token (Binary op a b) = grind (arith, length-append)
some_token (Choose a b c) = grind (arith, length-append)

expr_spelled : (e : Expr) → 0 < length (spelled e)
expr_spelled e = subst (λ (ts : List Token). 0 < length ts) (sym (fold_out-Expr (List Token) spelled_step e)) (some_token _)

stmt_spelled : (s : Stmt) → 0 < length (spelled_stmt s)
stmt_spelled (Create name e) = omega arith
stmt_spelled (Assign name e) = omega arith
stmt_spelled (Change op name e) = omega arith
stmt_spelled (Plain e) = expr_spelled e

-- ---- no expression is too high

abbrev IsLow : Stmt → Type 0
IsLow s = height (expr_of s) ≤ 64

-- where the first statement is not too high, the others are not
first_low : (s : Stmt) (ts : List Placed) (rest : Option ℕ) → 0 < length ts → (b : Bool) → nat_le (height (expr_of s)) 64 ≡ b → (cond b rest (first_place ts)) ≡ None → IsLow s × (rest ≡ None)
first_low s ts rest some true is low = (grind (arith, nat_tests), low)
first_low s [] rest some false is low = absurd (omega (arith, some))
first_low s (t ∷ ts) rest some false is low = absurd (cc)

spelled_first : (s : Stmt) (others : List (List Token)) → length (spelled_stmt s) ≤ length (separated (spelled_stmt s ∷ others))
spelled_first s [] = omega arith
spelled_first s (o ∷ os) = omega (arith, length-append (spelled_stmt s) (Semicolon ∷ separated (o ∷ os)))

following_first : (ts : List Token) (front : List Token) (rest : List Token) → ts ≡ front ++ Semicolon ∷ rest → drop (length front + 1) ts ≡ rest
following_first ts front rest is = ap (drop (length front + 1)) is ∙ drop-append-add front (Semicolon ∷ rest) 1

lows : (slots : List (Option Stmt)) (ts : List Placed) → bare ts ≡ separated (map spelled_slot slots) → high_stmt slots ts ≡ None → AllByRecursion IsLow (kept slots)
lows [] ts written low = tt
lows (None ∷ []) ts written low = tt
lows (None ∷ x ∷ xs) ts written low =
    lows (x ∷ xs) (drop 1 ts) (sym (drop-map (λ (t : Placed). t.token) 1 ts) ∙ following_first (bare ts) [] (separated (map spelled_slot (x ∷ xs))) written) low
lows (Some s ∷ []) ts written low =
    let some : 0 < length ts = omega (arith, length-map ts (λ (t : Placed). t.token), ap length written, stmt_spelled s) in
    ((first_low s ts (high_stmt [] (drop (length (spelled_stmt s) + 1) ts)) some (nat_le (height (expr_of s)) 64) refl low).0, tt)
lows (Some s ∷ x ∷ xs) ts written low =
    let some : 0 < length ts = omega (arith, length-map ts (λ (t : Placed). t.token), ap length written, stmt_spelled s, spelled_first s (map spelled_slot (x ∷ xs))) in
    let both = first_low s ts (high_stmt (x ∷ xs) (drop (length (spelled_stmt s) + 1) ts)) some (nat_le (height (expr_of s)) 64) refl low in (
      both.0,
      lows (x ∷ xs) (drop (length (spelled_stmt s) + 1) ts)
          (sym (drop-map (λ (t : Placed). t.token) (length (spelled_stmt s) + 1) ts) ∙ following_first (bare ts) (spelled_stmt s) (separated (map spelled_slot (x ∷ xs))) written) both.1,
    )

-- ---- and each can be compiled

compilable_all : (stmts : List Stmt) → AllByRecursion IsLow stmts → list_all fits_stmt stmts ≡ true → All IsCompilable stmts
compilable_all [] low fit = All-nil IsCompilable
compilable_all (s ∷ stmts) low fit =
    All-cons IsCompilable s stmts
    (record {
      low = low.0;
      arithmetic = and_left (sign_fits s) (fits (expr_of s) 0) (and_left (fits_stmt s) (list_all fits_stmt stmts) fit);
    })
    (compilable_all stmts low.1 (and_right (fits_stmt s) (list_all fits_stmt stmts) fit))

pub compilable : (script : Script) → ReadsScript script.text script → All IsCompilable script.stmts
compilable script reads =
    let read = reads.1.1 in
    subst (All IsCompilable) (sym reads.1.2) (compilable_all (kept reads.1.0) (lows reads.1.0 _ read.is.written read.low) read.is.fit)
