-- The scripts of a node concern no other node, and a constant guard has one truth.
use Rattle.std.proofs.Common.{◌≡◌, ℕ, ℤ, List, [], ◌∷◌, Bool, true, false, not, Option, Some, None, Result, Ok, Err, refl, ap, subst}
use Rattle.spec_script.specs.declared.fault.ExecFault.{ExecFault}
use Rattle.spec_script.specs.declared.syntax.Expr.{Expr, out-Expr, roll-Expr, roll-out-Expr, fold-roll-Expr}
use Rattle.spec_script.specs.declared.syntax.Expr.TheOpen.{Expr-F, Num, Lit, Look, Group, Unary, Binary, Choose}
use Rattle.spec_script.specs.declared.syntax.Script.{Script}
use Rattle.spec_script.specs.declared.syntax.Stmt.{Stmt}
use Rattle.spec_script.specs.declared.syntax.Stmt.TheVariants.{Create, Assign, Change, Plain}
use Rattle.spec_script.specs.declared.value.Value.{Value}
use Rattle.spec_script.specs.declared.value.Value.TheVariants.{Int, Text}
use Rattle.spec_script.specs.Evaluation.{eval_of, eval_step, exec_of, followed}
use Rattle.spec_script.specs.Operators.{is_true}
use Rattle.spec_run.specs.Done.{Done, State, done, ends}
use Rattle.spec_run.specs.NodeScripts.{script_holds, script_if_there, script_left, script_run, truth_of}
use Rattle.spec_run.specs.Sites.{Site, slot_at}
use Rattle.spec_dead.specs.Guards.{constant_of, may_be, number_alone}
use Rattle.tree_dead.proofs.Parts.{Leaves, Lives, follow_left, nothing_left}

-- the value of what is constant is its number
abbrev pub IsConstant : Option ℤ → Value → Type 0
IsConstant None v = Unit {0}
IsConstant (Some n) v = v ≡ Int n

-- an expression that is constant gives its number
abbrev GivesNumber : Option ℤ → Result Value ExecFault → Type 0
GivesNumber None r = Unit {0}
GivesNumber (Some n) r = r ≡ Ok (Int n)

module _ (look : List ℕ → Result Value ExecFault) where
  layer_gives : (x : Expr-F Expr) → GivesNumber (number_alone x) (eval_of look (roll-Expr x))
  layer_gives (Num n) = fold-roll-Expr (Result Value ExecFault) (eval_step look) (Num n)
  layer_gives (Lit t) = tt
  layer_gives (Look name) = tt
  layer_gives (Group a) = tt
  layer_gives (Unary op a) = tt
  layer_gives (Binary op a b) = tt
  layer_gives (Choose a b c) = tt

  expr_gives : (e : Expr) → GivesNumber (number_alone (out-Expr e)) (eval_of look e)
  expr_gives e = subst (λ (z : Expr). GivesNumber (number_alone (out-Expr e)) (eval_of look z)) (roll-out-Expr e) (layer_gives (out-Expr e))

followed_alone : (c : Option ℤ) (r : Result Value ExecFault) (entries : List (Option Value)) (v : Value) → GivesNumber c r →
    (followed r entries (λ value left. record { answer = Ok value; entries = left })).answer ≡ Ok v → IsConstant c v
followed_alone None r entries v gives is = tt
followed_alone (Some n) (Ok w) entries v gives is = cc
followed_alone (Some n) (Err f) entries v gives is = cc

-- what a script gives that is constant
pub exec_constant : (names : List ℕ → ℕ) (stmts : List Stmt) (entries : List (Option Value)) (v : Value) → (exec_of names stmts entries).answer ≡ Ok v → IsConstant (constant_of stmts) v
exec_constant names [] entries v is = tt
exec_constant names (Plain e ∷ []) entries v is = followed_alone (number_alone (out-Expr e)) _ entries v (expr_gives _ e) is
exec_constant names (Plain e ∷ s ∷ stmts) entries v is = tt
exec_constant names (Create name e ∷ stmts) entries v is = tt
exec_constant names (Assign name e ∷ stmts) entries v is = tt
exec_constant names (Change op name e ∷ stmts) entries v is = tt

-- a number as a truth
truth_may : (n : ℤ) (b : Bool) → is_true n ≡ b → may_be b (Some n) ≡ true
truth_may n true e = e
truth_may n false e = ap not e

module _ (is_dead : ℕ → Bool) (site : Site) (lives : Lives is_dead site.uid) where
  -- some scripts run, and what they give is one of these
  abbrev pub Runs : {A : Type 0} → (A → Type 0) → State → Done A (Unit {0}) → Type 0
  Runs fits s d = Leaves is_dead (λ a _. fits a) s d

  run_left : (fits : Value → Type 0) (s : State) (answer : Result Value ExecFault) (entries : List (Option Value)) → ((v : Value) → answer ≡ Ok v → fits v) →
      Runs fits s (script_left site.uid s (record { answer = answer; entries = entries }))
  run_left fits s (Ok value) entries goes = record { ends = goes value refl; live = tt; spares = λ p e. refl }
  run_left fits s (Err fault) entries goes = record { ends = lives; live = tt; spares = λ p e. refl }

  pub script_runs : (script : Script) (s : State) → Runs (λ v. IsConstant (constant_of script.stmts) v) s (script_run site script s)
  script_runs script s =
      run_left (λ v. IsConstant (constant_of script.stmts) v) s (exec_of (slot_at site) script.stmts s.board).answer (exec_of (slot_at site) script.stmts s.board).entries
      (λ v is. exec_constant (slot_at site) script.stmts s.board v is)

  truth_left : (c : Option ℤ) (v : Value) (s : State) → IsConstant c v → Runs (λ b. may_be b c ≡ true) s (ends (truth_of site.uid v) tt s)
  truth_left None (Int n) s is = record { ends = refl; live = tt; spares = λ p e. refl }
  truth_left (Some k) (Int n) s is = let same : k ≡ n = cc in record { ends = truth_may k (is_true n) (ap is_true same); live = tt; spares = λ p e. refl }
  truth_left c (Text t) s is = record { ends = lives; live = tt; spares = λ p e. refl }

  -- a script as a condition
  pub script_holds_runs : (script : Script) (s : State) → Runs (λ b. may_be b (constant_of script.stmts) ≡ true) s (script_holds site script s)
  script_holds_runs script s =
      follow_left is_dead (λ v _. IsConstant (constant_of script.stmts) v) (λ b _. may_be b (constant_of script.stmts) ≡ true) (script_run site script s) (λ _. tt)
      (λ value _ s1. ends (truth_of site.uid value) tt s1) s (script_runs script s) (λ v is. truth_left (constant_of script.stmts) v (script_run site script s).state is)

  pub script_if_there_runs : (script : Option Script) (s : State) → Runs (λ _. Unit {0}) s (script_if_there site script s)
  script_if_there_runs None s = nothing_left is_dead (λ _ _. Unit {0}) tt tt s tt
  script_if_there_runs (Some script) s =
      follow_left is_dead (λ v _. IsConstant (constant_of script.stmts) v) (λ _ _. Unit {0}) (script_run site script s) (λ _. tt) (λ value _ s1. done tt tt s1) s (script_runs script s)
      (λ v is. nothing_left is_dead (λ _ _. Unit {0}) tt tt (script_run site script s).state tt)
