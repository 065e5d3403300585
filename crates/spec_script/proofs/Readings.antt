-- What the reader answers is what the text reads as.
use Rattle.std.proofs.Common.{◌≡◌, ℕ, ◌≤◌, List, [], ◌∷◌, length, reverse, Option, Some, None, ap, sym, ◌∙◌, subst}
use Rattle.spec_script.specs.declared.fault.ScriptFault.{ScriptFault}
use Rattle.spec_script.specs.declared.syntax.Expr.{Expr}
use Rattle.spec_script.specs.declared.syntax.Stmt.{Stmt}
use Rattle.spec_script.specs.declared.token.Placed.{Placed}
use Rattle.spec_script.specs.declared.stage.Verdict.{Verdict}
use Rattle.spec_script.specs.declared.stage.Opened.{Opened}
use Rattle.spec_script.specs.declared.stage.Opened.TheVariants.{Whole}
use Rattle.spec_script.specs.declared.stage.Stage.TheVariants.{Blank, Before}
use Rattle.spec_script.specs.Grammar.{kept, IsExpr, IsStmts}
use Rattle.spec_script.specs.Reading.{bare, tokens_of, token_fault, high_stmt, high_expr, ReadsScript, StmtsFault}
use Rattle.spec_script.specs.ExprFaults.{ExprFault}
use Rattle.spec_script.specs.Spots.{Checked, refused}
use Rattle.spec_script.proofs.Machine.{stmts-fine, alone-fine}
use Rattle.spec_script.proofs.Prefixes.{script-begins, script-whole, expr-begins, expr-whole}
use Rattle.spec_script.proofs.Verdicts.{refused-faulty, accepted}

abbrev Slots : Type 0
Slots = List (Option Stmt)

-- where reading of a script starts
pub script-start : (os : List Opened) (ts us : List Placed) (v : Verdict) → os ≡ [] → ts ≡ us → Checked (Blank, reverse os) ts v → Checked (Blank, []) us v
script-start os ts us v none same l = subst (λ (xs : List Placed). Checked (Blank, []) xs v) same (subst (λ (xs : List Opened). Checked (Blank, reverse xs) ts v) none l)

-- where reading of an expression starts
pub expr-start : (os : List Opened) (ts us : List Placed) (v : Verdict) → os ≡ Whole ∷ [] → ts ≡ us → Checked (Before, reverse os) ts v → Checked (Before, Whole ∷ []) us v
expr-start os ts us v one same l = subst (λ (xs : List Placed). Checked (Before, Whole ∷ []) xs v) same (subst (λ (xs : List Opened). Checked (Before, reverse xs) ts v) one l)

-- what is refused, where the code has the same tokens and the same fault
same-refused : (text : List ℕ) (v : Verdict) (o : Option ScriptFault) (end : ℕ) (r : Option ScriptFault) → o ≡ token_fault text → end ≡ length text → r ≡ refused v o end → r ≡ refused v (token_fault text) (length text)
same-refused text v o end r is same h = h ∙ ap (λ (x : Option ScriptFault). refused v x end) is ∙ ap (λ (n : ℕ). refused v (token_fault text) n) same

pub script-refused : (text : List ℕ) (v : Verdict) (o : Option ScriptFault) (end : ℕ) (f : ScriptFault) → length text ≤ 4096 → Checked (Blank, []) (tokens_of text) v → o ≡ token_fault text → end ≡ length text →
    ◌≡◌ {A = Option ScriptFault} (Some f) (refused v o end) → StmtsFault text f
script-refused text v o end f short l is same h =
    refused-faulty Slots IsStmts high_stmt (Blank, []) script-begins stmts-fine text v f short l (sym (same-refused text v o end (Some f) is same h))

pub expr-refused : (text : List ℕ) (v : Verdict) (o : Option ScriptFault) (end : ℕ) (f : ScriptFault) → length text ≤ 4096 → Checked (Before, Whole ∷ []) (tokens_of text) v → o ≡ token_fault text → end ≡ length text →
    ◌≡◌ {A = Option ScriptFault} (Some f) (refused v o end) → ExprFault text f
expr-refused text v o end f short l is same h =
    refused-faulty Expr IsExpr high_expr (Before, Whole ∷ []) expr-begins alone-fine text v f short l (sym (same-refused text v o end (Some f) is same h))

pub script-clean : (text : List ℕ) (v : Verdict) (o : Option ScriptFault) (end : ℕ) → Checked (Blank, []) (tokens_of text) v → o ≡ token_fault text → ◌≡◌ {A = Option ScriptFault} None (refused v o end) →
    (token_fault text ≡ None) × ((slots : Slots) × IsStmts (bare (tokens_of text)) slots)
script-clean text v o end l is h =
    let a = accepted (Blank, []) (tokens_of text) v o end l (sym h) in
    (sym is ∙ a.1, script-whole (bare (tokens_of text)) a.0.spot a.0.led a.0.ends)

pub expr-clean : (text : List ℕ) (v : Verdict) (o : Option ScriptFault) (end : ℕ) → Checked (Before, Whole ∷ []) (tokens_of text) v → o ≡ token_fault text → ◌≡◌ {A = Option ScriptFault} None (refused v o end) →
    (token_fault text ≡ None) × ((e : Expr) × IsExpr (bare (tokens_of text)) e)
expr-clean text v o end l is h =
    let a = accepted (Before, Whole ∷ []) (tokens_of text) v o end l (sym h) in
    (sym is ∙ a.1, expr-whole (bare (tokens_of text)) a.0.spot a.0.led a.0.ends)

pub script-read : (text bytes : List ℕ) (stmts : List Stmt) (items : List Stmt) → length text ≤ 4096 → token_fault text ≡ None → bytes ≡ text → items ≡ stmts →
    (slots : Slots) × IsStmts (bare (tokens_of text)) slots × (stmts ≡ kept slots) × (high_stmt slots (tokens_of text) ≡ None) → ReadsScript text (record { text = bytes; stmts = items })
script-read text bytes stmts items short clean same is h = (same, (h.0, record { short = short; clean = clean; is = h.1; low = h.3 }, is ∙ h.2))
