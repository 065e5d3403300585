-- The code of a script means what the script means.
use Rattle.std.proofs.Common.{◌≡◌, ℕ, ℤ, ◌+◌, max, List, [], ◌∷◌, ◌++◌, map, length, refl, sym, ap, ◌∙◌, subst, arith, pos, Bool, ◌||◌, take, get_or, ◌<◌, ◌≤◌}
use Rattle.std.proofs.lemmas.Grind.{take_at_read}
use Rattle.std.proofs.lemmas.List.{map-append}
use Rattle.std.proofs.lemmas.List.Sums.{sum_by-cons}
use Rattle.std.specs.Prelude.{Option}
use Rattle.std.specs.List.{All}
use Rattle.std.proofs.lemmas.List.Elements.{All-head, All-tail}
use Rattle.spec_script.specs.declared.value.Value.{Value}
use Rattle.spec_script.specs.declared.value.Value.TheVariants.{Int}
use Rattle.spec_script.specs.declared.syntax.BinOp.{BinOp}
use Rattle.spec_script.specs.declared.syntax.BinOp.TheVariants.{Add, Sub, Mul, And, Or}
use Rattle.spec_script.specs.declared.syntax.Expr.{Expr, ind-Expr, map-Expr, fold-roll-Expr}
use Rattle.spec_script.specs.declared.syntax.Expr.TheOpen.{Expr-F, Num, Lit, Look, Group, Unary, Binary, Choose}
use Rattle.spec_script.specs.declared.syntax.Stmt.{Stmt}
use Rattle.spec_script.specs.declared.syntax.Stmt.TheVariants as stmt
use Rattle.spec_script.specs.Evaluation.{stmts_of, written, if_there, followed}
use Rattle.spec_script.specs.Scripts.{names_of, stmt_names, texts_of, texts_step}
use Rattle.script_code.specs.declared.codes.StmtCode.TheVariants as coded
use Rattle.script_code.specs.declared.instr.Instr.{Instr}
use Rattle.script_code.specs.declared.instr.Instr.TheVariants as instr
use Rattle.script_code.specs.declared.postfix.Postfix.{Postfix}
use Rattle.script_code.specs.Meeting.{is_ok_and, stmt_meets, stmts_meet}
use Rattle.script_code.specs.Postfixes.{operator, with_number, applied, ended, between, operation, choice_code, code_step, code_of}
use Rattle.script_code.specs.Programs.{Formula, Program, formula_of, statement_of, program_of}
use Rattle.script_code.specs.Running.{instr_reach, code_reach, instr_texts, code_texts}
use Rattle.script_code.specs.Sources.{reach_of, reach_step}
use Rattle.script_code.specs.Statements.{code_formula, entry_at, one_by_one, one_meets, runs, stmt_code_reach, stmt_program}
use Rattle.script_code.proofs.Means.{expr_value, change_value}
use Rattle.script_code.proofs.Meets.{expr_met, change_met}
use Rattle.script_code.proofs.Reaches.{reach_below}
use Rattle.script_code.proofs.Standing.{reach-append, texts-append}

operator_reach : (op : BinOp) → instr_reach (operator op) ≡ 0
operator_reach Add = refl
operator_reach Sub = refl
operator_reach Mul = refl
operator_reach op = refl

number_reach : (op : BinOp) (n : ℤ) → instr_reach (with_number op n) ≡ 0
number_reach Add n = refl
number_reach Sub n = refl
number_reach Mul n = refl
number_reach op n = refl

reach-stacked : (op : BinOp) (b : List Instr) → code_reach (b ++ operator op ∷ []) ≡ code_reach b
reach-stacked op b = omega (arith, reach-append b (operator op ∷ []), operator_reach op)

reach-applied : (op : BinOp) (b : List Instr) → code_reach (applied op b) ≡ code_reach b
reach-applied op (instr.Number n ∷ []) = omega (arith, number_reach op n)
reach-applied op b = reach-stacked op b

-- the slots that the right operand of an operator needs
reach-ended : (op : BinOp) (b : List Instr) → code_reach (ended op b) ≡ code_reach b
reach-ended And b = omega (arith, reach-append b (instr.Truth ∷ []))
reach-ended Or b = omega (arith, reach-append b (instr.Truth ∷ []))
reach-ended op b = reach-applied op b

reach-between : (op : BinOp) (a b : List Instr) → code_reach (between op a b) ≡ max (code_reach a) (code_reach b)
reach-between op a b = omega (arith, reach-append a (ended op b), reach-ended op b)

reach-operation : (op : BinOp) (a b : List Instr) → code_reach (operation op a b) ≡ max (code_reach a) (code_reach b)
reach-operation Add (instr.Number n ∷ []) b = omega (arith, reach-append b (instr.AddNumber n ∷ []))
reach-operation Mul (instr.Number n ∷ []) b = omega (arith, reach-append b (instr.MulNumber n ∷ []))
reach-operation op a b = reach-between op a b

-- one more instruction, without a text
one_more : (i : Instr) (b : List Instr) → instr_texts i ≡ 0 → code_texts (b ++ i ∷ []) ≡ code_texts b
one_more i b none = omega (arith, texts-append b (i ∷ []), sum_by-cons instr_texts i [], none)

one_before : (i : Instr) (b : List Instr) → instr_texts i ≡ 0 → code_texts (i ∷ b) ≡ code_texts b
one_before i b none = omega (arith, sum_by-cons instr_texts i b, none)

operator_texts : (op : BinOp) → instr_texts (operator op) ≡ 0
operator_texts Add = refl
operator_texts Sub = refl
operator_texts Mul = refl
operator_texts op = refl

number_texts : (op : BinOp) (n : ℤ) → instr_texts (with_number op n) ≡ 0
number_texts Add n = refl
number_texts Sub n = refl
number_texts Mul n = refl
number_texts op n = refl

texts-stacked : (op : BinOp) (b : List Instr) → code_texts (b ++ operator op ∷ []) ≡ code_texts b
texts-stacked op b = one_more (operator op) b (operator_texts op)

texts-applied : (op : BinOp) (b : List Instr) → code_texts (applied op b) ≡ code_texts b
texts-applied op (instr.Number n ∷ []) = one_before (with_number op n) [] (number_texts op n) ∙ sym (one_before (instr.Number n) [] refl)
texts-applied op b = texts-stacked op b

texts-ended : (op : BinOp) (b : List Instr) → code_texts (ended op b) ≡ code_texts b
texts-ended And b = one_before (instr.AndThen (length b + 1)) (b ++ instr.Truth ∷ []) refl ∙ one_more instr.Truth b refl
texts-ended Or b = one_before (instr.OrElse (length b + 1)) (b ++ instr.Truth ∷ []) refl ∙ one_more instr.Truth b refl
texts-ended op b = texts-applied op b

texts-between : (op : BinOp) (a b : List Instr) → code_texts (between op a b) ≡ code_texts a + code_texts b
texts-between op a b = omega (arith, texts-append a (ended op b), texts-ended op b)

texts-operation : (op : BinOp) (a b : List Instr) → code_texts (operation op a b) ≡ code_texts a + code_texts b
texts-operation Add (instr.Number n ∷ []) b = omega (arith, one_more (instr.AddNumber n) b refl, sum_by-cons instr_texts (instr.Number n) [])
texts-operation Mul (instr.Number n ∷ []) b = omega (arith, one_more (instr.MulNumber n) b refl, sum_by-cons instr_texts (instr.Number n) [])
texts-operation op a b = texts-between op a b

texts-choice : (a b c : List Instr) → code_texts (choice_code a b c) ≡ code_texts a + code_texts b + code_texts c
texts-choice a b c =
    omega (
      arith,
      texts-append a (instr.Unless (length b + 1) ∷ (b ++ instr.Skip (length c) ∷ c)),
      one_before (instr.Unless (length b + 1)) (b ++ instr.Skip (length c) ∷ c) refl,
      texts-append b (instr.Skip (length c) ∷ c),
      one_before (instr.Skip (length c)) c refl,
    )

module _ (names : List ℕ → ℕ) where
  abbrev SameReach : Expr → Type 0
  SameReach e = code_reach (code_of names e) ≡ reach_of names e

  reach_layer : (y : Expr-F ((e : Expr) × SameReach e)) →
      code_reach (code_step names (map-Expr Expr (List Instr) (code_of names) (map-Expr ((e : Expr) × SameReach e) Expr (λ e. e.0) y)))
      ≡ reach_step names (map-Expr Expr ℕ (reach_of names) (map-Expr ((e : Expr) × SameReach e) Expr (λ e. e.0) y))
  reach_layer (Num n) = omega arith
  reach_layer (Lit t) = omega arith
  reach_layer (Look name) = omega arith
  reach_layer (Group a) = a.1
  reach_layer (Unary op a) = omega (arith, reach-append (code_of names a.0) (instr.Unary op ∷ []), a.1)
  reach_layer (Binary op a b) = omega (arith, reach-operation op (code_of names a.0) (code_of names b.0), a.1, b.1)
  reach_layer (Choose a b c) =
      let cb = code_of names b.0 in
      let cc' = code_of names c.0 in
      omega (arith, reach-append (code_of names a.0) (instr.Unless (length cb + 1) ∷ (cb ++ instr.Skip (length cc') ∷ cc')), reach-append cb (instr.Skip (length cc') ∷ cc'), a.1, b.1, c.1)

  -- a code needs as many slots as its expression
  same_reach : (e : Expr) → SameReach e
  same_reach = ind-Expr SameReach (λ x y is.
      ap code_reach (fold-roll-Expr (List Instr) (code_step names) x)
      ∙ subst (λ (z : Expr-F Expr). code_reach (code_step names (map-Expr Expr (List Instr) (code_of names) z)) ≡ reach_step names (map-Expr Expr ℕ (reach_of names) z)) is (reach_layer y)
      ∙ sym (fold-roll-Expr ℕ (reach_step names) x))

  abbrev SameTexts : Expr → Type 0
  SameTexts e = code_texts (code_of names e) ≡ texts_of e

  texts_layer : (y : Expr-F ((e : Expr) × SameTexts e)) →
      code_texts (code_step names (map-Expr Expr (List Instr) (code_of names) (map-Expr ((e : Expr) × SameTexts e) Expr (λ e. e.0) y)))
      ≡ texts_step (map-Expr Expr ℕ texts_of (map-Expr ((e : Expr) × SameTexts e) Expr (λ e. e.0) y))
  texts_layer (Num n) = sum_by-cons instr_texts (instr.Number n) []
  texts_layer (Lit t) = sum_by-cons instr_texts (instr.Text t) []
  texts_layer (Look name) = sum_by-cons instr_texts (instr.Slot (names name)) []
  texts_layer (Group a) = a.1
  texts_layer (Unary op a) = one_more (instr.Unary op) (code_of names a.0) refl ∙ a.1
  texts_layer (Binary op a b) = omega (arith, texts-operation op (code_of names a.0) (code_of names b.0), a.1, b.1)
  texts_layer (Choose a b c) = omega (arith, texts-choice (code_of names a.0) (code_of names b.0) (code_of names c.0), a.1, b.1, c.1)

  -- a code has as many text literals as its expression
  same_texts : (e : Expr) → SameTexts e
  same_texts = ind-Expr SameTexts (λ x y is.
      ap code_texts (fold-roll-Expr (List Instr) (code_step names) x)
      ∙ subst (λ (z : Expr-F Expr). code_texts (code_step names (map-Expr Expr (List Instr) (code_of names) z)) ≡ texts_step (map-Expr Expr ℕ texts_of z)) is (texts_layer y)
      ∙ sym (fold-roll-Expr ℕ texts_step x))

  -- the code of an expression means what the expression means
  pub same_formula : (e : Expr) → code_formula (code_of names e) ≡ formula_of names e
  same_formula e = λ i. record {
    value = λ look. expr_value look names e i;
    reach = same_reach e i;
    texts = same_texts e i;
    meets = λ look. expr_met look names e i;
  }

-- statements, where the numbers of names have these slots
module _ (slots : ℕ → ℕ) (names : List ℕ → ℕ) where
  abbrev seen : List ℕ → ℕ
  seen name = slots (names name)

  -- a statement that writes a value, new or not, by what gives the value
  abbrev created : ℕ → Formula → Program
  created k f = record { run = λ entries. written (slots k) entries (f.value (entry_at slots entries)); meets = λ entries. f.meets (entry_at slots entries) }

  -- a statement that writes a value where there is one
  abbrev assigned : ℕ → Formula → Program
  assigned k f = record { run = λ entries. written (slots k) entries (if_there (slots k) entries (f.value (entry_at slots entries))); meets = λ entries. f.meets (entry_at slots entries) }

  abbrev plain : Formula → Program
  plain f = record { run = λ entries. record { answer = f.value (entry_at slots entries); entries = entries }; meets = λ entries. f.meets (entry_at slots entries) }

  pub same_create : (name : List ℕ) (e : Expr) (p : Postfix) → p.instrs ≡ code_of names e → stmt_program slots (coded.Create (names name) p) ≡ statement_of seen (stmt.Create name e)
  same_create name e p same = ap (created (names name)) (ap code_formula same ∙ same_formula names e)

  pub same_assign : (name : List ℕ) (e : Expr) (p : Postfix) → p.instrs ≡ code_of names e → stmt_program slots (coded.Assign (names name) p) ≡ statement_of seen (stmt.Assign name e)
  same_assign name e p same = ap (assigned (names name)) (ap code_formula same ∙ same_formula names e)

  pub same_plain : (e : Expr) (p : Postfix) → p.instrs ≡ code_of names e → stmt_program slots (coded.Plain p) ≡ statement_of seen (stmt.Plain e)
  same_plain e p same = ap plain (ap code_formula same ∙ same_formula names e)

  -- an operator between an entry and an expression, and its assignment
  same_changed : (op : BinOp) (name : List ℕ) (e : Expr) → assigned (names name) (code_formula (between op (instr.Slot (names name) ∷ []) (code_of names e))) ≡ statement_of seen (stmt.Change op name e)
  same_changed op name e =
      let k = names name in
      λ i. record {
        run = λ entries. written (slots k) entries (if_there (slots k) entries (change_value (entry_at slots entries) names op k e i));
        meets = λ entries. change_met (entry_at slots entries) names op k e i;
      }

  pub same_change : (op : BinOp) (name : List ℕ) (e : Expr) (p : Postfix) → p.instrs ≡ between op (instr.Slot (names name) ∷ []) (code_of names e) → stmt_program slots (coded.Assign (names name) p) ≡ statement_of seen (stmt.Change op name e)
  same_change op name e p same = ap (λ code. assigned (names name) (code_formula code)) same ∙ same_changed op name e

-- the numbers in a statement's code are below a bound, where those of its names are
module _ (n : ℕ) (names : List ℕ → ℕ) where
  abbrev AreBelow : List (List ℕ) → Type 0
  AreBelow = All (λ name. names name < n)

  within : (e : Expr) (code : List Instr) → code ≡ code_of names e → AreBelow (names_of e) → code_reach code ≤ n
  within e code is below = omega (arith, ap code_reach is, same_reach names e, reach_below n names e below)

  pub reach_create : (name : List ℕ) (e : Expr) (p : Postfix) → p.instrs ≡ code_of names e → AreBelow (stmt_names (stmt.Create name e)) → stmt_code_reach (coded.Create (names name) p) ≤ n
  reach_create name e p is below = omega (arith, All-head (λ name. names name < n) name (names_of e) below, within e p.instrs is (All-tail (λ name. names name < n) name (names_of e) below))

  pub reach_assign : (name : List ℕ) (e : Expr) (p : Postfix) → p.instrs ≡ code_of names e → AreBelow (stmt_names (stmt.Assign name e)) → stmt_code_reach (coded.Assign (names name) p) ≤ n
  reach_assign name e p is below = omega (arith, All-head (λ name. names name < n) name (names_of e) below, within e p.instrs is (All-tail (λ name. names name < n) name (names_of e) below))

  pub reach_change : (op : BinOp) (name : List ℕ) (e : Expr) (p : Postfix) → p.instrs ≡ between op (instr.Slot (names name) ∷ []) (code_of names e) → AreBelow (stmt_names (stmt.Change op name e))
      → stmt_code_reach (coded.Assign (names name) p) ≤ n
  reach_change op name e p is below =
      omega (
        arith,
        All-head (λ name. names name < n) name (names_of e) below,
        ap code_reach is,
        reach-between op (instr.Slot (names name) ∷ []) (code_of names e),
        within e (code_of names e) refl (All-tail (λ name. names name < n) name (names_of e) below),
      )

  pub reach_plain : (e : Expr) (p : Postfix) → p.instrs ≡ code_of names e → AreBelow (names_of e) → stmt_code_reach (coded.Plain p) ≤ n
  reach_plain e p is below = within e p.instrs is below

-- statements one after the other
module _ (names : List ℕ → ℕ) where
  same_runs : (last : Value) (stmts : List Stmt) (entries : List (Option Value)) → runs last (map (statement_of names) stmts) entries ≡ stmts_of names last stmts entries
  same_runs last [] entries = refl
  same_runs last (s ∷ stmts) entries = λ i. followed ((statement_of names s).run entries).answer ((statement_of names s).run entries).entries (λ value left. same_runs value stmts left i)

  same_meetings : (stmts : List Stmt) (entries : List (Option Value)) → one_meets (map (statement_of names) stmts) entries ≡ stmts_meet names stmts entries
  same_meetings [] entries = refl
  same_meetings (s ∷ stmts) entries =
      λ i. stmt_meets names s entries || is_ok_and ((statement_of names s).run entries).answer (λ _. same_meetings stmts ((statement_of names s).run entries).entries i)

  pub same_program : (stmts : List Stmt) → one_by_one (map (statement_of names) stmts) ≡ program_of names stmts
  same_program stmts = λ i. record {
    run = λ entries. same_runs (Int (pos 0)) stmts entries i;
    meets = λ entries. same_meetings stmts entries i;
  }

-- one more of each of two lists that are seen alike
pub one_more_each : {X Y Z : Type 0} (f : X → Z) (g : Y → Z) (xs : List X) (ys : List Y) (i : ℕ) (x : X) (y : Y) → i < length ys → y ≡ get_or ys i y → f x ≡ g y → map f xs ≡ map g (take i ys) → map f (xs ++ x ∷ []) ≡ map g (take (i + 1) ys)
one_more_each f g xs ys i x y within is same so_far =
    map-append f xs (x ∷ []) ∙ (λ k. so_far k ++ same k ∷ []) ∙ sym (map-append g (take i ys) (y ∷ []))
    ∙ ap (map g) (ap (λ z. take i ys ++ z ∷ []) is ∙ sym (take_at_read ys i y within).1)
