-- The code that is put after another, layer by layer.
use Rattle.std.proofs.Common.{◌≡◌, ℕ, ℤ, ◌+◌, List, [], ◌∷◌, ◌++◌, length, take, drop, refl, sym, ap, subst, ◌∙◌, append_assoc, arith}
use Rattle.std.specs.Prelude.{Option, Some, None}
use Rattle.std.proofs.lemmas.Grind.{common_steps}
use Rattle.spec_script.specs.declared.syntax.BinOp.{BinOp}
use Rattle.spec_script.specs.declared.syntax.BinOp.TheVariants.{Add, Mul}
use Rattle.spec_script.specs.declared.syntax.UnOp.{UnOp}
use Rattle.spec_script.specs.declared.syntax.Expr.{Expr, fold-roll-Expr, map-Expr, roll-Expr}
use Rattle.spec_script.specs.declared.syntax.Expr.TheVariants as expr
use Rattle.spec_script.specs.declared.syntax.Expr.TheOpen.{Expr-F, Unary, Binary, Choose}
use Rattle.script_code.specs.declared.instr.Instr.{Instr}
use Rattle.script_code.specs.declared.instr.Instr.TheVariants as instr
use Rattle.script_code.specs.Postfixes.{begun, between, choice_code, code_of, code_step, ended, left_number, operation, with_number}

-- an operator that takes in its left operand, or does not
operation_takes : (op : BinOp) (a b : List Instr) (n : ℤ) → left_number op a ≡ Some n → operation op a b ≡ b ++ with_number op n ∷ []
operation_takes op a b n is = grind (arith, common_steps)

operation_leaves : (op : BinOp) (a b : List Instr) → left_number op a ≡ None → operation op a b ≡ between op a b
operation_leaves op a b is = grind (arith, common_steps)

module _ (names : List ℕ → ℕ) (e : Expr) (old : List Instr) where
  layer : (x : Expr-F Expr) → e ≡ roll-Expr x → code_of names e ≡ code_step names (map-Expr Expr (List Instr) (code_of names) x)
  layer x is = ap (code_of names) is ∙ fold-roll-Expr (List Instr) (code_step names) x

  pub unary : (op : UnOp) (a : Expr) (mid new : List Instr) → e ≡ expr.Unary op a → mid ≡ old ++ code_of names a → new ≡ mid ++ instr.Unary op ∷ [] → new ≡ old ++ code_of names e
  unary op a mid new is first last =
      last ∙ ap (λ z. z ++ instr.Unary op ∷ []) first ∙ append_assoc old (code_of names a) (instr.Unary op ∷ []) ∙ sym (ap (λ z. old ++ z) (layer (Unary op a) (is ∙ sym (expr.rolls-Unary op a))))

  pub taken : (op : BinOp) (a b : Expr) (n : ℤ) (mid right new : List Instr) → e ≡ expr.Binary op a b → mid ≡ old ++ code_of names a →
      left_number op (drop (length old) mid) ≡ Some n → right ≡ take (length old) mid ++ code_of names b → new ≡ right ++ with_number op n ∷ [] → new ≡ old ++ code_of names e
  taken op a b n mid right new is first number second last =
      let front : take (length old) mid ≡ old = ap (take (length old)) first ∙ grind (arith, common_steps) in
      let rest : drop (length old) mid ≡ code_of names a = ap (drop (length old)) first ∙ grind (arith, common_steps) in
      let takes = operation_takes op (code_of names a) (code_of names b) n (sym (ap (left_number op) rest) ∙ number) in
      last ∙ ap (λ z. z ++ with_number op n ∷ []) (second ∙ ap (λ z. z ++ code_of names b) front)
      ∙ append_assoc old (code_of names b) (with_number op n ∷ [])
      ∙ sym (ap (λ z. old ++ z) (layer (Binary op a b) (is ∙ sym (expr.rolls-Binary op a b)) ∙ takes))

  pub left : (op : BinOp) (a b : Expr) (mid begin right new : List Instr) → e ≡ expr.Binary op a b → mid ≡ old ++ code_of names a →
      left_number op (drop (length old) mid) ≡ None → begin ≡ mid ++ begun op → right ≡ begin ++ code_of names b →
      ((front c : List Instr) → length mid ≡ length front → right ≡ front ++ (begun op ++ c) → new ≡ front ++ ended op c) → new ≡ old ++ code_of names e
  left op a b mid begin right new is first number second third end =
      let rest : drop (length old) mid ≡ code_of names a = ap (drop (length old)) first ∙ grind (arith, common_steps) in
      let leaves = operation_leaves op (code_of names a) (code_of names b) (sym (ap (left_number op) rest) ∙ number) in
      end mid (code_of names b) refl (third ∙ ap (λ z. z ++ code_of names b) second ∙ append_assoc mid (begun op) (code_of names b))
      ∙ ap (λ z. z ++ ended op (code_of names b)) first
      ∙ append_assoc old (code_of names a) (ended op (code_of names b))
      ∙ sym (ap (λ z. old ++ z) (layer (Binary op a b) (is ∙ sym (expr.rolls-Binary op a b)) ∙ leaves))

  pub chosen : (a b c : Expr) (test jump second skip third new : List Instr) → e ≡ expr.Choose a b c → test ≡ old ++ code_of names a →
      jump ≡ test ++ instr.Unless 0 ∷ [] → second ≡ jump ++ code_of names b → skip ≡ second ++ instr.Skip 0 ∷ [] → third ≡ skip ++ code_of names c →
      ((front x y : List Instr) → length test ≡ length front → length second ≡ length front + 1 + length x → third ≡ front ++ instr.Unless 0 ∷ (x ++ instr.Skip 0 ∷ y) →
      new ≡ front ++ instr.Unless (length x + 1) ∷ (x ++ instr.Skip (length y) ∷ y)) → new ≡ old ++ code_of names e
  chosen a b c test jump second skip third new is at_test at_jump at_second at_skip at_third aims =
      let x = code_of names b in
      let y = code_of names c in
      let whole : third ≡ test ++ instr.Unless 0 ∷ (x ++ instr.Skip 0 ∷ y) = grind (arith, common_steps) in
      let long : length second ≡ length test + 1 + length x = grind (arith, common_steps) in
      aims test x y refl long whole
      ∙ ap (λ z. z ++ instr.Unless (length x + 1) ∷ (x ++ instr.Skip (length y) ∷ y)) at_test
      ∙ append_assoc old (code_of names a) (instr.Unless (length x + 1) ∷ (x ++ instr.Skip (length y) ∷ y))
      ∙ sym (ap (λ z. old ++ z) (layer (Choose a b c) (is ∙ sym (expr.rolls-Choose a b c))))
