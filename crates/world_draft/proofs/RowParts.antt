-- The names of expressions, by their parts.
use Rattle.std.proofs.Common.{◌≡◌, ℕ, Bool, true, false, ◌&&◌, List, ◌++◌, sym, ap, ◌∙◌}
use Rattle.std.specs.List.{list_all}
use Rattle.std.proofs.lemmas.List.Folds.{list_all-append}
use Rattle.spec_script.specs.declared.syntax.UnOp.{UnOp}
use Rattle.spec_script.specs.declared.syntax.BinOp.{BinOp}
use Rattle.spec_script.specs.declared.syntax.Expr.{Expr, fold-roll-Expr}
use Rattle.spec_script.specs.declared.syntax.Expr.TheOpen as layer
use Rattle.spec_script.specs.declared.syntax.Expr.TheVariants.{Group, Unary, Binary, Choose, rolls-Group, rolls-Unary, rolls-Binary, rolls-Choose}
use Rattle.spec_script.specs.Scripts.{names_step, names_of}

names_of-Group : (a : Expr) → names_of (Group a) ≡ names_of a
names_of-Group a = ap names_of (sym (rolls-Group a)) ∙ fold-roll-Expr (List (List ℕ)) names_step (layer.Group a)

names_of-Unary : (op : UnOp) (a : Expr) → names_of (Unary op a) ≡ names_of a
names_of-Unary op a = ap names_of (sym (rolls-Unary op a)) ∙ fold-roll-Expr (List (List ℕ)) names_step (layer.Unary op a)

names_of-Binary : (op : BinOp) (a b : Expr) → names_of (Binary op a b) ≡ names_of a ++ names_of b
names_of-Binary op a b = ap names_of (sym (rolls-Binary op a b)) ∙ fold-roll-Expr (List (List ℕ)) names_step (layer.Binary op a b)

names_of-Choose : (a b c : Expr) → names_of (Choose a b c) ≡ names_of a ++ names_of b ++ names_of c
names_of-Choose a b c = ap names_of (sym (rolls-Choose a b c)) ∙ fold-roll-Expr (List (List ℕ)) names_step (layer.Choose a b c)

-- a test of all names of an expression is one of those of its parts
module _ (test : List ℕ → Bool) where
  abbrev pub passes : Expr → Bool
  passes e = list_all test (names_of e)

  pub passes-Group : (e a b : Expr) → e ≡ Group a → b ≡ a → passes b ≡ passes e
  passes-Group e a b is same = ap passes same ∙ sym (ap passes is ∙ ap (list_all test) (names_of-Group a))

  pub passes-Unary : (op : UnOp) (e a b : Expr) → e ≡ Unary op a → b ≡ a → passes b ≡ passes e
  passes-Unary op e a b is same = ap passes same ∙ sym (ap passes is ∙ ap (list_all test) (names_of-Unary op a))

  pub passes-Binary : (op : BinOp) (e a b : Expr) → e ≡ Binary op a b → passes e ≡ (passes a && passes b)
  passes-Binary op e a b is = ap passes is ∙ ap (list_all test) (names_of-Binary op a b) ∙ list_all-append test (names_of a) (names_of b)

  pub passes-Choose : (e a b c : Expr) → e ≡ Choose a b c → passes e ≡ (passes a && passes b && passes c)
  passes-Choose e a b c is =
      ap passes is ∙ ap (list_all test) (names_of-Choose a b c) ∙ list_all-append test (names_of a ++ names_of b) (names_of c)
      ∙ ap (λ (t : Bool). t && passes c) (list_all-append test (names_of a) (names_of b))

  pub binary-no : (op : BinOp) (e a b first : Expr) (r : Bool) → e ≡ Binary op a b → first ≡ a → r ≡ passes first → r ≡ false → false ≡ passes e
  binary-no op e a b first r is same h fails = sym (passes-Binary op e a b is ∙ ap (λ (t : Bool). t && passes b) (sym (ap passes same) ∙ sym h ∙ fails))

  pub binary-yes : (op : BinOp) (e a b first second : Expr) (r s : Bool) → e ≡ Binary op a b → first ≡ a → second ≡ b → r ≡ passes first → r ≡ true → s ≡ passes second → s ≡ passes e
  binary-yes op e a b first second r s is same other h holds k =
      k ∙ ap passes other ∙ sym (passes-Binary op e a b is ∙ ap (λ (t : Bool). t && passes b) (sym (ap passes same) ∙ sym h ∙ holds))

  pub choose-no : (e a b c first : Expr) (r : Bool) → e ≡ Choose a b c → first ≡ a → r ≡ passes first → r ≡ false → false ≡ passes e
  choose-no e a b c first r is same h fails =
      sym (passes-Choose e a b c is ∙ ap (λ (t : Bool). t && passes b && passes c) (sym (ap passes same) ∙ sym h ∙ fails))

  pub choose-then : (e a b c first : Expr) (r : Bool) → e ≡ Choose a b c → first ≡ a → r ≡ passes first → r ≡ true → passes e ≡ (passes b && passes c)
  choose-then e a b c first r is same h holds =
      passes-Choose e a b c is ∙ ap (λ (t : Bool). t && passes b && passes c) (sym (ap passes same) ∙ sym h ∙ holds)

  pub both-no : (whole c : Bool) (second : Expr) (r : Bool) (part : Expr) → whole ≡ (passes part && c) → second ≡ part → r ≡ passes second → r ≡ false → false ≡ whole
  both-no whole c second r part is same h fails = sym (is ∙ ap (λ (t : Bool). t && c) (sym (ap passes same) ∙ sym h ∙ fails))

  pub both-yes : (whole : Bool) (part last second third : Expr) (r s : Bool) → whole ≡ (passes part && passes last) → second ≡ part → third ≡ last → r ≡ passes second → r ≡ true → s ≡ passes third → s ≡ whole
  both-yes whole part last second third r s is same other h holds k =
      k ∙ ap passes other ∙ sym (is ∙ ap (λ (t : Bool). t && passes last) (sym (ap passes same) ∙ sym h ∙ holds))
