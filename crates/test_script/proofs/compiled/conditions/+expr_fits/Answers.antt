use Rattle.std.proofs.Common.{rules, ◌≡◌, ℕ, IsTrue, List, ◌++◌, ap, sym, subst, ◌∙◌}
use Rattle.std.specs.List.{All}
use Rattle.std.proofs.lemmas.List.Elements.{All-append}
use Rattle.spec_script.specs.declared.syntax.UnOp.{UnOp}
use Rattle.spec_script.specs.declared.syntax.BinOp.{BinOp}
use Rattle.spec_script.specs.declared.syntax.Expr.{Expr, fold-roll-Expr}
use Rattle.spec_script.specs.declared.syntax.Expr.TheOpen as layer
use Rattle.spec_script.specs.declared.syntax.Expr.TheVariants.{Group, Unary, Binary, Choose, rolls-Group, rolls-Unary, rolls-Binary, rolls-Choose}
use Rattle.script_code.specs.Sources.{IsListed}
use Rattle.spec_script.specs.Scripts.{names_step, names_of}
use Rattle.test_script.proofs.compiled.conditions.+expr_fits.Goals as goal

names_of-Group : (a : Expr) → names_of (Group a) ≡ names_of a
names_of-Group a = ap names_of (sym (rolls-Group a)) ∙ fold-roll-Expr (List (List ℕ)) names_step (layer.Group a)

names_of-Unary : (op : UnOp) (a : Expr) → names_of (Unary op a) ≡ names_of a
names_of-Unary op a = ap names_of (sym (rolls-Unary op a)) ∙ fold-roll-Expr (List (List ℕ)) names_step (layer.Unary op a)

names_of-Binary : (op : BinOp) (a b : Expr) → names_of (Binary op a b) ≡ names_of a ++ names_of b
names_of-Binary op a b = ap names_of (sym (rolls-Binary op a b)) ∙ fold-roll-Expr (List (List ℕ)) names_step (layer.Binary op a b)

names_of-Choose : (a b c : Expr) → names_of (Choose a b c) ≡ names_of a ++ names_of b ++ names_of c
names_of-Choose a b c = ap names_of (sym (rolls-Choose a b c)) ∙ fold-roll-Expr (List (List ℕ)) names_step (layer.Choose a b c)

module _ (slots : List (List ℕ × ℕ)) where
  abbrev AllListed : Expr → Type 0
  AllListed e = All (IsListed slots) (names_of e)

  listed_unary : (e whole a b : Expr) → names_of b ≡ names_of a → whole ≡ b → e ≡ a → AllListed e → AllListed whole
  listed_unary e whole a b same is part all =
      subst AllListed (sym is) (subst (All (IsListed slots)) (sym same) (subst AllListed part all))

  listed_binary : (op : BinOp) (whole a b a' b' : Expr) → whole ≡ Binary op a b → a' ≡ a → b' ≡ b → AllListed a' → AllListed b' → AllListed whole
  listed_binary op whole a b a' b' is is_a is_b all_a all_b =
      subst AllListed (sym is) (subst (All (IsListed slots)) (sym (names_of-Binary op a b))
      (All-append (IsListed slots) (names_of a) (names_of b) (subst AllListed is_a all_a) (subst AllListed is_b all_b)))

  listed_choose : (whole a b c a' b' c' : Expr) → whole ≡ Choose a b c → a' ≡ a → b' ≡ b → c' ≡ c → AllListed a' → AllListed b' → AllListed c' → AllListed whole
  listed_choose whole a b c a' b' c' is is_a is_b is_c all_a all_b all_c =
      subst AllListed (sym is) (subst (All (IsListed slots)) (sym (names_of-Choose a b c))
      (All-append (IsListed slots) (names_of a ++ names_of b) (names_of c)
      (All-append (IsListed slots) (names_of a) (names_of b) (subst AllListed is_a all_a) (subst AllListed is_b all_b)) (subst AllListed is_c all_c)))

pub returns-in-Group-clause-named : goal.returns-in-Group-clause-named
returns-in-Group-clause-named t c = λ yes.
    listed_unary c.args.slots.now c.get.result.now c.args.e.now c.in-Group.a (Group c.in-Group.a) (names_of-Group c.in-Group.a) c.in-Group.is c.get.ensures (c.expr_fits.ensures.named yes)

pub returns-in-Unary-clause-named : goal.returns-in-Unary-clause-named
returns-in-Unary-clause-named t c = λ yes.
    listed_unary c.args.slots.now c.get-in-Unary.result.now c.args.e.now c.in-Unary.a (Unary c.in-Unary.field-0 c.in-Unary.a) (names_of-Unary c.in-Unary.field-0 c.in-Unary.a) c.in-Unary.is c.get-in-Unary.ensures (c.expr_fits-in-Unary.ensures.named yes)

pub returns-else-not-expr_fits-clause-named : goal.returns-else-not-expr_fits-clause-named
returns-else-not-expr_fits-clause-named t c = λ yes.
    let first : IsTrue c.expr_fits-in-Binary.result = search rules in
    listed_binary c.args.slots.now c.in-Binary.field-0 c.args.e.now c.in-Binary.a c.in-Binary.b c.get-in-Binary.result.now c.get-in-Binary-2.result.now
    c.in-Binary.is c.get-in-Binary.ensures c.get-in-Binary-2.ensures (c.expr_fits-in-Binary.ensures.named first) (c.expr_fits-in-Binary-2.ensures.named yes)

pub returns-else-not-expr_fits-3-clause-named : goal.returns-else-not-expr_fits-3-clause-named
returns-else-not-expr_fits-3-clause-named t c = λ yes.
    let first : IsTrue c.expr_fits-in-Choose.result = search rules in
    let second : IsTrue c.expr_fits-in-Choose-2.result = search rules in
    listed_choose c.args.slots.now c.args.e.now c.in-Choose.a c.in-Choose.b c.in-Choose.c c.get-in-Choose.result.now c.get-in-Choose-2.result.now c.get-in-Choose-3.result.now
    c.in-Choose.is c.get-in-Choose.ensures c.get-in-Choose-2.ensures c.get-in-Choose-3.ensures
    (c.expr_fits-in-Choose.ensures.named first) (c.expr_fits-in-Choose-2.ensures.named second) (c.expr_fits-in-Choose-3.ensures.named yes)
