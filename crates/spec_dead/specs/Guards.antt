-- What the guards of a node may do before its rule.
use Rattle.std.specs.Prelude.{ℤ, List, [], ◌∷◌, Bool, true, false, ◌&&◌, not, Option, Some, None}
use Rattle.spec_script.specs.declared.syntax.Expr.{Expr, out-Expr}
use Rattle.spec_script.specs.declared.syntax.Expr.TheOpen.{Expr-F, Num}
use Rattle.spec_script.specs.declared.syntax.Script.{Script}
use Rattle.spec_script.specs.declared.syntax.Stmt.{Stmt}
use Rattle.spec_script.specs.declared.syntax.Stmt.TheVariants.{Plain}
use Rattle.spec_script.specs.Operators.{is_true}
use Rattle.spec_run.specs.declared.status.Answer.{Answer}
use Rattle.spec_run.specs.declared.status.Answer.TheVariants.{Success, Failure, Skipped}
use Rattle.spec_tree.specs.declared.term.Guards.{Guards}
use Rattle.spec_dead.specs.declared.answers.Answers.{Answers}
use Rattle.spec_dead.specs.declared.guarding.Guarding.{Guarding}
use Rattle.spec_dead.specs.Answers.{either, no_answer, only, only_if}

-- the number that an expression is, where it is one and nothing else
abbrev pub number_alone : Expr-F Expr → Option ℤ
number_alone (Num n) = Some n
number_alone _ = None

-- statements are constant where they are one, and this is a number
abbrev pub constant_of : List Stmt → Option ℤ
constant_of (Plain e ∷ []) = number_alone (out-Expr e)
constant_of _ = None

-- whether a condition may have this truth: one that is constant has one truth, and any other may have both
abbrev pub may_be : Bool → Option ℤ → Bool
may_be truth None = true
may_be true (Some n) = is_true n
may_be false (Some n) = not (is_true n)

-- A guard, where it is there, gives its answer where it has the truth that it asks for. At the other truth comes what
-- stands after it.
abbrev pub with_guard : Option Script → Bool → Answer → Guarding → Guarding
with_guard None truth answer after = after
with_guard (Some script) truth answer after = record {
  answers = either (only_if (may_be truth (constant_of script.stmts)) (only answer)) (only_if (may_be (not truth) (constant_of script.stmts)) after.answers);
  goes_on = may_be (not truth) (constant_of script.stmts) && after.goes_on;
}

-- what the guards of a node may do, in the order in which they are tried
abbrev pub before_rule : Guards → Guarding
before_rule g =
    with_guard g.failure_if true Failure
    (with_guard g.success_if true Success
    (with_guard g.skip_if true Skipped
    (with_guard g.while_true false Skipped (record { answers = no_answer; goes_on = true }))))

-- what a node may answer whose guards may do this and whose rule may give these answers
abbrev pub answers_after : Guarding → Answers → Answers
answers_after before rule = either before.answers (only_if before.goes_on rule)
