use Rattle.std.proofs.Common.{◌≤◌, ◌∙◌, ap, subst, sym}
use Rattle.script_code.specs.Codes.{formula}
use Rattle.script_code.specs.Programs.{Formula}
use Rattle.script_code.specs.Sources.{slot_of}
use Rattle.script_code.specs.Statements.{code_formula}
use Rattle.script_code.proofs.Reaches.{reach_within}
use Rattle.script_code.proofs.Same.{same_formula}
use Rattle.script_code.proofs.compiling.compile_expr.Goals as goal

pub returns : goal.returns
unfolding formula
returns c =
    let same = ap code_formula c.in_ok-postfix.ensures ∙ same_formula (slot_of c.args.slots.now) c.args.e.now in
    record {
      meaning = same;
      reach = λ n below. subst (λ k. k ≤ n) (sym (ap (λ (f : Formula). f.reach) same)) (reach_within n c.args.slots.now below c.args.e.now c.requires.named);
    }
