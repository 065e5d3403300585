use Rattle.std.proofs.Common.{◌≡◌, ◌≤◌, ◌<◌, ◌∙◌, ◌∷◌, [], ap, sym, subst, arith}
use Rattle.std.specs.List.{All}
use Rattle.std.proofs.lemmas.List.Elements.{All-head, All-tail}
use Rattle.spec_script.specs.declared.syntax.Stmt.{Stmt}
use Rattle.spec_script.specs.Scripts.{stmt_names}
use Rattle.script_code.specs.declared.instr.Instr.TheVariants.{Slot}
use Rattle.script_code.specs.declared.codes.StmtCode.TheVariants as coded
use Rattle.script_code.specs.Postfixes.{between, code_of}
use Rattle.script_code.specs.Programs.{statement_of}
use Rattle.script_code.specs.Statements.{stmt_code_reach, stmt_program}
use Rattle.script_code.proofs.Same.{same_create, same_assign, same_change, same_plain, reach_create, reach_assign, reach_change, reach_plain}
use Rattle.script_code.proofs.compiling.statement.Goals as goal

pub returns-in_ok-code-in-Create : goal.returns-in_ok-code-in-Create
returns-in_ok-code-in-Create g c =
    let names = g.P.Places.place c.args.places.now in
    let code = c.in_ok-code-in-Create.code in
    record {
      meaning = λ slots.
          ap (λ k. stmt_program slots (coded.Create k code)) c.place_of.ensures
          ∙ same_create slots names c.in-Create.name c.in-Create.e code c.in_ok-code-in-Create.ensures
          ∙ ap (statement_of (λ name. slots (names name))) (sym c.in-Create.is);
      reach = λ n below.
          subst (λ k. stmt_code_reach (coded.Create k code) ≤ n) (sym c.place_of.ensures)
          (reach_create n names c.in-Create.name c.in-Create.e code c.in_ok-code-in-Create.ensures (subst (λ (s : Stmt). All (λ name. names name < n) (stmt_names s)) c.in-Create.is below));
    }

pub returns-in_ok-code-in-Assign : goal.returns-in_ok-code-in-Assign
returns-in_ok-code-in-Assign g c =
    let names = g.P.Places.place c.args.places.now in
    let code = c.in_ok-code-in-Assign.code in
    record {
      meaning = λ slots.
          ap (λ k. stmt_program slots (coded.Assign k code)) c.place_of-in-Assign.ensures
          ∙ same_assign slots names c.in-Assign.name c.in-Assign.e code c.in_ok-code-in-Assign.ensures
          ∙ ap (statement_of (λ name. slots (names name))) (sym c.in-Assign.is);
      reach = λ n below.
          subst (λ k. stmt_code_reach (coded.Assign k code) ≤ n) (sym c.place_of-in-Assign.ensures)
          (reach_assign n names c.in-Assign.name c.in-Assign.e code c.in_ok-code-in-Assign.ensures (subst (λ (s : Stmt). All (λ name. names name < n) (stmt_names s)) c.in-Assign.is below));
    }

pub returns-in_ok-code-in-Change : goal.returns-in_ok-code-in-Change
returns-in_ok-code-in-Change g c =
    let names = g.P.Places.place c.args.places.now in
    let code = c.in_ok-code-in-Change.code in
    let is = c.in_ok-code-in-Change.ensures ∙ ap (λ k. between c.in-Change.op (Slot k ∷ []) (code_of names c.in-Change.e)) c.place_of-place.ensures in
    record {
      meaning = λ slots.
          ap (λ k. stmt_program slots (coded.Assign k code)) c.place_of-place.ensures
          ∙ same_change slots names c.in-Change.op c.in-Change.name c.in-Change.e code is
          ∙ ap (statement_of (λ name. slots (names name))) (sym c.in-Change.is);
      reach = λ n below.
          subst (λ k. stmt_code_reach (coded.Assign k code) ≤ n) (sym c.place_of-place.ensures)
          (reach_change n names c.in-Change.op c.in-Change.name c.in-Change.e code is (subst (λ (s : Stmt). All (λ name. names name < n) (stmt_names s)) c.in-Change.is below));
    }

pub returns-in_ok-postfix-in-Plain : goal.returns-in_ok-postfix-in-Plain
returns-in_ok-postfix-in-Plain g c =
    let names = g.P.Places.place c.args.places.now in
    let code = c.in_ok-postfix-in-Plain.field-0 in
    record {
      meaning = λ slots.
          same_plain slots names c.in-Plain.e code c.in_ok-postfix-in-Plain.ensures
          ∙ ap (statement_of (λ name. slots (names name))) (sym c.in-Plain.is);
      reach = λ n below. reach_plain n names c.in-Plain.e code c.in_ok-postfix-in-Plain.ensures (subst (λ (s : Stmt). All (λ name. names name < n) (stmt_names s)) c.in-Plain.is below);
    }
