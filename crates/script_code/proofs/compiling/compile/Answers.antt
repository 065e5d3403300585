use Rattle.std.proofs.Common.{◌≡◌, ◌<◌, ◌∙◌, ℕ, List, [], length, map, ap, subst, sym}
use Rattle.std.specs.List.{All, Contains, flat_map}
use Rattle.std.specs.Str.{bytes_eq}
use Rattle.std.proofs.lemmas.List.Elements.{All-weaker}
use Rattle.indexmap.specs.IndexSet.{insert_all}
use Rattle.spec_script.specs.declared.syntax.Stmt.{Stmt}
use Rattle.spec_script.specs.Scripts.{stmt_names}
use Rattle.script_code.specs.declared.codes.StmtCode.{StmtCode}
use Rattle.script_code.specs.Codes.{program_over}
use Rattle.script_code.specs.Programs.{program_of}
use Rattle.script_code.specs.Sources.{place_in}
use Rattle.script_code.specs.Statements.{one_by_one, slot_in, stmt_program}
use Rattle.script_code.proofs.Numbered.{inserted, placed}
use Rattle.script_code.proofs.Same.{same_program}
use Rattle.script_code.proofs.compiling.compile.Goals as goal

pub statements-requires-clause-named : goal.statements-requires-clause-named
statements-requires-clause-named c =
    let xs = flat_map stmt_names c.list-stmts.result.now in
    let names = insert_all bytes_eq [] xs in
    subst (λ (ns : List (List ℕ)). All (λ name. place_in ns name < length ns) xs) (sym c.in_ok-names.ensures)
    (All-weaker (Contains names) (λ name. place_in names name < length names) (λ name has. (placed names name has).0) xs (inserted [] xs))

pub returns : goal.returns
unfolding program_over
returns c =
    let stmts = c.list-stmts.result.now in
    let names = c.in_ok-names.names in
    let coded = c.in_ok-of.ensures ∙ c.of.ensures in
    let named = c.in_ok-of-2.ensures ∙ c.in_ok-names-2.ensures in
    record {
      meaning = λ slots.
          ap (λ (codes : List StmtCode). one_by_one (map (stmt_program (slot_in slots)) codes)) coded
          ∙ ap one_by_one (c.in_ok-codes.ensures.meaning (slot_in slots))
          ∙ same_program (λ name. slot_in slots (place_in names name)) stmts
          ∙ (λ i. program_of (λ name. slot_in slots (place_in (sym named i) name)) (c.list-stmts.ensures i));
      names = named ∙ c.in_ok-names.ensures ∙ ap (λ (ss : List Stmt). insert_all bytes_eq [] (flat_map stmt_names ss)) c.list-stmts.ensures;
    }
