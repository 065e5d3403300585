-- An expression that is compiled over the places of its names gives what it gives over those of its row.
use Rattle.std.proofs.Common.{◌≡◌, ℕ, List, ap, sym, subst, ◌∙◌}
use Rattle.std.specs.List.{All}
use Rattle.spec_script.specs.declared.syntax.Expr.{Expr}
use Rattle.spec_script.specs.Entries.{look_of}
use Rattle.spec_script.specs.Scripts.{names_of}
use Rattle.script_code.specs.declared.codes.ExprCode.{ExprCode}
use Rattle.script_code.specs.Codes.{formula}
use Rattle.script_code.specs.Programs.{Formula, formula_of}
use Rattle.script_code.specs.Sources.{slot_of}
use Rattle.spec_run.specs.Leaf.{Number, as_number, number_of, sights}
use Rattle.run_driver.specs.Places.{with_places}
use Rattle.run_driver.proofs.Agreeing.{same_value}
use Rattle.run_driver.proofs.Placing.{all_found}

-- what code gives over inputs and facts
abbrev given : ExprCode → Number
given code inputs facts = as_number ((formula code).value (look_of (sights inputs facts)))

pub same_number : (place : List ℕ → ℕ) (e : Expr) (slots : List (List ℕ × ℕ)) (code : ExprCode) → slots ≡ with_places place (names_of e) → formula code ≡ formula_of (slot_of slots) e →
    given code ≡ number_of place e
same_number place e slots code is means =
    let agree : All (λ name. slot_of slots name ≡ place name) (names_of e) =
    subst (λ (ss : List (List ℕ × ℕ)). All (λ name. slot_of ss name ≡ place name) (names_of e)) (sym is) (all_found place (names_of e)) in
    λ i inputs facts. as_number ((ap (λ (f : Formula). f.value (look_of (sights inputs facts))) means ∙ same_value (slot_of slots) place (look_of (sights inputs facts)) e agree) i)
