use Rattle.std.proofs.Common.{ℕ, ◌+◌, ◌<◌, List, length, ap, sym, subst, ◌∙◌}
use Rattle.std.specs.List.{All}
use Rattle.spec_script.specs.Scripts.{names_of}
use Rattle.script_code.specs.Programs.{Formula}
use Rattle.script_code.specs.Sources.{IsListed, slot_of}
use Rattle.spec_run.specs.Leaf.{place_of}
use Rattle.run_driver.proofs.Compiled.{same_number}
use Rattle.run_driver.proofs.Missing.{only_inputs_missing}
use Rattle.run_driver.proofs.Placing.{all_listed, places_below}
use Rattle.run_driver.proofs.readying.ready_expr.Goals as goal

pub compile_expr-requires-clause-named : goal.compile_expr-requires-clause-named
compile_expr-requires-clause-named c =
    let place = place_of c.args.names.now.ports.now c.args.names.now.facts.now in
    let names = names_of c.args.e.now in
    subst (λ (slots : List (List ℕ × ℕ)). All (IsListed slots) names) (sym (c.as_slice.ensures.value ∙ c.in_ok-places.ensures)) (all_listed place names)

pub invariant_of-result : goal.invariant_of-result
invariant_of-result c =
    let same = c.in_ok-code.ensures.meaning in
    record {
      textless = ap (λ (f : Formula). f.texts) same ∙ c.requires.textless;
      missing = only_inputs_missing (slot_of c.as_slice.result.now) c.args.e.now c.in_ok-code.code same;
    }

pub returns-clause-number : goal.returns-clause-number
returns-clause-number c =
    let place = place_of c.args.names.now.ports.now c.args.names.now.facts.now in
    same_number place c.args.e.now c.as_slice.result.now c.in_ok-code.code (c.as_slice.ensures.value ∙ c.in_ok-places.ensures) c.in_ok-code.ensures.meaning

pub returns-clause-reach : goal.returns-clause-reach
returns-clause-reach c =
    let ports = c.args.names.now.ports.now in
    let facts = c.args.names.now.facts.now in
    let Below = All (λ (pair : List ℕ × ℕ). pair.1 < 8 + length facts) in
    c.in_ok-code.ensures.reach (8 + length facts)
    (subst Below (sym (c.as_slice.ensures.value ∙ c.in_ok-places.ensures)) (places_below ports facts c.args.names.now.few_ports (names_of c.args.e.now)))
