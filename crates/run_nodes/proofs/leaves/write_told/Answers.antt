use Rattle.std.proofs.Common.{◌≡◌, ◌∷◌, ◌+◌, List, Option, drop, sym, ap, subst, ◌∙◌, arith}
use Rattle.std.specs.List.{IsDistinct}
use Rattle.std.specs.Str.{bytes_eq}
use Rattle.std.proofs.lemmas.Grind.{common_steps}
use Rattle.std.proofs.lemmas.List.{drop_all, drop_more}
use Rattle.spec_script.specs.declared.value.Value.{Value}
use Rattle.run_arena.specs.declared.source.Source.{Source}
use Rattle.run_nodes.specs.Calls.{told_written, value_written}
use Rattle.run_nodes.proofs.ToldValues.{differ_from, no_sources, written_more}
use Rattle.run_nodes.proofs.leaves.write_told.Goals as goal

pub loop-place-preserved : goal.loop-place-preserved
loop-place-preserved g c =
    let i = c.loop-place.place in
    let names = c.args.names.now in
    let name = c.in-Some.name.now in
    let sources = c.args.sources.now in
    let source = c.index-sources-place.result in
    let named : drop i names ≡ name ∷ drop (i + 1) names = grind (arith, common_steps, drop_more) in
    let sourced : drop i sources ≡ source ∷ drop (i + 1) sources =
    drop_more sources i source c.loop-place-test.true ∙ ap (λ (s : Source). s ∷ drop (i + 1) sources) (sym c.index-sources-place.is) in
    let left = c.take_value-value.new.told.items in
    record {
      written =
          ap (told_written (drop (i + 1) names) (drop (i + 1) sources) left) (c.write_value.ensures.written ∙ ap (λ (value : Option Value). value_written source value c.loop-place.board) c.take_value-value.ensures.value)
          ∙ written_more (drop (i + 1) names) (drop (i + 1) sources) name source c.loop-place.told.items left c.loop-place.board
          (subst (IsDistinct bytes_eq) named (differ_from names i c.requires.names)) c.take_value-value.ensures.others
          ∙ (λ k. told_written (sym named k) (sym sourced k) c.loop-place.told.items c.loop-place.board)
          ∙ c.loop-place.invariant.written;
      slots = c.write_value.ensures.slots ∙ c.loop-place.invariant.slots;
    }

pub returns-clause-written : goal.returns-clause-written
returns-clause-written g c =
    let i = c.loop-place.place in
    let names = drop i c.args.names.now in
    sym (no_sources names c.loop-place.told.items c.loop-place.board)
    ∙ ap (λ (ss : List Source). told_written names ss c.loop-place.told.items c.loop-place.board) (sym (drop_all i c.args.sources.now c.loop-place-test.false))
    ∙ c.loop-place.invariant.written
