use Rattle.std.proofs.Common.{◌≡◌, ◌++◌, map, drop}
use Rattle.std.specs.List.{flat_map}
use Rattle.spec_output.specs.Lines.{inputs_of}
use Rattle.text_lines.proofs.names.+add_inputs.Given as goal

abbrev pub invariant-loop-child : goal.invariant-loop-child
invariant-loop-child l =
    l.inputs.items ++ flat_map (λ inputs. inputs) (map (inputs_of l.rows) (drop l.child-index l.child-items))
    ≡ l.fn.inputs.items ++ inputs_of l.rows l.term
