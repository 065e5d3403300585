use Rattle.std.proofs.Common.{ℕ, List, subst}
use Rattle.spec_script.specs.declared.syntax.Script.{Script}
use Rattle.spec_script.specs.Reading.{ReadsScript}
use Rattle.script_code.specs.Codes.{IsCodeFor}
use Rattle.run_arena.proofs.book.entry_of.Goals as goal

pub invariant_of-result-clause-means : goal.invariant_of-result-clause-means
invariant_of-result-clause-means g c other reads =
    let script = c.args.script.now in
    let own = subst (λ (text : List ℕ). ReadsScript text other) c.in_ok-copy.ensures reads in
    subst (λ (s : Script). IsCodeFor s c.in_ok-compiled.field-0) (c.scripts_read_one_way.ensures.once script.text script other c.requires own) c.in_ok-compiled.ensures
