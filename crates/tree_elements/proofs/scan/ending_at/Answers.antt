use Rattle.std.proofs.Common.{◌≡◌, true, length, drop, subst, sym, ◌∙◌}
use Rattle.std.specs.Str.{IsUtf8}
use Rattle.spec_tree_file.specs.References.{begins_with}
use Rattle.tree_elements.proofs.Asides.{here_found, after_utf8}
use Rattle.tree_elements.proofs.scan.ending_at.Goals as goal

pub returns-then-starts_with-clause-utf8 : goal.returns-then-starts_with-clause-utf8
returns-then-starts_with-clause-utf8 c =
    let ending = c.args.ending.now in
    let rest = c.skipped-found.result.now in
    let here : begins_with ending rest ≡ true = sym c.starts_with.ensures.value ∙ c.if-starts_with.true in
    let found = sym c.body.invariant.read ∙ sym c.skipped-found.ensures.read ∙ here_found ending rest c.requires.some here in
    subst IsUtf8 (sym c.split_at.ensures.back) (after_utf8 ending c.args.bytes.now (drop (length ending) rest) c.requires.some c.requires.ascii c.requires.utf8 found)
