use Rattle.std.proofs.Common.{◌≡◌, true, sym, ◌∙◌}
use Rattle.spec_tree_file.specs.Marks.{is_quote}
use Rattle.tree_elements.proofs.Cuts.{cut_following, quote_ascii}
use Rattle.tree_elements.proofs.scan.value_at.Goals as goal

pub value_after-requires-clause-utf8 : goal.value_after-requires-clause-utf8
value_after-requires-clause-utf8 c =
    let quoted : is_quote c.in-Some.c.now ≡ true = sym c.quote.ensures ∙ c.if-not-quote.false in
    cut_following c.in-Some.c.now c.args.bytes.now c.in-Some.rest.now c.in-Some.ensures.cases.0 (quote_ascii c.in-Some.c.now quoted) c.requires
