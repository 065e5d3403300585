use Rattle.std.proofs.Common.{ℕ, List, [], Bool, ◌∙◌}
use Rattle.spec_world_file.specs.WorldFile.{is_known}
use Rattle.world_draft.proofs.RowParts.{passes, passes-Group, passes-Unary, binary-no, binary-yes, choose-no, choose-then, both-no, both-yes}
use Rattle.expect_reader.proofs.subject.+knows_all.Goals as goal

pub returns-in-Group : goal.returns-in-Group
returns-in-Group t c =
    let test : List ℕ → Bool = is_known [] c.args.facts.now in
    c.knows_all.ensures ∙ passes-Group test c.args.e.now c.in-Group.a c.get.result.now c.in-Group.is c.get.ensures

pub returns-in-Unary : goal.returns-in-Unary
returns-in-Unary t c =
    let test : List ℕ → Bool = is_known [] c.args.facts.now in
    c.knows_all-in-Unary.ensures ∙ passes-Unary test c.in-Unary.field-0 c.args.e.now c.in-Unary.a c.get-in-Unary.result.now c.in-Unary.is c.get-in-Unary.ensures

pub returns-then-not-knows_all : goal.returns-then-not-knows_all
returns-then-not-knows_all t c =
    let test : List ℕ → Bool = is_known [] c.args.facts.now in
    binary-no test c.in-Binary.field-0 c.args.e.now c.in-Binary.a c.in-Binary.b c.get-in-Binary.result.now c.knows_all-in-Binary.result c.in-Binary.is c.get-in-Binary.ensures c.knows_all-in-Binary.ensures c.if-not-knows_all.true

pub returns-else-not-knows_all : goal.returns-else-not-knows_all
returns-else-not-knows_all t c =
    let test : List ℕ → Bool = is_known [] c.args.facts.now in
    binary-yes test c.in-Binary.field-0 c.args.e.now c.in-Binary.a c.in-Binary.b c.get-in-Binary.result.now c.get-in-Binary-2.result.now c.knows_all-in-Binary.result c.knows_all-in-Binary-2.result
    c.in-Binary.is c.get-in-Binary.ensures c.get-in-Binary-2.ensures c.knows_all-in-Binary.ensures c.if-not-knows_all.false c.knows_all-in-Binary-2.ensures

pub returns-then-not-knows_all-2 : goal.returns-then-not-knows_all-2
returns-then-not-knows_all-2 t c =
    let test : List ℕ → Bool = is_known [] c.args.facts.now in
    choose-no test c.args.e.now c.in-Choose.a c.in-Choose.b c.in-Choose.c c.get-in-Choose.result.now c.knows_all-in-Choose.result c.in-Choose.is c.get-in-Choose.ensures c.knows_all-in-Choose.ensures c.if-not-knows_all-2.true

pub returns-then-not-knows_all-3 : goal.returns-then-not-knows_all-3
returns-then-not-knows_all-3 t c =
    let test : List ℕ → Bool = is_known [] c.args.facts.now in
    let rest = choose-then test c.args.e.now c.in-Choose.a c.in-Choose.b c.in-Choose.c c.get-in-Choose.result.now c.knows_all-in-Choose.result c.in-Choose.is c.get-in-Choose.ensures c.knows_all-in-Choose.ensures c.if-not-knows_all-2.false in
    both-no test (passes test c.args.e.now) (passes test c.in-Choose.c) c.get-in-Choose-2.result.now c.knows_all-in-Choose-2.result c.in-Choose.b rest c.get-in-Choose-2.ensures c.knows_all-in-Choose-2.ensures c.if-not-knows_all-3.true

pub returns-else-not-knows_all-3 : goal.returns-else-not-knows_all-3
returns-else-not-knows_all-3 t c =
    let test : List ℕ → Bool = is_known [] c.args.facts.now in
    let rest = choose-then test c.args.e.now c.in-Choose.a c.in-Choose.b c.in-Choose.c c.get-in-Choose.result.now c.knows_all-in-Choose.result c.in-Choose.is c.get-in-Choose.ensures c.knows_all-in-Choose.ensures c.if-not-knows_all-2.false in
    both-yes test (passes test c.args.e.now) c.in-Choose.b c.in-Choose.c c.get-in-Choose-2.result.now c.get-in-Choose-3.result.now c.knows_all-in-Choose-2.result c.knows_all-in-Choose-3.result
    rest c.get-in-Choose-2.ensures c.get-in-Choose-3.ensures c.knows_all-in-Choose-2.ensures c.if-not-knows_all-3.false c.knows_all-in-Choose-3.ensures
