use Rattle.std.proofs.Common.{◌∙◌, subst}
use Rattle.std.specs.Str.Parse.{ParsesSigned}
use mir.Syntax.{w64}
use Rattle.base_tables.proofs.Canonical.{IsUtf8-from_is_canonical, parsed_canonical}
use Rattle.base_tables.proofs.numbers.canonical_int.Goals as goal

pub returns-in-Ok : goal.returns-in-Ok
returns-in-Ok c =
    c.ok.ensures.value ∙ parsed_canonical c.args.word.now _ c.requires (subst (λ bs. ParsesSigned w64 10 bs c.parse.result) c.in-Ok.ensures.cases.0 c.parse.ensures.value.0)

pub returns-in-Err : goal.returns-in-Err
returns-in-Err c = absurd (c.in-Err.ensures.cases.0 (IsUtf8-from_is_canonical c.args.word.now c.requires))
