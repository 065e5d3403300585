use Rattle.std.proofs.Common.{ap, sym, subst, ◌∙◌}
use Rattle.std.specs.Prelude.{option_map}
use Rattle.std.specs.Str.{IsUtf8}
use Rattle.world_lines.proofs.Telling.{text_not_read, text_read}
use Rattle.world_lines.proofs.told.quoted.Goals as goal

pub returns-in-Ok-clause-found : goal.returns-in-Ok-clause-found
returns-in-Ok-clause-found c =
    text_read _ c.in-Some.bytes.items c.in-Some.rest.now c.in_ok-of-in-Ok.field-0 (ap (option_map (λ x. (x.0.items, x.1.now))) (sym c.in-Some.is) ∙ c.in_ok-bytes.ensures.found) c.in_ok-of-in-Ok.ensures
    (subst IsUtf8 c.as_slice.ensures.value c.in-Ok.ensures.cases.1)

pub returns-in-Some-clause-found : goal.returns-in-Some-clause-found
returns-in-Some-clause-found c =
    text_not_read _ c.in-Some.bytes.items c.in-Some.rest.now (ap (option_map (λ x. (x.0.items, x.1.now))) (sym c.in-Some.is) ∙ c.in_ok-bytes.ensures.found)
    (λ utf8. c.in-Err.ensures.cases.0 (subst IsUtf8 (sym c.as_slice.ensures.value) utf8))
