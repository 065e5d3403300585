use Rattle.std.proofs.Common.{◌∙◌, ℕ, List, Some, ap, subst, sym}
use Rattle.std.specs.Str.{IsUtf8}
use Rattle.spec_expect.specs.declared.place.Pick.{Pick}
use Rattle.spec_expect.specs.ExpectFile.{quoted_pick}
use Rattle.expect_reader.proofs.Picking.{not_text, picked}
use Rattle.expect_reader.proofs.picks.pick_quoted.Goals as goal

pub returns-in-Ok : goal.returns-in-Ok
returns-in-Ok c =
    let bytes = c.args.bytes.items in
    let rest = c.args.rest.now in
    ap (λ (p : Pick). Some (p, c.after_gap.result.now)) (c.quoted_pick.ensures ∙ ap quoted_pick c.in_ok-of-in-Ok.ensures)
    ∙ ap (λ (r : List ℕ). Some (quoted_pick bytes, r)) c.after_gap.ensures
    ∙ sym (picked bytes rest (subst IsUtf8 c.as_slice.ensures.value c.in-Ok.ensures.cases.1) (sym c.is_apart.ensures ∙ c.if-is_apart.true))

pub returns-then-is_apart : goal.returns-then-is_apart
returns-then-is_apart c = sym (not_text c.args.bytes.items c.args.rest.now (λ utf8. c.in-Err.ensures.cases.0 (subst IsUtf8 (sym c.as_slice.ensures.value) utf8)))
