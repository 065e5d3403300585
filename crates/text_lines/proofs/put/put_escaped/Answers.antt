use Rattle.std.proofs.Common.{ℕ, List, ◌++◌, ap, ◌∙◌}
use Rattle.std.specs.List.{flat_map}
use Rattle.spec_output.specs.Lines.{quoted_byte}
use Rattle.text_lines.proofs.Escaping.{plain_in_quotes, last_escaped, part_escaped, plain_cut}
use Rattle.text_lines.specs.Escaping.{is_plain_in_quotes}
use Rattle.text_lines.proofs.put.put_escaped.Goals as goal

pub returns-in_default : goal.returns-in_default
returns-in_default c =
    let cut = plain_cut is_plain_in_quotes quoted_byte plain_in_quotes c.parts.rest.now c.split_at.result.0.now c.split_at.result.1.now c.plain_len.result c.split_at.ensures.front c.split_at.ensures.back c.plain_len.ensures.value in
    c.in_ok-put_bytes.ensures
    ∙ last_escaped is_plain_in_quotes quoted_byte plain_in_quotes c.parts.out.items c.parts.rest.now c.split_at.result.0.now c.split_at.result.1.now _ cut c.in_default.ensures.cases c.parts.invariant

pub parts-preserved : goal.parts-preserved
parts-preserved c =
    let cut = plain_cut is_plain_in_quotes quoted_byte plain_in_quotes c.parts.rest.now c.split_at.result.0.now c.split_at.result.1.now c.plain_len.result c.split_at.ensures.front c.split_at.ensures.back c.plain_len.ensures.value in
    let more = c.in-Some.more.now in
    ap (λ (z : List ℕ). z ++ flat_map quoted_byte more) (c.in_ok-put_byte.ensures ∙ ap (λ (z : List ℕ). z ++ quoted_byte c.in-Some.byte.now) c.in_ok-put_bytes.ensures)
    ∙ part_escaped is_plain_in_quotes quoted_byte plain_in_quotes c.parts.out.items c.parts.rest.now c.split_at.result.0.now c.split_at.result.1.now more _ c.in-Some.byte.now cut c.in-Some.ensures.cases.0 c.parts.invariant
