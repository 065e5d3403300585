use Rattle.std.proofs.Common.{◌≡◌, ◌<◌, List, length, ap, ◌∙◌, arith}
use Rattle.std.specs.List.{position_or_len}
use Rattle.spec_world.specs.declared.world.ToldOut.{ToldOut}
use Rattle.spec_run.specs.Leaves.{told_for}
use Rattle.run_nodes.proofs.ToldValues.{found_none, found_value, is_for, left_for_others}
use Rattle.run_nodes.proofs.leaves.take_value.Goals as goal

pub returns-then-place-len-clause-value : goal.returns-then-place-len-clause-value
returns-then-place-len-clause-value c =
    let name = c.args.name.now in
    let lent = c.deref.result.now in
    let first : c.place_told-place.result ≡ position_or_len (is_for name) lent = c.place_told-place.ensures in
    found_none lent name (omega (arith, c.if-place-len.true, c.len.ensures, c.deref.ensures.len, first)) ∙ ap (λ (told : List ToldOut). told_for told name) c.deref.ensures.value

pub remove-value-requires : goal.remove-value-requires
remove-value-requires c = omega (arith, c.if-place-len.false, c.len.ensures)

pub returns-clause-value : goal.returns-clause-value
returns-clause-value c =
    let name = c.args.name.now in
    let first : c.place_told-place.result ≡ position_or_len (is_for name) c.args.told.now.items = c.place_told-place.ensures ∙ ap (position_or_len (is_for name)) c.deref.ensures.value in
    let within : c.place_told-place.result < length c.args.told.now.items =
    omega (arith, c.if-place-len.false, c.len.ensures, c.deref.ensures.len, ap (length {A = ToldOut}) c.deref.ensures.value) in
    found_value c.args.told.now.items name c.place_told-place.result c.remove-value.result first within c.remove-value.ensures.value

pub returns-clause-others : goal.returns-clause-others
returns-clause-others c = λ other apart.
    let name = c.args.name.now in
    let first : c.place_told-place.result ≡ position_or_len (is_for name) c.args.told.now.items = c.place_told-place.ensures ∙ ap (position_or_len (is_for name)) c.deref.ensures.value in
    let within : c.place_told-place.result < length c.args.told.now.items =
    omega (arith, c.if-place-len.false, c.len.ensures, c.deref.ensures.len, ap (length {A = ToldOut}) c.deref.ensures.value) in
    ap (λ (told : List ToldOut). told_for told other) c.remove-value.ensures.items
    ∙ left_for_others c.args.told.now.items name other c.place_told-place.result c.remove-value.result first within apart
