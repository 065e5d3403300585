use Rattle.std.proofs.Common.{◌≡◌, ◌<◌, ◌*◌, ◌/◌, ◌%◌, ◌^◌, None, Some, Option, get_or, length, sym, ap, subst, ◌∙◌, arith}
use Rattle.std.specs.Int.{bit_at}
use Rattle.std.specs.Prelude.{bit_or, is_some, slice_set}
use Rattle.std.proofs.lemmas.List.{get_or_read}
use Rattle.std.proofs.lemmas.Nat.{mod_below}
use Rattle.spec_script.specs.declared.value.Value.{Value}
use Rattle.tree_board.specs.Records.{IsRecord}
use Rattle.tree_board.proofs.Records.{keeps_bits, marks_bit, none_from, written_again, written_first}
use Rattle.tree_board.proofs.recorded.Recorded.put.Goals as goal

-- a slot is written for the first time
pub invariant_of-self : goal.invariant_of-self
invariant_of-self g c =
    let r = c.self.inside in
    let slot = c.args.slot in
    let low : slot < length r.entries.items = omega (arith, c.requires, ap length c.self.view_is) in
    let low_too : slot < length r.before.items = omega (arith, low, c.self.invariant.places) in
    let none : get_or r.before.items slot None ≡ None = none_from _ (sym (ap is_some (get_or_read r.before.items slot _ low_too c.index.ensures None)) ∙ c.if-is_none.ensures) in
    let old_is : c.replace-old.result ≡ get_or r.entries.items slot None = c.replace-old.ensures.value ∙ get_or_read r.entries.items slot _ low c.index_mut.ensures.value None in
    let within : c.bit_of.result < 64 = omega (arith, c.bit_of.ensures, mod_below (slot / 64) 64 (omega arith)) in
    let more = bit_or r.groups (1 * 2 ^ c.bit_of.result % 18446744073709551616) in
    subst (λ (e : Option Value). IsRecord g.P.Past.past (slice_set r.entries.items slot c.replace-old.new.dest) (slice_set r.before.items slot (Some e)) more) (sym old_is)
    (written_first g.P.Past.past r.entries.items r.before.items r.groups c.self.invariant slot low c.replace-old.new.dest more none
    (ap (bit_at more) (sym c.bit_of.ensures) ∙ marks_bit r.groups c.bit_of.result within) (keeps_bits r.groups c.bit_of.result within))

-- a slot is written again
pub invariant_of-self-else-is_none : goal.invariant_of-self-else-is_none
invariant_of-self-else-is_none g c =
    let r = c.self.inside in
    let slot = c.args.slot in
    let low : slot < length r.entries.items = omega (arith, c.requires, ap length c.self.view_is) in
    let low_too : slot < length r.before.items = omega (arith, low, c.self.invariant.places) in
    written_again g.P.Past.past r.entries.items r.before.items r.groups c.self.invariant slot low c.replace-old.new.dest
    (sym (ap is_some (get_or_read r.before.items slot _ low_too c.index.ensures None)) ∙ c.if-is_none.ensures)

pub invariant_of-self-else-is_none-2 : goal.invariant_of-self-else-is_none-2
invariant_of-self-else-is_none-2 g c =
    let r = c.self.inside in
    let slot = c.args.slot in
    let low : slot < length r.entries.items = omega (arith, c.requires, ap length c.self.view_is) in
    let low_too : slot < length r.before.items = omega (arith, low, c.self.invariant.places) in
    written_again g.P.Past.past r.entries.items r.before.items r.groups c.self.invariant slot low c.replace-old.new.dest
    (sym (ap is_some (get_or_read r.before.items slot _ low_too c.index.ensures None)) ∙ c.if-is_none.ensures)

pub invariant_of-self-else-is_none-3 : goal.invariant_of-self-else-is_none-3
invariant_of-self-else-is_none-3 g c =
    let r = c.self.inside in
    let slot = c.args.slot in
    let low : slot < length r.entries.items = omega (arith, c.requires, ap length c.self.view_is) in
    let low_too : slot < length r.before.items = omega (arith, low, c.self.invariant.places) in
    written_again g.P.Past.past r.entries.items r.before.items r.groups c.self.invariant slot low c.replace-old.new.dest
    (sym (ap is_some (get_or_read r.before.items slot _ low_too c.index.ensures None)) ∙ c.if-is_none.ensures)
