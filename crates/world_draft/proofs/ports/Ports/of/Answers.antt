use Rattle.std.proofs.Common.{◌≡◌, ◌<◌, ℕ, List, length, get_or, ap, ◌∙◌, arith}
use Rattle.spec_world_file.specs.WorldFile.{repeats}
use Rattle.std.specs.Prelude.{[]}
use Rattle.world_draft.proofs.Named.{twice, goes_on, holds_more}
use Rattle.world_draft.proofs.ports.Ports.of.Goals as goal

pub returns-then-not-branch : goal.returns-then-not-branch
returns-then-not-branch c =
    let i = c.loop-name.name-index in
    let name = c.name-item.result in
    let names = c.args.names.items in
    let within : i < length names = omega (arith, ap length c.as_slice-name-items.ensures.value) in
    let is : c.in_ok-key.key.items ≡ get_or names i name =
    c.in_ok-key.ensures.items ∙ c.list.ensures.bytes ∙ c.name-item.is ∙ ap (λ (ns : List (List ℕ)). get_or ns i name) c.as_slice-name-items.ensures.value in
    twice c.loop-name.set c.in_ok-key.key names i name within is c.loop-name.invariant.held (repeats [] names) c.in_ok-insert.field-0
    c.loop-name.invariant.rest c.in_ok-insert.ensures.added c.if-not-branch.true

pub loop-name-preserved : goal.loop-name-preserved
loop-name-preserved c =
    let i = c.loop-name.name-index in
    let name = c.name-item.result in
    let names = c.args.names.items in
    let within : i < length names = omega (arith, ap length c.as_slice-name-items.ensures.value) in
    let is : c.in_ok-key.key.items ≡ get_or names i name =
    c.in_ok-key.ensures.items ∙ c.list.ensures.bytes ∙ c.name-item.is ∙ ap (λ (ns : List (List ℕ)). get_or ns i name) c.as_slice-name-items.ensures.value in
    record {
      held = holds_more c.loop-name.set c.in_ok-key.key names i name within is c.loop-name.invariant.held c.insert.new.self c.in_ok-insert.field-0
          c.in_ok-insert.ensures.keys c.in_ok-insert.ensures.added c.if-not-branch.false;
      rest = goes_on c.loop-name.set c.in_ok-key.key names i name within is c.loop-name.invariant.held (repeats [] names) c.in_ok-insert.field-0
          c.loop-name.invariant.rest c.in_ok-insert.ensures.added c.if-not-branch.false;
    }
