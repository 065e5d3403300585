use Rattle.std.proofs.Common.{◌≡◌, ◌<◌, ℕ, List, length, get_or, map, [], ap, sym, ◌∙◌, arith}
use Rattle.spec_world_file.specs.WorldFile.{repeats}
use Rattle.std.proofs.lemmas.List.{length-map, get_or-map}
use Rattle.world_draft.proofs.Named.{twice, goes_on, holds_more}
use Rattle.world_draft.proofs.telling.has_double.Goals as goal

pub returns-then-not-branch : goal.returns-then-not-branch
returns-then-not-branch c =
    let i = c.loop-out.out-index in
    let out = c.out-item.result in
    let outs = c.args.outs.now in
    let names : List (List ℕ) = map (λ out. out.port) outs in
    let there : i < length outs = omega arith in
    let within : i < length names = omega (arith, length-map outs (λ out. out.port)) in
    let is : c.in_ok-key.key.items ≡ get_or names i out.port =
    c.in_ok-key.ensures.items ∙ c.list.ensures.bytes ∙ ap (λ o. o.port) c.out-item.is ∙ sym (get_or-map (λ o. o.port) outs i out out.port there) in
    sym (twice c.loop-out.set c.in_ok-key.key names i out.port within is c.loop-out.invariant.held (repeats [] names) c.in_ok-insert.field-0
    c.loop-out.invariant.rest c.in_ok-insert.ensures.added c.if-not-branch.true)

pub loop-out-preserved : goal.loop-out-preserved
loop-out-preserved c =
    let i = c.loop-out.out-index in
    let out = c.out-item.result in
    let outs = c.args.outs.now in
    let names : List (List ℕ) = map (λ out. out.port) outs in
    let there : i < length outs = omega arith in
    let within : i < length names = omega (arith, length-map outs (λ out. out.port)) in
    let is : c.in_ok-key.key.items ≡ get_or names i out.port =
    c.in_ok-key.ensures.items ∙ c.list.ensures.bytes ∙ ap (λ o. o.port) c.out-item.is ∙ sym (get_or-map (λ o. o.port) outs i out out.port there) in
    record {
      held = holds_more c.loop-out.set c.in_ok-key.key names i out.port within is c.loop-out.invariant.held c.insert.new.self c.in_ok-insert.field-0
          c.in_ok-insert.ensures.keys c.in_ok-insert.ensures.added c.if-not-branch.false;
      rest = goes_on c.loop-out.set c.in_ok-key.key names i out.port within is c.loop-out.invariant.held (repeats [] names) c.in_ok-insert.field-0
          c.loop-out.invariant.rest c.in_ok-insert.ensures.added c.if-not-branch.false;
    }
