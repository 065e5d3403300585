use Rattle.std.proofs.Common.{◌≡◌, ◌<◌, ◌∙◌, List, [], length, drop, map, ap, sym, arith}
use Rattle.std.proofs.lemmas.List.{drop_all}
use Rattle.world_ground.specs.Seen.{seen_item}
use Rattle.world_ground.specs.Sizes.{Sizing, nothing_sized}
use Rattle.world_ground.specs.declared.items.Item.{Item}
use Rattle.world_ground.proofs.Bounds.{named_small}
use Rattle.world_ground.proofs.Steps.{laid_on, sized_on, small_on}
use Rattle.world_ground.proofs.Totals.{items_size, sized_items}
use Rattle.world_ground.proofs.sizes.size_of.Goals as goal

pub loop-item-preserved : goal.loop-item-preserved
loop-item-preserved c =
    let items = c.args.items.now in
    let i = c.loop-item.item-index in
    let within : i < length items = omega arith in
    let before = c.loop-item.invariant in
    record {
      sized = sized_on c.args.sorts.now items i _ c.loop-item.sizing c.add.new.self within c.in_ok-add.ensures _ before.sized;
      laid = laid_on c.args.sorts.now items i _ c.loop-item.sizing c.add.new.self within c.in_ok-add.ensures before.laid;
      small = small_on c.args.sorts.now items i _ c.loop-item.sizing c.add.new.self within c.in_ok-add.ensures c.requires.sorts before.laid before.small;
    }

pub returns : goal.returns
returns c =
    let items = c.args.items.now in
    let over : drop c.loop-item.item-index items ≡ [] = drop_all c.loop-item.item-index items (omega arith) in
    let whole : c.loop-item.sizing ≡ sized_items c.args.sorts.now nothing_sized (map seen_item items) =
    sym (ap (λ (rest : List Item). sized_items c.args.sorts.now c.loop-item.sizing (map seen_item rest)) over) ∙ c.loop-item.invariant.sized in
    ap (λ (s : Sizing). s.size) c.sizing-2.view_is
    ∙ ap (λ (s : Sizing). s.size) whole
    ∙ items_size c.args.sorts.now (named_small c.args.sorts.now c.requires.sorts) (map seen_item items) c.requires.laid
