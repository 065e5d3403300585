use Rattle.std.proofs.Common.{◌≡◌, List, [], drop, map, ap, sym, ◌∙◌, arith}
use Rattle.std.proofs.lemmas.List.{drop_all}
use Rattle.world_ground.specs.Making.{Making, nothing_made}
use Rattle.world_ground.specs.Seen.{seen_item}
use Rattle.world_ground.specs.declared.items.Item.{Item}
use Rattle.world_ground.proofs.Flat.{made_items, made_lines}
use Rattle.world_ground.proofs.make.lines_of.Goals as goal

pub returns : goal.returns
returns c =
    let items = c.args.items.now in
    let over : drop c.loop-item.item-index items ≡ [] = drop_all c.loop-item.item-index items (omega arith) in
    let whole : c.loop-item.making ≡ made_items c.args.sorts.now nothing_made (map seen_item items) =
    sym (ap (λ (rest : List Item). made_items c.args.sorts.now c.loop-item.making (map seen_item rest)) over) ∙ c.loop-item.invariant in
    c.into_lines.ensures ∙ ap (λ (m : Making). m.lines) whole ∙ made_lines c.args.sorts.now (map seen_item items) c.requires
