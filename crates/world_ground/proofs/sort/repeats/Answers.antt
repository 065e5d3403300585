use Rattle.std.proofs.Common.{◌≡◌, ◌<◌, ◌∙◌, List, ℕ, [], false, length, take, get_or, ap, sym, arith}
use Rattle.std.specs.Prelude.{bytes_eq}
use Rattle.std.specs.List.{list_any}
use Rattle.spec_world_file.specs.WorldFile.{repeats}
use Rattle.world_ground.proofs.Repeats.{once}
use Rattle.world_ground.proofs.sort.repeats.Goals as goal

pub loop-place-preserved : goal.loop-place-preserved
loop-place-preserved c =
    let names = c.args.names.now in
    let i = c.loop-place.place in
    let d = c.index-names-place.result in
    let within : i < length names = omega arith in
    let fresh : list_any (bytes_eq (get_or names i d)) (take i names) ≡ false =
    ap (λ (name : List ℕ). list_any (bytes_eq name) (take i names)) (sym (c.list.ensures.bytes ∙ c.index-names-place.is)) ∙ sym c.is_among.ensures ∙ c.if-is_among.false in
    once names i d within (repeats [] names) c.loop-place.invariant fresh
