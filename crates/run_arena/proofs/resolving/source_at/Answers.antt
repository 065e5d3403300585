use Rattle.std.proofs.Common.{sym, ap, subst, ◌<◌, length, ◌∙◌}
use Rattle.std.specs.Option.{option_copied}
use Rattle.spec_tree.specs.Boards.{slots}
use Rattle.run_arena.specs.declared.source.Source.TheVariants.{Slot}
use Rattle.run_arena.proofs.Compiled.{key_below, key_source}
use Rattle.run_arena.proofs.resolving.source_at.Goals as goal

pub returns-in-Key-clause-source : goal.returns-in-Key-clause-source
returns-in-Key-clause-source g c =
    let tree = c.args.setting.now.tree.now in
    let found = sym c.port_named.ensures ∙ ap option_copied c.in-Some.is in
    ap (λ n. Slot n) c.slot_of.ensures
    ∙ key_source tree c.args.setting.now.world.now c.args.scope c.args.ports.now c.args.name.now c.in-Some.port.now c.in-Key.key c.requires found c.in-Key.is

pub returns-in-Key-clause-slot : goal.returns-in-Key-clause-slot
returns-in-Key-clause-slot g c =
    let tree = c.args.setting.now.tree.now in
    let found = sym c.port_named.ensures ∙ ap option_copied c.in-Some.is in
    subst (λ n. n < length (slots tree)) (sym c.slot_of.ensures)
    (key_below tree c.args.setting.now.world.now c.args.scope c.args.ports.now c.args.name.now c.in-Some.port.now c.in-Key.key c.requires found c.in-Key.is)
