use Rattle.std.proofs.Common.{◌≡◌, Some, sym, ap, subst, ◌∙◌}
use Rattle.run_arena.specs.Nodes.{IsCompiled}
use Rattle.run_arena.specs.Resolving.{AreNamed, names_if_there, view_in}
use Rattle.run_arena.proofs.Compiled.{compiled_in}
use Rattle.run_arena.proofs.resolving.ready_script.Goals as goal

pub returns-in_ok-code_in-in-Ok : goal.returns-in_ok-code_in-in-Ok
returns-in_ok-code_in-in-Ok g c =
    let tree = c.args.setting.now.tree.now in
    let world = c.args.setting.now.world.now in
    let scope = c.args.scope in
    let script = c.get.result.now in
    let code = c.in_ok-code_in-in-Ok.field-0 in
    let is : c.args.script.now ≡ Some script = c.in-Some.is ∙ ap Some (sym c.get.ensures) in
    subst (λ script. IsCompiled (view_in tree world scope) script (Some code)) (sym is)
    (compiled_in tree world scope g.O.Slotting.slot script code c.args.setting.now.slot c.in_ok-code_in-in-Ok.ensures
    (subst (λ script. AreNamed tree scope (names_if_there script)) is c.requires.named))
