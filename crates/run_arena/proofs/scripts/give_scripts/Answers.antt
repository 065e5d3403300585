use Rattle.std.proofs.Common.{refl, subst, sym}
use Rattle.spec_tree.specs.declared.term.Term.{out-Term}
use Rattle.run_arena.specs.Nodes.{AreCompiled, IsCompiled}
use Rattle.run_arena.specs.Resolving.{view_in}
use Rattle.run_arena.proofs.scripts.give_scripts.Goals as goal

pub returns-then-is_plain-clause-scripted : goal.returns-then-is_plain-clause-scripted
returns-then-is_plain-clause-scripted g c =
    let view = view_in c.args.setting.now.tree.now c.args.setting.now.world.now c.args.scope in
    let term = out-Term c.args.term.now in
    record {
      code = subst (IsCompiled view term.code) (sym c.requires.no_code) (c.if-is_plain.ensures.code refl view);
      guards = subst (AreCompiled view term.guards) (sym c.requires.unguarded) (c.if-is_plain.ensures.guards refl view);
    }
