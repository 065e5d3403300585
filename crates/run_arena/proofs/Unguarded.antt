-- A node without guards has none to compile.
use Rattle.std.proofs.Common.{◌≡◌, Bool, true, false, ◌||◌, Option, Some, None, refl, sym}
use Rattle.std.specs.Prelude.{is_some}
use Rattle.spec_script.specs.declared.syntax.Script.{Script}
use Rattle.spec_tree.specs.declared.term.Guards.{Guards}
use Rattle.spec_run.specs.Sites.{View}
use Rattle.run_arena.specs.Nodes.{AreCompiled, IsCompiled, has_after, has_before, no_guards}

neither : (a b : Bool) → a || b ≡ false → (a ≡ false) × (b ≡ false)
neither true b is = absurd (cc)
neither false b is = (refl, is)

pub none_compiled : (view : View) (script : Option Script) → is_some script ≡ false → IsCompiled view script None
none_compiled view None is = tt
none_compiled view (Some script) is = absurd (cc)

pub unguarded : (view : View) (guards : Guards) → has_before guards ≡ false → has_after guards ≡ false → is_some guards.on_halted ≡ false → AreCompiled view guards no_guards
unguarded view guards before after halted =
    let first = neither (is_some guards.failure_if) (is_some guards.success_if || (is_some guards.skip_if || is_some guards.while_true)) before in
    let second = neither (is_some guards.success_if) (is_some guards.skip_if || is_some guards.while_true) first.1 in
    let third = neither (is_some guards.skip_if) (is_some guards.while_true) second.1 in
    let success = neither (is_some guards.on_success) (is_some guards.on_failure || is_some guards.post) after in
    let failure = neither (is_some guards.on_failure) (is_some guards.post) success.1 in
    record {
      before = sym before;
      after = sym after;
      failure_if = none_compiled view guards.failure_if first.0;
      success_if = none_compiled view guards.success_if second.0;
      skip_if = none_compiled view guards.skip_if third.0;
      while_true = none_compiled view guards.while_true third.1;
      on_success = none_compiled view guards.on_success success.0;
      on_failure = none_compiled view guards.on_failure failure.0;
      post = none_compiled view guards.post failure.1;
      on_halted = none_compiled view guards.on_halted halted;
    }
