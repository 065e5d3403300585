use Rattle.std.proofs.Common.{List, ℕ, [], ◌∷◌, ◌++◌, true, cond, ap, sym, subst, ◌∙◌}
use Rattle.std.specs.Cmp.Lexicographic.{slice_cmp}
use Rattle.std.specs.Ordering.{is_eq, nat_cmp}
use Rattle.tree_manifest.specs.Known.{AreKept, is_kept}
use Rattle.tree_manifest.proofs.PortNames.{kept_more}
use Rattle.tree_manifest.proofs.ports.Ports.with.Goals as goal

-- one more name is kept
pub invariant_of-result : goal.invariant_of-result
invariant_of-result c =
    let names = c.self.inside.names.items in
    let kept = c.self.inside.kept.keys in
    let name = c.args.name.now in
    subst (AreKept c.insert.new.self.keys) (sym (c.in_ok-push.ensures.items ∙ ap (λ (z : List ℕ). names ++ z ∷ []) c.in_ok-copy-2.ensures))
    (kept_more names kept c.insert.new.self.keys name c.self.invariant
    (λ q. c.in_ok-insert.ensures.updates.0 q ∙ ap (λ (z : List ℕ). cond (is_eq (slice_cmp nat_cmp z q)) true (is_kept q kept)) c.in_ok-copy.ensures))
