use Rattle.std.proofs.Common.{◌≡◌, ◌∙◌, ◌++◌, List, [], ◌∷◌, drop, ap, append-nil, append_assoc, arith, sym}
use Rattle.std.proofs.lemmas.List.{drop_all}
use Rattle.std.specs.List.{flat_map}
use Rattle.spec_tree.specs.declared.term.Term.{Term, out-Term}
use Rattle.spec_world.specs.declared.world.Set.{Set}
use Rattle.expect_watch.specs.Begun.{sets_in}
use Rattle.expect_watch.proofs.Sights.{sets_out}
use Rattle.expect_watch.proofs.watching.+add_effects.Goals as goal

pub returns : goal.returns
returns t c =
    let rows = c.args.rows.now in
    let below = flat_map (sets_in rows) (out-Term c.args.term.now).children in
    let children = c.list-child-items.result.now in
    let none : drop c.loop-child.child-index children ≡ [] = drop_all c.loop-child.child-index children (omega arith) in
    sym (append-nil c.loop-child.effects.items)
    ∙ ap (λ (ts : List Term). c.loop-child.effects.items ++ flat_map (sets_in rows) ts) (sym none)
    ∙ c.loop-child.invariant
    ∙ ap (λ (ts : List Term). c.push.new.self.items ++ flat_map (sets_in rows) ts) c.list-child-items.ensures
    ∙ ap (λ (sets : List (List Set)). sets ++ below) c.in_ok-push.ensures.items
    ∙ append_assoc c.args.effects.now.items _ below
    ∙ ap (λ (sets : List Set). c.args.effects.now.items ++ sets ∷ below) c.in_ok-effects_of.ensures
    ∙ ap (λ (sets : List (List Set)). c.args.effects.now.items ++ sets) (sym (sets_out rows c.args.term.now))
