use Rattle.std.proofs.Common.{ap, sym, ◌∙◌}
use Rattle.std.specs.Prelude.{◌++◌}
use Rattle.std.proofs.lemmas.List.{append-nil}
use Rattle.spec_run.specs.Run.{changed_from}
use Rattle.run_loop.proofs.Groups.{none_changed}
use Rattle.run_loop.proofs.telling.tell_group.Goals as goal

pub returns-then-same_group-clause-changes : goal.returns-then-same_group-clause-changes
returns-then-same_group-clause-changes c =
    let before = c.args.changes.now.items in
    let first = c.args.first in
    sym (append-nil before)
    ∙ ap (λ changes. before ++ changes) (sym (none_changed first c.args.told.now)
    ∙ ap (changed_from first c.args.told.now) (c.same_group.ensures c.if-same_group.true))
