use Rattle.std.proofs.Common.{◌≡◌, ◌+◌, ◌++◌, map, drop, length}
use Rattle.base_texts.specs.Names.{text_of}
use Rattle.spec_session.specs.Labels.{labels_all, labels_from}
use Rattle.host_session.proofs.labels.+add_labels.Given as goal

-- those of the children that are still to come make the whole
abbrev pub invariant-loop-child : goal.invariant-loop-child
invariant-loop-child l =
    let below = text_of l.below-inside.len l.below-inside.short l.below-inside.long in
    l.labels.items ++ labels_all (map labels_from (drop l.child-index l.child-items)) (length l.labels.items + 1) l.inner below
    ≡ l.fn.labels.items ++ labels_from l.term (length l.fn.labels.items + 1) l.scope l.above
