use Rattle.std.proofs.Common.{ap, sym, ◌∙◌}
use Rattle.spec_tree.specs.BuiltIns.{has_rule}
use Rattle.run_laws.proofs.Keeping.{term_keeps}
use Rattle.run_tick.proofs.Entering.{phase_here}
use Rattle.run_tick.proofs.Moving.{kind_is}
use Rattle.run_tick.proofs.Questions.{leaf_follows, leaf_goes}
use Rattle.run_tick.proofs.asking.visit_leaf.Goals as goal

pub visit_alone-requires-clause-phase : goal.visit_alone-requires-clause-phase
visit_alone-requires-clause-phase g c =
    let (term, view, can) = c.requires.can in
    phase_here (leaf_follows term_keeps _ _ term view _ _ can c.requires.leaf c.requires.unguarded) (ap has_rule (sym (kind_is can.fits) ∙ c.requires.leaf))

pub returns-clause-goes : goal.returns-clause-goes
returns-clause-goes g c = λ term view can.
    leaf_goes term_keeps _ _ term view _ _ can c.requires.leaf c.requires.unguarded c.visit_alone.result _ _ _ c.visit_alone.ensures.keeps.stays c.visit_alone.ensures.keeps.beside (c.visit_alone.ensures.meets term view can.fits)
