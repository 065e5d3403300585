use Rattle.run_tick.proofs.Held.{marked_below}
use Rattle.run_tick.proofs.Moving.{none_reset}
use Rattle.run_tick.proofs.making_moves.reset_before.Goals as goal

pub returns-in-None-clause-meets : goal.returns-in-None-clause-meets
returns-in-None-clause-meets g c = λ term view can. none_reset _ _ term view _ _ _ _ c.in-None.is

pub reset_children-requires-clause-held : goal.reset_children-requires-clause-held
reset_children-requires-clause-held g c = let (term, view, can, ruled) = c.requires.can in marked_below _ _ term view _ _ can ruled

pub reset_children-requires-in_default-clause-held : goal.reset_children-requires-in_default-clause-held
reset_children-requires-in_default-clause-held g c = let (term, view, can, ruled) = c.requires.can in marked_below _ _ term view _ _ can ruled

pub reset_children-requires-in-AllBut-clause-held : goal.reset_children-requires-in-AllBut-clause-held
reset_children-requires-in-AllBut-clause-held g c = let (term, view, can, ruled) = c.requires.can in marked_below _ _ term view _ _ can ruled
