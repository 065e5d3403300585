use Rattle.run_nodes.proofs.AboutHalting.Reaching.{fits_at}
use Rattle.run_nodes.proofs.AboutHalting.Sounding.{sound_marks}
use Rattle.run_nodes.proofs.halting.laws.nodes_can_be_halted.Goals as goal

pub returns : goal.returns
returns c = record { fits = fits_at; held = sound_marks }
