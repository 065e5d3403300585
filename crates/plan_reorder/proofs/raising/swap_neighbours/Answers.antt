use Rattle.std.proofs.Common.{arith}
use native.Mathlib.Numerals.{unary_clauses}
use Rattle.plan_reorder.proofs.Swaps.{swapped_by_stores}
use Rattle.plan_reorder.proofs.raising.swap_neighbours.Goals as goal

pub returns : goal.returns
returns c = simp unary_clauses (swapped_by_stores c.args.place c.args.keys.now (omega (arith, c.requires)))
