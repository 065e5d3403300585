use Rattle.std.proofs.Common.{◌≡◌, ◌<◌, ℕ, get_or, length, true, false}
use Rattle.tree_mock.specs.Grams.{place_at}
use Rattle.tree_mock.proofs.patterns.grams.seen_in.Given as goal

abbrev pub invariant-loop-at : goal.invariant-loop-at
invariant-loop-at l = record {
  room : length l.seen ≡ 16384;
  seen : (k : ℕ) → k < l.at → get_or l.seen (place_at l.path k) false ≡ true;
}
