use Rattle.std.proofs.Common.{◌≡◌, ◌==◌, ℕ, List, length, map, not, take}
use Rattle.std.specs.List.{filter}
use Rattle.world_lines.proofs.gaps.words.Given as goal

abbrev pub invariant-loop-piece : goal.invariant-loop-piece
invariant-loop-piece l = map (λ word. word.now) l.words.items ≡ filter (λ (part : List ℕ). not (length part == 0)) (map (λ piece. piece.now) (take l.piece-index l.piece-items))
