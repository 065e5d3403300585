use Rattle.std.proofs.Common.{◌≡◌, ℕ, ◌+◌, ◌-◌, ◌*◌, ◌<◌, ◌≤◌, length}
use Rattle.spec_script.specs.Grammar.{height}
use Rattle.script_reader.specs.Climb.{climb, more, from_token}
use Rattle.script_reader.proofs.build.+climbing.Given as goal

abbrev pub decreases-operand : goal.decreases-operand
decreases-operand l = 8 * l.limit + 6

abbrev pub decreases-prefixed : goal.decreases-prefixed
decreases-prefixed l = 8 * l.limit + 5

abbrev pub decreases-grouped : goal.decreases-grouped
decreases-grouped l = 8 * l.limit + 5

abbrev pub decreases-otherwise : goal.decreases-otherwise
decreases-otherwise l = 8 * l.limit + 5

abbrev pub decreases-chosen : goal.decreases-chosen
decreases-chosen l = 8 * l.limit + 6

abbrev pub decreases-climb : goal.decreases-climb
decreases-climb l = 8 * l.limit

abbrev pub invariant-climb-turns : goal.invariant-climb-turns
invariant-climb-turns l = record {
  going : (turns : ℕ) × (l.limit - 1 < turns + height l.a.expr)
      × (more (climb (l.limit - 1)) (l.limit - 1) turns l.place l.a.expr (from_token l.tokens l.a.next) ≡ climb l.limit l.place (from_token l.tokens l.at));
  tall : l.a.height ≡ height l.a.expr;
  low : l.a.height ≤ l.limit;
  within : l.a.next ≤ length l.tokens;
}

abbrev pub decreases-climb-turns : goal.decreases-climb-turns
decreases-climb-turns l = l.limit - l.a.height
