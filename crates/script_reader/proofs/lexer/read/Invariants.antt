use Rattle.std.proofs.Common.{◌≡◌, ◌≤◌, ◌-◌, ◌++◌, drop, length}
use Rattle.spec_script.specs.Tokens.{read_tokens}
use Rattle.script_reader.proofs.lexer.read.Given as goal

abbrev pub invariant-loop-at : goal.invariant-loop-at
invariant-loop-at l = record {
  tokens : l.tokens.items ++ (read_tokens l.at 0 (drop l.at l.text)).tokens ≡ (read_tokens 0 0 l.text).tokens;
  fault : (read_tokens l.at 0 (drop l.at l.text)).fault ≡ (read_tokens 0 0 l.text).fault;
  inside : l.at ≤ length l.text;
  few : length l.tokens.items ≤ l.at;
}

abbrev pub decreases-loop-at : goal.decreases-loop-at
decreases-loop-at l = length l.text - l.at
