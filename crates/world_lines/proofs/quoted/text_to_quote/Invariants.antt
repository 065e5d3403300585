use Rattle.std.proofs.Common.{◌≡◌, ◌≤◌, length}
use Rattle.spec_world_file.specs.WorldFile as file
use Rattle.world_lines.specs.Quotes.{prefixed}
use Rattle.world_lines.proofs.quoted.text_to_quote.Given as goal

abbrev pub invariant-bytes : goal.invariant-bytes
invariant-bytes l = record {
  found : prefixed l.bytes.items (file.text_to_quote l.rest) ≡ file.text_to_quote l.fn.text;
  within : length l.rest ≤ length l.fn.text;
}

abbrev pub decreases-bytes : goal.decreases-bytes
decreases-bytes l = length l.rest
