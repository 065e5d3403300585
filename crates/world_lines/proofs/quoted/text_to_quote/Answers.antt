use Rattle.std.proofs.Common.{ℕ, List, ap, ◌∙◌, arith}
use Rattle.spec_world_file.specs.WorldFile as file
use Rattle.world_lines.specs.Quotes.{prefixed}
use Rattle.world_lines.proofs.Quoting.{next_byte}
use Rattle.world_lines.proofs.quoted.text_to_quote.Goals as goal

pub bytes-preserved : goal.bytes-preserved
bytes-preserved c = record {
  found = ap (λ (bytes : List ℕ). prefixed bytes (file.text_to_quote c.in-Some.more.now)) c.in_ok-push.ensures.items
      ∙ next_byte c.bytes.bytes.items c.bytes.rest.now c.in-Some.more.now c.in-Some.byte _ c.in-Some.ensures.0 c.bytes.invariant.found;
  within = omega (arith, c.in-Some.ensures.1);
}
