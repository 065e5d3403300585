use Rattle.std.proofs.Common.{List, ℕ, sym, ap, ◌∙◌}
use Rattle.std.specs.Prelude.{bytes_eq}
use Rattle.std.specs.List.{list_any}
use Rattle.world_draft.proofs.Named.{any-map}
use Rattle.world_draft.proofs.ports.Ports.has.Goals as goal

pub returns : goal.returns
returns c =
    c.contains.ensures ∙ sym (any-map (bytes_eq c.args.name.now) (λ key. key.items) c.self.inside.set.keys)
    ∙ ap (λ (names : List (List ℕ)). list_any (bytes_eq c.args.name.now) names) (c.self.invariant ∙ c.self.view_is)
