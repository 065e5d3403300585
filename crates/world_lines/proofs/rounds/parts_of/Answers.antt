use Rattle.std.proofs.Common.{◌≡◌, ◌≤◌, ◌+◌, ◌∙◌, ℕ, List, [], ◌∷◌, ◌++◌, Option, Bor, drop, length, map, sym, ap, subst}
use Rattle.std.specs.Prelude.{IfSome, option_and_then, option_map}
use Rattle.std.proofs.lemmas.List.{map-append}
use Rattle.spec_world_file.specs.WorldFile.{Part, parts_in}
use Rattle.world_lines.specs.declared.rounds.WrittenPart.{WrittenPart}
use Rattle.world_lines.specs.Written.{seen_part}
use Rattle.world_lines.proofs.RoundParts.{parts_after}
use Rattle.world_lines.proofs.rounds.parts_of.Goals as goal

pub parts-preserved : goal.parts-preserved
parts-preserved c =
    let words : List (List ℕ) = map (λ word. word.now) c.args.words.now in
    let seen : List Part = map seen_part c.parts.parts.items in
    let part : Part = seen_part c.in-Some.part in
    let left : Option (List Part) = parts_in (drop (c.parts.place + 2) words) in
    let found : parts_in (drop c.parts.place words) ≡ option_map (λ more. part ∷ more) left =
    c.part_at.ensures.found ∙ ap (λ (o : Option WrittenPart). option_and_then (λ part. option_map (λ parts. part ∷ parts) left) (option_map seen_part o)) c.in-Some.is in
    record {
      all = c.parts.invariant.all ∙ ap (option_map (λ more. seen ++ more)) found ∙ parts_after seen part left
          ∙ ap (λ (all : List Part). option_map (λ more. all ++ more) left)
          (sym (ap (map seen_part) c.in_ok-push-in-Some.ensures.items ∙ map-append seen_part c.parts.parts.items (c.in-Some.part ∷ [])));
      within = subst (λ (o : Option WrittenPart). IfSome o (λ part. c.parts.place + 2 ≤ length c.args.words.now)) c.in-Some.is c.part_at.ensures.within;
    }
