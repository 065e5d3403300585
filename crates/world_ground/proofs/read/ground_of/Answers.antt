use Rattle.std.proofs.Common.{◌≡◌, ◌∙◌, Bor, List, Result, ap, map, subst, ℕ}
use Rattle.std.specs.Prelude.{bytes_eq, codes}
use Rattle.world_reader.specs.Readings.{Gives}
use Rattle.spec_world_file.specs.GroundFile.{Grounded, headed}
use Rattle.spec_world_file.specs.declared.ground_fault.GroundFault.{GroundFault}
use Rattle.world_ground.proofs.Headers.{headed_is, rest_whole}
use Rattle.world_ground.proofs.read.ground_of.Goals as goal

pub returns-in-len1-up : goal.returns-in-len1-up
returns-in-len1-up c =
    subst (λ (s : Result Grounded GroundFault). Gives c.headed.result (λ said. said ≡ s))
    (ap (λ (rest : List (Bor (List ℕ))). headed c.is.result (map (λ text. text.now) rest)) (rest_whole c.args.lines.now)
    ∙ headed_is (λ text. text.now) _ c.args.lines.now c.is.result c.in-len1-up.len_at_least (c.is.ensures ∙ ap (λ (t : List ℕ). bytes_eq t (codes "bt-ground 1")) c.trimmed.ensures))
    c.headed.ensures
