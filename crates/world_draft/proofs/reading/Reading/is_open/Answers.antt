use Rattle.std.proofs.Common.{◌≡◌, Option, Some, None, refl, ap, ◌∙◌}
use Rattle.std.specs.Prelude.{is_some, option_map}
use Rattle.spec_world_file.specs.WorldFile.{Reading}
use Rattle.world_draft.specs.Drafts.{row_of}
use Rattle.world_draft.proofs.reading.Reading.is_open.Goals as goal

-- a map keeps whether a value is there
there-map : {X Y : Type 0} (f : X → Y) (o : Option X) → is_some o ≡ is_some (option_map f o)
there-map f None = refl
there-map f (Some x) = refl

pub returns : goal.returns
returns c = c.is_some.ensures ∙ there-map row_of c.self.inside.draft ∙ ap (λ (r : Reading). is_some r.open_row) c.self.view_is
