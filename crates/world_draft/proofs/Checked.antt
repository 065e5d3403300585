-- A head that was checked, and a row of it.
use Rattle.std.proofs.Common.{◌≡◌, ℕ, Bool, true, false, not, ◌||◌, List, [], length, Result, Ok, Err, refl, sym, ◌∙◌, ap, if◌then◌else◌}
use Rattle.std.specs.Prelude.{bytes_eq, nat_lt}
use Rattle.std.specs.List.{list_any}
use Rattle.base_texts.specs.declared.stop.Stop.{Stop}
use Rattle.base_texts.specs.declared.stop.Stop.TheVariants as stop
use Rattle.spec_world.specs.declared.world.Row.{Row}
use Rattle.spec_world.specs.declared.world.RowSort.{RowSort}
use Rattle.spec_world_file.specs.declared.world_fault.WorldFaultKind.{WorldFaultKind}
use Rattle.spec_world_file.specs.declared.world_fault.WorldFaultKind.TheVariants.{Header, BadLine, Range, DoubleName, NoName, MomentBack, TooMany}
use Rattle.spec_tree.specs.Names.{is_reserved}
use Rattle.spec_world.specs.Worlds.{ids_of_rows}
use Rattle.spec_world_file.specs.WorldFile.{Reading, is_taken, knows_sort, plain_row, repeats, with_head}
use Rattle.spec_world_file.specs.WorldFile as file
use Rattle.world_draft.specs.Drafts.{DraftSays, HeadChecked, is_double, row_of}
use Rattle.world_draft.specs.declared.draft.Draft.{Draft}

not_both : (a b : Bool) → (a || b) ≡ false → (a ≡ false) × (b ≡ false)
not_both true b h = absurd (cc)
not_both false b h = (refl, h)

module _ (head : file.Head) (sort : RowSort) (r : Reading) where
  double : (t : Bool) → is_double r head.id head.ports ≡ t → (add : Row → Reading → Result Reading WorldFaultKind) → with_head head add sort r ≡ (if t then Err DoubleName else (if not (knows_sort head.ports r.facts sort) then Err NoName else (if nat_lt 8 (length head.ports) then Err TooMany else add (plain_row head.id head.ports sort) r)))
  double t h add = ap (λ (b : Bool). if b then Err DoubleName else (if not (knows_sort head.ports r.facts sort) then Err NoName else (if nat_lt 8 (length head.ports) then Err TooMany else add (plain_row head.id head.ports sort) r))) h

  known : (k : Bool) → is_double r head.id head.ports ≡ false → knows_sort head.ports r.facts sort ≡ k → (add : Row → Reading → Result Reading WorldFaultKind) → with_head head add sort r ≡ (if not k then Err NoName else (if nat_lt 8 (length head.ports) then Err TooMany else add (plain_row head.id head.ports sort) r))
  known k single h add = double false single add ∙ ap (λ (b : Bool). if not b then Err NoName else (if nat_lt 8 (length head.ports) then Err TooMany else add (plain_row head.id head.ports sort) r)) h

  many : (t : Bool) → is_double r head.id head.ports ≡ false → knows_sort head.ports r.facts sort ≡ true → nat_lt 8 (length head.ports) ≡ t → (add : Row → Reading → Result Reading WorldFaultKind) → with_head head add sort r ≡ (if t then Err TooMany else add (plain_row head.id head.ports sort) r)
  many t single knows h add = known true single knows add ∙ ap (λ (b : Bool). if b then Err TooMany else add (plain_row head.id head.ports sort) r) h

  -- a head that was checked is the row's
  pub draft_made : (d : Draft) (id : List ℕ) (ports : List (List ℕ)) → HeadChecked (Ok (id, ports)) head.id head.ports sort r → row_of d ≡ plain_row id ports sort → DraftSays (Ok d) head sort r
  draft_made d id ports h is =
      let same : row_of d ≡ plain_row head.id head.ports sort = is ∙ ap (λ (i : List ℕ). plain_row i ports sort) h.1.0 ∙ ap (λ (ps : List (List ℕ)). plain_row head.id ps sort) h.1.1 in
      let single = not_both (is_taken r.rows head.id) (repeats [] head.ports) h.0 in
      let own = not_both (is_reserved head.id) (list_any (bytes_eq head.id) (ids_of_rows r.rows)) single.0 in
      (ap (λ (row : Row). list_any (bytes_eq row.id) (ids_of_rows r.rows)) same ∙ own.1, λ add. many false h.0 h.1.2 h.1.3 add ∙ ap (λ (row : Row). add row r) (sym same))

  -- and its fault is the line's
  pub draft_refused : (s : Stop WorldFaultKind) → HeadChecked (Err s) head.id head.ports sort r → DraftSays (Err s) head sort r
  draft_refused stop.NoMemory h = tt
  draft_refused (stop.Fault DoubleName) h = double true h
  draft_refused (stop.Fault NoName) h = known false h.0 h.1
  draft_refused (stop.Fault TooMany) h = many true h.0 h.1.0 h.1.1
  draft_refused (stop.Fault Header) h = absurd h.1
  draft_refused (stop.Fault BadLine) h = absurd h.1
  draft_refused (stop.Fault Range) h = absurd h.1
  draft_refused (stop.Fault MomentBack) h = absurd h.1
