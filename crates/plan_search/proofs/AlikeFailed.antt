-- Plan trees that differ by their keys alone: their terms are the same, and so are the conditions that failed in them.
use Rattle.std.proofs.Common.{◌≡◌, ℕ, ◌+◌, ◌==◌, max, not, List, [], ◌∷◌, refl, ap, ◌∙◌, subst}
use Rattle.std.specs.Prelude.{codes, slice_index_or}
use Rattle.std.specs.List.{filter, range_with_len}
use Rattle.spec_run.specs.declared.note.Note.{Note}
use Rattle.spec_tree.specs.declared.term.Kind.TheVariants.{ReactiveSequence}
use Rattle.spec_tree.specs.declared.term.Term.{Term, roll-Term}
use Rattle.spec_tree.specs.declared.term.Tree.{Tree as Planned}
use Rattle.spec_world.specs.declared.world.Row.{Row}
use Rattle.spec_plan.specs.declared.domain.Template.{Template}
use Rattle.spec_plan.specs.Templates.{is_empty}
use Rattle.spec_plan.specs.declared.part.Part.{Part}
use Rattle.spec_plan.specs.declared.part.Part.TheVariants.{Goals, Sequence, Fallback, Condition, Action}
use Rattle.spec_plan.specs.Forests.{Forest, Empty, Tree}
use Rattle.spec_plan.specs.Planned.{id_of, kind_of, part_id, plain_node, terms_of}
use Rattle.spec_plan.specs.declared.places.Place.{Place}
use Rattle.spec_plan.specs.declared.places.Spot.{Spot}
use Rattle.spec_plan.specs.Failing.{at_level, breadth_first, conditions, failed, first_open, has_failed, has_untried, ids_of, levels, own_place, places_from, spots_from}
use Rattle.spec_plan.specs.PlanRuns.{tree_of}
use Rattle.plan_search.proofs.Alike.{Alike, Marks, Paired, Same, same_marks, untried_alike}
use Rattle.plan_search.proofs.Pairwise.{AllPaired, OptionPaired, append_paired, filter_paired, find_paired, flat_paired, same_maps, self_paired}

-- ---- Terms

pub terms_alike : (rows : List Row) (f g : Forest) → Alike f g → terms_of rows f ≡ terms_of rows g
terms_alike rows Empty Empty alike = refl
terms_alike rows (Tree key part below rest) (Tree other second under others) alike =
    ap (λ (x : Part). roll-Term (plain_node (kind_of x) (part_id rows x) (terms_of rows below)) ∷ terms_of rows rest) alike.0
    ∙ ap (λ (ts : List Term). roll-Term (plain_node (kind_of second) (part_id rows second) ts) ∷ terms_of rows rest) (terms_alike rows below under alike.1)
    ∙ ap (λ (ts : List Term). roll-Term (plain_node (kind_of second) (part_id rows second) (terms_of rows under)) ∷ ts) (terms_alike rows rest others alike.2)
terms_alike rows Empty (Tree other second under others) alike = absurd alike
terms_alike rows (Tree key part below rest) Empty alike = absurd alike

pub tree_alike : (rows : List Row) (f g : Forest) → Alike f g → tree_of rows f ≡ tree_of rows g
tree_alike rows f g alike =
    ap {B = Planned} (λ (ts : List Term). record { main = codes "Plan"; term = slice_index_or ts 0 (roll-Term (plain_node ReactiveSequence (codes "ReactiveSequence") [])) }) (terms_alike rows f g alike)

-- ---- Conditions

module _ (P : ℕ → ℕ → Type 0) where
  -- nodes of one part and level, at keys of which this holds
  record SpotsMatch (s t : Spot) : Type 0 where
    part : s.part ≡ t.part
    level : s.level ≡ t.level
    keys : P s.key t.key

  -- conditions of one number, row and level, at keys of which this holds
  pub record PlacesMatch (c d : Place) : Type 0 where
    pub uid : c.uid ≡ d.uid
    pub row : c.row ≡ d.row
    pub level : c.level ≡ d.level
    pub keys : P c.key d.key

  spots_match : (level : ℕ) (f g : Forest) → Paired P f g → AllPaired SpotsMatch (spots_from level f) (spots_from level g)
  spots_match level Empty Empty p = tt
  spots_match level (Tree key part below rest) (Tree other second under others) (holds, is, lower, later) = (
    record { part = is; level = refl; keys = holds },
    append_paired SpotsMatch (spots_from (level + 1) below) (spots_from (level + 1) under) (spots_from level rest) (spots_from level others)
        (spots_match (level + 1) below under lower) (spots_match level rest others later),
  )
  spots_match level Empty (Tree other second under others) p = absurd p
  spots_match level (Tree key part below rest) Empty p = absurd p

  own_match : (uid key other level up : ℕ) (part : Part) → level ≡ up → P key other → AllPaired PlacesMatch (own_place uid key level part) (own_place uid other up part)
  own_match uid key other level up (Condition row) same holds = (record { uid = refl; row = refl; level = same; keys = holds }, tt)
  own_match uid key other level up Goals same holds = tt
  own_match uid key other level up (Sequence row) same holds = tt
  own_match uid key other level up Fallback same holds = tt
  own_match uid key other level up (Action row) same holds = tt

  places_match : (uid : ℕ) (ss ts : List Spot) → AllPaired SpotsMatch ss ts → AllPaired PlacesMatch (places_from uid ss) (places_from uid ts)
  places_match uid [] [] both = tt
  places_match uid (s ∷ ss) (t ∷ ts) (one, later) =
      append_paired PlacesMatch (own_place uid s.key s.level s.part) (own_place uid t.key t.level t.part) (places_from (uid + 1) ss) (places_from (uid + 1) ts)
      (subst (λ (x : Part). AllPaired PlacesMatch (own_place uid s.key s.level s.part) (own_place uid t.key t.level x)) one.part (own_match uid s.key t.key s.level t.level s.part one.level one.keys))
      (places_match (uid + 1) ss ts later)
  places_match uid [] (t ∷ ts) both = absurd both
  places_match uid (s ∷ ss) [] both = absurd both

  levels_match : (cs ds : List Place) → AllPaired PlacesMatch cs ds → levels cs ≡ levels ds
  levels_match [] [] both = refl
  levels_match (c ∷ cs) (d ∷ ds) (one, later) = ap (λ (n : ℕ). max (n + 1) (levels cs)) one.level ∙ ap (λ (n : ℕ). max (d.level + 1) n) (levels_match cs ds later)
  levels_match [] (d ∷ ds) both = absurd both
  levels_match (c ∷ cs) [] both = absurd both

  level_match : (cs ds : List Place) → AllPaired PlacesMatch cs ds → (n m : ℕ) → n ≡ m → AllPaired PlacesMatch (at_level cs n) (at_level ds m)
  level_match cs ds both n m same =
      filter_paired PlacesMatch (λ (c : Place). c.level == n) (λ (d : Place). d.level == m) cs ds
      (λ (c d : Place) one. ap (λ (x : ℕ). x == n) one.level ∙ ap (λ (x : ℕ). d.level == x) same) both

  breadth_match : (cs ds : List Place) → AllPaired PlacesMatch cs ds → AllPaired PlacesMatch (breadth_first cs) (breadth_first ds)
  breadth_match cs ds both =
      flat_paired (λ (n m : ℕ). n ≡ m) PlacesMatch (at_level cs) (at_level ds) (range_with_len 0 (levels cs)) (range_with_len 0 (levels ds)) (level_match cs ds both)
      (subst (λ (n : ℕ). AllPaired (λ (n m : ℕ). n ≡ m) (range_with_len 0 (levels cs)) (range_with_len 0 n)) (levels_match cs ds both)
      (self_paired (λ (n m : ℕ). n ≡ m) (λ (n : ℕ). refl) (range_with_len 0 (levels cs))))

  pub failed_match : (f g : Forest) → Paired P f g → (notes : List Note) → AllPaired PlacesMatch (failed f notes) (failed g notes)
  failed_match f g p notes =
      breadth_match (filter (λ (c : Place). has_failed notes c.uid) (conditions f)) (filter (λ (c : Place). has_failed notes c.uid) (conditions g))
      (filter_paired PlacesMatch (λ (c : Place). has_failed notes c.uid) (λ (c : Place). has_failed notes c.uid) (conditions f) (conditions g) (λ (c d : Place) one. ap (has_failed notes) one.uid)
      (places_match 1 (spots_from 0 f) (spots_from 0 g) (spots_match 0 f g p)))

-- the same condition in two trees
abbrev pub IsSamePlace : Forest → Forest → Place → Place → Type 0
IsSamePlace f g = PlacesMatch (λ (k j : ℕ). Marks k j f g)

module _ (rows : List Row) (f g : Forest) (same : Same f g) (notes : List Note) where
  all_match : AllPaired (IsSamePlace f g) (failed f notes) (failed g notes)
  all_match = failed_match (λ (k j : ℕ). Marks k j f g) f g (same_marks f g same) notes

  pub ids_alike : ids_of rows (failed f notes) ≡ ids_of rows (failed g notes)
  ids_alike = same_maps (IsSamePlace f g) (λ (c : Place). id_of rows c.row) (λ (d : Place). id_of rows d.row) (failed f notes) (failed g notes) (λ (c d : Place) one. ap (id_of rows) one.row) all_match

  pub open_alike : OptionPaired (IsSamePlace f g) (first_open rows f (failed f notes)) (first_open rows g (failed g notes))
  open_alike =
      find_paired (IsSamePlace f g) (has_untried rows f) (has_untried rows g) (failed f notes) (failed g notes)
      (λ (c d : Place) one. ap (λ (xs : List Template). not (is_empty xs)) (untried_alike rows c.key d.key f g same one.keys)) all_match
