-- The values that a leaf was told, taken one after the other for the names of its outputs.
use Rattle.std.proofs.Common.{◌≡◌, ℕ, zero, suc, ◌<◌, ◌≤◌, List, [], ◌∷◌, length, drop, get_or, Bool, true, false, pos, cond, Option, Some, None, refl, sym, ap, subst, ◌∙◌, arith}
use Rattle.std.specs.Prelude.{option_map, slice_get}
use Rattle.std.specs.List.{AllByRecursion, IsDistinct, find, position_or_len, remove}
use Rattle.std.specs.Str.{bytes_eq}
use Rattle.std.proofs.lemmas.List.Folds.{find_at}
use Rattle.std.proofs.lemmas.List.Sums.{passes_at_first}
use Rattle.std.proofs.lemmas.Map.Keys.{IsDistinct-head, IsDistinct-tail}
use Rattle.std.proofs.lemmas.Option.{slice_get_past, slice_get_read}
use Rattle.std.proofs.lemmas.Slice.Eq.{bytes_eq-Decides}
use Rattle.spec_script.specs.declared.value.Value.{Value}
use Rattle.spec_script.specs.declared.value.Value.TheVariants.{Int}
use Rattle.spec_world.specs.declared.world.ToldOut.{ToldOut}
use Rattle.spec_run.specs.Leaves.{told_for}
use Rattle.base_tables.specs.Outputs.{Outputs}
use Rattle.run_arena.specs.declared.source.Source.{Source}
use Rattle.run_arena.specs.declared.source.Source.TheVariants.{Absent, Lit, Slot}
use Rattle.run_nodes.specs.Calls.{leaf_written, told_written, value_written}

abbrev value_of : Option ToldOut → Option Value
value_of = option_map (λ (out : ToldOut). out.value)

-- some value, for a name of no bytes
abbrev pub unnamed : ToldOut
unnamed = record { port = []; value = Int (pos 0) }

-- whether a value was told for this name
abbrev pub is_for : List ℕ → ToldOut → Bool
is_for name out = bytes_eq out.port name

-- ---- What is found

-- the value at the first place that was told for a name
pub found_value : (told : List ToldOut) (name : List ℕ) (place : ℕ) (out : ToldOut) → place ≡ position_or_len (is_for name) told → place < length told →
    out ≡ get_or told place out → Some out.value ≡ told_for told name
found_value told name place out first within is =
    sym (ap value_of (find_at (is_for name) told ∙ ap (slice_get told) (sym first) ∙ slice_get_read told (length told) place out refl within is))

-- where there is no such place, no value was told for the name
pub found_none : (told : List ToldOut) (name : List ℕ) → length told ≤ position_or_len (is_for name) told → None ≡ told_for told name
found_none told name past = sym (ap value_of (find_at (is_for name) told ∙ slice_get_past told (position_or_len (is_for name) told) past))

-- ---- What is left

-- without one of the values, those that pass another test are found as before
found_without : (p : ToldOut → Bool) (told : List ToldOut) (place : ℕ) (d : ToldOut) → place < length told → p (get_or told place d) ≡ false → find p (remove told place) ≡ find p told
found_without p [] place d within fails = absurd (omega (arith, within))
found_without p (first ∷ told) zero d within fails = sym (ap (λ (b : Bool). cond b (Some first) (find p told)) fails)
found_without p (first ∷ told) (suc place) d within fails =
    ap (λ (rest : Option ToldOut). cond (p first) (Some first) rest) (found_without p told place d (omega (arith, within)) fails)

-- without the first value that was told for a name, what was told for the others is found as before
pub left_for_others : (told : List ToldOut) (name other : List ℕ) (place : ℕ) (d : ToldOut) → place ≡ position_or_len (is_for name) told → place < length told →
    bytes_eq name other ≡ false → told_for (remove told place) other ≡ told_for told other
left_for_others told name other place d first within apart =
    let named : is_for name (get_or told place d) ≡ true =
    ap (λ (k : ℕ). is_for name (get_or told k d)) first ∙ passes_at_first (is_for name) told d (subst (λ (k : ℕ). k < length told) first within) in
    let same : (get_or told place d).port ≡ name = (bytes_eq-Decides (get_or told place d).port name).0 named in
    ap value_of (found_without (is_for other) told place d within (ap (λ (port : List ℕ). bytes_eq port other) same ∙ apart))

-- ---- What is written

-- values are written alike that are found alike
pub written_alike : (names : List (List ℕ)) (sources : List Source) (told left : List ToldOut) (board : List (Option Value)) →
    AllByRecursion (λ (name : List ℕ). told_for left name ≡ told_for told name) names → told_written names sources left board ≡ told_written names sources told board
written_alike [] sources told left board alike = refl
written_alike (name ∷ names) [] told left board alike = refl
written_alike (name ∷ names) (source ∷ sources) told left board alike =
    ap (λ (value : Option Value). told_written names sources left (value_written source value board)) alike.0
    ∙ written_alike names sources told left (value_written source (told_for told name) board) alike.1

others_alike : (told left : List ToldOut) (name : List ℕ) (names : List (List ℕ)) → ((other : List ℕ) → bytes_eq name other ≡ false → told_for left other ≡ told_for told other) →
    AllByRecursion (λ (other : List ℕ). bytes_eq name other ≡ false) names → AllByRecursion (λ (other : List ℕ). told_for left other ≡ told_for told other) names
others_alike told left name [] others apart = tt
others_alike told left name (other ∷ names) others apart = (others other apart.0, others_alike told left name names others apart.1)

-- one more value is written
pub written_more : (names : List (List ℕ)) (sources : List Source) (name : List ℕ) (source : Source) (told left : List ToldOut) (board : List (Option Value)) →
    IsDistinct bytes_eq (name ∷ names) → ((other : List ℕ) → bytes_eq name other ≡ false → told_for left other ≡ told_for told other) →
    told_written names sources left (value_written source (told_for told name) board) ≡ told_written (name ∷ names) (source ∷ sources) told board
written_more names sources name source told left board apart others =
    written_alike names sources told left (value_written source (told_for told name) board)
    (others_alike told left name names others (IsDistinct-head bytes_eq name names apart))

-- nothing is written where nothing was told
nothing_for : (source : Source) (board : List (Option Value)) → value_written source None board ≡ board
nothing_for Absent board = refl
nothing_for (Lit value) board = refl
nothing_for (Slot slot) board = refl

pub nothing_told : (names : List (List ℕ)) (sources : List Source) (board : List (Option Value)) → told_written names sources [] board ≡ board
nothing_told [] sources board = refl
nothing_told (name ∷ names) [] board = refl
nothing_told (name ∷ names) (source ∷ sources) board =
    ap (told_written names sources []) (nothing_for source board) ∙ nothing_told names sources board

-- the names that are left still differ
pub differ_from : (names : List (List ℕ)) (place : ℕ) → IsDistinct bytes_eq names → IsDistinct bytes_eq (drop place names)
differ_from [] zero apart = apart
differ_from [] (suc place) apart = apart
differ_from (name ∷ names) zero apart = apart
differ_from (name ∷ names) (suc place) apart = differ_from names place (IsDistinct-tail bytes_eq name names apart)

-- nothing is written where there are no sources
pub no_sources : (names : List (List ℕ)) (told : List ToldOut) (board : List (Option Value)) → told_written names [] told board ≡ board
no_sources [] told board = refl
no_sources (name ∷ names) told board = refl

-- where a leaf has names for values, and none was told, its board stays
pub untold_leaf : (names : List (List ℕ)) (sources : List Source) (given : Outputs) (board : List (Option Value)) → 1 ≤ length names → [] ≡ given.told →
    board ≡ leaf_written names sources given board
untold_leaf [] sources given board some none = absurd (omega (arith, some))
untold_leaf (name ∷ names) sources given board some none =
    sym (nothing_told (name ∷ names) sources board) ∙ ap (λ (told : List ToldOut). told_written (name ∷ names) sources told board) none
