-- The IDs of rows, as IDs of leaves that can be written.
use Rattle.std.proofs.Common.{◌≡◌, ℕ, zero, suc, ◌<◌, Bool, true, false, ◌||◌, if◌then◌else◌, List, [], ◌∷◌, length, map, get_or, Option, Some, None, refl, ap, sym, ◌∙◌, subst, arith, inl, inr}
use Rattle.std.specs.Prelude.{slice_get}
use Rattle.std.specs.Cmp.Derive.{both_true}
use Rattle.std.specs.List.{list_all}
use Rattle.std.specs.Option.{option_map_or}
use Rattle.std.specs.Str.{IsAscii, bytes_eq}
use Rattle.std.proofs.lemmas.Bool.Decides.{nat_tests}
use Rattle.std.proofs.lemmas.List.{length-map}
use Rattle.std.proofs.lemmas.Option.{slice_get_cases}
use Rattle.std.proofs.lemmas.Str.{IsUtf8-from_ascii, is_utf8-from_IsUtf8}
use Rattle.spec_script.proofs.Bools.{both}
use Rattle.spec_script.specs.Identifiers.{is_identifier, is_identifier_continue, is_identifier_start}
use Rattle.spec_script.specs.Texts.{is_not_zero, value_stands}
use Rattle.spec_tree.specs.declared.term.Kind.{Kind}
use Rattle.spec_world.specs.declared.world.Row.{Row}
use Rattle.spec_world.specs.declared.world.World.{World}
use Rattle.spec_tree.specs.BuiltIns.{kind_among, kind_named, named_kinds}
use Rattle.spec_tree.specs.Names.{built_in_names, format_names, is_among, is_reserved}
use Rattle.spec_world.specs.Worlds.{IsValidRow, IsValidWorld, is_name}
use Rattle.spec_plan.specs.Planned.{id_of}

letter_some : (c : ℕ) → is_identifier_continue c ≡ true → is_not_zero c ≡ true
letter_some c is = grind (arith, nat_tests)

letter_low : (c : ℕ) → is_identifier_continue c ≡ true → c < 128
letter_low c is = grind (arith, nat_tests)

letters_some : (cs : List ℕ) → list_all is_identifier_continue cs ≡ true → list_all is_not_zero cs ≡ true
letters_some [] all = refl
letters_some (c ∷ cs) all = let t = both (is_identifier_continue c) (list_all is_identifier_continue cs) all in both_true (letter_some c t.0) (letters_some cs t.1)

letters_low : (cs : List ℕ) → list_all is_identifier_continue cs ≡ true → IsAscii cs
letters_low [] all i = omega arith
letters_low (c ∷ cs) all zero = letter_low c (both (is_identifier_continue c) (list_all is_identifier_continue cs) all).0
letters_low (c ∷ cs) all (suc i) = letters_low cs (both (is_identifier_continue c) (list_all is_identifier_continue cs) all).1 i

letters : (name : List ℕ) → is_identifier name ≡ true → list_all is_identifier_continue name ≡ true
letters [] is = refl
letters (c ∷ cs) is = (both (is_identifier_start c) (list_all is_identifier_continue (c ∷ cs)) is).1

-- an identifier can be written
pub identifier_stands : (name : List ℕ) → is_identifier name ≡ true → value_stands name ≡ true
identifier_stands name is =
    let all = letters name is in both_true (letters_some name all) (is_utf8-from_IsUtf8 name (IsUtf8-from_ascii name (letters_low name all)))

neither : (a b : Bool) → (a || b) ≡ false → (a ≡ false) × (b ≡ false)
neither true b is = absurd (cc is)
neither false b is = (refl, is)

-- a name that no row of a table has
not_among : (table : List (List ℕ × Kind)) (name : List ℕ) → is_among name (map (λ (row : List ℕ × Kind). row.0) table) ≡ false → kind_among table name ≡ None
not_among [] name is = refl
not_among (row ∷ table) name is =
    let t = neither (bytes_eq name row.0) (is_among name (map (λ (other : List ℕ × Kind). other.0) table)) is in
    ap (λ (b : Bool). if b then Some row.1 else kind_among table name) t.0 ∙ not_among table name t.1

-- a name that is not kept is that of no built-in node
pub free_name : (name : List ℕ) → is_reserved name ≡ false → kind_named name ≡ None
unfolding named_kinds
free_name name free = not_among named_kinds name (neither (is_among name built_in_names) (is_among name format_names) free).0

-- the ID of a row
pub record IsLeafId (id : List ℕ) : Type 0 where
  pub own : kind_named id ≡ None
  pub stands : value_stands id ≡ true

name_at : (rows : List Row) (n : ℕ) (found : Row) → slice_get rows n ≡ Some found → is_name (get_or (map (λ (r : Row). r.id) rows) n []) ≡ true → is_name found.id ≡ true
name_at [] n found there is = absurd (cc there)
name_at (row ∷ rows) zero found there is = let same : row ≡ found = cc there in subst (λ (r : Row). is_name r.id ≡ true) same is
name_at (row ∷ rows) (suc n) found there is = name_at rows n found there is

pub leaf_id : (world : World) → IsValidWorld world → (row : ℕ) → row < length world.rows → IsLeafId (id_of world.rows row)
leaf_id world valid row within = elim (slice_get_cases world.rows row).1 [
  | inl (found, inside, there, at) ↦
      let fits : IsValidRow world.facts world.rows found = subst (λ (r : Row). IsValidRow world.facts world.rows r) at (valid.rows row found within) in
      let e : id_of world.rows row ≡ found.id = ap (λ (o : Option Row). option_map_or (λ (r : Row). r.id) o []) there in
      let named : is_name found.id ≡ true = name_at world.rows row found there (valid.ids.named row [] (subst (λ (n : ℕ). row < n) (sym (length-map world.rows (λ (r : Row). r.id))) within)) in
      let name = both (is_identifier found.id) _ named in
      record {
        own = ap kind_named e ∙ free_name found.id fits.own;
        stands = ap value_stands e ∙ identifier_stands found.id name.0;
      }
  | inr (past, none) ↦ absurd (omega (arith, past, within))
]
