-- What is kept of leaves is a map, of which each entry is one of the table.
use Rattle.std.proofs.Common.{◌≡◌, ℕ, Bool, true, false, cond, if◌then◌else◌, List, [], ◌∷◌, ◌++◌, Option, Some, None, Result, Ok, Err, refl, sym, ap, ◌∙◌}
use Rattle.std.specs.Prelude.{OnOk, bytes_eq, is_some}
use Rattle.std.specs.Cmp.Lexicographic.{nat_list_eq_equiv}
use Rattle.std.specs.List.{AllByRecursion, IsDistinct}
use Rattle.std.specs.Map.{keys_of, lookup, set_value}
use Rattle.std.proofs.lemmas.Map.Keys.{IsDistinct-head, IsDistinct-tail}
use Rattle.std.proofs.lemmas.Map.Made.{is_some-lookup}
use Rattle.indexmap.specs.IndexMap.{IndexMap, insert_entry}
use Rattle.indexmap.proofs.CallerLemmas.{insert_entry-new}
use Rattle.cli_serve.specs.Leaves.{Leaves, Seen, changed_at, unseen, with_id}

-- ---- One ID more

pub none_is : {A : Type 0} (o : Option A) → is_some o ≡ false → o ≡ None
none_is None e = refl
none_is (Some x) e = absurd (cc)

-- an ID that is there
pub id_kept : (es : Leaves) (id : List ℕ) → is_some (lookup (bytes_eq id) es) ≡ true → es ≡ with_id id es
id_kept es id there = ap (λ (b : Bool). if b then es else es ++ (id, unseen) ∷ []) (sym there ∙ is_some-lookup (bytes_eq id) es)

-- a new one
pub id_added : {S : Type 0} (m : IndexMap (List ℕ) Seen S) (more : Leaves) (id key : List ℕ) (seen : Seen) → is_some (lookup (bytes_eq id) m.entries) ≡ false → key ≡ id → seen ≡ unseen
    → more ≡ insert_entry bytes_eq m.entries key seen → more ≡ with_id id m.entries
id_added m more id key seen gone is nothing added =
    added ∙ (λ i. insert_entry bytes_eq m.entries (is i) (nothing i))
    ∙ insert_entry-new bytes_eq m id unseen (none_is (lookup (bytes_eq id) m.entries) gone)
    ∙ ap (λ (b : Bool). if b then m.entries else m.entries ++ (id, unseen) ∷ []) (sym gone ∙ is_some-lookup (bytes_eq id) m.entries)

-- ---- A change at an ID

module _ (id : List ℕ) (change : Seen → Seen) where
  -- an ID that is not there
  pub none_changed : (es : Leaves) → lookup (bytes_eq id) es ≡ None → es ≡ changed_at id change es
  none_changed [] gone = refl
  none_changed (e ∷ es) gone = by (bytes_eq id e.0) gone (none_changed es)
    where
      by : (b : Bool) → cond b (Some e.1) (lookup (bytes_eq id) es) ≡ None → (lookup (bytes_eq id) es ≡ None → es ≡ changed_at id change es)
          → e ∷ es ≡ (if b then (e.0, change e.1) else e) ∷ changed_at id change es
      by true gone more = absurd (cc)
      by false gone more = ap (λ (all : Leaves). e ∷ all) (more gone)

  others_differ : (key : List ℕ) (es : Leaves) → bytes_eq id key ≡ true → AllByRecursion (λ y. bytes_eq key y ≡ false) (keys_of es) → es ≡ changed_at id change es
  others_differ key [] same all = refl
  others_differ key (e ∷ es) same all =
      let apart : bytes_eq id e.0 ≡ false = nat_list_eq_equiv.congr id key e.0 same ∙ all.0 in
      ap (λ (rest : Leaves). e ∷ rest) (others_differ key es same all.1)
      ∙ ap (λ (b : Bool). (if b then (e.0, change e.1) else e) ∷ changed_at id change es) (sym apart)

  -- one that is there
  pub one_changed : (es : Leaves) (old new : Seen) → IsDistinct bytes_eq (keys_of es) → lookup (bytes_eq id) es ≡ Some old → new ≡ change old → set_value (bytes_eq id) es new ≡ changed_at id change es
  one_changed [] old new distinct found is = refl
  one_changed (e ∷ es) old new distinct found is =
      by (bytes_eq id e.0) refl found (λ more. one_changed es old new (IsDistinct-tail bytes_eq e.0 (keys_of es) distinct) more is)
    where
      by : (b : Bool) → bytes_eq id e.0 ≡ b → cond b (Some e.1) (lookup (bytes_eq id) es) ≡ Some old → (lookup (bytes_eq id) es ≡ Some old → set_value (bytes_eq id) es new ≡ changed_at id change es)
          → cond b ((e.0, new) ∷ es) (e ∷ set_value (bytes_eq id) es new) ≡ (if b then (e.0, change e.1) else e) ∷ changed_at id change es
      by true same found more =
          let value : e.1 ≡ old = cc in
          ap (λ (seen : Seen). (e.0, seen) ∷ es) (is ∙ ap change (sym value))
          ∙ ap (λ (rest : Leaves). (e.0, change e.1) ∷ rest) (others_differ e.0 es same (IsDistinct-head bytes_eq e.0 (keys_of es) distinct))
      by false apart found more = ap (λ (rest : Leaves). e ∷ rest) (more found)

-- a fact of a call that was done
pub on_ok : {A E P Q : Type 0} (r : Result A E) → (P → Q) → OnOk r P → OnOk r Q
on_ok (Ok x) f h = f h
on_ok (Err e) f h = tt
