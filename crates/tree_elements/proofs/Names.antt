-- Names that are met one after the other, against names of which none occurs twice.
use Rattle.std.proofs.Common.{◌≡◌, ℕ, ◌+◌, ◌<◌, Bool, true, false, cond, not, ◌&&◌, ◌||◌, List, [], ◌∷◌, ◌++◌, length, get_or, take, drop, refl, ap, sym, ◌∙◌}
use Rattle.std.proofs.lemmas.List.{take_more, take-append-drop}
use Rattle.std.proofs.lemmas.List.Folds.{list_any-append, list_any_more}
use Rattle.std.proofs.lemmas.Bool.Decides.{same_from_decides}
use Rattle.std.proofs.lemmas.Slice.Eq.{bytes_eq-Decides}
use Rattle.std.specs.Cmp.Derive.{both_true}
use Rattle.std.specs.List.{list_any}
use Rattle.std.specs.Str.{bytes_eq}
use Rattle.spec_script.proofs.Bools.{both}
use Rattle.spec_tree_file.specs.Marks.{no_name_twice}

same_either_way : (a b : List ℕ) → bytes_eq a b ≡ bytes_eq b a
same_either_way a b =
    same_from_decides (bytes_eq a b) (bytes_eq b a) (bytes_eq-Decides a b) (λ h. sym ((bytes_eq-Decides b a).0 h), λ e. (bytes_eq-Decides b a).1 (sym e))

shuffle : (a e t b : Bool) → (not (a || (e || false)) && (t && not b)) ≡ ((not a && t) && not (e || b))
shuffle true e t b = refl
shuffle false true true b = refl
shuffle false true false b = refl
shuffle false false t b = refl

-- whether the attributes have this name
abbrev pub has_name : List ℕ → List (List ℕ × List ℕ) → Bool
has_name q list = list_any (λ b. bytes_eq b.0 q) list

-- one more attribute at the end
twice_more : (xs : List (List ℕ × List ℕ)) (a : List ℕ × List ℕ) → no_name_twice (xs ++ a ∷ []) ≡ (no_name_twice xs && not (has_name a.0 xs))
twice_more [] a = refl
twice_more (x ∷ xs) a =
    ap (λ (z : Bool). not z && no_name_twice (xs ++ a ∷ [])) (list_any-append (λ b. bytes_eq b.0 x.0) xs (a ∷ []))
    ∙ ap (λ (z : Bool). not (has_name x.0 xs || (bytes_eq a.0 x.0 || false)) && z) (twice_more xs a)
    ∙ ap (λ (z : Bool). not (has_name x.0 xs || (z || false)) && (no_name_twice xs && not (has_name a.0 xs))) (same_either_way a.0 x.0)
    ∙ shuffle (has_name x.0 xs) (bytes_eq x.0 a.0) (no_name_twice xs) (has_name a.0 xs)

not_first : (a b : Bool) → not (a || b) ≡ true → not a ≡ true
not_first true b h = h
not_first false b h = refl

-- a prefix of names of which none stands twice has none that does
twice_kept : (xs ys : List (List ℕ × List ℕ)) → no_name_twice (xs ++ ys) ≡ true → no_name_twice xs ≡ true
twice_kept [] ys h = refl
twice_kept (x ∷ xs) ys h =
    let t = both (not (has_name x.0 (xs ++ ys))) (no_name_twice (xs ++ ys)) h in
    both_true (not_first (has_name x.0 xs) (has_name x.0 ys) (sym (ap not (list_any-append (λ b. bytes_eq b.0 x.0) xs ys)) ∙ t.0)) (twice_kept xs ys t.1)

-- one more attribute that was looked at
pub names_single : (list : List (List ℕ × List ℕ)) (i : ℕ) (a : List ℕ × List ℕ) → i < length list → a ≡ get_or list i a →
    no_name_twice (take (i + 1) list) ≡ (no_name_twice (take i list) && not (has_name a.0 (take i list)))
names_single list i a h is =
    ap no_name_twice (take_more list i a h ∙ ap (λ (z : List ℕ × List ℕ). take i list ++ z ∷ []) (sym is)) ∙ twice_more (take i list) a

either_cond : (x y : Bool) → cond x true y ≡ (y || x)
either_cond true true = refl
either_cond true false = refl
either_cond false true = refl
either_cond false false = refl

pub names_more : (list : List (List ℕ × List ℕ)) (i : ℕ) (a : List ℕ × List ℕ) (q : List ℕ) (old new : Bool) → i < length list → a ≡ get_or list i a →
    old ≡ has_name q (take i list) → new ≡ cond (bytes_eq a.0 q) true old → new ≡ has_name q (take (i + 1) list)
names_more list i a q old new h is was now =
    now ∙ either_cond (bytes_eq a.0 q) old ∙ ap (λ (z : Bool). z || bytes_eq a.0 q) was
    ∙ ap (λ (z : List ℕ × List ℕ). has_name q (take i list) || bytes_eq z.0 q) is
    ∙ sym (list_any_more (λ b. bytes_eq b.0 q) list i a h)

false_unless : (b : Bool) → (b ≡ true → ⊥) → false ≡ b
false_unless true h = absurd (h refl)
false_unless false h = refl

clash : (t b : Bool) → b ≡ true → (t && not b) ≡ true → ⊥
clash t false h k = cc
clash true true h k = cc
clash false true h k = cc

-- a name that was met before occurs twice
pub found_twice : (list : List (List ℕ × List ℕ)) (i : ℕ) (a : List ℕ × List ℕ) → i < length list → a ≡ get_or list i a → has_name a.0 (take i list) ≡ true → false ≡ no_name_twice list
found_twice list i a h is found =
    false_unless (no_name_twice list) (λ all.
    clash (no_name_twice (take i list)) (has_name a.0 (take i list)) found
    (sym (names_single list i a h is) ∙ twice_kept (take (i + 1) list) (drop (i + 1) list) (ap no_name_twice (take-append-drop (i + 1) list) ∙ all)))

pub was_true : (b : Bool) → not b ≡ false → b ≡ true
was_true true h = refl
was_true false h = absurd (cc)

pub was_false : (b : Bool) → not b ≡ true → b ≡ false
was_false true h = absurd (cc)
was_false false h = refl
