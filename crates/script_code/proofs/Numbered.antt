-- The numbers that the names of a script have, and slots that are below a bound.
use Rattle.std.proofs.Common.{◌≡◌, ℕ, zero, suc, ◌+◌, ◌<◌, ◌≤◌, List, [], ◌∷◌, ◌++◌, length, map, Bool, true, false, cond, get_or, true≢false, nat_lt, Some, None, refl, sym, ap, subst, ◌∙◌, inl, inr, arith}
use Rattle.std.specs.Prelude.{if◌then◌else◌, unwrap_or}
use Rattle.std.specs.List.{All, Contains, flat_map, list_any, position_or_len}
use Rattle.std.specs.Str.{bytes_eq}
use Rattle.std.proofs.lemmas.List.Elements.{All-nil, All-cons, All-contains, Contains-append_cases, Contains-append_left, Contains-append_right, Contains-push}
use Rattle.std.proofs.lemmas.Bool.{cases_lt}
use Rattle.std.proofs.lemmas.Bool.Decides.{nat_tests}
use Rattle.std.proofs.lemmas.List.Sums.{fails_before_first, passes_at_first}
use Rattle.std.proofs.lemmas.Slice.Eq.{bytes_eq-Decides}
use Rattle.indexmap.specs.IndexSet.{insert_all, insert_key}
use Rattle.indexmap.proofs.CallerLemmas.{Contains-insert_key}
use Rattle.spec_script.specs.declared.syntax.Stmt.{Stmt}
use Rattle.spec_script.specs.Scripts.{stmt_names}
use Rattle.script_code.specs.Sources.{place_in}
use Rattle.script_code.specs.Statements.{slots_below}
use Rattle.script_code.proofs.Reaches.{All-left, All-right}

-- slots that are below a bound
pub below_all : (slots : List ℕ) (n : ℕ) → slots_below slots ≤ n → All (λ slot. slot < n) slots
below_all [] n low = All-nil (λ slot. slot < n)
below_all (s ∷ ss) n low = All-cons (λ slot. slot < n) s ss (omega (arith, low)) (below_all ss n (omega (arith, low)))

pub all_below : (slots : List ℕ) (n : ℕ) → All (λ slot. slot < n) slots → slots_below slots ≤ n
all_below [] n all = omega arith
all_below (s ∷ ss) n all = omega (arith, all 0 0 (omega arith), all_below ss n (λ k d within. all (suc k) d (omega (arith, within))))

-- the names of one of some statements
pub names_at : (P : List ℕ → Type 0) (stmts : List Stmt) (k : ℕ) (s : Stmt) → k < length stmts → s ≡ get_or stmts k s → All P (flat_map stmt_names stmts) → All P (stmt_names s)
names_at P [] k s within is all = absurd (omega (arith, within))
names_at P (x ∷ xs) zero s within is all = subst (λ (y : Stmt). All P (stmt_names y)) (sym is) (All-left P (stmt_names x) (flat_map stmt_names xs) all)
names_at P (x ∷ xs) (suc k) s within is all = names_at P xs k s (omega (arith, within)) is (All-right P (stmt_names x) (flat_map stmt_names xs) all)

by_less : (a b : ℕ) → a < b → nat_lt a b ≡ true
by_less a b low = grind (arith, nat_tests)

-- ---- names that are inserted one by one

same_bytes : (x y : List ℕ) → bytes_eq x y ≡ true → x ≡ y
same_bytes x y is = (bytes_eq-Decides x y).0 is

-- a name stays where another one is inserted
kept : (names : List (List ℕ)) (x name : List ℕ) → Contains names name → Contains (insert_key bytes_eq names x) name
kept names x name has =
    elim (list_any (bytes_eq x) names) as (λ b. Contains (if b then names else names ++ x ∷ []) name) [
      | true ↦ has
      | false ↦ Contains-append_left names (x ∷ []) name has
    ]

kept_all : (names xs : List (List ℕ)) (name : List ℕ) → Contains names name → Contains (insert_all bytes_eq names xs) name
kept_all names [] name has = has
kept_all names (x ∷ xs) name has = kept_all (insert_key bytes_eq names x) xs name (kept names x name has)

-- each of the names is there
pub inserted : (names xs : List (List ℕ)) → All (Contains (insert_all bytes_eq names xs)) xs
inserted names [] = All-nil (Contains names)
inserted names (x ∷ xs) =
    All-cons (Contains (insert_all bytes_eq (insert_key bytes_eq names x) xs)) x xs
    (kept_all (insert_key bytes_eq names x) xs x (Contains-insert_key bytes_eq same_bytes names x))
    (inserted (insert_key bytes_eq names x) xs)

-- and no other one
pub only_inserted : (P : List ℕ → Type 0) (names xs : List (List ℕ)) → All P names → All P xs → All P (insert_all bytes_eq names xs)
only_inserted P names [] all each = all
only_inserted P names (x ∷ xs) all each =
    only_inserted P (insert_key bytes_eq names x) xs
    (elim (list_any (bytes_eq x) names) as (λ b. All P (if b then names else names ++ x ∷ [])) [
      | true ↦ all
      | false ↦ both names (All-left P (x ∷ []) xs each) all
    ])
    (All-right P (x ∷ []) xs each)
  where
    both : (ns : List (List ℕ)) → All P (x ∷ []) → All P ns → All P (ns ++ x ∷ [])
    both [] one all = one
    both (n ∷ ns) one all = All-cons P n (ns ++ x ∷ []) (all 0 n (omega arith)) (both ns one (λ k d within. all (suc k) d (omega (arith, within))))

-- a name that is there has its place
pub placed : (names : List (List ℕ)) (name : List ℕ) → Contains names name → (place_in names name < length names) × ((d : List ℕ) → get_or names (place_in names name) d ≡ name)
placed names name has =
    let test = bytes_eq name in
    let p = position_or_len test names in
    let here : test (get_or names has.0 name) ≡ true = (bytes_eq-Decides name (get_or names has.0 name)).1 (sym has.2) in
    let inside : p < length names = elim (cases_lt p (length names)) [
      | inl below ↦ below
      | inr past ↦ absurd (true≢false (sym here ∙ fails_before_first test names has.0 name (omega (arith, past, has.1))))
    ] in
    let is : place_in names name ≡ p = ap (λ b. unwrap_or (cond b (Some p) None) 0) (by_less p (length names) inside) in (
      subst (λ (k : ℕ). k < length names) (sym is) inside,
      λ d. ap (λ k. get_or names k d) is ∙ sym (same_bytes name (get_or names p d) (passes_at_first test names d inside)),
    )
