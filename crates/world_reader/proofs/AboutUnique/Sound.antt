-- The world that lines make is valid after each of them.
use Rattle.std.proofs.Common.{◌≡◌, ℕ, ◌<◌, ◌≤◌, ◌^◌, Bool, true, false, not, ◌||◌, ◌==◌, List, [], ◌∷◌, ◌++◌, map, length, ℤ, pos, negsuc, Option, Some, None, Result, Ok, Err, refl, sym, ap, ◌∙◌, subst, arith, if◌then◌else◌}
use Rattle.std.specs.Prelude.{IsTrue, bytes_eq, nat_eq, nat_le, nat_lt, nat_abs, is_some, option_and_then, option_map, position, slice_get}
use Rattle.std.specs.Option.{option_to_list}
use Rattle.std.specs.List.{All, Contains, IsDistinct, list_any}
use Rattle.std.proofs.lemmas.Cmp.{nat_list_eq_equiv}
use Rattle.std.proofs.lemmas.Bool.Decides.{nat_tests}
use Rattle.std.proofs.lemmas.List.{append-nil, append_assoc, length-map}
use Rattle.std.proofs.lemmas.List.Elements.{All-push, All-weaker, All-nil}
use Rattle.std.proofs.lemmas.List.Folds.{list_any-append}
use Rattle.std.proofs.lemmas.List.Quantifiers.{position-Some}
use Rattle.std.proofs.lemmas.List.Sums.{AllPass-from_list_all}
use Rattle.std.proofs.lemmas.Map.Keys.{IsDistinct-push}
use Rattle.std.proofs.lemmas.Map.Views.{Contains-from_any}
use Rattle.std.proofs.lemmas.Option.{slice_get-map}
use Rattle.std.proofs.lemmas.Slice.Eq.{bytes_eq-Decides}
use Rattle.spec_script.proofs.Bools.{both}
use Rattle.script_reader.proofs.Alone.{stmt-not_rest}
use Rattle.spec_script.specs.Grammar.{fits, height, spelled}
use Rattle.spec_script.specs.Reading.{ReadsExpr, first_place, tokens_of}
use Rattle.spec_script.specs.declared.syntax.Expr.{Expr}
use Rattle.spec_script.specs.declared.syntax.Stmt.TheVariants.{Plain}
use Rattle.spec_script.specs.declared.token.Placed.{Placed}
use Rattle.spec_script.specs.declared.token.Token.{Token}
use Rattle.spec_script.specs.Scripts.{names_of}
use Rattle.spec_world.specs.declared.world.Event.{Event}
use Rattle.spec_world.specs.declared.world.Fact.{Fact}
use Rattle.spec_world.specs.declared.world.Row.{Row}
use Rattle.spec_world.specs.declared.world.What.{What}
use Rattle.spec_world_file.specs.declared.world_fault.WorldFaultKind.{WorldFaultKind}
use Rattle.spec_world.specs.Worlds.{AreNames, AreNumbers, IsComparisonIn, IsExprOver, IsValidWhat, IsValidWorld, ids_of_rows, is_comparison, is_name, names_of_facts}
use Rattle.spec_tree.specs.Numbers.{in_range, is_int}
use Rattle.spec_world_file.specs.WorldFile.{Reading, ReadsNumeric, closed, comparison_number, fact_number, is_known, is_ms, is_uid, knows_all, numbered, placed, ranged, repeats, runners_of, where_compares, with_event, with_fact, with_goal, with_moment, with_runners, world_of}
use Rattle.world_reader.proofs.AboutUnique.Grown.{world_with_event, world_with_fact, world_with_goal, world_with_runners}

-- the world so far is valid
pub record Sound (r : Reading) : Type 0 where
  pub world : IsValidWorld (world_of r)
  pub late : All (λ e. e.at ≤ r.moment) r.events
  pub moment : r.moment ≤ 1000000000000

abbrev pub Stays : Result Reading WorldFaultKind → Type 0
Stays (Ok r) = Sound r
Stays (Err kind) = Unit {0}

-- ---- Tests

pub not_both : (a b : Bool) → (a || b) ≡ false → (a ≡ false) × (b ≡ false)
not_both true b h = absurd (cc)
not_both false b h = (refl, h)

pub not_not : (b : Bool) → not b ≡ false → b ≡ true
not_not true h = refl
not_not false h = sym h

pub any-map : {X Y : Type 0} (p : Y → Bool) (f : X → Y) (xs : List X) → list_any p (map f xs) ≡ list_any (λ x. p (f x)) xs
any-map p f [] = refl
any-map p f (x ∷ xs) = ap (λ (b : Bool). p (f x) || b) (any-map p f xs)

pub stays_else : (b : Bool) (kind : WorldFaultKind) (said : Result Reading WorldFaultKind) → (b ≡ false → Stays said) → Stays (if b then Err kind else said)
stays_else true kind said h = tt
stays_else false kind said h = h refl

pub stays_ranged : (b : Bool) (said : Result Reading WorldFaultKind) → (b ≡ true → Stays said) → Stays (ranged b said)
stays_ranged true said h = h refl
stays_ranged false said h = tt

pub stays_placed : (b : Bool) (said : Result Reading WorldFaultKind) → (b ≡ true → Stays said) → Stays (placed b said)
stays_placed true said h = h refl
stays_placed false said h = tt

pub stays_numbered : (o : Option ℕ) (said : ℕ → Result Reading WorldFaultKind) → ((n : ℕ) → o ≡ Some n → Stays (said n)) → Stays (numbered o said)
stays_numbered None said h = tt
stays_numbered (Some n) said h = h n refl

pub below : (a b : ℕ) → nat_le a b ≡ false → b < a
below a b h = grind (arith, nat_tests)

pub at_most : (a b : ℕ) → nat_lt a b ≡ false → b ≤ a
at_most a b h = grind (arith, nat_tests)

pub ms_most : (z : ℤ) → is_ms z ≡ true → nat_abs z ≤ 1000000000000
ms_most (pos n) h = grind (arith, nat_tests)
ms_most (negsuc n) h = absurd (cc)

pub uid_within : (z : ℤ) → is_uid z ≡ true → nat_abs z < 2 ^ 32
uid_within (pos n) h = grind (arith, nat_tests)
uid_within (negsuc n) h = absurd (cc)

pub runner_within : (most : ℕ) (z : ℤ) → in_range (pos 1) (pos most) z ≡ true → (1 ≤ nat_abs z) × (nat_abs z ≤ most)
runner_within most (pos n) h = let k = both (nat_le 1 n) (nat_le n most) h in (grind (arith, nat_tests), grind (arith, nat_tests))
runner_within most (negsuc n) h = absurd (cc)

-- ---- Names

same : (x y : List ℕ) → bytes_eq x y ≡ true → x ≡ y
same x y h = (bytes_eq-Decides x y).0 h

pub nothing_distinct : {K : Type 0} (e : K → K → Bool) → IsDistinct e []
unfolding IsDistinct
nothing_distinct e = tt

pub distinct_ports : (earlier names : List (List ℕ)) → IsDistinct bytes_eq earlier → repeats earlier names ≡ false → IsDistinct bytes_eq (earlier ++ names)
distinct_ports earlier [] d h = subst (IsDistinct bytes_eq) (sym (append-nil earlier)) d
distinct_ports earlier (x ∷ xs) d h =
    let k = not_both (list_any (bytes_eq x) earlier) (repeats (earlier ++ x ∷ []) xs) h in
    subst (IsDistinct bytes_eq) (append_assoc earlier (x ∷ []) xs) (distinct_ports (earlier ++ x ∷ []) xs (IsDistinct-push nat_list_eq_equiv earlier x d k.0) k.1)

pub no_names : (most : ℕ) → AreNames most []
no_names most = record { few = omega arith; named = All-nil (λ n. IsTrue (is_name n)); distinct = nothing_distinct bytes_eq }

pub no_numbers : (most : ℕ) → AreNumbers most []
no_numbers most = record { few = omega arith; distinct = nothing_distinct nat_eq }

pub fact_there : (facts : List Fact) (name : List ℕ) (n : ℕ) → fact_number facts name ≡ Some n → n < length facts
fact_there facts name n h = omega (arith, length-map facts (λ f. f.name), (position-Some (bytes_eq name) (names_of_facts facts) n [] h).0)

compared_row : (rows : List Row) (o : Option Row) (m n : ℕ) → slice_get rows m ≡ o → where_compares o m ≡ Some n → IsComparisonIn rows n
compared_row rows None m n at h = absurd (cc)
compared_row rows (Some row) m n at h = by (is_comparison row.sort) refl
  where
    by : (b : Bool) → is_comparison row.sort ≡ b → IsComparisonIn rows n
    by false e = let k : (if false then Some m else None) ≡ Some n = subst (λ (t : Bool). (if t then Some m else None) ≡ Some n) e h in absurd (cc)
    by true e =
        let k : (if true then Some m else None) ≡ Some n = subst (λ (t : Bool). (if t then Some m else None) ≡ Some n) e h in
        let is : m ≡ n = cc in
        subst (IsComparisonIn rows) is (slice_get-map (λ r. is_comparison r.sort) rows m ∙ ap (option_map (λ r. is_comparison r.sort)) at ∙ ap (λ (t : Bool). Some t) e)

pub comparison_there : (rows : List Row) (id : List ℕ) (n : ℕ) → comparison_number rows id ≡ Some n → IsComparisonIn rows n
comparison_there rows id n h = by (position (bytes_eq id) (ids_of_rows rows)) h
  where
    by : (o : Option ℕ) → option_and_then (λ m. where_compares (slice_get rows m) m) o ≡ Some n → IsComparisonIn rows n
    by None k = absurd (cc)
    by (Some m) k = compared_row rows (slice_get rows m) m n refl k

-- ---- Expressions

placed_first : (e : Expr) (ts : List Placed) (t : Bool) → nat_le (height e) 64 ≡ t → 0 < length ts → (if t then None else first_place ts) ≡ None → t ≡ true
placed_first e ts true is some h = refl
placed_first e [] false is some h = absurd (omega arith)
placed_first e (t ∷ ts) false is some h = absurd (cc)

longer : (ts : List Token) → (ts ≡ [] → ⊥) → 0 < length ts
longer [] h = absurd (h refl)
longer (t ∷ ts) h = omega arith

some_token : (e : Expr) → fits e 0 ≡ true → 0 < length (spelled e)
some_token e fit = longer (spelled e) (λ h. stmt-not_rest (Plain e) [] [] fit tt tt (sym h ∙ sym (append-nil (spelled e))))

low_expr : (text : List ℕ) (e : Expr) → ReadsExpr text e → height e ≤ 64
low_expr text e h =
    let some : 0 < length (spelled e) = some_token e h.is.fit in
    let tokens : 0 < length (tokens_of text) = omega (arith, length-map (tokens_of text) (λ t. t.token), ap (λ (ts : List Token). length ts) h.is.written) in
    let low : nat_le (height e) 64 ≡ true = placed_first e (tokens_of text) (nat_le (height e) 64) refl tokens h.low in
    grind (arith, nat_tests)

named_expr : (ports : List (List ℕ)) (facts : List Fact) (e : Expr) → knows_all ports facts e ≡ true → All (Contains (ports ++ names_of_facts facts)) (names_of e)
named_expr ports facts e h =
    All-weaker (λ n. is_known ports facts n ≡ true) (Contains (ports ++ names_of_facts facts))
    (λ n k. Contains-from_any same n (ports ++ names_of_facts facts) (list_any-append (bytes_eq n) ports (names_of_facts facts) ∙ k))
    (names_of e) (AllPass-from_list_all (is_known ports facts) (names_of e) h)

pub valid_expr : (text : List ℕ) (ports : List (List ℕ)) (facts : List Fact) (e : Expr) → ReadsNumeric text (Some e) → knows_all ports facts e ≡ true → IsExprOver ports (names_of_facts facts) e
valid_expr text ports facts e reads known = record { low = low_expr text e reads.0; textless = reads.1; named = named_expr ports facts e known }

-- ---- Lines that add no row

pub sound_closed : (r : Reading) → Sound r → Sound (closed r)
sound_closed r h = record {
  world = subst (λ (rows : List Row). IsValidWorld (record (world_of r) { rows = rows })) (sym (append-nil (r.rows ++ option_to_list r.open_row))) h.world;
  late = h.late;
  moment = h.moment;
}

pub stays_fact : (r : Reading) (name : List ℕ) (opening : ℤ) → Sound r → is_name name ≡ true → is_int opening ≡ true → Stays (with_fact name opening r)
stays_fact r name opening h named int =
    stays_else (list_any (bytes_eq name) (names_of_facts r.facts)) _ _ (λ free.
    stays_else (nat_le 1024 (length r.facts)) _ _ (λ room.
    record {
      world = world_with_fact r.facts (record { name = name; opening = opening }) (world_of r) refl h.world named free (below 1024 (length r.facts) room) int;
      late = h.late;
      moment = h.moment;
    }))

pub stays_goal : (r : Reading) (n : ℕ) → Sound r → IsComparisonIn (closed r).rows n → Stays (with_goal n r)
stays_goal r n h there =
    stays_else (list_any (nat_eq n) r.goals) _ _ (λ free.
    stays_else (nat_le 64 (length r.goals)) _ _ (λ room.
    record {
      world = world_with_goal (world_of r) n h.world there free (below 64 (length r.goals) room);
      late = h.late;
      moment = h.moment;
    }))

none_left : {X : Type 0} (xs : List X) → (length xs == 0) ≡ true → xs ≡ []
none_left [] h = refl
none_left (x ∷ xs) h = absurd (grind arith)

pub stays_runners : (r : Reading) (count : ℕ) → Sound r → (length r.events == 0) ≡ true → (1 ≤ count) × (count ≤ 16) → Stays (with_runners count r)
stays_runners r count h none within =
    stays_else (is_some r.runners) _ _ (λ free.
    record {
      world = world_with_runners (world_of r) count h.world (none_left r.events none) within.0 within.1;
      late = h.late;
      moment = h.moment;
    })

pub stays_moment : (r : Reading) (ms : ℕ) → Sound r → ms ≤ 1000000000000 → Stays (with_moment ms r)
stays_moment r ms h most =
    stays_else (nat_lt ms r.moment) _ _ (λ on.
    record {
      world = h.world;
      late = All-weaker (λ e. e.at ≤ r.moment) (λ e. e.at ≤ ms) (λ e k. omega (arith, at_most ms r.moment on)) r.events h.late;
      moment = most;
    })

pub stays_event : (r : Reading) (what : What) → Sound r → IsValidWhat r.facts (runners_of r) what → Stays (with_event what r)
stays_event r what h valid =
    stays_else (nat_le 100000 (length r.events)) _ _ (λ room.
    let event : Event = record { at = r.moment; what = what } in
    record {
      world = world_with_event (world_of r) event h.world (h.moment, valid) h.late (below 100000 (length r.events) room);
      late = All-push (λ e. e.at ≤ r.moment) r.events event h.late (omega arith);
      moment = h.moment;
    })
