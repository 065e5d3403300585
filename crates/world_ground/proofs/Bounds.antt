-- No sum in the size of a text is too large for a number of 64 bits.
use Rattle.std.proofs.Common.{◌≡◌, ℕ, zero, suc, ◌+◌, ◌*◌, ◌<◌, ◌≤◌, ◌^◌, true, ◌==◌, List, [], ◌∷◌, length, drop, get_or, refl, ◌∙◌, ap, arith}
use Rattle.std.specs.Prelude.{nat_le, decimal}
use Rattle.std.specs.List.{list_all}
use Rattle.std.proofs.Math.Nat.{mul-le-mul}
use Rattle.std.proofs.lemmas.Bool.Decides.{nat_tests}
use Rattle.std.proofs.lemmas.Fmt.{length-decimal-le}
use Rattle.std.proofs.lemmas.List.{drop_more}
use Rattle.spec_script.proofs.Bools.{both}
use Rattle.spec_script.specs.Identifiers.{is_identifier}
use Rattle.spec_world.specs.Worlds.{is_name}
use Rattle.spec_world_file.specs.Blocks.{is_mark, standing, values_at}
use Rattle.world_ground.specs.Sizes.{instances, line_size, mark_size, scan, values_size}
use Rattle.world_ground.specs.Sound.{is_small}
use Rattle.world_ground.specs.declared.sizes.Around.{Around}
use Rattle.spec_world_file.specs.declared.sort.Sort.{Sort}
use Rattle.world_ground.proofs.Marked.{if_false, if_true, ways}
use Rattle.world_ground.proofs.Scans.{AreNames}

small_at : (sorts : List Sort) → list_all is_small sorts ≡ true → (number : ℕ) → (list_all is_name (values_at sorts number) ≡ true) × (length (values_at sorts number) ≤ 16)
small_at [] h number = (refl, omega arith)
small_at (sort ∷ sorts) h zero =
    let hs = both (nat_le (length sort.values) 16) (list_all is_name sort.values) (both (is_small sort) (list_all is_small sorts) h).0 in
    let few : length sort.values ≤ 16 = grind (arith, nat_tests, hs.0) in
    (hs.1, few)
small_at (sort ∷ sorts) h (suc number) = small_at sorts (both (is_small sort) (list_all is_small sorts) h).1 number

pub named_small : (sorts : List Sort) → list_all is_small sorts ≡ true → AreNames sorts
named_small sorts h = record { names = λ number. (small_at sorts h number).0; few = λ number. (small_at sorts h number).1 }

short_name : (word : List ℕ) → is_name word ≡ true → length word ≤ 64
short_name word h = let hs = both (is_identifier word) (nat_le (length word) 64) h in grind (arith, nat_tests, hs.1)

pub short_standing : (mark : ℕ) (value : List ℕ) (place : ℕ) → is_name value ≡ true → place ≤ 98 → length (standing mark value place) ≤ 64
short_standing mark value place h small =
    ways (mark == 36)
    (λ t. let e = ap length (if_true (mark == 36) value (decimal place) t) in let k = short_name value h in omega arith)
    (λ f. let e = ap length (if_false (mark == 36) value (decimal place) f) in
    let k = length-decimal-le 2 place (omega arith) (omega arith) (omega arith) in
    omega arith)

pub few_bytes : (mark place : ℕ) (values : List (List ℕ)) → list_all is_name values ≡ true → place + length values ≤ 99 → values_size mark place values ≤ 64 * length values
few_bytes mark place [] h few = omega arith
few_bytes mark place (value ∷ values) h few =
    let hs = both (is_name value) (list_all is_name values) h in
    let one = short_standing mark value place hs.0 (omega arith) in
    let rest = few_bytes mark (place + 1) values hs.1 (omega arith) in
    omega arith

-- 16 for each block
abbrev most : List Around → ℕ
most [] = 1
most (block ∷ around) = 16 * most around

module _ (sorts : List Sort) (named : AreNames sorts) where
  pub few_instances : (around : List Around) → instances sorts around ≤ most around
  few_instances [] = omega arith
  few_instances (block ∷ around) = mul-le-mul (named.few block.sort) (few_instances around)

  pub few_marked : (around : List Around) (mark x : ℕ) → mark_size sorts around mark x ≤ 64 * most around
  few_marked [] mark x = omega arith
  few_marked (block ∷ around) mark x =
      let values = values_at sorts block.sort in
      let few = named.few block.sort in
      ways (x == block.variable)
      (λ e. let is = if_true (x == block.variable) (values_size mark 1 values * instances sorts around) (length values * mark_size sorts around mark x) e in
      let bytes : values_size mark 1 values ≤ 1024 = let b = few_bytes mark 1 values (named.names block.sort) (omega arith) in omega arith in
      let all : values_size mark 1 values * instances sorts around ≤ 1024 * most around = mul-le-mul bytes (few_instances around) in
      omega arith)
      (λ e. let is = if_false (x == block.variable) (values_size mark 1 values * instances sorts around) (length values * mark_size sorts around mark x) e in
      let all : length values * mark_size sorts around mark x ≤ 16 * (64 * most around) = mul-le-mul few (few_marked around mark x) in
      omega arith)

most_le : (around : List Around) → length around ≤ 3 → most around ≤ 4096
most_le [] h = omega arith
most_le (a ∷ []) h = omega arith
most_le (a ∷ b ∷ []) h = omega arith
most_le (a ∷ b ∷ c ∷ []) h = omega arith
most_le (a ∷ b ∷ c ∷ d ∷ around) h = absurd (omega arith)

pub scan_le : (each : ℕ) (marked : ℕ → ℕ → ℕ) (most : ℕ) → each ≤ most → ((m y : ℕ) → marked m y ≤ most) → (text : List ℕ) → scan each marked text ≤ most * length text
scan_le each marked most e h [] = omega arith
scan_le each marked most e h (b ∷ []) = omega arith
scan_le each marked most e h (b ∷ c ∷ text) =
    ways (is_mark b)
    (λ m. let is = if_true (is_mark b) (marked b c + scan each marked text) (each + scan each marked (c ∷ text)) m in
    let one = h b c in
    let rest = scan_le each marked most e h text in
    omega arith)
    (λ m. let is = if_false (is_mark b) (marked b c + scan each marked text) (each + scan each marked (c ∷ text)) m in
    let rest = scan_le each marked most e h (c ∷ text) in
    omega arith)

pub instances_small : (sorts : List Sort) (around : List Around) → list_all is_small sorts ≡ true → length around ≤ 3 → instances sorts around ≤ 4096
instances_small sorts around h depth =
    let few = few_instances sorts (named_small sorts h) around in
    let most = most_le around depth in
    omega arith

pub mark_small : (sorts : List Sort) (around : List Around) (mark x : ℕ) → list_all is_small sorts ≡ true → length around ≤ 3 → mark_size sorts around mark x ≤ 262144
mark_small sorts around mark x h depth =
    let few = few_marked sorts (named_small sorts h) around mark x in
    let most = most_le around depth in
    omega arith

pub line_small : (sorts : List Sort) (around : List Around) (text : List ℕ) → list_all is_small sorts ≡ true → length around ≤ 3 → length text ≤ 1048576 → line_size sorts around text ≤ 2 ^ 39
line_small sorts around text h depth short =
    let few = instances_small sorts around h depth in
    let all = scan_le (instances sorts around) (mark_size sorts around) 262144 (omega arith) (λ m y. mark_small sorts around m y h depth) text in
    omega arith

-- ---- Where a value is known by an equation

pub few_values : (sorts : List Sort) → list_all is_small sorts ≡ true → (values : List (List ℕ)) (number : ℕ) → values ≡ values_at sorts number → length values ≤ 16
few_values sorts h values number is = let few = (named_small sorts h).few number in let e = ap (λ (vs : List (List ℕ)). length vs) is in omega arith

pub name_values : (sorts : List Sort) → list_all is_small sorts ≡ true → (values : List (List ℕ)) (number : ℕ) → values ≡ values_at sorts number → list_all is_name values ≡ true
name_values sorts h values number is = ap (list_all is_name) is ∙ (named_small sorts h).names number

pub instances_le : (sorts : List Sort) → list_all is_small sorts ≡ true → (around : List Around) → length around ≤ 3 → (n : ℕ) → n ≡ instances sorts around → n ≤ 4096
instances_le sorts h around depth n is = let few = instances_small sorts around h depth in omega arith

pub mark_le : (sorts : List Sort) → list_all is_small sorts ≡ true → (around : List Around) → length around ≤ 3 → (mark x n : ℕ) → n ≡ mark_size sorts around mark x → n ≤ 262144
mark_le sorts h around depth mark x n is = let few = mark_small sorts around mark x h depth in omega arith

pub values_le : (mark : ℕ) (values : List (List ℕ)) → list_all is_name values ≡ true → length values ≤ 16 → (n : ℕ) → n ≡ values_size mark 1 values → n ≤ 1024
values_le mark values names few n is = let bytes = few_bytes mark 1 values names (omega arith) in omega arith

pub product : (a b m n : ℕ) → a ≤ m → b ≤ n → a * b ≤ m * n
product a b m n p q = mul-le-mul p q

-- each value of names is one
pub name_at : (values : List (List ℕ)) (i : ℕ) (d : List ℕ) → list_all is_name values ≡ true → i < length values → is_name (get_or values i d) ≡ true
name_at [] i d h within = absurd (omega arith)
name_at (value ∷ values) zero d h within = (both (is_name value) (list_all is_name values) h).0
name_at (value ∷ values) (suc i) d h within = name_at values i d (both (is_name value) (list_all is_name values) h).1 (omega arith)

pub values_step : (mark : ℕ) (values : List (List ℕ)) (i : ℕ) (d : List ℕ) → i < length values → values_size mark (i + 1) (drop i values) ≡ length (standing mark (get_or values i d) (i + 1)) + values_size mark (i + 1 + 1) (drop (i + 1) values)
values_step mark values i d within = ap (values_size mark (i + 1)) (drop_more values i d within)
