-- The size of a line over all instances, without the instances.
use Rattle.std.proofs.Common.{◌≡◌, ℕ, ◌+◌, ◌*◌, ◌<◌, ◌≤◌, ◌^◌, true, false, ◌==◌, if◌then◌else◌, List, [], ◌∷◌, ◌++◌, length, refl, sym, ◌∙◌, ap, arith}
use Rattle.std.specs.List.{list_all}
use Rattle.spec_script.proofs.Bools.{both}
use Rattle.spec_world.specs.Worlds.{is_name}
use Rattle.spec_world_file.specs.Blocks.{after_marks, filled, is_mark, is_variable, standing, values_at}
use Rattle.world_ground.specs.Sizes.{instances, mark_size, scan, values_size}
use Rattle.world_ground.specs.declared.sizes.Around.{Around}
use Rattle.spec_world_file.specs.declared.sort.Sort.{Sort}
use Rattle.world_ground.proofs.Marked.{after_filled, after_one, after_pair, filled_here, filled_other, filled_plain, if_false, if_true, is_plain, plain_standing, ways}

-- ---- Scans

scan_plain : (each : ℕ) (marked : ℕ → ℕ → ℕ) (b : ℕ) (text : List ℕ) → is_mark b ≡ false → scan each marked (b ∷ text) ≡ each + scan each marked text
scan_plain each marked b [] m = omega arith
scan_plain each marked b (c ∷ text) m = if_false (is_mark b) _ _ m

scan_pair : (each : ℕ) (marked : ℕ → ℕ → ℕ) (b c : ℕ) (text : List ℕ) → is_mark b ≡ true → scan each marked (b ∷ c ∷ text) ≡ marked b c + scan each marked text
scan_pair each marked b c text m = if_true (is_mark b) _ _ m

not_mark : (b : ℕ) → is_plain b ≡ true → is_mark b ≡ false
not_mark b h = ways (is_mark b) (λ m. absurd (cc)) (λ m. m)

scan_front : (each : ℕ) (marked : ℕ → ℕ → ℕ) (front text : List ℕ) → list_all is_plain front ≡ true → scan each marked (front ++ text) ≡ length front * each + scan each marked text
scan_front each marked [] text p = omega arith
scan_front each marked (b ∷ front) text p =
    let ps = both (is_plain b) (list_all is_plain front) p in
    let one = scan_plain each marked b (front ++ text) (not_mark b ps.0) in
    let rest = scan_front each marked front text ps.1 in
    omega arith

-- the scan of two sums is the sum of two scans
scan_add : (e f g : ℕ) (p q r : ℕ → ℕ → ℕ) → e + f ≡ g → ((m y : ℕ) → p m y + q m y ≡ r m y) → (text : List ℕ) → scan e p text + scan f q text ≡ scan g r text
scan_add e f g p q r each marked [] = omega arith
scan_add e f g p q r each marked (b ∷ []) = each
scan_add e f g p q r each marked (b ∷ c ∷ text) =
    ways (is_mark b)
    (λ m. let l = scan_pair e p b c text m in
    let k = scan_pair f q b c text m in
    let n = scan_pair g r b c text m in
    let here = marked b c in
    let rest = scan_add e f g p q r each marked text in
    omega arith)
    (λ m. let l = scan_plain e p b (c ∷ text) m in
    let k = scan_plain f q b (c ∷ text) m in
    let n = scan_plain g r b (c ∷ text) m in
    let rest = scan_add e f g p q r each marked (c ∷ text) in
    omega arith)

scan_none : (e : ℕ) (p : ℕ → ℕ → ℕ) → e ≡ 0 → ((m y : ℕ) → p m y ≡ 0) → (text : List ℕ) → scan e p text ≡ 0
scan_none e p each marked [] = refl
scan_none e p each marked (b ∷ []) = each
scan_none e p each marked (b ∷ c ∷ text) =
    ways (is_mark b)
    (λ m. let l = scan_pair e p b c text m in
    let here = marked b c in
    let rest = scan_none e p each marked text in
    omega arith)
    (λ m. let l = scan_plain e p b (c ∷ text) m in
    let rest = scan_none e p each marked (c ∷ text) in
    omega arith)

-- ---- One value

-- what a mark has at one value of a variable
abbrev at_value : (each : ℕ) (marked : ℕ → ℕ → ℕ) (x : ℕ) (value : List ℕ) (place : ℕ) → ℕ → ℕ → ℕ
at_value each marked x value place m y = if y == x then length (standing m value place) * each else marked m y

module _ (each : ℕ) (marked : ℕ → ℕ → ℕ) (x : ℕ) (value : List ℕ) (place : ℕ) (plain : (mark : ℕ) → list_all is_plain (standing mark value place) ≡ true) where
  scan_filled : (text : List ℕ) → after_marks is_variable text ≡ true → scan each marked (filled x value place text) ≡ scan each (at_value each marked x value place) text
  scan_filled [] h = refl
  scan_filled (b ∷ []) h = refl
  scan_filled (b ∷ c ∷ text) h =
      ways (is_mark b)
      (λ m. let hs = after_pair b c text m h in
      let rest = scan_filled text hs.1 in
      let whole = scan_pair each (at_value each marked x value place) b c text m in
      ways (c == x)
      (λ e. let l = ap (scan each marked) (filled_here x value place b c text m e) in
      let k = scan_front each marked (standing b value place) (filled x value place text) (plain b) in
      let here = if_true (c == x) (length (standing b value place) * each) (marked b c) e in
      l ∙ k ∙ ap (λ n. length (standing b value place) * each + n) rest ∙ ap (λ n. n + scan each (at_value each marked x value place) text) (sym here) ∙ sym whole)
      (λ e. let l = ap (scan each marked) (filled_other x value place b c text hs.0 e) in
      let k = scan_pair each marked b c (filled x value place text) m in
      let here = if_false (c == x) (length (standing b value place) * each) (marked b c) e in
      l ∙ k ∙ ap (λ n. marked b c + n) rest ∙ ap (λ n. n + scan each (at_value each marked x value place) text) (sym here) ∙ sym whole))
      (λ m. let l = ap (scan each marked) (filled_plain x value place b (c ∷ text) m) in
      let k = scan_plain each marked b (filled x value place (c ∷ text)) m in
      let rest = scan_filled (c ∷ text) (after_one b (c ∷ text) h) in
      let whole = scan_plain each (at_value each marked x value place) b (c ∷ text) m in
      l ∙ k ∙ ap (λ n. each + n) rest ∙ sym whole)

-- ---- All values

-- a sum over the values of a variable, of which the first has this place
abbrev pub over_values : (x place : ℕ) (values : List (List ℕ)) (size : List ℕ → ℕ) → List ℕ → ℕ
over_values x place [] size text = 0
over_values x place (value ∷ values) size text = size (filled x value place text) + over_values x (place + 1) values size text

-- how many bytes all instances of a text have in these blocks, the innermost first
abbrev pub text_size : List Sort → List Around → List ℕ → ℕ
text_size sorts [] text = length text
text_size sorts (block ∷ blocks) text = over_values block.variable 1 (values_at sorts block.sort) (text_size sorts blocks) text

-- what a mark has over these values of a variable
abbrev at_values : (each : ℕ) (marked : ℕ → ℕ → ℕ) (x place : ℕ) (values : List (List ℕ)) → ℕ → ℕ → ℕ
at_values each marked x place values m y = if y == x then values_size m place values * each else length values * marked m y

none_here : (each : ℕ) (marked : ℕ → ℕ → ℕ) (x place m y : ℕ) → at_values each marked x place [] m y ≡ 0
none_here each marked x place m y =
    ways (y == x)
    (λ e. let k = if_true (y == x) (0 * each) (0 * marked m y) e in omega arith)
    (λ e. let k = if_false (y == x) (0 * each) (0 * marked m y) e in omega arith)

one_more : (each : ℕ) (marked : ℕ → ℕ → ℕ) (x place : ℕ) (value : List ℕ) (values : List (List ℕ)) (m y : ℕ) →
    at_value each marked x value place m y + at_values each marked x (place + 1) values m y ≡ at_values each marked x place (value ∷ values) m y
one_more each marked x place value values m y =
    ways (y == x)
    (λ e. let k = if_true (y == x) (length (standing m value place) * each) (marked m y) e in
    let l = if_true (y == x) (values_size m (place + 1) values * each) (length values * marked m y) e in
    let n = if_true (y == x) (values_size m place (value ∷ values) * each) (length (value ∷ values) * marked m y) e in
    omega arith)
    (λ e. let k = if_false (y == x) (length (standing m value place) * each) (marked m y) e in
    let l = if_false (y == x) (values_size m (place + 1) values * each) (length values * marked m y) e in
    let n = if_false (y == x) (values_size m place (value ∷ values) * each) (length (value ∷ values) * marked m y) e in
    omega arith)

scan_values : (each : ℕ) (marked : ℕ → ℕ → ℕ) (x place : ℕ) (values : List (List ℕ)) → list_all is_name values ≡ true → 0 < place → place + length values < 2 ^ 64 → (text : List ℕ) → after_marks is_variable text ≡ true →
    over_values x place values (scan each marked) text ≡ scan (length values * each) (at_values each marked x place values) text
scan_values each marked x place [] names pos few text h = sym (scan_none (0 * each) (at_values each marked x place []) (omega arith) (none_here each marked x place) text)
scan_values each marked x place (value ∷ values) names pos few text h =
    let ns = both (is_name value) (list_all is_name values) names in
    let small : place < 2 ^ 64 = omega arith in
    let one = scan_filled each marked x value place (λ mark. plain_standing mark value place ns.0 pos small) text h in
    let rest = scan_values each marked x (place + 1) values ns.1 (omega arith) (omega arith) text h in
    ap (λ n. n + over_values x (place + 1) values (scan each marked) text) one
    ∙ ap (λ n. scan each (at_value each marked x value place) text + n) rest
    ∙ scan_add each (length values * each) (length (value ∷ values) * each) (at_value each marked x value place) (at_values each marked x (place + 1) values) (at_values each marked x place (value ∷ values))
    (omega arith) (one_more each marked x place value values) text

over_same : (x place : ℕ) (values : List (List ℕ)) (f g : List ℕ → ℕ) → list_all is_name values ≡ true → 0 < place → place + length values < 2 ^ 64 → ((text : List ℕ) → after_marks is_variable text ≡ true → f text ≡ g text) →
    (text : List ℕ) → after_marks is_variable text ≡ true → over_values x place values f text ≡ over_values x place values g text
over_same x place [] f g names pos few same text h = refl
over_same x place (value ∷ values) f g names pos few same text h =
    let ns = both (is_name value) (list_all is_name values) names in
    let small : place < 2 ^ 64 = omega arith in
    ap (λ n. n + over_values x (place + 1) values f text) (same (filled x value place text) (after_filled x value place (λ mark. plain_standing mark value place ns.0 pos small) text h))
    ∙ ap (λ n. g (filled x value place text) + n) (over_same x (place + 1) values f g ns.1 (omega arith) (omega arith) same text h)

scan_length : (sorts : List Sort) (text : List ℕ) → scan 1 (mark_size sorts []) text ≡ length text
scan_length sorts [] = refl
scan_length sorts (b ∷ []) = refl
scan_length sorts (b ∷ c ∷ text) =
    ways (is_mark b)
    (λ m. let k = scan_pair 1 (mark_size sorts []) b c text m in
    let rest = scan_length sorts text in
    omega arith)
    (λ m. let k = scan_plain 1 (mark_size sorts []) b (c ∷ text) m in
    let rest = scan_length sorts (c ∷ text) in
    omega arith)

-- where each sort has few values, which are names
pub record AreNames (sorts : List Sort) : Type 0 where
  pub names : (number : ℕ) → list_all is_name (values_at sorts number) ≡ true
  pub few : (number : ℕ) → length (values_at sorts number) ≤ 16

-- the instances of a text have the size that the scan says
pub scan_is : (sorts : List Sort) → AreNames sorts → (around : List Around) (text : List ℕ) → after_marks is_variable text ≡ true → text_size sorts around text ≡ scan (instances sorts around) (mark_size sorts around) text
scan_is sorts named [] text h = sym (scan_length sorts text)
scan_is sorts named (block ∷ around) text h =
    let values = values_at sorts block.sort in
    let names = named.names block.sort in
    let few = named.few block.sort in
    over_same block.variable 1 values (text_size sorts around) (scan (instances sorts around) (mark_size sorts around)) names (omega arith) (omega arith) (scan_is sorts named around) text h
    ∙ scan_values (instances sorts around) (mark_size sorts around) block.variable 1 values names (omega arith) (omega arith) text h
