-- How patterns begin: which are passed over where a path goes on otherwise than the one before.
use Rattle.std.proofs.Common.{◌≡◌, ◌≢◌, ◌<◌, ◌≤◌, ℕ, suc, zero, ◌+◌, List, [], ◌∷◌, ◌++◌, Bool, true, false, cond, nat_eq, length, take, drop, get_or, Some, None, refl, ap, ap₂, sym, ◌∙◌, subst, append_assoc, append-nil, arith}
use Rattle.std.proofs.lemmas.Bool.Decides.{nat_tests}
use Rattle.std.proofs.lemmas.List.{drop_more, length-take-le, take-append-drop}
use Rattle.std.proofs.lemmas.List.Folds.{length-prefix_len}
use Rattle.std.proofs.lemmas.List.Sums.{common_prefix_len-le, prefix_len-le-length}
use Rattle.std.specs.Prelude.{if◌then◌else◌, not}
use Rattle.std.proofs.lemmas.Slice.Eq.{bytes_eq-Decides}
use Rattle.std.specs.Str.{bytes_eq}
use Rattle.std.specs.List.{common_prefix_len}
use Rattle.spec_tree_file.specs.Patterns.{is_star, matches}
use Rattle.spec_tree_file.specs.Substitutions.{rule_of}
use Rattle.spec_tree_file.specs.declared.mock_rules.Rule.{Rule}
use Rattle.tree_mock.specs.Ends.{IsEnd}
use Rattle.tree_mock.specs.Grams.{IsGram}
use Rattle.tree_mock.specs.Lookup.{AreFronts, IsFront}
use Rattle.tree_mock.specs.Patterns.{before_star, front}
use Rattle.tree_mock.specs.declared.lookup.Front.{Front}
use Rattle.tree_mock.proofs.AboutPatterns.Pieces.{false_from, passed_first, passed_left, plain_before, unstarred}

-- how many bytes two texts begin with alike
abbrev pub alike : List ℕ → List ℕ → ℕ
alike text other = common_prefix_len nat_eq text other

-- ---- Beginnings

itself : (byte : ℕ) → nat_eq byte byte ≡ true
itself byte = grind (arith, nat_tests)

alike-front : (text rest : List ℕ) → alike text (text ++ rest) ≡ length text
alike-front [] rest = refl
alike-front (byte ∷ text) rest =
    let counted : 1 + alike text (text ++ rest) ≡ length (byte ∷ text) = omega (arith, alike-front text rest) in
    ap (λ (b : Bool). cond b (1 + alike text (text ++ rest)) 0) (itself byte) ∙ counted

same_by : (x y z : ℕ) (a b p : List ℕ) (r s t : Bool) → nat_eq x y ≡ r → nat_eq x z ≡ s → nat_eq y z ≡ t → (alike a p < alike a b → alike b p ≡ alike a p)
    → cond s (1 + alike a p) 0 < cond r (1 + alike a b) 0 → cond t (1 + alike b p) 0 ≡ cond s (1 + alike a p) 0
same_by x y z a b p false s t xy xz yz below less = absurd (omega (arith, less))
same_by x y z a b p true true true xy xz yz below less = ap (λ (n : ℕ). 1 + n) (below (omega (arith, less)))
same_by x y z a b p true true false xy xz yz below less = absurd (grind (arith, nat_tests, xy, xz, yz))
same_by x y z a b p true false true xy xz yz below less = absurd (grind (arith, nat_tests, xy, xz, yz))
same_by x y z a b p true false false xy xz yz below less = refl

-- a text that goes on as another does, where a third goes on otherwise, begins as the third does just as far
pub same_alike : (a b p : List ℕ) → alike a p < alike a b → alike b p ≡ alike a p
same_alike [] b p less = absurd (omega (arith, less))
same_alike (x ∷ a) [] p less = absurd (omega (arith, less))
same_alike (x ∷ a) (y ∷ b) [] less = refl
same_alike (x ∷ a) (y ∷ b) (z ∷ p) less =
    same_by x y z a b p (nat_eq x y) (nat_eq x z) (nat_eq y z) refl refl refl (λ h. same_alike a b p h) less

on_by : (x y z n : ℕ) (a b p : List ℕ) (r s t : Bool) → nat_eq x y ≡ r → nat_eq x z ≡ s → nat_eq y z ≡ t → (n ≤ alike a b → n ≤ alike a p → alike b p ≡ n + alike (drop n b) (drop n p))
    → suc n ≤ cond r (1 + alike a b) 0 → suc n ≤ cond s (1 + alike a p) 0 → cond t (1 + alike b p) 0 ≡ suc n + alike (drop n b) (drop n p)
on_by x y z n a b p false s t xy xz yz below few few_of_path = absurd (omega (arith, few))
on_by x y z n a b p true false t xy xz yz below few few_of_path = absurd (omega (arith, few_of_path))
on_by x y z n a b p true true false xy xz yz below few few_of_path = absurd (grind (arith, nat_tests, xy, xz, yz))
on_by x y z n a b p true true true xy xz yz below few few_of_path = omega (arith, below (omega (arith, few)) (omega (arith, few_of_path)))

-- where two texts begin as a third does, they are alike so far, and then as what follows in them is
pub alike_on : (n : ℕ) (a b p : List ℕ) → n ≤ alike a b → n ≤ alike a p → alike b p ≡ n + alike (drop n b) (drop n p)
alike_on zero a b p few few_of_path = omega arith
alike_on (suc n) [] b p few few_of_path = absurd (omega (arith, few))
alike_on (suc n) (x ∷ a) [] p few few_of_path = absurd (omega (arith, few))
alike_on (suc n) (x ∷ a) (y ∷ b) [] few few_of_path = absurd (omega (arith, few_of_path))
alike_on (suc n) (x ∷ a) (y ∷ b) (z ∷ p) few few_of_path =
    on_by x y z n a b p (nat_eq x y) (nat_eq x z) (nat_eq y z) refl refl refl (λ h k. alike_on n a b p h k) few few_of_path

all_by : (x y : ℕ) (text other : List ℕ) (b : Bool) → nat_eq x y ≡ b → (alike text other ≡ length text → take (length text) other ≡ text) → cond b (1 + alike text other) 0 ≡ length (x ∷ text)
    → take (length (x ∷ text)) (y ∷ other) ≡ x ∷ text
all_by x y text other false differs below all = absurd (omega (arith, all))
all_by x y text other true same below all =
    let first : y ≡ x = grind (arith, nat_tests) in
    ap₂ (λ (z : ℕ) (zs : List ℕ). z ∷ zs) first (below (omega (arith, all)))

-- a text that begins with all of another
pub all_alike : (text other : List ℕ) → alike text other ≡ length text → take (length text) other ≡ text
all_alike [] other all = refl
all_alike (x ∷ text) [] all = absurd (omega (arith, all))
all_alike (x ∷ text) (y ∷ other) all = all_by x y text other (nat_eq x y) refl (λ h. all_alike text other h) all

-- a pattern matches no path that does not begin with its front
pub unmatched : (pattern path : List ℕ) → alike (front pattern) path < length (front pattern) → matches pattern path ≡ false
unmatched pattern path less =
    let more = drop (before_star pattern) pattern in
    let whole : front pattern ++ more ≡ pattern = take-append-drop (before_star pattern) pattern in
    false_from (matches pattern path)
    (λ m. let found = passed_first (front pattern) more path (plain_before pattern) (ap (λ (q : List ℕ). matches q path) whole ∙ m) in
    let all : alike (front pattern) path ≡ length (front pattern) = ap (alike (front pattern)) found.1 ∙ alike-front (front pattern) found.0 in
    absurd (omega (arith, less, all)))

-- of one that does, what follows decides
pub decided : (pattern path : List ℕ) → alike (front pattern) path ≡ before_star pattern → matches (drop (before_star pattern) pattern) (drop (before_star pattern) path) ≡ matches pattern path
decided pattern path all =
    let n = before_star pattern in
    let whole : length (front pattern) ≡ n = length-prefix_len (λ byte. not (is_star byte)) pattern in
    let begun : bytes_eq (take (length (front pattern)) path) (front pattern) ≡ true = (bytes_eq-Decides (take (length (front pattern)) path) (front pattern)).1 (all_alike (front pattern) path (all ∙ sym whole)) in
    passed_left pattern path (front pattern) (drop n pattern) (drop n path) n refl refl refl begun (ap (λ (k : ℕ). drop k path) (sym whole))

-- ---- A walk over the rules

-- these are left of all rules: none before them matches the path, which begins so far as what comes before them does
pub record Left (all : List Rule) (path : List ℕ) (known : ℕ) (fronts : List Front) : Type 0 where
  pub before : List ℕ
  pub rules : List Rule
  pub fit : AreFronts before rules fronts
  pub so_far : known ≡ alike before path
  pub same : rule_of rules path ≡ rule_of all path

-- where the walk stands at this one
pub at : (all : List Rule) (path : List ℕ) (known : ℕ) (fronts : List Front) (i : ℕ) (f : Front) → i < length fronts → f ≡ get_or fronts i f → Left all path known (drop i fronts)
    → Left all path known (f ∷ drop (i + 1) fronts)
at all path known fronts i f within is l = subst (Left all path known) (drop_more fronts i f within ∙ ap (λ (g : Front). g ∷ drop (i + 1) fronts) (sym is)) l

module _ (all : List Rule) (path : List ℕ) (f : Front) (fronts : List Front) where
  past : (rule : Rule) (rules : List Rule) → matches rule.pattern path ≡ false → rule_of rules path ≡ rule_of (rule ∷ rules) path
  past rule rules none = sym (ap (λ (b : Bool). if b then Some rule else rule_of rules path) none)

  skipped : (known : ℕ) (before : List ℕ) (rules : List Rule) → AreFronts before rules (f ∷ fronts) → known ≡ alike before path → rule_of rules path ≡ rule_of all path → known < f.shared → Left all path known fronts
  skipped known before [] fit k same less = absurd fit
  skipped known before (rule ∷ rules) fit k same less =
      let begun = front rule.pattern in
      let further : alike before path < alike before begun = omega (arith, k, fit.0.shared, less) in
      let so_far : alike begun path ≡ alike before path = same_alike before begun path further in
      let short : alike begun path < length begun = omega (arith, so_far, further, (common_prefix_len-le nat_eq before begun).1) in
      record { before = begun; rules = rules; fit = fit.1; so_far = k ∙ sym so_far; same = past rule rules (unmatched rule.pattern path short) ∙ same }

  pub skips : (known : ℕ) → Left all path known (f ∷ fronts) → known < f.shared → Left all path known fronts
  skips known l less = skipped known l.before l.rules l.fit l.so_far l.same less

  tried : (known : ℕ) (before : List ℕ) (rules : List Rule) → AreFronts before rules (f ∷ fronts) → rule_of rules path ≡ rule_of all path
      → matches f.rule.now.pattern path ≡ false → known ≡ alike (take f.plain f.rule.now.pattern) path → Left all path known fronts
  tried known before [] fit same none k = absurd fit
  tried known before (rule ∷ rules) fit same none k = record {
    before = front rule.pattern;
    rules = rules;
    fit = fit.1;
    so_far = k ∙ ap (λ (n : ℕ). alike (take n f.rule.now.pattern) path) fit.0.plain ∙ ap (λ (r : Rule). alike (take (before_star rule.pattern) r.pattern) path) fit.0.same;
    same = past rule rules (sym (ap (λ (r : Rule). matches r.pattern path) fit.0.same) ∙ none) ∙ same;
  }

  pub tries : (old known : ℕ) → Left all path old (f ∷ fronts) → matches f.rule.now.pattern path ≡ false → known ≡ alike (take f.plain f.rule.now.pattern) path → Left all path known fronts
  tries old known l none k = tried known l.before l.rules l.fit l.same none k

  counted : (before : List ℕ) (rules : List Rule) → AreFronts before rules (f ∷ fronts) → f.plain ≡ before_star f.rule.now.pattern
  counted before [] fit = absurd fit
  counted before (rule ∷ rules) fit = fit.0.plain ∙ sym (ap (λ (r : Rule). before_star r.pattern) fit.0.same)

  pub counts : (known : ℕ) → Left all path known (f ∷ fronts) → f.plain ≡ before_star f.rule.now.pattern
  counts known l = counted l.before l.rules l.fit

  -- so far the path begins as the front does
  going : (known : ℕ) (before : List ℕ) (rules : List Rule) → AreFronts before rules (f ∷ fronts) → known ≡ alike before path → f.shared ≤ known
      → (f.shared ≤ length (take f.plain f.rule.now.pattern)) × (f.shared ≤ length path)
      × (alike (take f.plain f.rule.now.pattern) path ≡ f.shared + alike (drop f.shared (take f.plain f.rule.now.pattern)) (drop f.shared path))
  going known before [] fit k few = absurd fit
  going known before (rule ∷ rules) fit k few =
      let begun = front rule.pattern in
      let is : take f.plain f.rule.now.pattern ≡ begun = ap (λ (n : ℕ). take n f.rule.now.pattern) fit.0.plain ∙ ap (λ (r : Rule). take (before_star rule.pattern) r.pattern) fit.0.same in
      let shared : f.shared ≤ alike before begun = omega (arith, fit.0.shared) in
      let so_far : f.shared ≤ alike before path = omega (arith, k, few) in
      subst (λ (t : List ℕ). (f.shared ≤ length t) × (f.shared ≤ length path) × (alike t path ≡ f.shared + alike (drop f.shared t) (drop f.shared path))) (sym is) (
        omega (arith, shared, (common_prefix_len-le nat_eq before begun).1),
        omega (arith, so_far, (common_prefix_len-le nat_eq before path).1),
        alike_on f.shared before begun path shared so_far,
      )

  pub goes_on : (known : ℕ) → Left all path known (f ∷ fronts) → f.shared ≤ known
      → (f.shared ≤ length (take f.plain f.rule.now.pattern)) × (f.shared ≤ length path)
      × (alike (take f.plain f.rule.now.pattern) path ≡ f.shared + alike (drop f.shared (take f.plain f.rule.now.pattern)) (drop f.shared path))
  goes_on known l few = going known l.before l.rules l.fit l.so_far few

  -- the path does not begin with the front
  pub differs : (old known : ℕ) → Left all path old (f ∷ fronts) → known ≡ alike (take f.plain f.rule.now.pattern) path → known ≢ f.plain → matches f.rule.now.pattern path ≡ false
  differs old known l k other =
      let pattern = f.rule.now.pattern in
      let counted : f.plain ≡ before_star pattern = counts old l in
      let is : known ≡ alike (front pattern) path = k ∙ ap (λ (n : ℕ). alike (take n pattern) path) counted in
      let whole : length (front pattern) ≡ before_star pattern = length-prefix_len (λ byte. not (is_star byte)) pattern in
      let most = (common_prefix_len-le nat_eq (front pattern) path).0 in
      unmatched pattern path (omega (arith, is, whole, most, counted, other))

  -- it does
  pub decides : (old known : ℕ) → Left all path old (f ∷ fronts) → known ≡ alike (take f.plain f.rule.now.pattern) path → known ≡ f.plain
      → matches (drop f.plain f.rule.now.pattern) (drop known path) ≡ matches f.rule.now.pattern path
  decides old known l k same =
      let pattern = f.rule.now.pattern in
      let counted : f.plain ≡ before_star pattern = counts old l in
      let is : alike (front pattern) path ≡ before_star pattern = sym (k ∙ ap (λ (n : ℕ). alike (take n pattern) path) counted) ∙ same ∙ counted in
      ap₂ (λ (n m : ℕ). matches (drop n pattern) (drop m path)) counted (same ∙ counted) ∙ decided pattern path is

  -- what is kept of how the pattern ends
  ending : (before : List ℕ) (rules : List Rule) → AreFronts before rules (f ∷ fronts) → IsEnd f.rule.now.pattern f.end
  ending before [] fit = absurd fit
  ending before (rule ∷ rules) fit = subst (λ (r : Rule). IsEnd r.pattern f.end) (sym fit.0.same) fit.0.end

  pub ends_with : (known : ℕ) → Left all path known (f ∷ fronts) → IsEnd f.rule.now.pattern f.end
  ends_with known l = ending l.before l.rules l.fit

  -- and of what stands in it
  standing : (before : List ℕ) (rules : List Rule) → AreFronts before rules (f ∷ fronts) → IsGram f.rule.now.pattern f.gram
  standing before [] fit = absurd fit
  standing before (rule ∷ rules) fit = subst (λ (r : Rule). IsGram r.pattern f.gram) (sym fit.0.same) fit.0.gram

  pub stands : (known : ℕ) → Left all path known (f ∷ fronts) → IsGram f.rule.now.pattern f.gram
  stands known l = standing l.before l.rules l.fit

  -- the front is no longer than the pattern, and shares no more bytes than it has
  pub fits : (known : ℕ) → Left all path known (f ∷ fronts) → f.plain ≤ length f.rule.now.pattern
  fits known l = omega (arith, counts known l, prefix_len-le-length (λ byte. not (is_star byte)) f.rule.now.pattern)

  pub shares : (known : ℕ) → Left all path known (f ∷ fronts) → f.shared ≤ known → f.shared ≤ f.plain
  shares known l few =
      let front_len : length (take f.plain f.rule.now.pattern) ≡ f.plain = length-take-le f.plain f.rule.now.pattern (fits known l) in
      omega (arith, (goes_on known l few).0, front_len)

  pub begins_so : (old : ℕ) → Left all path old (f ∷ fronts) → before_star (drop f.plain f.rule.now.pattern) ≡ 0
  begins_so old l = ap (λ (n : ℕ). before_star (drop n f.rule.now.pattern)) (counts old l) ∙ unstarred f.rule.now.pattern

  matched : (before : List ℕ) (rules : List Rule) → AreFronts before rules (f ∷ fronts) → rule_of rules path ≡ rule_of all path → matches f.rule.now.pattern path ≡ true → Some f.rule.now ≡ rule_of all path
  matched before [] fit same found = absurd fit
  matched before (rule ∷ rules) fit same found =
      ap (λ r. Some r) fit.0.same
      ∙ sym (ap (λ (b : Bool). if b then Some rule else rule_of rules path) (sym (ap (λ (r : Rule). matches r.pattern path) fit.0.same) ∙ found)) ∙ same

  pub finds : (known : ℕ) → Left all path known (f ∷ fronts) → matches f.rule.now.pattern path ≡ true → Some f.rule.now ≡ rule_of all path
  finds known l found = matched l.before l.rules l.fit l.same found

ended : (path before : List ℕ) (rules : List Rule) → AreFronts before rules [] → None ≡ rule_of rules path
ended path before [] fit = refl
ended path before (rule ∷ rules) fit = absurd fit

pub ends : (all : List Rule) (path : List ℕ) (known : ℕ) → Left all path known [] → None ≡ rule_of all path
ends all path known l = ended path l.before l.rules l.fit ∙ l.same

-- ---- The fronts of all rules

-- what is kept so far goes on to be that of all rules, after a pattern of this front
abbrev pub Begun : List Rule → List ℕ → List Rule → List Front → Type 0
Begun all before rules fronts = (tail : List Front) → AreFronts before rules tail → AreFronts [] all (fronts ++ tail)

pub begins : (all : List Rule) → Begun all [] all []
begins all tail fit = fit

pub added : (all : List Rule) (before : List ℕ) (rule : Rule) (rules : List Rule) (fronts : List Front) (f : Front) → Begun all before (rule ∷ rules) fronts → IsFront before rule f
    → Begun all (front rule.pattern) rules (fronts ++ f ∷ [])
added all before rule rules fronts f begun is tail fit = subst (AreFronts [] all) (sym (append_assoc fronts (f ∷ []) tail)) (begun (f ∷ tail) (is, fit))

pub completed : (all : List Rule) (before : List ℕ) (fronts : List Front) → Begun all before [] fronts → AreFronts [] all fronts
completed all before fronts begun = subst (AreFronts [] all) (append-nil fronts) (begun [] tt)
