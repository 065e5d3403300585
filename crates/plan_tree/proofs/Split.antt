-- Trees that stand side by side, taken apart at a key.
use Rattle.std.proofs.Common.{◌≡◌, ℕ, zero, suc, ◌+◌, ◌<◌, ◌≤◌, max, List, [], ◌∷◌, ◌++◌, length, take, drop, get_or, Option, Some, refl, ap, sym, ◌∙◌, subst, arith, append_assoc, ◌⊎◌, inl, inr}
use Rattle.std.specs.Prelude.{slice_get}
use Rattle.std.proofs.lemmas.List.{length-append, take_more}
use Rattle.slab.specs.Slab.{Slab}
use Rattle.plan_tree.specs.declared.node.Node.{Node}
use Rattle.spec_plan.specs.declared.part.Part.{Part}
use Rattle.spec_plan.specs.Forests.{Forest, Empty, Tree, joined, times}
use Rattle.plan_tree.specs.Sizes.{height, keys_of, size}
use Rattle.plan_tree.specs.Stands.{Keeps, Stands}
use Rattle.plan_tree.proofs.Counted.{height-joined, one_of, one_same, total-joined}

-- the trees before a key, the tree of the key, and those after it
pub record Split (s : Slab Node) (parent : Option ℕ) (before : List ℕ) (key : ℕ) (after : List ℕ) (f : Forest) : Type 0 where
  pub left : Forest
  pub part : Part
  pub below : Forest
  pub right : Forest
  pub children : List ℕ
  pub is : f ≡ joined left (Tree key part below right)
  pub stands_left : Stands s parent before left
  pub keeps : Keeps s parent key part children
  pub stands_below : Stands s (Some key) children below
  pub stands_right : Stands s parent after right

pub split_at : (s : Slab Node) (parent : Option ℕ) (before : List ℕ) (key : ℕ) (after : List ℕ) (f : Forest) → Stands s parent (before ++ key ∷ after) f → Split s parent before key after f
split_at s parent [] key after Empty is = absurd (cc is)
split_at s parent (b ∷ before) key after Empty is = absurd (cc is)
split_at s parent [] key after (Tree k part below rest) (children, others, is, keeps, stands, later) =
    let here : key ≡ k = cc is in
    let rest_keys : after ≡ others = cc is in
    record {
      left = Empty;
      part = part;
      below = below;
      right = rest;
      children = children;
      is = ap (λ (n : ℕ). Tree n part below rest) (sym here);
      stands_left = refl;
      keeps = subst (λ (n : ℕ). Keeps s parent n part children) (sym here) keeps;
      stands_below = subst (λ (n : ℕ). Stands s (Some n) children below) (sym here) stands;
      stands_right = subst (λ (l : List ℕ). Stands s parent l rest) (sym rest_keys) later;
    }
split_at s parent (b ∷ before) key after (Tree k part below rest) (children, others, is, keeps, stands, later) =
    let here : b ≡ k = cc is in
    let rest_keys : before ++ key ∷ after ≡ others = cc is in
    let more = split_at s parent before key after rest (subst (λ (l : List ℕ). Stands s parent l rest) (sym rest_keys) later) in
    record {
      left = Tree k part below more.left;
      part = more.part;
      below = more.below;
      right = more.right;
      children = more.children;
      is = ap (λ (g : Forest). Tree k part below g) more.is;
      stands_left = (children, before, ap (λ (n : ℕ). n ∷ before) here, keeps, stands, more.stands_left);
      keeps = more.keeps;
      stands_below = more.stands_below;
      stands_right = more.stands_right;
    }

pub stands_none : (s : Slab Node) (parent : Option ℕ) (f : Forest) → Stands s parent [] f → f ≡ Empty
stands_none s parent Empty is = refl
stands_none s parent (Tree key part below rest) (children, others, is, keeps, stands, later) = absurd (cc is)

-- the trees up to a place, and the one at it
pub split_last : (s : Slab Node) (parent : Option ℕ) (keys : List ℕ) (i : ℕ) (f : Forest) → i < length keys → Stands s parent (take (i + 1) keys) f →
    Split s parent (take i keys) (get_or keys i 0) [] f
split_last s parent keys i f within stands =
    split_at s parent (take i keys) (get_or keys i 0) [] f (subst (λ (l : List ℕ). Stands s parent l f) (take_more keys i 0 within) stands)

take_around : (keys : List ℕ) (i : ℕ) → i < length keys → keys ≡ take i keys ++ get_or keys i 0 ∷ drop (suc i) keys
take_around [] i within = absurd (omega (arith, within))
take_around (k ∷ keys) zero within = refl
take_around (k ∷ keys) (suc i) within = ap (λ (l : List ℕ). k ∷ l) (take_around keys i (omega (arith, within)))

-- all trees, taken apart at a place
pub split_all : (s : Slab Node) (parent : Option ℕ) (keys : List ℕ) (i : ℕ) (f : Forest) → i < length keys → Stands s parent keys f →
    Split s parent (take i keys) (get_or keys i 0) (drop (suc i) keys) f
split_all s parent keys i f within stands =
    split_at s parent (take i keys) (get_or keys i 0) (drop (suc i) keys) f (subst (λ (l : List ℕ). Stands s parent l f) (take_around keys i within) stands)

pub no_levels : (f : Forest) → height f ≤ 0 → f ≡ Empty
no_levels Empty low = refl
no_levels (Tree key part below rest) low = absurd (omega (arith, low))

module _ (s : Slab Node) (parent : Option ℕ) (before : List ℕ) (key : ℕ) (after : List ℕ) (f : Forest) (split : Split s parent before key after f) where
  pub split_height : height f ≡ max (height split.left) (max (1 + height split.below) (height split.right))
  split_height = ap height split.is ∙ height-joined split.left (Tree key split.part split.below split.right)

  pub split_size : size f ≡ size split.left + (1 + (size split.below + size split.right))
  split_size = ap size split.is ∙ total-joined (λ k x. 1) split.left (Tree key split.part split.below split.right)

-- ---- Keys in order

pub keys-joined : (f g : Forest) → keys_of (joined f g) ≡ keys_of f ++ keys_of g
keys-joined Empty g = refl
keys-joined (Tree key part below rest) g =
    ap (λ (l : List ℕ). key ∷ (keys_of below ++ l)) (keys-joined rest g) ∙ ap (λ (l : List ℕ). key ∷ l) (sym (append_assoc (keys_of below) (keys_of rest) (keys_of g)))

pub length-keys : (f : Forest) → length (keys_of f) ≡ size f
length-keys Empty = refl
length-keys (Tree key part below rest) =
    let both = length-append (keys_of below) (keys_of rest) in let lower = length-keys below in let later = length-keys rest in omega (arith, both, lower, later)

pub get-append_left : (xs ys : List ℕ) (i key : ℕ) → slice_get xs i ≡ Some key → slice_get (xs ++ ys) i ≡ Some key
get-append_left [] ys i key is = absurd (cc is)
get-append_left (x ∷ xs) ys zero key is = is
get-append_left (x ∷ xs) ys (suc i) key is = get-append_left xs ys i key is

pub get-append_right : (xs ys : List ℕ) (i j key : ℕ) → i ≡ length xs + j → slice_get ys j ≡ Some key → slice_get (xs ++ ys) i ≡ Some key
get-append_right [] ys i j key at is = ap (λ (n : ℕ). slice_get ys n) (omega (arith, at)) ∙ is
get-append_right (x ∷ xs) ys zero j key at is = absurd (omega (arith, at))
get-append_right (x ∷ xs) ys (suc i) j key at is = get-append_right xs ys i j key (omega (arith, at)) is

get-append_cases : (xs ys : List ℕ) (i key : ℕ) → slice_get (xs ++ ys) i ≡ Some key → (slice_get xs i ≡ Some key) ⊎ ((j : ℕ) × (slice_get ys j ≡ Some key))
get-append_cases [] ys i key is = inr (i, is)
get-append_cases (x ∷ xs) ys zero key is = inl is
get-append_cases (x ∷ xs) ys (suc i) key is = get-append_cases xs ys i key is

-- a key that has a number is one of the forest's
pub key_counts : (f : Forest) (i key : ℕ) → slice_get (keys_of f) i ≡ Some key → 1 ≤ times key f
key_counts Empty i key found = absurd (cc found)
key_counts (Tree k part below rest) zero key found = let one : one_of k key ≡ 1 = one_same k key (cc found) in omega (arith, one)
key_counts (Tree k part below rest) (suc i) key found = elim (get-append_cases (keys_of below) (keys_of rest) i key found) [
  | inl lower ↦ let has = key_counts below i key lower in omega (arith, has)
  | inr later ↦ let has = key_counts rest later.0 key later.1 in omega (arith, has)
]
