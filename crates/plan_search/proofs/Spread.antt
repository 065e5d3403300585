-- How many bytes a plan tree is printed as, at most: each node's, by its level and by whether something stands below it.
use Rattle.std.proofs.Common.{◌≡◌, inl, inr, ℕ, zero, suc, ◌+◌, ◌*◌, ◌-◌, ◌≤◌, ◌==◌, List, [], ◌∷◌, length, map, Some, refl, sym, ap, subst, ◌∙◌, arith}
use Rattle.std.proofs.lemmas.Bool.{cond_both}
use Rattle.spec_world.specs.declared.world.Row.{Row}
use Rattle.spec_plan.specs.declared.part.Part.{Part}
use Rattle.spec_plan.specs.declared.part.Part.TheVariants.{Goals, Sequence, Fallback, Condition, Action}
use Rattle.spec_plan.specs.Expansion.{NewKeys, expanded, expanded_below, goal_tree, grown, leaves, new_sequence, wrapped}
use Rattle.spec_plan.specs.Forests.{Forest, Empty, Tree, Ancestor, ancestors, changed_below, count, joined, part_at, times}
use Rattle.spec_plan.specs.Raising.{moved_in, swap_at}
use Rattle.plan_tree.specs.Sizes.{height}
use Rattle.plan_tree.proofs.Counted.{changed_here, changed_other, is_same, tested, unchanged, zero_or}
use Rattle.plan_reorder.proofs.Swaps.{height-swap}
use Rattle.plan_search.proofs.Conditions.{below_part, own_part, rest_part}

-- ---- Bytes

-- a node on this level: a line where nothing stands below it, and else two lines; names have at most 64 bytes
abbrev pub own_bytes : ℕ → Forest → ℕ
own_bytes level Empty = 72 + 2 * level
own_bytes level (Tree key part below rest) = 143 + 4 * level

-- the trees of a forest, the first nodes of which stand on this level
abbrev pub spread : ℕ → Forest → ℕ
spread level Empty = 0
spread level (Tree key part below rest) = own_bytes level below + (spread (level + 1) below + spread level rest)

pub own_few : (level : ℕ) (f : Forest) → own_bytes level f ≤ 143 + 4 * level
own_few level Empty = omega arith
own_few level (Tree key part below rest) = omega arith

own_some : (level : ℕ) (f : Forest) → 72 + 2 * level ≤ own_bytes level f
own_some level Empty = omega arith
own_some level (Tree key part below rest) = omega arith

-- so much so many times
abbrev pub times_over : ℕ → ℕ → ℕ
times_over zero bytes = 0
times_over (suc n) bytes = bytes + times_over n bytes

pub leaves_spread : (n level : ℕ) (keys : List ℕ) (parts : List Part) → length parts ≤ n → spread level (leaves keys parts) ≤ times_over n (72 + 2 * level)
leaves_spread n level [] parts few = omega arith
leaves_spread n level (key ∷ keys) [] few = omega arith
leaves_spread zero level (key ∷ keys) (part ∷ parts) few = absurd (omega (arith, few))
leaves_spread (suc n) level (key ∷ keys) (part ∷ parts) few = let later = leaves_spread n level keys parts (omega (arith, few)) in omega (arith, later)

-- ---- What stands below conditions and actions

-- nothing stands below a condition or an action
abbrev LeafFits : Part → Forest → Type 0
LeafFits (Condition row) below = below ≡ Empty
LeafFits (Action row) below = below ≡ Empty
LeafFits _ below = Unit {0}

abbrev pub LeavesFit : Forest → Type 0
LeavesFit Empty = Unit {0}
LeavesFit (Tree key part below rest) = LeafFits part below × LeavesFit below × LeavesFit rest

leaf_as : (part : Part) (f g : Forest) → (f ≡ Empty → g ≡ Empty) → LeafFits part f → LeafFits part g
leaf_as (Condition row) f g go fits = go fits
leaf_as (Action row) f g go fits = go fits
leaf_as Goals f g go fits = tt
leaf_as (Sequence row) f g go fits = tt
leaf_as Fallback f g go fits = tt

none_below : (part : Part) → LeafFits part Empty
none_below (Condition row) = refl
none_below (Action row) = refl
none_below Goals = tt
none_below (Sequence row) = tt
none_below Fallback = tt

leaves_fit : (keys : List ℕ) (parts : List Part) → LeavesFit (leaves keys parts)
leaves_fit [] parts = tt
leaves_fit (key ∷ keys) [] = tt
leaves_fit (key ∷ keys) (part ∷ parts) = (none_below part, tt, leaves_fit keys parts)

pub goals_fit : (root : ℕ) (keys goals : List ℕ) → LeavesFit (goal_tree root keys goals)
goals_fit root keys goals = (tt, leaves_fit keys (map Condition goals), tt)

joined_fit : (f g : Forest) → LeavesFit f → LeavesFit g → LeavesFit (joined f g)
joined_fit Empty g fit more = more
joined_fit (Tree key part below rest) g fit more = (fit.0, fit.1, joined_fit rest g fit.2 more)

wrapped_fit : (k fallback : ℕ) (new f : Forest) → LeavesFit new → LeavesFit f → LeavesFit (wrapped k fallback new f)
wrapped_fit k fallback new Empty more fit = tt
wrapped_fit k fallback new (Tree key part below rest) more fit =
    cond_both (key == k) (Tree fallback Fallback (Tree key part below new) rest) (Tree key part below (wrapped k fallback new rest)) (λ f. LeavesFit f)
    (λ _. (tt, (fit.0, fit.1, more), fit.2)) (λ _. (fit.0, fit.1, wrapped_fit k fallback new rest more fit.2))

changed_fit : (p : ℕ) (change : Part → Forest → Forest) → ((part : Part) (f : Forest) → LeafFits part f → LeafFits part (change part f)) → ((part : Part) (f : Forest) → LeavesFit f → LeavesFit (change part f)) →
    (f : Forest) → LeavesFit f → LeavesFit (changed_below p change f)
changed_fit p change own each Empty fit = tt
changed_fit p change own each (Tree key part below rest) fit =
    cond_both (key == p) (Tree key part (change part below) rest) (Tree key part (changed_below p change below) (changed_below p change rest)) (λ f. LeavesFit f)
    (λ _. (own part below fit.0, each part below fit.1, fit.2))
    (λ _. (leaf_as part below (changed_below p change below) (λ e. ap (changed_below p change) e) fit.0, changed_fit p change own each below fit.1, changed_fit p change own each rest fit.2))

grown_leaf : (k fallback : ℕ) (new : Forest) (part : Part) (f : Forest) → LeafFits part f → LeafFits part (grown part k fallback new f)
grown_leaf k fallback new (Condition row) f fits = ap (wrapped k fallback new) fits
grown_leaf k fallback new (Action row) f fits = ap (wrapped k fallback new) fits
grown_leaf k fallback new Goals f fits = tt
grown_leaf k fallback new (Sequence row) f fits = tt
grown_leaf k fallback new Fallback f fits = tt

grown_fit : (k fallback : ℕ) (new : Forest) → LeavesFit new → (part : Part) (f : Forest) → LeavesFit f → LeavesFit (grown part k fallback new f)
grown_fit k fallback new more Fallback f fit = joined_fit f new fit more
grown_fit k fallback new more _ f fit = wrapped_fit k fallback new f more fit

above_fit : (above : List Ancestor) (k fallback : ℕ) (new f : Forest) → LeavesFit new → LeavesFit f → LeavesFit (expanded_below above k fallback new f)
above_fit [] k fallback new f more fit = fit
above_fit (parent ∷ outer) k fallback new f more fit = changed_fit parent.key (λ part. grown part k fallback new) (grown_leaf k fallback new) (grown_fit k fallback new more) f fit

pub expanded_fit : (rows : List Row) (keys : NewKeys) (k row : ℕ) (f : Forest) → LeavesFit f → LeavesFit (expanded rows keys k row f)
expanded_fit rows keys k row f fit = above_fit (ancestors k f) k keys.fallback (new_sequence rows keys row) f (tt, leaves_fit keys.leaves _, tt) fit

swap_none : (place : ℕ) → swap_at place Empty ≡ Empty
swap_none zero = refl
swap_none (suc place) = refl

swap_fit : (place : ℕ) (f : Forest) → LeavesFit f → LeavesFit (swap_at place f)
swap_fit zero (Tree a x below (Tree b y under rest)) fit = (fit.2.0, fit.2.1, (fit.0, fit.1, fit.2.2))
swap_fit (suc place) (Tree a x below rest) fit = (fit.0, fit.1, swap_fit place rest fit.2)
swap_fit place f fit = fit

pub moved_fit : (a : Ancestor) (f : Forest) → LeavesFit f → LeavesFit (moved_in a f)
moved_fit a f fit =
    let place = count a.before - 1 in
    changed_fit a.key (λ part. swap_at (count a.before - 1)) (λ part g fits. leaf_as part g (swap_at (count a.before - 1) g) (λ e. ap (swap_at (count a.before - 1)) e ∙ swap_none (count a.before - 1)) fits)
    (λ part g. swap_fit (count a.before - 1) g) f fit

-- ---- Raises

own_swapped : (place level : ℕ) (f : Forest) → own_bytes level (swap_at place f) ≡ own_bytes level f
own_swapped zero level (Tree a x below (Tree b y under rest)) = refl
own_swapped (suc place) level (Tree a x below rest) = refl
own_swapped place level f = refl

spread_swapped : (place level : ℕ) (f : Forest) → spread level (swap_at place f) ≡ spread level f
spread_swapped zero level (Tree a x below (Tree b y under rest)) = omega arith
spread_swapped (suc place) level (Tree a x below rest) = let later = spread_swapped place level rest in omega (arith, later)
spread_swapped place level f = refl

own_changed : (p : ℕ) (change : Part → Forest → Forest) (level : ℕ) (f : Forest) → own_bytes level (changed_below p change f) ≡ own_bytes level f
own_changed p change level Empty = refl
own_changed p change level (Tree key part below rest) =
    cond_both (key == p) (Tree key part (change part below) rest) (Tree key part (changed_below p change below) (changed_below p change rest)) (λ f. own_bytes level f ≡ 143 + 4 * level) (λ _. refl) (λ _. refl)

-- a raise changes no number of bytes
pub spread_moved : (a : Ancestor) (level : ℕ) (f : Forest) → spread level (moved_in a f) ≡ spread level f
spread_moved a level Empty = refl
spread_moved a level (Tree key part below rest) =
    let change : Part → Forest → Forest = λ part. swap_at (count a.before - 1) in
    cond_both (key == a.key) (Tree key part (swap_at (count a.before - 1) below) rest) (Tree key part (moved_in a below) (moved_in a rest)) (λ f. spread level f ≡ spread level (Tree key part below rest))
    (λ _. let own = own_swapped (count a.before - 1) level below in let lower = spread_swapped (count a.before - 1) (level + 1) below in omega (arith, own, lower))
    (λ _. let own = own_changed a.key (λ part. swap_at (count a.before - 1)) level below in let lower = spread_moved a (level + 1) below in let later = spread_moved a level rest in omega (arith, own, lower, later))

pub height_moved : (a : Ancestor) (f : Forest) → height (moved_in a f) ≡ height f
height_moved a Empty = refl
height_moved a (Tree key part below rest) =
    cond_both (key == a.key) (Tree key part (swap_at (count a.before - 1) below) rest) (Tree key part (moved_in a below) (moved_in a rest)) (λ f. height f ≡ height (Tree key part below rest))
    (λ _. let lower = height-swap (count a.before - 1) below in omega (arith, lower))
    (λ _. let lower = height_moved a below in let later = height_moved a rest in omega (arith, lower, later))

-- ---- Expansions

-- nothing stands below a node of this key
abbrev pub IsBare : ℕ → Forest → Type 0
IsBare k Empty = Unit {0}
IsBare k (Tree key part below rest) = (key ≡ k → below ≡ Empty) × IsBare k below × IsBare k rest

condition_bare : (row : ℕ) (part : Part) (below : Forest) → part ≡ Condition row → LeafFits part below → below ≡ Empty
condition_bare row part below is fits = subst (λ (x : Part). LeafFits x below → below ≡ Empty) (sym is) (λ e. e) fits

module _ (tree : Forest) (k row : ℕ) (is : part_at k tree ≡ Some (Condition row)) where
  bare_in : (f : Forest) → ((j : ℕ) → times j f ≤ 1) → ((j : ℕ) (x : Part) → part_at j f ≡ Some x → part_at j tree ≡ Some x) → LeavesFit f → IsBare k f
  bare_in Empty apart inside fit = tt
  bare_in (Tree key part below rest) apart inside fit = (
    λ here.
        let own = inside key part (own_part key part below rest apart) in
        let at : part_at k tree ≡ Some part = ap (λ (n : ℕ). part_at n tree) (sym here) ∙ own in
        condition_bare row part below (cc (at, is)) fit.0,
    bare_in below (λ (j : ℕ). let once = apart j in omega (arith, once)) (λ (j : ℕ) (x : Part) found. inside j x (below_part key part below rest apart j x found)) fit.1,
    bare_in rest (λ (j : ℕ). let once = apart j in omega (arith, once)) (λ (j : ℕ) (x : Part) found. inside j x (rest_part key part below rest apart j x found)) fit.2,
  )

  -- so it is with a condition, where no two nodes have one key
  pub bare_at : ((j : ℕ) → times j tree ≤ 1) → LeavesFit tree → IsBare k tree
  bare_at apart fit = bare_in tree apart (λ j x found. found) fit

module _ (k fallback : ℕ) (new : Forest) where
  own_joined : (level : ℕ) (f : Forest) → own_bytes level (joined f new) ≤ own_bytes level f + (71 + 2 * level)
  own_joined level Empty = let few = own_few level new in omega (arith, few)
  own_joined level (Tree key part below rest) = omega arith

  spread_joined : (level : ℕ) (f : Forest) → spread level (joined f new) ≡ spread level f + spread level new
  spread_joined level Empty = omega arith
  spread_joined level (Tree key part below rest) = let later = spread_joined level rest in omega (arith, later)

  own_wrapped : (level : ℕ) (f : Forest) → own_bytes level (wrapped k fallback new f) ≡ own_bytes level f
  own_wrapped level Empty = refl
  own_wrapped level (Tree key part below rest) =
      cond_both (key == k) (Tree fallback Fallback (Tree key part below new) rest) (Tree key part below (wrapped k fallback new rest)) (λ f. own_bytes level f ≡ 143 + 4 * level) (λ _. refl) (λ _. refl)

  spread_wrapped : (level : ℕ) (f : Forest) → IsBare k f → spread level (wrapped k fallback new f) ≤ spread level f + (145 + 4 * level + spread (level + 1) new)
  spread_wrapped level Empty bare = omega arith
  spread_wrapped level (Tree key part below rest) bare =
      cond_both (key == k) (Tree fallback Fallback (Tree key part below new) rest) (Tree key part below (wrapped k fallback new rest))
      (λ f. spread level f ≤ spread level (Tree key part below rest) + (145 + 4 * level + spread (level + 1) new))
      (λ hit. let none : below ≡ Empty = bare.0 (is_same key k hit) in
      let own : own_bytes (level + 1) below ≡ 72 + 2 * (level + 1) = ap (own_bytes (level + 1)) none in
      let now : own_bytes level below ≡ 72 + 2 * level = ap (own_bytes level) none in
      let lower : spread (level + 1 + 1) below ≡ 0 = ap (spread (level + 1 + 1)) none in
      omega (arith, own, now, lower))
      (λ _. let later = spread_wrapped level rest bare.2 in omega (arith, later))

  -- the bytes that are added below a node on this level, where the new sequence has so many bytes on each of two levels
  module _ (fits : (level : ℕ) → spread level new ≤ 1435 + 38 * level) where
    grown_spread : (level : ℕ) (part : Part) (f : Forest) → IsBare k f → own_bytes level (grown part k fallback new f) + spread (level + 1) (grown part k fallback new f) ≤ own_bytes level f + spread (level + 1) f + (1700 + 42 * level)
    grown_spread level Fallback f bare =
        let own = own_joined level f in let lower = spread_joined (level + 1) f in let more = fits (level + 1) in omega (arith, own, lower, more)
    grown_spread level Goals f bare = let own = own_wrapped level f in let lower = spread_wrapped (level + 1) f bare in let more = fits (level + 1 + 1) in omega (arith, own, lower, more)
    grown_spread level (Sequence row) f bare = let own = own_wrapped level f in let lower = spread_wrapped (level + 1) f bare in let more = fits (level + 1 + 1) in omega (arith, own, lower, more)
    grown_spread level (Condition row) f bare = let own = own_wrapped level f in let lower = spread_wrapped (level + 1) f bare in let more = fits (level + 1 + 1) in omega (arith, own, lower, more)
    grown_spread level (Action row) f bare = let own = own_wrapped level f in let lower = spread_wrapped (level + 1) f bare in let more = fits (level + 1 + 1) in omega (arith, own, lower, more)

    module _ (p high : ℕ) where
      abbrev change : Part → Forest → Forest
      change part = grown part k fallback new

      changed_spread : (level : ℕ) (f : Forest) → times p f ≤ 1 → level + height f ≤ high → IsBare k f → spread level (changed_below p change f) ≤ spread level f + (1700 + 42 * high)
      changed_spread level Empty once low bare = omega arith
      changed_spread level (Tree key part below rest) once low bare = elim (tested key p) [
        | inl hit ↦
            let e : spread level (changed_below p change (Tree key part below rest)) ≡ spread level (Tree key part (change part below) rest) = ap (spread level) (changed_here p change key part below rest hit) in
            let more = grown_spread level part below bare.1 in
            omega (arith, e, more, low)
        | inr miss ↦
            let e : spread level (changed_below p change (Tree key part below rest)) ≡ spread level (Tree key part (changed_below p change below) (changed_below p change rest)) = ap (spread level) (changed_other p change key part below rest miss) in
            let own = own_changed p change level below in
            elim (zero_or (times p below)) [
              | inl lacks ↦
                  let same : spread (level + 1) (changed_below p change below) ≡ spread (level + 1) below = ap (spread (level + 1)) (unchanged p change below lacks) in
                  let later = changed_spread level rest (omega (arith, once)) (omega (arith, low)) bare.2 in
                  omega (arith, e, own, same, later)
              | inr inside ↦
                  let same : spread level (changed_below p change rest) ≡ spread level rest = ap (spread level) (unchanged p change rest (omega (arith, once, inside))) in
                  let lower = changed_spread (level + 1) below (omega (arith, once)) (omega (arith, low)) bare.1 in
                  omega (arith, e, own, same, lower)
            ]
      ]

    above_spread : (above : List Ancestor) (high : ℕ) (f : Forest) → ((j : ℕ) → times j f ≤ 1) → height f ≤ high → IsBare k f → spread 0 (expanded_below above k fallback new f) ≤ spread 0 f + (1700 + 42 * high)
    above_spread [] high f apart low bare = omega arith
    above_spread (parent ∷ outer) high f apart low bare = changed_spread parent.key high 0 f (apart parent.key) (omega (arith, low)) bare

-- a new sequence of at most 17 leaves
pub new_spread : (key row : ℕ) (keys : List ℕ) (parts : List Part) → length parts ≤ 17 → (level : ℕ) → spread level (Tree key (Sequence row) (leaves keys parts) Empty) ≤ 1435 + 38 * level
new_spread key row keys parts few level =
    let own = own_few level (leaves keys parts) in
    let lower = leaves_spread 17 (level + 1) keys parts few in
    omega (arith, own, lower)

-- the tree after an expansion
pub expanded_spread : (rows : List Row) (keys : NewKeys) (k row high : ℕ) (f : Forest) → ((j : ℕ) → times j f ≤ 1) → height f ≤ high → IsBare k f →
    ((level : ℕ) → spread level (new_sequence rows keys row) ≤ 1435 + 38 * level) → spread 0 (expanded rows keys k row f) ≤ spread 0 f + (1700 + 42 * high)
expanded_spread rows keys k row high f apart low bare fits = above_spread k keys.fallback (new_sequence rows keys row) fits (ancestors k f) high f apart low bare
