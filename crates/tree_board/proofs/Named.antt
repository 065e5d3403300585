-- Keys of a scope, each once, and what they name there.
use Rattle.std.proofs.Common.{◌≡◌, ℕ, List, [], ◌∷◌, ◌++◌, Bool, true, false, ◌||◌, cond, map, append_assoc, append-nil, refl, sym, ap, ◌∙◌, arith}
use Rattle.std.proofs.lemmas.Grind.{common_steps, fold-append}
use Rattle.std.proofs.lemmas.List.Folds.{list_any-append, list_any_at}
use Rattle.std.proofs.lemmas.Slice.Eq.{bytes_eq-Decides}
use Rattle.std.specs.List.{list_any}
use Rattle.std.specs.Str.{bytes_eq}
use Rattle.indexmap.proofs.CallerLemmas.{Contains-list_any}
use Rattle.indexmap.specs.IndexSet.{insert_key, insert_all}
use Rattle.spec_script.specs.declared.syntax.Script.{Script}
use Rattle.spec_tree.specs.Boards as model
use Rattle.spec_tree.specs.declared.cell.Naming.{Naming}
use Rattle.tree_board.specs.Namings.{HaveSame, script_names}

-- to the keys before, the names of these scripts were added
pub record AreAdded (before : List (List ℕ)) (scripts : List Script) (now : List (List ℕ)) : Type 0 where
  pub is : now ≡ insert_all bytes_eq before (script_names scripts)

names_of_both : (before now next : List (List ℕ)) (xs ys : List Script)
    → now ≡ insert_all bytes_eq before (script_names xs) → next ≡ insert_all bytes_eq now (script_names ys)
    → next ≡ insert_all bytes_eq before (script_names (xs ++ ys))
names_of_both before now next xs ys so_far more = grind (arith, common_steps)

-- and then those of further scripts
pub AreAdded-more : {before now next : List (List ℕ)} {xs : List Script} → AreAdded before xs now → (ys : List Script)
    → next ≡ insert_all bytes_eq now (script_names ys) → AreAdded before (xs ++ ys) next
AreAdded-more {before} {now} {next} {xs} so_far ys more = record { is = names_of_both before now next xs ys so_far.is more }

-- ---- tests of lists

or_false : (a : Bool) → a ≡ a || false
or_false true = refl
or_false false = refl

or_true : (a : Bool) → a || true ≡ true
or_true true = refl
or_true false = refl

pub or_assoc : (a b c : Bool) → (a || b) || c ≡ a || (b || c)
or_assoc true b c = refl
or_assoc false b c = refl

or_moved : (x k a : Bool) → x || (k || a) ≡ k || (a || x)
or_moved true true a = refl
or_moved true false true = refl
or_moved true false false = refl
or_moved false true a = refl
or_moved false false true = refl
or_moved false false false = refl

pub list_any-map : {X Y : Type 0} (p : Y → Bool) (f : X → Y) (xs : List X) → list_any p (map f xs) ≡ list_any (λ x. p (f x)) xs
list_any-map p f [] = refl
list_any-map p f (x ∷ xs) = ap (λ b. p (f x) || b) (list_any-map p f xs)

same_bytes : (x y : List ℕ) → bytes_eq x y ≡ true → x ≡ y
same_bytes x y tie = (bytes_eq-Decides x y).0 tie

-- a key that is there already adds nothing to what a test says
any_held : (p : List ℕ → Bool) (key : List ℕ) (keys : List (List ℕ)) → list_any (bytes_eq key) keys ≡ true → list_any p keys ≡ list_any p keys || p key
any_held p key keys held =
    elim (p key) as (λ b. p key ≡ b → list_any p keys ≡ list_any p keys || b) [
      | true ↦ λ e.
          let at = Contains-list_any bytes_eq same_bytes keys key held in
          let some = list_any_at p keys at.0 key at.1 (ap p at.2 ∙ e) in
          some ∙ ap (λ b. b || true) (sym some)
      | false ↦ λ _. or_false (list_any p keys)
    ] refl

any_inserted : (p : List ℕ → Bool) (keys : List (List ℕ)) (key : List ℕ) → list_any p (insert_key bytes_eq keys key) ≡ list_any p keys || p key
any_inserted p keys key =
    elim (list_any (bytes_eq key) keys) as (λ b. list_any (bytes_eq key) keys ≡ b → list_any p (cond b keys (keys ++ key ∷ [])) ≡ list_any p keys || p key) [
      | true ↦ λ held. any_held p key keys held
      | false ↦ λ _. list_any-append p keys (key ∷ []) ∙ ap (λ b. list_any p keys || b) (sym (or_false (p key)))
    ] refl

pub any_of_all : (p : List ℕ → Bool) (keys names : List (List ℕ)) → list_any p (insert_all bytes_eq keys names) ≡ list_any p keys || list_any p names
any_of_all p keys [] = or_false (list_any p keys)
any_of_all p keys (name ∷ names) =
    any_of_all p (insert_key bytes_eq keys name) names
    ∙ ap (λ b. b || list_any p names) (any_inserted p keys name)
    ∙ or_assoc (list_any p keys) (p name) (list_any p names)

-- a name goes to keys that were inserted one after the other as the last of them
inserted_last : (keys names : List (List ℕ)) (name : List ℕ)
    → insert_all bytes_eq keys (insert_key bytes_eq names name) ≡ insert_key bytes_eq (insert_all bytes_eq keys names) name
inserted_last keys names name =
    let all = insert_all bytes_eq keys names in
    elim (list_any (bytes_eq name) names) as (λ b. list_any (bytes_eq name) names ≡ b
    → insert_all bytes_eq keys (cond b names (names ++ name ∷ [])) ≡ insert_key bytes_eq all name) [
      | true ↦ λ held.
          let there = any_of_all (bytes_eq name) keys names ∙ ap (λ b. list_any (bytes_eq name) keys || b) held ∙ or_true (list_any (bytes_eq name) keys) in
          sym (ap (λ b. cond b all (all ++ name ∷ [])) there)
      | false ↦ λ _. fold-append (insert_key bytes_eq) keys names (name ∷ [])
    ] refl

-- keys to which names go, each once, become those to which they go again and again
pub inserted_once : (keys held names : List (List ℕ))
    → insert_all bytes_eq keys (insert_all bytes_eq held names) ≡ insert_all bytes_eq (insert_all bytes_eq keys held) names
inserted_once keys held [] = refl
inserted_once keys held (name ∷ names) =
    inserted_once keys (insert_key bytes_eq held name) names ∙ ap (λ ks. insert_all bytes_eq ks names) (inserted_last keys held name)

-- keys, each once, name what they name when they are told again and again
pub named_once : (number : ℕ) (scope : model.Scope) (before names now : List (List ℕ)) → now ≡ insert_all bytes_eq before names
    → HaveSame (map (model.named_in number scope) now) (map (model.named_in number scope) before ++ map (model.named_in number scope) names)
named_once number scope before names now is p =
    let here = model.named_in number scope in
    let test = λ (key : List ℕ). p (here key) in
    list_any-map p here now
    ∙ ap (list_any test) is
    ∙ any_of_all test before names
    ∙ sym (list_any-append p (map here before) (map here names)
    ∙ ap (λ b. b || list_any p (map here names)) (list_any-map p here before)
    ∙ ap (λ b. list_any test before || b) (list_any-map p here names))

-- ---- what has been named so far

pub same_from : {X : Type 0} (xs ys : List X) → xs ≡ ys → HaveSame xs ys
same_from xs ys is p = ap (list_any p) is

pub then_same : {X : Type 0} (xs ys zs : List X) → HaveSame xs ys → HaveSame ys zs → HaveSame xs zs
then_same xs ys zs f g p = f p ∙ g p

pub both_same : {X : Type 0} (xs xs' ys ys' : List X) → HaveSame xs xs' → HaveSame ys ys' → HaveSame (xs ++ ys) (xs' ++ ys')
both_same xs xs' ys ys' f g p =
    list_any-append p xs ys ∙ ap (λ b. b || list_any p ys) (f p) ∙ ap (λ b. list_any p xs' || b) (g p) ∙ sym (list_any-append p xs' ys')

-- what a node that makes no scope names, and then its children
pub other_named : {X : Type 0} (namings keys keys' own rest now whole : List X) → HaveSame keys' (keys ++ own)
    → HaveSame now ((namings ++ keys') ++ rest) → whole ≡ own ++ rest → HaveSame now ((namings ++ keys) ++ whole)
other_named namings keys keys' own rest now whole node children is p =
    let n = list_any p namings in
    let k = list_any p keys in
    children p
    ∙ list_any-append p (namings ++ keys') rest
    ∙ ap (λ b. b || list_any p rest) (list_any-append p namings keys' ∙ ap (λ b. n || b) (node p ∙ list_any-append p keys own) ∙ sym (or_assoc n k (list_any p own)))
    ∙ or_assoc (n || k) (list_any p own) (list_any p rest)
    ∙ ap (λ b. b || (list_any p own || list_any p rest)) (sym (list_any-append p namings keys))
    ∙ ap (λ b. list_any p (namings ++ keys) || b) (sym (ap (list_any p) is ∙ list_any-append p own rest))
    ∙ sym (list_any-append p (namings ++ keys) whole)

-- what a SubTree node names where it stands, and then what is named in its scope: by its ports, and by its children
pub subtree_named : (namings keys keys' own inner ports rest left whole : List Naming) → HaveSame keys' (keys ++ own) → HaveSame inner ports
    → HaveSame left ((namings ++ inner) ++ rest) → whole ≡ own ++ ports ++ rest → HaveSame (left ++ keys') ((namings ++ keys) ++ whole)
subtree_named namings keys keys' own inner ports rest left whole node given children is p =
    let n = list_any p namings in
    let k = list_any p keys in
    let a = list_any p own in
    let below = list_any p ports || list_any p rest in
    list_any-append p left keys'
    ∙ ap (λ b. b || list_any p keys') (children p ∙ list_any-append p (namings ++ inner) rest ∙ ap (λ b. b || list_any p rest) (list_any-append p namings inner)
    ∙ or_assoc n (list_any p inner) (list_any p rest) ∙ ap (λ b. n || (b || list_any p rest)) (given p))
    ∙ ap (λ b. (n || below) || b) (node p ∙ list_any-append p keys own)
    ∙ or_assoc n below (k || a)
    ∙ ap (λ b. n || b) (or_moved below k a)
    ∙ sym (or_assoc n k (a || below))
    ∙ sym (list_any-append p (namings ++ keys) whole
    ∙ ap (λ b. b || list_any p whole) (list_any-append p namings keys)
    ∙ ap (λ b. (n || k) || b) (ap (list_any p) is ∙ list_any-append p (own ++ ports) rest ∙ ap (λ b. b || list_any p rest) (list_any-append p own ports) ∙ or_assoc a (list_any p ports) (list_any p rest)))

-- one more of some terms, of which the others are still to come
pub next_named : {X : Type 0} (now then first rest whole of_all : List X) → HaveSame now (then ++ first) → whole ≡ first ++ rest → HaveSame (then ++ whole) of_all → HaveSame (now ++ rest) of_all
next_named {X} now then first rest whole of_all step is so_far =
    then_same _ _ _ (both_same now (then ++ first) rest rest step (λ p. refl))
    (then_same _ (then ++ whole) _ (same_from _ _ (append_assoc then first rest ∙ ap (λ (ns : List X). then ++ ns) (sym is))) so_far)

-- nothing is left of some terms
pub none_left : {X : Type 0} (now then : List X) → HaveSame (now ++ []) then → HaveSame now then
none_left now then so_far = then_same _ (now ++ []) _ (same_from _ _ (sym (append-nil now))) so_far

-- what has been named from nothing on
pub named_from_none : (before now whole : List Naming) → before ≡ [] → HaveSame now (before ++ whole) → HaveSame now whole
named_from_none before now whole none is = then_same _ (before ++ whole) _ is (same_from _ _ (ap (λ (ns : List Naming). ns ++ whole) none))
