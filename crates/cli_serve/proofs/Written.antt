-- Lines that are written one after the other, of which some are left.
use Rattle.std.proofs.Common.{◌≡◌, ℕ, List, [], ◌∷◌, ◌++◌, Option, refl, ap, sym, subst, ◌∙◌, append_assoc, append-nil}
use Rattle.std.proofs.lemmas.List.Folds.{concat-append}
use Rattle.std.specs.List.{concat}
use Rattle.spec_outside.specs.Appending.{Appended, AppendedPrefix}
use Rattle.base_outside.proofs.Appends.{Appended-nil, Appended-trans, AppendedPrefix-after, AppendedPrefix-longer, AppendedPrefix-whole}

-- of these lines those before the rest were written
pub record Written (all rest : List (List ℕ)) (a b : Option (List ℕ)) : Type 0 where
  pub front : List (List ℕ)
  pub text : Appended a b (concat front)
  pub whole : all ≡ front ++ rest

-- none was written yet
pub none_written : (all : List (List ℕ)) (a : Option (List ℕ)) → Written all all a a
none_written all a = record { front = []; text = Appended-nil a; whole = refl }

-- what is left is spelled in another way
pub rest_is : {all xs ys : List (List ℕ)} {a b : Option (List ℕ)} → xs ≡ ys → Written all xs a b → Written all ys a b
rest_is {all} {xs} {ys} {a} {b} e w = subst (λ (zs : List (List ℕ)). Written all zs a b) e w

-- some more were written
pub more_written : {all ys : List (List ℕ)} {a b : Option (List ℕ)} (xs : List (List ℕ)) (c : Option (List ℕ)) → Written all (xs ++ ys) a b → Appended b c (concat xs) → Written all ys a c
more_written {all} {ys} {a} {b} xs c w p =
    record {
      front = w.front ++ xs;
      text = subst (Appended a c) (sym (concat-append w.front xs)) (Appended-trans a b c (concat w.front) (concat xs) w.text p);
      whole = w.whole ∙ sym (append_assoc w.front xs ys);
    }

-- one more was written
pub line_written : {all ys : List (List ℕ)} {a b : Option (List ℕ)} (x : List ℕ) (c : Option (List ℕ)) → Written all (x ∷ ys) a b → Appended b c x → Written all ys a c
line_written {all} {ys} {a} {b} x c w p = more_written (x ∷ []) c w (subst (Appended b c) (sym (append-nil x)) p)

-- no more than those that were written
pub prefix_written : {all rest : List (List ℕ)} {a b : Option (List ℕ)} → Written all rest a b → AppendedPrefix a b (concat all)
prefix_written {all} {rest} {a} {b} w =
    subst (AppendedPrefix a b) (sym (ap concat w.whole ∙ concat-append w.front rest))
    (AppendedPrefix-longer a b (concat w.front) (concat rest) (AppendedPrefix-whole a b (concat w.front) w.text))

-- and a prefix of the next ones
pub prefix_more : {all : List (List ℕ)} {a b : Option (List ℕ)} (xs ys : List (List ℕ)) (c : Option (List ℕ)) → Written all (xs ++ ys) a b → AppendedPrefix b c (concat xs) → AppendedPrefix a c (concat all)
prefix_more {all} {a} {b} xs ys c w p =
    subst (AppendedPrefix a c) (sym (ap concat w.whole ∙ concat-append w.front (xs ++ ys)))
    (AppendedPrefix-after a b c (concat w.front) (concat (xs ++ ys)) w.text
    (subst (AppendedPrefix b c) (sym (concat-append xs ys)) (AppendedPrefix-longer b c (concat xs) (concat ys) p)))

-- and a prefix of the next one
pub prefix_line : {all : List (List ℕ)} {a b : Option (List ℕ)} (x : List ℕ) (ys : List (List ℕ)) (c : Option (List ℕ)) → Written all (x ∷ ys) a b → AppendedPrefix b c x → AppendedPrefix a c (concat all)
prefix_line {all} {a} {b} x ys c w p = prefix_more (x ∷ []) ys c w (subst (AppendedPrefix b c) (sym (append-nil x)) p)

-- all were written
pub all_written : {all : List (List ℕ)} {a b : Option (List ℕ)} → Written all [] a b → Appended a b (concat all)
all_written {all} {a} {b} w = subst (Appended a b) (ap concat (sym (w.whole ∙ append-nil w.front))) w.text

-- all that was left was written
pub last_written : {all : List (List ℕ)} {a b : Option (List ℕ)} (xs : List (List ℕ)) (c : Option (List ℕ)) → Written all xs a b → Appended b c (concat xs) → Appended a c (concat all)
last_written {all} {a} {b} xs c w p = all_written (more_written xs c (rest_is (sym (append-nil xs)) w) p)

-- and a prefix of it
pub last_prefix : {all : List (List ℕ)} {a b : Option (List ℕ)} (xs : List (List ℕ)) (c : Option (List ℕ)) → Written all xs a b → AppendedPrefix b c (concat xs) → AppendedPrefix a c (concat all)
last_prefix {all} {a} {b} xs c w p = prefix_more xs [] c (rest_is (sym (append-nil xs)) w) p
