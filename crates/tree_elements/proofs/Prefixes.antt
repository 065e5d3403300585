-- What stands at the front of bytes is read, and what was read stood there.
use Rattle.std.proofs.Common.{◌≡◌, ℕ, ◌+◌, Bool, true, false, ◌==◌, List, [], ◌∷◌, ◌++◌, length, take, drop, Option, Some, None, cond, refl, ap, sym, ◌∙◌, arith, if◌then◌else◌}
use Rattle.std.proofs.Math.Seq.{take-append_seam, drop-append_seam}
use Rattle.std.proofs.lemmas.Bool.Decides.{nat_tests}
use Rattle.std.proofs.lemmas.Grind.{common_steps}
use Rattle.std.proofs.lemmas.List.Sums.{prefix_len-le-length}
use Rattle.std.specs.Cmp.Derive.{both_true}
use Rattle.std.specs.List.{prefix_len, list_all}
use Rattle.std.specs.Option.{option_map}
use Rattle.spec_script.specs.Identifiers.{is_white}
use Rattle.spec_script.proofs.Bools.{both}
use Rattle.spec_tree_file.specs.References.{decoded}
use Rattle.spec_tree_file.specs.Marks.{is_name, is_name_first, is_name_rest, is_quote, is_value_byte}
use Rattle.tree_elements.specs.Reading.{◌>>=◌, after_white, begins, name_of, value_of}

pub ruleset prefixes = prefix_len-le-length

pub some_inj : {A : Type 0} (x y : A) → Some x ≡ Some y → x ≡ y
some_inj x y h = cc

pub bind_some : {A B : Type 0} (o : Option A) (f : A → Option B) (y : B) → (o >>= f) ≡ Some y → (x : A) × (o ≡ Some x) × (f x ≡ Some y)
bind_some None f y h = absurd (cc)
bind_some (Some x) f y h = (x, refl, h)

pub map_some : {A B : Type 0} (g : A → B) (o : Option A) (y : B) → option_map g o ≡ Some y → (x : A) × (o ≡ Some x) × (g x ≡ y)
map_some g None y h = absurd (cc)
map_some g (Some x) y h = (x, refl, some_inj (g x) y h)

pub if_some : {A : Type 0} (b : Bool) (o : Option A) (y : A) → (if b then o else None) ≡ Some y → (b ≡ true) × (o ≡ Some y)
if_some true o y h = (refl, h)
if_some false o y h = absurd (cc)

pub eq_from_test : (a b : ℕ) → (a == b) ≡ true → a ≡ b
eq_from_test a b h = grind (arith, nat_tests)

pub test_same : (a : ℕ) → (a == a) ≡ true
test_same a = grind (arith, nat_tests)

-- all of a list that pass, and then one that does not
pub span_seam : (p : ℕ → Bool) (xs ys : List ℕ) → list_all p xs ≡ true → begins p ys ≡ false → prefix_len p (xs ++ ys) ≡ length xs
span_seam p [] [] h b = refl
span_seam p [] (y ∷ ys) h b = rw b refl
span_seam p (x ∷ xs) ys h b =
    let ih = span_seam p xs ys (both (p x) (list_all p xs) h).1 b in
    let hx : p x ≡ true = (both (p x) (list_all p xs) h).0 in
    rw (hx, ih) (omega arith)

pub take_one_more : (n : ℕ) (x : ℕ) (xs : List ℕ) → take (1 + n) (x ∷ xs) ≡ x ∷ take n xs
take_one_more n x xs = grind (arith, common_steps)

drop_one_more : (n : ℕ) (x : ℕ) (xs : List ℕ) → drop (1 + n) (x ∷ xs) ≡ drop n xs
drop_one_more n x xs = grind (arith, common_steps)

taken_if : (p : ℕ → Bool) (x : ℕ) (xs : List ℕ) (b : Bool) → p x ≡ b → list_all p (take (prefix_len p xs) xs) ≡ true → list_all p (take (cond b (1 + prefix_len p xs) 0) (x ∷ xs)) ≡ true
taken_if p x xs true e ih = rw take_one_more (rw (e, ih) refl)
taken_if p x xs false e ih = refl

-- what is taken while it passes does pass
pub taken : (p : ℕ → Bool) (xs : List ℕ) → list_all p (take (prefix_len p xs) xs) ≡ true
taken p [] = refl
taken p (x ∷ xs) = taken_if p x xs (p x) refl (taken p xs)

left_if : (p : ℕ → Bool) (x : ℕ) (xs : List ℕ) (b : Bool) → p x ≡ b → begins p (drop (prefix_len p xs) xs) ≡ false → begins p (drop (cond b (1 + prefix_len p xs) 0) (x ∷ xs)) ≡ false
left_if p x xs true e ih = rw drop_one_more ih
left_if p x xs false e ih = e

-- what is left then does not begin so
pub left : (p : ℕ → Bool) (xs : List ℕ) → begins p (drop (prefix_len p xs) xs) ≡ false
left p [] = refl
left p (x ∷ xs) = left_if p x xs (p x) refl (left p xs)

pub taken_seam : (p : ℕ → Bool) (xs ys : List ℕ) → list_all p xs ≡ true → begins p ys ≡ false → take (prefix_len p (xs ++ ys)) (xs ++ ys) ≡ xs
taken_seam p xs ys h b = rw (span_seam p xs ys h b) (take-append_seam xs ys)

pub left_seam : (p : ℕ → Bool) (xs ys : List ℕ) → list_all p xs ≡ true → begins p ys ≡ false → drop (prefix_len p (xs ++ ys)) (xs ++ ys) ≡ ys
left_seam p xs ys h b = rw (span_seam p xs ys h b) (drop-append_seam xs ys)

-- white space begins no name, and ends one
pub white_ends_name : (c : ℕ) → is_white c ≡ true → is_name_rest c ≡ false
white_ends_name c h = grind (arith, nat_tests)

pub name_is_not_white : (c : ℕ) → is_name_first c ≡ true → is_white c ≡ false
name_is_not_white c h = grind (arith, nat_tests)

-- after white space, and before it
pub begins_gap : (q : ℕ → Bool) (gap : List ℕ) (c : ℕ) (more : List ℕ) → ((b : ℕ) → is_white b ≡ true → q b ≡ false) → list_all is_white gap ≡ true → q c ≡ false → begins q (gap ++ (c ∷ more)) ≡ false
begins_gap q [] c more w h e = e
begins_gap q (g ∷ gap) c more w h e = w g (both (is_white g) (list_all is_white gap) h).0

pub name_rest_all : (name : List ℕ) → is_name name ≡ true → list_all is_name_rest name ≡ true
name_rest_all [] h = absurd (cc)
name_rest_all (c ∷ cs) h = (both (is_name_first c) (list_all is_name_rest (c ∷ cs)) h).1

pub begins_name_not_white : (name more : List ℕ) → is_name name ≡ true → begins is_white (name ++ more) ≡ false
begins_name_not_white [] more h = absurd (cc)
begins_name_not_white (c ∷ cs) more h = name_is_not_white c (both (is_name_first c) (list_all is_name_rest (c ∷ cs)) h).0

pub begins_name : (name more : List ℕ) → is_name name ≡ true → begins is_name_first (name ++ more) ≡ true
begins_name [] more h = absurd (cc)
begins_name (c ∷ cs) more h = (both (is_name_first c) (list_all is_name_rest (c ∷ cs)) h).0

-- a name is read, whatever follows that does not go on with it
pub name_again : (name more : List ℕ) → is_name name ≡ true → begins is_name_rest more ≡ false → name_of (name ++ more) ≡ Some (name, more)
name_again name more is e =
    rw (begins_name name more is, taken_seam is_name_rest name more (name_rest_all name is) e, left_seam is_name_rest name more (name_rest_all name is) e) refl

quote_ends_value : (quote : ℕ) → is_value_byte quote quote ≡ false
quote_ends_value quote = grind (arith, nat_tests)

pub value_again : (quote : ℕ) (value more : List ℕ) → is_quote quote ≡ true → list_all (is_value_byte quote) value ≡ true → value_of (quote ∷ (value ++ (quote ∷ more))) ≡ Some (decoded value, more)
value_again quote value more q h =
    rw (
      q,
      taken_seam (is_value_byte quote) value (quote ∷ more) h (quote_ends_value quote),
      left_seam (is_value_byte quote) value (quote ∷ more) h (quote_ends_value quote),
      test_same quote,
    ) refl

pub after_white_again : (gap more : List ℕ) → list_all is_white gap ≡ true → begins is_white more ≡ false → after_white (gap ++ more) ≡ more
after_white_again gap more h e = left_seam is_white gap more h e

-- a name stands at the front of bytes that begin with one
first_in : (p q : ℕ → Bool) (b : ℕ) (bs : List ℕ) → ((c : ℕ) → p c ≡ true → q c ≡ true) → p b ≡ true → list_all q (take (prefix_len q (b ∷ bs)) (b ∷ bs)) ≡ true → take (prefix_len q (b ∷ bs)) (b ∷ bs) ≡ b ∷ take (prefix_len q bs) bs
first_in p q b bs sub h all = rw (sub b h) (take_one_more (prefix_len q bs) b bs)

first_is_rest : (c : ℕ) → is_name_first c ≡ true → is_name_rest c ≡ true
first_is_rest c h = grind (arith, nat_tests)

pub name_taken : (bytes : List ℕ) → begins is_name_first bytes ≡ true → is_name (take (prefix_len is_name_rest bytes) bytes) ≡ true
name_taken [] h = absurd (cc)
name_taken (b ∷ bs) h =
    let all = taken is_name_rest (b ∷ bs) in
    let e = first_in is_name_first is_name_rest b bs first_is_rest h all in
    ap is_name e ∙ both_true h (sym (ap (list_all is_name_rest) e) ∙ all)
