-- What an instruction or a comment holds up to its end is ignored, and what was ignored stood there.
use Rattle.std.proofs.Common.{◌≡◌, ℕ, Bool, true, false, not, ◌==◌, ◌||◌, List, [], ◌∷◌, ◌++◌, length, ◌<◌, drop, Some, None, refl, ap, sym, ◌∙◌, subst, append_assoc, arith, if◌then◌else◌}
use Rattle.std.proofs.lemmas.Bool.Decides.{nat_tests, Decides-eqb}
use Rattle.std.proofs.lemmas.Slice.Eq.{starts_is}
use Rattle.std.specs.Cmp.Derive.{both_true}
use Rattle.std.specs.Char.{is_ascii}
use Rattle.std.specs.List.{list_all}
use Rattle.std.specs.Str.{IsUtf8}
use Rattle.spec_script.proofs.Bools.{both}
use Rattle.spec_tree_file.specs.References.{begins_with}
use Rattle.spec_tree_file.specs.Marks.{is_not_zero, holds, instruction_end, comment_end}
use Rattle.tree_elements.specs.Reading.{following_first}
use Rattle.tree_elements.proofs.Cuts.{cut_within}
use Rattle.tree_elements.proofs.Prefixes.{some_inj}

pub begins_is : (word text : List ℕ) → begins_with word text ≡ true → text ≡ word ++ drop (length word) text
begins_is word text = (starts_is Decides-eqb text word (begins_with word text) refl).0

pub is_begins : (word text rest : List ℕ) → text ≡ word ++ rest → begins_with word text ≡ true
is_begins word text rest = (starts_is Decides-eqb text word (begins_with word text) refl).1 rest

-- a text that begins with a word still does so with more after it
begins_more : (word xs ys : List ℕ) → begins_with word xs ≡ true → begins_with word (xs ++ ys) ≡ true
begins_more word xs ys h =
    is_begins word (xs ++ ys) (drop (length word) xs ++ ys)
    (ap (λ (z : List ℕ). z ++ ys) (begins_is word xs h) ∙ append_assoc word (drop (length word) xs) ys)

begins_less : (word xs ys : List ℕ) (b : Bool) → begins_with word xs ≡ b → begins_with word (xs ++ ys) ≡ false → b ≡ false
begins_less word xs ys false e h = refl
begins_less word xs ys true e h = absurd (let k = begins_more word xs ys e in cc)

-- a word of which no end begins it again
abbrev IsApart : List ℕ → Type 0
IsApart word = (c : ℕ) (cs more : List ℕ) → begins_with word (c ∷ cs) ≡ false → begins_with word (c ∷ (cs ++ (word ++ more))) ≡ false

instruction_apart : IsApart instruction_end
instruction_apart c [] more h = grind (arith, nat_tests)
instruction_apart c (d ∷ cs) more h = h

comment_apart : IsApart comment_end
comment_apart c [] more h = grind (arith, nat_tests)
comment_apart c (d ∷ []) more h = grind (arith, nat_tests)
comment_apart c (d ∷ e ∷ cs) more h = h

neither : (a b : Bool) → not (a || b) ≡ true → (a ≡ false) × (not b ≡ true)
neither true b h = absurd (cc)
neither false b h = (refl, h)

not_true : (b : Bool) → not b ≡ true → b ≡ false
not_true true h = absurd (cc)
not_true false h = refl

passed : (word : List ℕ) (c : ℕ) (cs : List ℕ) → begins_with word (c ∷ cs) ≡ false → is_not_zero c ≡ true → following_first word (c ∷ cs) ≡ following_first word cs
passed word c cs b z =
    ap (λ (t : Bool). if t then Some (drop (length word) (c ∷ cs)) else (if c == 0 then None else following_first word cs)) b
    ∙ ap (λ (t : Bool). if t then None else following_first word cs) (not_true (c == 0) z)

word_again : (word : List ℕ) → IsApart word → ((more : List ℕ) → following_first word (word ++ more) ≡ Some more) →
    (body more : List ℕ) → list_all is_not_zero body ≡ true → not (holds word body) ≡ true → following_first word (body ++ (word ++ more)) ≡ Some more
word_again word apart here [] more z h = here more
word_again word apart here (c ∷ cs) more z h =
    let n = neither (begins_with word (c ∷ cs)) (holds word cs) h in
    let t = both (is_not_zero c) (list_all is_not_zero cs) z in
    passed word c (cs ++ (word ++ more)) (apart c cs more n.0) t.0 ∙ word_again word apart here cs more t.1 n.1

instruction_here : (more : List ℕ) → following_first instruction_end (instruction_end ++ more) ≡ Some more
instruction_here more = refl

comment_here : (more : List ℕ) → following_first comment_end (comment_end ++ more) ≡ Some more
comment_here more = refl

pub instruction_again : (body more : List ℕ) → list_all is_not_zero body ≡ true → not (holds instruction_end body) ≡ true → following_first instruction_end (body ++ (instruction_end ++ more)) ≡ Some more
instruction_again = word_again instruction_end instruction_apart instruction_here

pub comment_again : (body more : List ℕ) → list_all is_not_zero body ≡ true → not (holds comment_end body) ≡ true → following_first comment_end (body ++ (comment_end ++ more)) ≡ Some more
comment_again = word_again comment_end comment_apart comment_here

-- what was ignored
pub record BodyFound (word bytes rest : List ℕ) : Type 0 where
  pub body : List ℕ
  pub not_zero : list_all is_not_zero body ≡ true
  pub first : not (holds word body) ≡ true
  pub is : bytes ≡ body ++ (word ++ rest)

not_false : (b : Bool) → b ≡ false → not b ≡ true
not_false b h = rw h refl

one_passed : (word : List ℕ) (c : ℕ) (cs rest : List ℕ) → begins_with word (c ∷ cs) ≡ false → (c == 0) ≡ false → BodyFound word cs rest → BodyFound word (c ∷ cs) rest
one_passed word c cs rest b z found =
    let is : c ∷ cs ≡ (c ∷ found.body) ++ (word ++ rest) = ap (λ (z : List ℕ). c ∷ z) found.is in
    let none : begins_with word (c ∷ found.body) ≡ false =
    begins_less word (c ∷ found.body) (word ++ rest) (begins_with word (c ∷ found.body)) refl (sym (ap (begins_with word) is) ∙ b) in
    record {
      body = c ∷ found.body;
      not_zero = both_true (not_false (c == 0) z) found.not_zero;
      first = rw none found.first;
      is = is;
    }

found_if : (word : List ℕ) (c : ℕ) (cs rest : List ℕ) (b z : Bool) → begins_with word (c ∷ cs) ≡ b → (c == 0) ≡ z → (following_first word cs ≡ Some rest → BodyFound word cs rest) →
    (if b then Some (drop (length word) (c ∷ cs)) else (if z then None else following_first word cs)) ≡ Some rest → BodyFound word (c ∷ cs) rest
found_if word c cs rest true z e f ih h =
    record {
      body = [];
      not_zero = refl;
      first = refl;
      is = begins_is word (c ∷ cs) e ∙ ap (λ (z : List ℕ). word ++ z) (some_inj (drop (length word) (c ∷ cs)) rest h);
    }
found_if word c cs rest false true e f ih h = absurd (cc)
found_if word c cs rest false false e f ih h = one_passed word c cs rest e f (ih h)

pub body_found : (word bytes rest : List ℕ) → following_first word bytes ≡ Some rest → BodyFound word bytes rest
body_found word [] rest h = absurd (cc)
body_found word (c ∷ cs) rest h = found_if word c cs rest (begins_with word (c ∷ cs)) (c == 0) refl refl (body_found word cs rest) h

here_if : (word : List ℕ) (c : ℕ) (cs : List ℕ) → begins_with word (c ∷ cs) ≡ true → following_first word (c ∷ cs) ≡ Some (drop (length word) (c ∷ cs))
here_if word c cs h = ap (λ (t : Bool). if t then Some (drop (length word) (c ∷ cs)) else (if c == 0 then None else following_first word cs)) h

pub here_found : (word bytes : List ℕ) → 0 < length word → begins_with word bytes ≡ true → following_first word bytes ≡ Some (drop (length word) bytes)
here_found word (c ∷ cs) some h = here_if word c cs h
here_found [] [] some h = absurd (omega arith)
here_found (w ∷ ws) [] some h = absurd (cc)

-- what follows an ASCII word is a text
pub after_utf8 : (word bytes rest : List ℕ) → 0 < length word → list_all is_ascii word ≡ true → IsUtf8 bytes → following_first word bytes ≡ Some rest → IsUtf8 rest
after_utf8 word bytes rest some ascii u h =
    let found = body_found word bytes rest h in
    cut_within found.body word rest some ascii (subst IsUtf8 found.is u)
