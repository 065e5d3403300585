-- The printed value of a port says that value.
use Rattle.std.proofs.Common.{◌≡◌, ℕ, ℤ, pos, negsuc, zero, suc, ◌+◌, ◌-◌, ◌<◌, ◌≤◌, ◌^◌, Bool, true, false, not, ◌==◌, ◌&&◌, ◌||◌, nat_lt, cond, if◌then◌else◌, List, [], ◌∷◌, ◌++◌, length, get_or, take, codes, decimal, Option, Some, None, refl, ap, sym, ◌∙◌, subst, arith, length-append}
use Rattle.std.specs.Prelude.{nat_le, slice_index, slice_range, is_some}
use Rattle.std.proofs.lemmas.Bool.{leb-true}
use Rattle.std.proofs.lemmas.Bool.Decides.{nat_tests}
use Rattle.std.proofs.lemmas.Fmt.{decimal_is_IsNumeral, decimal_digit, first_decimal}
use Rattle.std.proofs.lemmas.Grind.{common_steps}
use Rattle.std.proofs.lemmas.Slice.Eq.{bytes_eq-Decides}
use Rattle.std.proofs.lemmas.Str.Parse.{without_leading_plus_none}
use Rattle.std.proofs.Math.IntN.{neg_ℤ}
use Rattle.std.proofs.Math.Seq.{take-append_seam}
use Rattle.std.specs.Char.{digit_value, is_ascii_digit}
use Rattle.std.specs.Cmp.Derive.{both_true}
use Rattle.std.specs.Fmt.{signed_decimal}
use Rattle.std.specs.List.{list_all}
use Rattle.std.specs.Option.{option_map_or}
use Rattle.std.specs.Str.{bytes_eq}
use Rattle.std.specs.Str.Parse.{AllDigits, digits_value, signed_digits_value, without_leading_plus}
use Rattle.spec_script.proofs.Bools.{both}
use Rattle.spec_script.specs.declared.value.Value.{Value}
use Rattle.spec_script.specs.declared.value.Value.TheVariants.{Int, Text}
use Rattle.spec_script.specs.Identifiers.{is_identifier, is_identifier_start, is_identifier_continue}
use Rattle.tree_build.proofs.PortTexts.{not_true}
use Rattle.spec_tree.specs.declared.built_ins.Range.{Range}
use Rattle.spec_tree.specs.declared.term.PortValue.{PortValue}
use Rattle.spec_tree.specs.declared.term.PortValue.TheVariants.{Lit, Key}
use Rattle.spec_tree.specs.BuiltIns.{fits}
use Rattle.spec_tree.specs.Numbers.{int_in, is_canonical, is_int, is_positive, of_64_bits, without_minus}
use Rattle.spec_tree.specs.PrintedTree.{port_text}
use Rattle.spec_tree.specs.Values.{in_braces, is_plain, key_said, key_value, literal, literal_value, value_fits, value_in}

-- ---- Numbers

digit_passes : (d : ℕ) → digit_value d < 10 → is_ascii_digit d ≡ true
digit_passes d h = grind (arith, nat_tests)

digits_pass : (ds : List ℕ) → AllDigits 10 ds → list_all is_ascii_digit ds ≡ true
digits_pass [] h = refl
digits_pass (d ∷ ds) h = both_true (digit_passes d h.0) (digits_pass ds h.1)

-- the texts of numbers that are not 0, without a sign
record Positive (ds : List ℕ) (n : ℕ) : Type 0 where
  positive : is_positive ds ≡ true
  plain : without_minus ds ≡ ds
  value : signed_digits_value 10 ds ≡ pos n
  digits : digits_value 10 ds ≡ n
  first : get_or ds 0 0 < 123

less_test : (c : ℕ) → 48 < c → nat_lt 48 c ≡ true
less_test c h = grind (arith, nat_tests)

no_minus : (c : ℕ) → 48 < c → (c == 45) ≡ false
no_minus c h = grind (arith, nat_tests)

digit_small : (d : ℕ) → digit_value d < 10 → d < 123
digit_small d h = grind (arith, nat_tests)

positive_of : (ds : List ℕ) (n : ℕ) → 0 < length ds → AllDigits 10 ds → 48 < get_or ds 0 0 → digits_value 10 ds ≡ n → Positive ds n
positive_of [] n some all first value = absurd (omega (arith, some))
positive_of (c ∷ cs) n some all first value =
    let big : 48 < c = first in
    let sign = no_minus c big in
    record {
      positive = both_true (less_test c big) (digits_pass (c ∷ cs) all);
      plain = ap (λ (b : Bool). if b then cs else c ∷ cs) sign;
      value =
          ap (λ (t : Bool). cond t (neg_ℤ (pos (digits_value 10 (cond t cs (without_leading_plus (c ∷ cs)))))) (pos (digits_value 10 (cond t cs (without_leading_plus (c ∷ cs)))))) sign
          ∙ ap (λ (z : List ℕ). pos (digits_value 10 z)) (without_leading_plus_none (c ∷ cs) (omega arith))
          ∙ ap pos value;
      digits = value;
      first = digit_small c all.0;
    }

positive_decimal : (n : ℕ) → 0 < n → n < 2 ^ 64 → Positive (decimal n) n
positive_decimal n some small = let told = decimal_is_IsNumeral n small in positive_of (decimal n) n told.0.0 told.0.1 (first_decimal n some small) told.1

pub or_second : (a b : Bool) → b ≡ true → (a || b) ≡ true
or_second true b h = refl
or_second false b h = h

-- what must be shown of the text of a number
record Said (text : List ℕ) (n : ℤ) : Type 0 where
  canonical : is_canonical text ≡ true
  value : signed_digits_value 10 text ≡ n
  no_key : in_braces text ≡ false

no_brace : (text : List ℕ) → slice_index text 0 < 123 → in_braces text ≡ false
no_brace text h = ap (λ (b : Bool). b && slice_index text (length text - 1) == 125) (other (slice_index text 0) h)
  where
    other : (c : ℕ) → c < 123 → (c == 123) ≡ false
    other c h = grind (arith, nat_tests)

zero_said : Said (48 ∷ []) (pos 0)
zero_said = record { canonical = refl; value = refl; no_key = no_brace (48 ∷ []) (omega arith) }

number_said : (n : ℤ) → is_int n ≡ true → Said (signed_decimal n) n
number_said (pos zero) h = subst (λ (z : List ℕ). Said z (pos 0)) (sym (decimal_digit 0 (omega arith))) zero_said
number_said (pos (suc n)) h =
    let small : suc n ≤ 9223372036854775807 = leb-true (suc n) 9223372036854775807 (both true (nat_le (suc n) 9223372036854775807) h).1 in
    let p = positive_decimal (suc n) (omega arith) (omega arith) in
    record {
      canonical = or_second (bytes_eq (decimal (suc n)) (codes "0")) (is_positive (without_minus (decimal (suc n)))) (ap is_positive p.plain ∙ p.positive);
      value = p.value;
      no_key = no_brace (decimal (suc n)) p.first;
    }
number_said (negsuc n) h =
    let small : n ≤ 9223372036854775807 = leb-true n 9223372036854775807 (both (nat_le n 9223372036854775807) true h).0 in
    let p = positive_decimal (suc n) (omega arith) (omega arith) in
    record {
      canonical = or_second (bytes_eq (45 ∷ decimal (suc n)) (codes "0")) (is_positive (decimal (suc n))) p.positive;
      value = ap (λ (k : ℕ). neg_ℤ (pos k)) p.digits;
      no_key = no_brace (45 ∷ decimal (suc n)) (omega arith);
    }

-- the text of a number of 64 bits is read as the number
number_reads : (n : ℤ) → is_int n ≡ true → int_in (signed_decimal n) ≡ Some n
number_reads n h =
    let s = number_said n h in
    ap (λ (b : Bool). if b then of_64_bits (signed_digits_value 10 (signed_decimal n)) else None) s.canonical
    ∙ ap of_64_bits s.value
    ∙ ap (λ (b : Bool). if b then Some n else None) h

-- ---- Keys

abbrev braced : List ℕ → List ℕ
braced key = 123 ∷ (key ++ 125 ∷ [])

braced_len : (key : List ℕ) → length (braced key) ≡ length key + 2
braced_len key = omega (arith, length-append key (125 ∷ []))

last_brace : (key : List ℕ) → slice_index (braced key) (length (braced key) - 1) ≡ 125
last_brace key =
    let at : length (braced key) - 1 ≡ length (123 ∷ key) = omega (arith, braced_len key) in
    let here : get_or ((123 ∷ key) ++ (125 ∷ [])) (length (123 ∷ key)) 0 ≡ 125 = grind (arith, common_steps) in
    ap (slice_index (braced key)) at ∙ here

same_test : (c : ℕ) → c ≡ 125 → (c == 125) ≡ true
same_test c h = grind (arith, nat_tests)

key_braced : (key : List ℕ) → in_braces (braced key) ≡ true
key_braced key = both_true refl (same_test (slice_index (braced key) (length (braced key) - 1)) (last_brace key))

no_equal : (c : ℕ) → is_identifier_start c ≡ true → c ≡ 61 → ⊥
no_equal c h e = let k : is_identifier_start 61 ≡ true = subst (λ (x : ℕ). is_identifier_start x ≡ true) e h in absurd (cc)

not_own : (key : List ℕ) (b : Bool) → is_identifier key ≡ true → bytes_eq (braced key) (codes "{=}") ≡ b → b ≡ false
not_own key false h e = refl
not_own [] true h e = absurd (cc)
not_own (c ∷ cs) true h e =
    let same : braced (c ∷ cs) ≡ codes "{=}" = (bytes_eq-Decides (braced (c ∷ cs)) (codes "{=}")).0 e in
    let first : c ≡ 61 = ap (λ (z : List ℕ). get_or z 1 0) same in
    absurd (no_equal c (both (is_identifier_start c) (list_all is_identifier_continue (c ∷ cs)) h).0 first)

inside : (key : List ℕ) → slice_range (braced key) 1 (length (braced key) - 1) ≡ key
inside key =
    let len : length (braced key) - 1 - 1 ≡ length key = omega (arith, braced_len key) in
    ap (λ (k : ℕ). take k (key ++ 125 ∷ [])) len ∙ take-append_seam key (125 ∷ [])

key_again : (port key : List ℕ) → is_identifier key ≡ true → key_said port (braced key) ≡ key
key_again port key h =
    ap (λ (b : Bool). if b then port else slice_range (braced key) 1 (length (braced key) - 1)) (not_own key (bytes_eq (braced key) (codes "{=}")) h refl) ∙ inside key

-- ---- Values

none_of : (o : Option ℤ) → is_some o ≡ false → o ≡ None
none_of None h = refl
none_of (Some n) h = absurd (cc)

-- the text of a literal is read as the literal
literal_reads : (value : Value) → is_plain value ≡ true → (in_braces (port_text (Lit value)) ≡ false) × (literal (port_text (Lit value)) ≡ value)
literal_reads (Int n) h = ((number_said n h).no_key, ap (λ (o : Option ℤ). option_map_or Int o (Text (signed_decimal n))) (number_reads n h))
literal_reads (Text text) h =
    let t = both (not (is_some (int_in text))) (not (in_braces text)) h in
    (not_true (in_braces text) t.1, ap (λ (o : Option ℤ). option_map_or Int o (Text text)) (none_of (int_in text) (not_true (is_some (int_in text)) t.0)))

-- the printed value of a port is read as that value, where it fits the range
pub value_reads : (range : Range) (port : List ℕ) (v : PortValue) → value_fits range v ≡ true → value_in range port (port_text v) ≡ Some v
value_reads range port (Key key) h =
    ap (λ (b : Bool). if b then key_value (key_said port (braced key)) else literal_value range (literal (braced key))) (key_braced key)
    ∙ ap key_value (key_again port key h)
    ∙ ap (λ (b : Bool). if b then Some (Key key) else None) h
value_reads range port (Lit value) h =
    let t = both (is_plain value) (fits range value) h in
    let l = literal_reads value t.0 in
    ap (λ (b : Bool). if b then key_value (key_said port (port_text (Lit value))) else literal_value range (literal (port_text (Lit value)))) l.0
    ∙ ap (literal_value range) l.1
    ∙ ap (λ (b : Bool). if b then Some (Lit value) else None) t.1
