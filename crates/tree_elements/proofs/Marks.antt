-- A mark that is written is read, whatever follows it, and what was read was written.
use Rattle.std.proofs.Common.{◌≡◌, ℕ, zero, suc, ◌≤◌, Bool, true, false, not, ◌==◌, ◌&&◌, List, [], ◌∷◌, ◌++◌, length, drop, Some, refl, ap, sym, ◌∙◌, append_assoc, arith}
use Rattle.std.proofs.lemmas.List.{length-append}
use Rattle.std.proofs.lemmas.Bool.Decides.{nat_tests}
use Rattle.std.specs.Cmp.Derive.{both_true}
use Rattle.std.specs.List.{list_all, flat_map, AllByRecursion}
use Rattle.spec_script.specs.Identifiers.{is_white}
use Rattle.spec_script.proofs.Bools.{both}
use Rattle.tree_elements.specs.declared.mark.Front.{Front}
use Rattle.tree_elements.specs.declared.mark.Mark.{Mark}
use Rattle.tree_elements.specs.declared.mark.Mark.TheVariants as read
use Rattle.spec_tree_file.specs.References.{decoded}
use Rattle.spec_tree_file.specs.Marks as written
use Rattle.spec_tree_file.specs.Marks.{is_name, is_name_first, is_name_rest, is_quote, Attribute, attribute_written, Opening, opening_written, Start, Empty, End, Instruction, Comment, instruction_end, comment_end, mark_written, pairs_of, IsAttribute, IsOpening, IsMark}
use Rattle.tree_elements.specs.Reading.{begins, attribute_of, attribute_begins, attributes_of, front_of, opening_of, end_of, aside_of, mark_of}
use Rattle.tree_elements.proofs.Prefixes.{white_ends_name, begins_gap, begins_name_not_white, begins_name, name_again, value_again, after_white_again}
use Rattle.tree_elements.proofs.Asides.{instruction_again, comment_again}

-- what a start or an empty mark says
abbrev pub front_said : Opening → Front
front_said o = record { name = o.name; attributes = pairs_of o.attributes }

-- what a mark says
abbrev pub said : written.Mark → Mark
said (Start o) = read.Start (front_said o)
said (Empty o) = read.Empty (front_said o)
said (End name gap) = read.End name
said (Instruction body) = read.Aside
said (Comment body) = read.Aside

-- an attribute from its name on, with what follows
abbrev pub from_name : Attribute → List ℕ → List ℕ
from_name a more = a.name ++ (a.before ++ (61 ∷ (a.after ++ (a.quote ∷ (a.value ++ (a.quote ∷ more))))))

quote_not_white : (c : ℕ) → is_quote c ≡ true → is_white c ≡ false
quote_not_white c h = grind (arith, nat_tests)

attribute_again : (a : Attribute) (more : List ℕ) → IsAttribute a → attribute_of (from_name a more) ≡ Some ((a.name, decoded a.value), more)
attribute_again a more i =
    let value = a.value ++ (a.quote ∷ more) in
    let quote = a.after ++ (a.quote ∷ value) in
    let equal = a.before ++ (61 ∷ quote) in
    rw (
      name_again a.name equal i.name (begins_gap is_name_rest a.before 61 quote white_ends_name i.before refl),
      after_white_again a.before (61 ∷ quote) i.before refl,
      after_white_again a.after (a.quote ∷ value) i.after (quote_not_white a.quote i.quote),
      value_again a.quote a.value more i.quote i.value,
    ) refl

pub attribute_spread : (a : Attribute) (more : List ℕ) → attribute_written a ++ more ≡ a.gap ++ from_name a more
attribute_spread a more = simp append_assoc

and_false : (a b : Bool) → b ≡ false → (a && b) ≡ false
and_false true b h = h
and_false false b h = refl

begins_white : (gap more : List ℕ) → list_all is_white gap ≡ true → not (length gap == 0) ≡ true → begins is_white (gap ++ more) ≡ true
begins_white [] more h k = absurd (cc)
begins_white (g ∷ gap) more h k = (both (is_white g) (list_all is_white gap) h).0

attribute_begins_again : (a : Attribute) (more : List ℕ) → IsAttribute a → attribute_begins (a.gap ++ from_name a more) ≡ true
attribute_begins_again a more i =
    let tail = a.before ++ (61 ∷ (a.after ++ (a.quote ∷ (a.value ++ (a.quote ∷ more))))) in
    both_true (begins_white a.gap (from_name a more) i.gap i.apart)
    (ap (begins is_name_first) (after_white_again a.gap (from_name a more) i.gap (begins_name_not_white a.name tail i.name)) ∙ begins_name a.name tail i.name)

-- attributes that are written are read, where no attribute follows
attributes_again : (k : ℕ) (list : List Attribute) (tail : List ℕ) → AllByRecursion IsAttribute list → attribute_begins tail ≡ false → length list ≤ k → attributes_of k (flat_map attribute_written list ++ tail) ≡ Some (pairs_of list, tail)
attributes_again zero [] tail all e h = refl
attributes_again (suc k) [] tail all e h = rw e refl
attributes_again zero (a ∷ list) tail all e h = absurd (omega arith)
attributes_again (suc k) (a ∷ list) tail all e h =
    let more = flat_map attribute_written list ++ tail in
    let spread : flat_map attribute_written (a ∷ list) ++ tail ≡ a.gap ++ from_name a more =
    append_assoc (attribute_written a) (flat_map attribute_written list) tail ∙ attribute_spread a more in
    let rest = a.before ++ (61 ∷ (a.after ++ (a.quote ∷ (a.value ++ (a.quote ∷ more))))) in
    let ih : attributes_of k more ≡ Some (pairs_of list, tail) = attributes_again k list tail all.1 e (omega arith) in
    ap (attributes_of (suc k)) spread
    ∙ rw (
      attribute_begins_again a more all.0,
      after_white_again a.gap (from_name a more) all.0.gap (begins_name_not_white a.name rest all.0.name),
      attribute_again a more all.0,
      ih,
    ) refl

attributes_count : (list : List Attribute) → length list ≤ length (flat_map attribute_written list)
attributes_count [] = omega arith
attributes_count (a ∷ list) =
    let e : attribute_written a ++ flat_map attribute_written list ≡ a.gap ++ from_name a (flat_map attribute_written list) = attribute_spread a (flat_map attribute_written list) in
    omega (arith, attributes_count list, ap length e, length-append a.gap (from_name a (flat_map attribute_written list)), length-append a.name (a.before ++ (61 ∷ (a.after ++ (a.quote ∷ (a.value ++ (a.quote ∷ flat_map attribute_written list)))))), length-append a.before (61 ∷ (a.after ++ (a.quote ∷ (a.value ++ (a.quote ∷ flat_map attribute_written list))))), length-append a.after (a.quote ∷ (a.value ++ (a.quote ∷ flat_map attribute_written list))), length-append a.value (a.quote ∷ flat_map attribute_written list))

pub opening_spread : (o : Opening) (more : List ℕ) → opening_written o ++ more ≡ o.name ++ (flat_map attribute_written o.attributes ++ (o.gap ++ more))
opening_spread o more = simp append_assoc

gap_ends : (gap more : List ℕ) → list_all is_white gap ≡ true → not (length gap == 0) ≡ true → begins is_name_rest (gap ++ more) ≡ false
gap_ends [] more h k = absurd (cc)
gap_ends (g ∷ gap) more h k = white_ends_name g (both (is_white g) (list_all is_white gap) h).0

-- what follows a name does not go on with it
name_ends : (list : List Attribute) (gap : List ℕ) (c : ℕ) (more : List ℕ) → AllByRecursion IsAttribute list → list_all is_white gap ≡ true → is_name_rest c ≡ false → begins is_name_rest (flat_map attribute_written list ++ (gap ++ (c ∷ more))) ≡ false
name_ends [] gap c more all h e = begins_gap is_name_rest gap c more white_ends_name h e
name_ends (a ∷ list) gap c more all h e =
    let rest = flat_map attribute_written list ++ (gap ++ (c ∷ more)) in
    let spread : flat_map attribute_written (a ∷ list) ++ (gap ++ (c ∷ more)) ≡ a.gap ++ from_name a rest =
    append_assoc (attribute_written a) (flat_map attribute_written list) (gap ++ (c ∷ more)) ∙ attribute_spread a rest in
    ap (begins is_name_rest) spread ∙ gap_ends a.gap (from_name a rest) all.0.gap all.0.apart

name_rest_first : (c : ℕ) → is_name_rest c ≡ false → is_name_first c ≡ false
name_rest_first c h = grind (arith, nat_tests)

front_again : (o : Opening) (c : ℕ) (more : List ℕ) → IsOpening o → is_name_rest c ≡ false → is_white c ≡ false → front_of (opening_written o ++ (c ∷ more)) ≡ Some (front_said o, c ∷ more)
front_again o c more i e w =
    let tail = o.gap ++ (c ∷ more) in
    let rest = flat_map attribute_written o.attributes ++ tail in
    let none : attribute_begins tail ≡ false =
    and_false _ _ (ap (begins is_name_first) (after_white_again o.gap (c ∷ more) i.gap w) ∙ name_rest_first c e) in
    let few : length o.attributes ≤ length rest =
    omega (arith, attributes_count o.attributes, length-append (flat_map attribute_written o.attributes) tail) in
    ap front_of (opening_spread o (c ∷ more))
    ∙ rw (
      name_again o.name rest i.name (name_ends o.attributes o.gap c more i.attributes i.gap e),
      attributes_again (length rest) o.attributes tail i.attributes none few,
      after_white_again o.gap (c ∷ more) i.gap w,
    ) refl

name_begins_opening : (c : ℕ) → is_name_first c ≡ true → ((c == 47) ≡ false) × ((c == 63) ≡ false) × ((c == 33) ≡ false)
name_begins_opening c h = (grind (arith, nat_tests), grind (arith, nat_tests), grind (arith, nat_tests))

pub mark_of_opening : (name more : List ℕ) → is_name name ≡ true → mark_of (name ++ more) ≡ opening_of (name ++ more)
mark_of_opening [] more h = absurd (cc)
mark_of_opening (c ∷ cs) more h =
    let other = name_begins_opening c (both (is_name_first c) (list_all is_name_rest (c ∷ cs)) h).0 in
    rw (other.0, other.1, other.2) refl

-- a mark that is written is read, whatever follows it
pub mark_again : (m : written.Mark) (more : List ℕ) → IsMark m → mark_of (drop 1 (mark_written m ++ more)) ≡ Some (said m, more)
mark_again (Start o) more i =
    ap mark_of (append_assoc (opening_written o) (62 ∷ []) more ∙ opening_spread o (62 ∷ more))
    ∙ mark_of_opening o.name (flat_map attribute_written o.attributes ++ (o.gap ++ (62 ∷ more))) i.name
    ∙ ap opening_of (sym (opening_spread o (62 ∷ more)))
    ∙ rw (front_again o 62 more i refl refl) refl
mark_again (Empty o) more i =
    ap mark_of (append_assoc (opening_written o) (47 ∷ 62 ∷ []) more ∙ opening_spread o (47 ∷ 62 ∷ more))
    ∙ mark_of_opening o.name (flat_map attribute_written o.attributes ++ (o.gap ++ (47 ∷ 62 ∷ more))) i.name
    ∙ ap opening_of (sym (opening_spread o (47 ∷ 62 ∷ more)))
    ∙ rw (front_again o 47 (62 ∷ more) i refl refl) refl
mark_again (End name gap) more i =
    ap end_of (append_assoc name (gap ++ 62 ∷ []) more ∙ ap (λ (z : List ℕ). name ++ z) (append_assoc gap (62 ∷ []) more))
    ∙ rw (
      name_again name (gap ++ (62 ∷ more)) i.0 (begins_gap is_name_rest gap 62 more white_ends_name i.1 refl),
      after_white_again gap (62 ∷ more) i.1 refl,
    ) refl
mark_again (Instruction body) more i =
    ap (aside_of instruction_end) (append_assoc body instruction_end more) ∙ rw (instruction_again body more i.0 i.1) refl
mark_again (Comment body) more i =
    ap (aside_of comment_end) (append_assoc body comment_end more) ∙ rw (comment_again body more i.0 i.1) refl
