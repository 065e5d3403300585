-- What is read of a file is sound: its sorts are small, and its items make blocks.
use Rattle.std.proofs.Common.{◌≡◌, ℕ, zero, suc, ◌+◌, ◌-◌, ◌≤◌, Bool, true, false, not, ◌&&◌, ◌==◌, if◌then◌else◌, List, [], ◌∷◌, ◌++◌, length, Option, Some, None, Result, Ok, Err, refl, sym, ◌∙◌, ap, subst, arith, length-append}
use Rattle.std.specs.Prelude.{nat_le, nat_lt, nat_eq, bytes_eq, codes, take}
use Rattle.std.specs.List.{list_all, ends_with}
use Rattle.std.proofs.lemmas.Bool.Decides.{nat_tests}
use Rattle.std.proofs.lemmas.List.Folds.{list_all-append}
use Rattle.spec_script.proofs.Bools.{both}
use Rattle.spec_world_file.specs.WorldFile.{after_word, content, ends_after, front_word, is_ignored, is_line_byte, without_return, word, words_in}
use Rattle.spec_world.specs.Worlds.{is_name}
use Rattle.spec_world_file.specs.declared.ground_fault.GroundFault.{GroundFault}
use Rattle.spec_world_file.specs.declared.open_block.OpenBlock.{OpenBlock}
use Rattle.spec_world_file.specs.declared.sort.Sort.{Sort}
use Rattle.spec_world_file.specs.Blocks.{Body, End, Forall, Item, after_marks, is_variable}
use Rattle.spec_world_file.specs.GroundFile.{Reading, goes_on, is_double, is_open, most_open, most_sorts, most_values, nothing_read, sort_in, sort_number, sort_with, variable_in, with_block, with_body, with_content, with_end, with_forall, with_form, with_line, with_lines, with_sort, with_variable, with_words, without_block}
use Rattle.world_ground.specs.Sound.{IsSound, Laid, is_item, is_short, is_small}
use Rattle.world_ground.proofs.Marked.{both_true, if_false, if_true, ways}

-- what is left is sound, where no fault is answered
abbrev pub LeavesSound : ℕ → Result Reading GroundFault → Type 0
LeavesSound n (Ok r) = IsSound n r
LeavesSound n (Err f) = Unit {0}

by_test : (n : ℕ) (b : Bool) (t e : Result Reading GroundFault) → (b ≡ true → LeavesSound n t) → (b ≡ false → LeavesSound n e) → LeavesSound n (if b then t else e)
by_test n true t e p q = p refl
by_test n false t e p q = q refl

not_is : (b : Bool) → not b ≡ false → b ≡ true
not_is true h = refl
not_is false h = absurd (cc)

-- ---- Items laid one after the other

laid_more : (from : ℕ) (items : List Item) (mid : ℕ) (more : List Item) (to : ℕ) → Laid from items mid → Laid mid more to → Laid from (items ++ more) to
laid_more from [] mid more to h k = subst (λ (n : ℕ). Laid n more to) (sym h) k
laid_more from (Body line ∷ items) mid more to h k = (h.0, h.1, laid_more from items mid more to h.2 k)
laid_more from (Forall x sort ∷ items) mid more to h k = (h.0, laid_more (suc from) items mid more to h.1 k)
laid_more zero (End ∷ items) mid more to h k = absurd h
laid_more (suc from) (End ∷ items) mid more to h k = laid_more from items mid more to h k

-- items that are laid have variables
pub items_laid : (from : ℕ) (items : List Item) (to : ℕ) → Laid from items to → list_all is_item items ≡ true
items_laid from [] to h = refl
items_laid from (Body line ∷ items) to h = items_laid from items to h.2
items_laid from (Forall x sort ∷ items) to h = both_true (is_variable x) (list_all is_item items) h.0 (items_laid (suc from) items to h.1)
items_laid zero (End ∷ items) to h = absurd h
items_laid (suc from) (End ∷ items) to h = items_laid from items to h

one_more : (items : List Item) (item : Item) (n : ℕ) → length items ≤ n → length (items ++ item ∷ []) ≤ n + 1
one_more items item n h = let e = length-append items (item ∷ []) in omega arith

later : (n : ℕ) (r : Reading) → IsSound n r → IsSound (n + 1) r
later n r h = record { sorts_are = h.sorts_are; shallow = h.shallow; laid = h.laid; few = let k = h.few in omega arith }

-- ---- Sorts

small_with : (name : List ℕ) (values : List (List ℕ)) (sort : Sort) → sort_with name values ≡ Some sort → is_small sort ≡ true
small_with name values sort h =
    ways (is_name name && list_all is_name values && nat_lt 0 (length values) && nat_le (length values) most_values)
    (λ t. let is = if_true (is_name name && list_all is_name values && nat_lt 0 (length values) && nat_le (length values) most_values) (Some (let s : Sort = record { name = name; values = values } in s)) None t in
    let a = both (is_name name && list_all is_name values && nat_lt 0 (length values)) (nat_le (length values) most_values) t in
    let b = both (is_name name && list_all is_name values) (nat_lt 0 (length values)) a.0 in
    let c = both (is_name name) (list_all is_name values) b.0 in
    let small : is_small (record { name = name; values = values }) ≡ true = both_true (nat_le (length values) 16) (list_all is_name values) a.1 c.1 in
    let same : (let s : Sort = record { name = name; values = values } in s) ≡ sort = cc in
    subst (λ (s : Sort). is_small s ≡ true) same small)
    (λ f. let is = if_false (is_name name && list_all is_name values && nat_lt 0 (length values) && nat_le (length values) most_values) (Some (let s : Sort = record { name = name; values = values } in s)) None f in
    absurd (cc))

small_in : (words : List (List ℕ)) (sort : Sort) → sort_in words ≡ Some sort → is_small sort ≡ true
small_in [] sort h = absurd (cc)
small_in (name ∷ values) sort h = small_with name values sort h

sound_sort : (n number : ℕ) (words : List (List ℕ)) (o : Option Sort) (r : Reading) → sort_in words ≡ o → IsSound n r → LeavesSound (n + 1) (with_sort number o r)
sound_sort n number words None r is h = tt
sound_sort n number words (Some sort) r is h =
    by_test (n + 1) (not (length r.blocks == 0)) _ _ (λ t. tt)
    (λ f. by_test (n + 1) (is_double r.sorts sort) _ _ (λ t. tt)
    (λ g. by_test (n + 1) (nat_le most_sorts (length r.sorts)) _ _ (λ t. tt)
    (λ k. record {
      sorts_are = list_all-append is_small r.sorts (sort ∷ []) ∙ both_true (list_all is_small r.sorts) (is_small sort && true) h.sorts_are (both_true (is_small sort) true (small_in words sort is) refl);
      shallow = h.shallow;
      laid = h.laid;
      few = let few = h.few in omega arith;
    })))

-- ---- Blocks

few_open : (n : ℕ) → nat_le 3 n ≡ false → suc n ≤ 3
few_open n h = grind (arith, nat_tests)

sound_block : (n number variable : ℕ) (sort : Option ℕ) (r : Reading) → is_variable variable ≡ true → IsSound n r → LeavesSound (n + 1) (with_block number variable sort r)
sound_block n number variable None r v h = tt
sound_block n number variable (Some sort) r v h =
    by_test (n + 1) (nat_le most_open (length r.blocks)) _ _ (λ t. tt)
    (λ f. record {
      sorts_are = h.sorts_are;
      shallow = few_open (length r.blocks) f;
      laid = laid_more 0 r.items (length r.blocks) (Forall variable sort ∷ []) (suc (length r.blocks)) h.laid (v, refl);
      few = one_more r.items (Forall variable sort) n h.few;
    })

sound_variable : (n number variable : ℕ) (sort : List ℕ) (r : Reading) → is_variable variable ≡ true → IsSound n r → LeavesSound (n + 1) (with_variable number variable sort r)
sound_variable n number variable sort r v h =
    by_test (n + 1) (is_open r.blocks variable) _ _ (λ t. tt) (λ f. sound_block n number variable (sort_number r.sorts sort) r v h)

variable_is : (text : List ℕ) (variable : ℕ) → variable_in text ≡ Some variable → is_variable variable ≡ true
variable_is [] variable h = absurd (cc)
variable_is (b ∷ []) variable h =
    ways (is_variable b)
    (λ t. let is = if_true (is_variable b) (Some b) None t in let same : b ≡ variable = cc in subst (λ (x : ℕ). is_variable x ≡ true) same t)
    (λ f. let is = if_false (is_variable b) (Some b) None f in absurd (cc))
variable_is (b ∷ c ∷ text) variable h = absurd (cc)

sound_words : (n number : ℕ) (text : List ℕ) (o : Option ℕ) (sort : List ℕ) (r : Reading) → variable_in text ≡ o → IsSound n r → LeavesSound (n + 1) (with_words number o sort r)
sound_words n number text None sort r is h = tt
sound_words n number text (Some variable) sort r is h =
    by_test (n + 1) (is_name sort) _ _ (λ t. sound_variable n number variable sort r (variable_is text variable is) h) (λ f. tt)

sound_forall : (n number : ℕ) (text : List ℕ) (r : Reading) → IsSound n r → LeavesSound (n + 1) (with_forall number text r)
sound_forall n number text r h =
    by_test (n + 1) (ends_after 2 text) _ _ (λ t. sound_words n number (word 0 text) (variable_in (word 0 text)) (word 1 text) r refl h) (λ f. tt)

sound_without : (n number : ℕ) (open_blocks : List OpenBlock) (r : Reading) → r.blocks ≡ open_blocks → IsSound n r → LeavesSound (n + 1) (without_block number open_blocks r)
sound_without n number [] r is h = tt
sound_without n number (block ∷ open_blocks) r is h =
    let depth : length r.blocks ≡ suc (length open_blocks) = ap length is in
    let shallow = h.shallow in
    record {
      sorts_are = h.sorts_are;
      shallow = omega arith;
      laid = laid_more 0 r.items (suc (length open_blocks)) (End ∷ []) (length open_blocks) (subst (λ (m : ℕ). Laid 0 r.items m) depth h.laid) refl;
      few = one_more r.items End n h.few;
    }

sound_end : (n number : ℕ) (text : List ℕ) (r : Reading) → IsSound n r → LeavesSound (n + 1) (with_end number text r)
sound_end n number text r h = by_test (n + 1) (ends_after 0 text) _ _ (λ t. sound_without n number r.blocks r refl h) (λ f. tt)

-- ---- Lines

sound_body : (n number : ℕ) (text : List ℕ) (r : Reading) → length text ≤ 1048576 → IsSound n r → LeavesSound (n + 1) (with_body number text r)
sound_body n number text r short h =
    by_test (n + 1) (not (after_marks is_variable text)) _ _ (λ t. tt)
    (λ f. by_test (n + 1) (not (after_marks (is_open r.blocks) text)) _ _ (λ t. tt)
    (λ g. record {
      sorts_are = h.sorts_are;
      shallow = h.shallow;
      laid = laid_more 0 r.items (length r.blocks) (Body (record { origin = number; text = text }) ∷ []) (length r.blocks) h.laid ((h.shallow, short), not_is (after_marks is_variable text) f, refl);
      few = one_more r.items (Body (record { origin = number; text = text })) n h.few;
    }))

sound_form : (n number : ℕ) (kind rest text : List ℕ) (r : Reading) → length text ≤ 1048576 → IsSound n r → LeavesSound (n + 1) (with_form number kind rest text r)
sound_form n number kind rest text r short h =
    by_test (n + 1) (bytes_eq kind (codes "sort")) _ _ (λ t. sound_sort n number (words_in rest) (sort_in (words_in rest)) r refl h)
    (λ f. by_test (n + 1) (bytes_eq kind (codes "forall")) _ _ (λ t. sound_forall n number rest r h)
    (λ g. by_test (n + 1) (bytes_eq kind (codes "end")) _ _ (λ t. sound_end n number rest r h) (λ k. sound_body n number text r short h)))

sound_content : (n number : ℕ) (held text : List ℕ) (r : Reading) → length text ≤ 1048576 → IsSound n r → LeavesSound (n + 1) (with_content number held text r)
sound_content n number held text r short h =
    by_test (n + 1) (is_ignored held) _ _ (λ t. later n r h)
    (λ f. by_test (n + 1) (not (list_all is_line_byte held)) _ _ (λ t. tt) (λ g. sound_form n number (front_word held) (after_word held) text r short h))

shorter_take : (k : ℕ) (text : List ℕ) → length (take k text) ≤ length text
shorter_take zero text = omega arith
shorter_take (suc k) [] = omega arith
shorter_take (suc k) (b ∷ text) = let h = shorter_take k text in omega arith

shorter_line : (line : List ℕ) → length (without_return line) ≤ length line
shorter_line line =
    ways (ends_with nat_eq line (13 ∷ []))
    (λ t. let is = ap length (if_true (ends_with nat_eq line (13 ∷ [])) (take (length line - 1) line) line t) in let k = shorter_take (length line - 1) line in omega arith)
    (λ f. let is = ap length (if_false (ends_with nat_eq line (13 ∷ [])) (take (length line - 1) line) line f) in omega arith)

short_is : (line : List ℕ) → is_short line ≡ true → length line ≤ 1048576
short_is line h = grind (arith, nat_tests)

sound_line : (n number : ℕ) (line : List ℕ) (r : Reading) → is_short line ≡ true → IsSound n r → LeavesSound (n + 1) (with_line number line r)
sound_line n number line r short h =
    let k = shorter_line line in
    let l = short_is line short in
    sound_content n number (content line) (without_return line) r (omega arith) h

line_step : (n number : ℕ) (said : Result Reading GroundFault) (lines : List (List ℕ)) → ((r : Reading) → IsSound (n + 1) r → LeavesSound (n + 1 + length lines) (with_lines (number + 1) lines r)) → LeavesSound (n + 1) said → LeavesSound (n + 1 + length lines) (goes_on said (with_lines (number + 1) lines))
line_step n number (Ok r) lines rest h = rest r h
line_step n number (Err f) lines rest h = tt

sound_lines : (n number : ℕ) (lines : List (List ℕ)) (r : Reading) → list_all is_short lines ≡ true → IsSound n r → LeavesSound (n + length lines) (with_lines number lines r)
sound_lines n number [] r short h = let is : n ≡ n + 0 = omega arith in subst (λ (m : ℕ). IsSound m r) is h
sound_lines n number (line ∷ lines) r short h =
    let shorts = both (is_short line) (list_all is_short lines) short in
    let is : n + 1 + length lines ≡ n + suc (length lines) = omega arith in
    subst (λ (m : ℕ). LeavesSound m (goes_on (with_line number line r) (with_lines (number + 1) lines))) is
    (line_step n number (with_line number line r) lines (λ q k. sound_lines (n + 1) (number + 1) lines q shorts.1 k) (sound_line n number line r shorts.0 h))

enough : (m n : ℕ) (said : Result Reading GroundFault) (r : Reading) → m ≤ n → said ≡ Ok r → LeavesSound m said → IsSound n r
enough m n (Ok q) r le is h =
    let same : q ≡ r = cc in
    let few = h.few in
    subst (λ (p : Reading). IsSound n p) same (record { sorts_are = h.sorts_are; shallow = h.shallow; laid = h.laid; few = omega arith })
enough m n (Err f) r le is h = absurd (cc)

-- what is read of the lines of a file is sound
pub reading_sound : (lines : List (List ℕ)) (r : Reading) → length lines ≤ 1048577 → list_all is_short lines ≡ true → with_lines 2 lines nothing_read ≡ Ok r → IsSound 1048577 r
reading_sound lines r few short is =
    let start : IsSound 0 nothing_read = record { sorts_are = refl; shallow = omega arith; laid = refl; few = omega arith } in
    enough (0 + length lines) 1048577 (with_lines 2 lines nothing_read) r (omega arith) is (sound_lines 0 2 lines nothing_read short start)
