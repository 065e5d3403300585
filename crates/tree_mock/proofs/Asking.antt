-- What is kept of a JSON value says what rules read of the value.
use Rattle.std.proofs.Common.{◌≡◌, ℕ, zero, suc, ◌-◌, List, [], ◌∷◌, codes, Bool, true, false, Ordering, Less, Equal, Greater, nat_cmp, Option, Some, None, option_map, Result, Ok, Err, refl, ap, ap₂, sym, ◌∙◌, subst, arith}
use Rattle.std.specs.Cmp.Lexicographic.{slice_cmp}
use Rattle.std.specs.Ordering.{match_ordering}
use Rattle.std.specs.Str.{bytes_eq}
use Rattle.std.proofs.lemmas.Slice.Eq.{bytes_eq-Decides}
use Rattle.base_texts.specs.Options.{◌>>=◌}
use Rattle.json.specs.Token.{Token}
use Rattle.json.specs.Json.{parse_map}
use Rattle.serde_json.specs.Data.{Num, unsigned, negative, float, Data, null, boolean, number, string, array, object, Items, item, Members, no_members, member, put}
use Rattle.serde_json.specs.Find.{as_object, as_u64, get, get_member}
use Rattle.serde_json.proofs.Views.{get_member-put, get_member-put_other}
use Rattle.spec_tree_file.specs.ReadSteps.{go_on}
use Rattle.spec_tree_file.specs.declared.mock_fault.MockFault.{MockFault}
use Rattle.spec_tree_file.specs.declared.mock_rules.ReturnStatus.{ReturnStatus}
use Rattle.spec_tree_file.specs.declared.mock_rules.Rules.{Rules}
use Rattle.spec_tree_file.specs.RuleFiles.{Draft, both, configuration_in, delay_in, document_in, draft_in, each, json_of, members_in, object_in, rule_in, rules_in, said, status_in, status_named, text_in, with_draft, value_of, with_replacement, within_duration}
use Rattle.base_texts.specs.Stops.{Gives}
use Rattle.base_texts.specs.declared.stop.Stop.{Stop}
use Rattle.base_texts.specs.declared.stop.Stop.TheVariants as stop
use Rattle.std.specs.Result.{IsErrAnd}
use Rattle.tree_mock.specs.Asked.{Agree, Both, IsFault, IsPlain, Keeps, Named, Pairs, Says, Shows, StopsAtFault, asked, is_field, is_section}

-- ---- A member put among others

module _ (R : Data → Data → Type 0) where
  paired_by : (o : Ordering) (k l : List ℕ) (v w d e : Data) (vs ds : Members) → R v d → R w e → Pairs R vs ds → Pairs R (put k v vs) (put k d ds)
      → Pairs R (match_ordering o (member k v (member l w vs)) (member l v vs) (member l w (put k v vs))) (match_ordering o (member k d (member l e ds)) (member l d ds) (member l e (put k d ds)))
  paired_by Less k l v w d e vs ds new old pairs later = (refl, new, (refl, old, pairs))
  paired_by Equal k l v w d e vs ds new old pairs later = (refl, new, pairs)
  paired_by Greater k l v w d e vs ds new old pairs later = (refl, old, later)

  pairs_put : (k : List ℕ) (v d : Data) (vs ds : Members) → R v d → Pairs R vs ds → Pairs R (put k v vs) (put k d ds)
  pairs_put k v d no_members no_members new pairs = (refl, new, tt)
  pairs_put k v d no_members (member m e ds) new pairs = absurd pairs
  pairs_put k v d (member l w vs) no_members new pairs = absurd pairs
  pairs_put k v d (member l w vs) (member m e ds) new pairs =
      subst (λ (n : List ℕ). Pairs R (put k v (member l w vs)) (put k d (member n e ds))) pairs.0
      (paired_by (slice_cmp nat_cmp k l) k l v w d e vs ds new pairs.1 pairs.2 (pairs_put k v d vs ds new pairs.2))

module _ (test : List ℕ → Bool) (R : Data → Data → Type 0) where
  put_by : (b : Bool) (name k : List ℕ) (v d : Data) (vs ds : Members) → bytes_eq name k ≡ b → R v d → Both R (get_member name vs) (get_member name ds) → Both R (get_member name (put k v vs)) (get_member name (put k d ds))
  put_by true name k v d vs ds is new old =
      subst (λ (n : List ℕ). Both R (get_member n (put k v vs)) (get_member n (put k d ds))) (sym ((bytes_eq-Decides name k).0 is)) (rw (get_member-put k v vs, get_member-put k d ds) new)
  put_by false name k v d vs ds is new old =
      let other : name ≡ k → ⊥ = λ same. (let tie : bytes_eq name k ≡ true = (bytes_eq-Decides name k).1 same in absurd (cc)) in
      rw (get_member-put_other name k v vs other, get_member-put_other name k d ds other) old

  named_put : (k : List ℕ) (v d : Data) (vs ds : Members) → R v d → Named test R vs ds → Named test R (put k v vs) (put k d ds)
  named_put k v d vs ds new old = λ name is. put_by (bytes_eq name k) name k v d vs ds refl new (old name is)

  named_skip : (k : List ℕ) (d : Data) (vs ds : Members) → test k ≡ false → Named test R vs ds → Named test R vs (put k d ds)
  named_skip k d vs ds none old = λ name is.
      let other : name ≡ k → ⊥ = λ same. (let passes : test k ≡ true = subst (λ (n : List ℕ). test n ≡ true) same is in absurd (cc)) in
      rw (get_member-put_other name k d ds other) (old name is)

pub agree_none : (n : ℕ) → Agree n no_members no_members
agree_none zero = tt
agree_none (suc zero) = λ name is. tt
agree_none (suc (suc zero)) = tt
agree_none (suc (suc (suc n))) = λ name is. tt

pub agree_put : (n m : ℕ) (k : List ℕ) (v d : Data) (vs ds : Members) → m ≡ n - 1 → asked n k ≡ true → Shows m v d → Agree n vs ds → Agree n (put k v vs) (put k d ds)
agree_put zero m k v d vs ds below is new old = tt
agree_put (suc zero) m k v d vs ds below is new old = named_put is_field IsPlain k v d vs ds new.0 old
agree_put (suc (suc zero)) m k v d vs ds below is new old =
    let next : m ≡ suc zero = omega (arith, below) in
    pairs_put (Says (Agree (suc zero))) k v d vs ds (subst (λ (l : ℕ). Shows l v d) next new) old
agree_put (suc (suc (suc n))) m k v d vs ds below is new old =
    let next : m ≡ suc (suc n) = omega (arith, below) in
    named_put is_section (Says (Agree (suc (suc n)))) k v d vs ds (subst (λ (l : ℕ). Shows l v d) next new) old

pub agree_skip : (n : ℕ) (k : List ℕ) (d : Data) (vs ds : Members) → asked n k ≡ false → Agree n vs ds → Agree n vs (put k d ds)
agree_skip zero k d vs ds none old = tt
agree_skip (suc zero) k d vs ds none old = named_skip is_field IsPlain k d vs ds none old
agree_skip (suc (suc zero)) k d vs ds none old = absurd (cc)
agree_skip (suc (suc (suc n))) k d vs ds none old = named_skip is_section (Says (Agree (suc (suc n)))) k d vs ds none old

-- ---- Values

-- no items come before these
pub over_items : (r : Option (Items × List Token)) → r ≡ parse_map (λ (ds : Items). ds) r
over_items None = refl
over_items (Some p) = refl

pub one_more : (before : Items → Items) (d : Data) (r : Option (Items × List Token)) → parse_map before (parse_map (item d) r) ≡ parse_map (λ (ds : Items). before (item d ds)) r
one_more before d None = refl
one_more before d (Some p) = refl

pub shows_string : (n : ℕ) (text : List ℕ) → Shows n (string text) (string text)
shows_string n text = ((refl, refl), tt)

counted : (n k : ℕ) (num : Num) → as_u64 num ≡ Some k → Shows n (number (unsigned k)) (number num)
counted n k (unsigned m) is = ((refl, sym is), tt)
counted n k (negative z) is = absurd (cc)
counted n k (float x) is = absurd (cc)

-- a whole number
pub shows_number : (n : ℕ) (o : Option Num) (k : ℕ) → Some (Some k) ≡ option_map as_u64 o → (num : Num) × (o ≡ Some num) × Shows n (number (unsigned k)) (number num)
shows_number n None k is = absurd (cc)
shows_number n (Some num) k is = (num, refl, counted n k num (cc))

uncounted : (n : ℕ) (num : Num) → as_u64 num ≡ None → Shows n null (number num)
uncounted n (unsigned m) is = absurd (cc)
uncounted n (negative z) is = ((refl, refl), tt)
uncounted n (float x) is = ((refl, refl), tt)

-- another one
pub other_number : (n : ℕ) (o : Option Num) → Some None ≡ option_map as_u64 o → (num : Num) × (o ≡ Some num) × Shows n null (number num)
other_number n None is = absurd (cc)
other_number n (Some num) is = (num, refl, uncounted n num (cc))

-- none in range
pub no_number : (o : Option Num) → None ≡ option_map as_u64 o → o ≡ None
no_number None is = refl
no_number (Some num) is = absurd (cc)

-- ---- A fault that is passed on

pub passed_on : {X F : Type 0} (P : Stop F → Type 0) (r : Result X (Stop F)) (e : Stop F) → IsErrAnd r P → ((s : Stop F) → P s → s ≡ e) → IsFault r → StopsAtFault e
passed_on P (Ok x) e and same fault = absurd fault
passed_on P (Err s) e and same fault = subst StopsAtFault (same s and) fault

-- ---- A configuration and a rule

abbrev inside : List ℕ → Option Members → Option Data
inside name None = None
inside name (Some ms) = get_member name ms

get_is : (name : List ℕ) (d : Data) → get name d ≡ inside name (as_object d)
get_is name null = refl
get_is name (boolean b) = refl
get_is name (number n) = refl
get_is name (string s) = refl
get_is name (array ds) = refl
get_is name (object ms) = refl

inside_both : (name : List ℕ) (o p : Option Members) → is_field name ≡ true → Both (Named is_field IsPlain) o p → Both IsPlain (inside name o) (inside name p)
inside_both name None None is fields = tt
inside_both name None (Some ds) is fields = absurd fields
inside_both name (Some vs) None is fields = absurd fields
inside_both name (Some vs) (Some ds) is fields = fields name is

field_both : (name : List ℕ) (v d : Data) → is_field name ≡ true → Shows 1 v d → Both IsPlain (get name v) (get name d)
field_both name v d is shows = rw (get_is name v, get_is name d) (inside_both name (as_object v) (as_object d) is shows.1)

said_same : {A : Type 0} (other : Option A) (f : Data → Option A) → ((v d : Data) → IsPlain v d → f v ≡ f d) → (o p : Option Data) → Both IsPlain o p → said other f o ≡ said other f p
said_same other f same None None plain = refl
said_same other f same None (Some d) plain = absurd plain
said_same other f same (Some v) None plain = absurd plain
said_same other f same (Some v) (Some d) plain = same v d plain

-- a draft, by what its three members say
abbrev drafted : Option ReturnStatus → Option ℕ → Option (Option (List ℕ)) → Option Draft
drafted status delay text = status >>= λ s. delay >>= λ ms. text >>= λ t. Some (record { return_status = s; async_delay = ms; post_script = t })

draft_same : (v d : Data) → Shows 1 v d → draft_in v ≡ draft_in d
draft_same v d shows =
    let status = said_same None status_in (λ x y p. ap (λ o. o >>= status_named) p.0) (get (codes "return_status") v) (get (codes "return_status") d) (field_both (codes "return_status") v d refl shows) in
    let delay = said_same (Some 0) delay_in (λ x y p. ap (λ o. o >>= within_duration) p.1) (get (codes "async_delay") v) (get (codes "async_delay") d) (field_both (codes "async_delay") v d refl shows) in
    let text = said_same (Some None) text_in (λ x y p. ap (option_map Some) p.0) (get (codes "post_script") v) (get (codes "post_script") d) (field_both (codes "post_script") v d refl shows) in
    ap (λ s. drafted s (said (Some 0) delay_in (get (codes "async_delay") v)) (said (Some None) text_in (get (codes "post_script") v))) status
    ∙ ap₂ (λ ms t. drafted (said None status_in (get (codes "return_status") d)) ms t) delay text

configuration_same : (name : List ℕ) (v d : Data) → Shows 1 v d → configuration_in name v ≡ configuration_in name d
configuration_same name v d shows = ap (with_draft name) (draft_same v d shows)

rule_same : (pattern : List ℕ) (v d : Data) → Shows 1 v d → rule_in pattern v ≡ rule_in pattern d
rule_same pattern v d shows = ap (with_replacement pattern) shows.0.0

each_same : {A : Type 0} (one : List ℕ → Data → Result A MockFault) → ((name : List ℕ) (v d : Data) → Shows 1 v d → one name v ≡ one name d)
    → (vs ds : Members) → Pairs (Shows 1) vs ds → each one vs ≡ each one ds
each_same one same no_members no_members pairs = refl
each_same one same no_members (member m d ds) pairs = absurd pairs
each_same one same (member l v vs) no_members pairs = absurd pairs
each_same one same (member l v vs) (member m d ds) pairs =
    ap₂ (λ r rs. go_on (λ first. go_on (λ others. Ok (first ∷ others)) rs) r) (same l v d pairs.1 ∙ ap (λ (n : List ℕ). one n d) pairs.0) (each_same one same vs ds pairs.2)

-- ---- The document

go_both : {A : Type 0} (R : Members → Members → Type 0) (f : Members → Result A MockFault) → ((vs ds : Members) → R vs ds → f vs ≡ f ds) → (o p : Option Members) → Both R o p
    → go_on f (members_in [] o) ≡ go_on f (members_in [] p)
go_both R f same None None agree = refl
go_both R f same None (Some ds) agree = absurd agree
go_both R f same (Some vs) None agree = absurd agree
go_both R f same (Some vs) (Some ds) agree = same vs ds agree

go_objects : {A : Type 0} (f : Members → Result A MockFault) → ((vs ds : Members) → Pairs (Shows 1) vs ds → f vs ≡ f ds) → (o p : Option Data) → Both (Shows 2) o p
    → go_on f (object_in o) ≡ go_on f (object_in p)
go_objects f same None None shows = refl
go_objects f same None (Some d) shows = absurd shows
go_objects f same (Some v) None shows = absurd shows
go_objects f same (Some v) (Some d) shows = go_both (Agree 2) f same (as_object v) (as_object d) shows.1

configurations_same : (r : Result Members MockFault) (vs ds : Members) → Pairs (Shows 1) vs ds → go_on (both vs) r ≡ go_on (both ds) r
configurations_same (Ok rules) vs ds pairs =
    ap (λ cs. go_on (λ xs. go_on (λ ys. Ok (record { configurations = xs; rules = ys })) (each rule_in rules)) cs) (each_same configuration_in configuration_same vs ds pairs)
configurations_same (Err fault) vs ds pairs = refl

rules_same : (configurations vs ds : Members) → Pairs (Shows 1) vs ds → both configurations vs ≡ both configurations ds
rules_same configurations vs ds pairs =
    ap (λ rs. go_on (λ xs. go_on (λ ys. Ok (record { configurations = xs; rules = ys })) rs) (each configuration_in configurations)) (each_same rule_in rule_same vs ds pairs)

under : (r : Result Members MockFault) (o p : Option Data) → Both (Shows 2) o p → go_on (λ cs. go_on (both cs) (object_in o)) r ≡ go_on (λ cs. go_on (both cs) (object_in p)) r
under (Ok configurations) o p shows = go_objects (both configurations) (rules_same configurations) o p shows
under (Err fault) o p shows = refl

document_same : (vs ds : Members) → Agree 3 vs ds → document_in vs ≡ document_in ds
document_same vs ds agree =
    let configurations = agree (codes "TestNodeConfigs") refl in
    let rules = agree (codes "SubstitutionRules") refl in
    go_objects (λ cs. go_on (both cs) (object_in (get_member (codes "SubstitutionRules") vs))) (configurations_same (object_in (get_member (codes "SubstitutionRules") vs)))
    (get_member (codes "TestNodeConfigs") vs) (get_member (codes "TestNodeConfigs") ds) configurations
    ∙ under (object_in (get_member (codes "TestNodeConfigs") ds)) (get_member (codes "SubstitutionRules") vs) (get_member (codes "SubstitutionRules") ds) rules

-- the rules of what is kept are those of the value
pub rules_kept : (v d : Data) → Shows 3 v d → go_on document_in (members_in [] (as_object v)) ≡ go_on document_in (members_in [] (as_object d))
rules_kept v d shows = go_both (Agree 3) document_in document_same (as_object v) (as_object d) shows.1

-- and so they are those of the text
pub rules_read : (bytes : List ℕ) (v d : Data) → json_of bytes ≡ Some d → Shows 3 v d → go_on document_in (members_in [] (as_object v)) ≡ rules_in bytes
rules_read bytes v d is shows = rules_kept v d shows ∙ sym (ap (λ (o : Option Data). go_on (λ e. go_on document_in (members_in [] (as_object e))) (value_of o)) is)

pub no_rules : (bytes : List ℕ) (e : Stop MockFault) → Keeps (Err e) (json_of bytes) → Gives {X = Rules} (Err e) (rules_in bytes)
no_rules bytes stop.NoMemory keeps = tt
no_rules bytes (stop.Fault f) keeps =
    ap (λ (o : Option Data). go_on (λ e. go_on document_in (members_in [] (as_object e))) (value_of o)) keeps.0 ∙ ap (λ g. Err g) (sym keeps.1)
