-- The ports of a node that is read can be written, each once.
use Rattle.std.proofs.Common.{◌≡◌, ◌⊎◌, inl, inr, ℕ, ℤ, pos, negsuc, suc, ◌<◌, ◌≤◌, Bool, true, false, List, [], ◌∷◌, ◌++◌, map, codes, decimal, cond, Option, Some, None, Result, Ok, refl, ap, sym, ◌∙◌, subst, arith}
use Rattle.std.specs.Prelude.{not, is_some, option_map, nat_le, ◌&&◌, ◌||◌, if◌then◌else◌}
use Rattle.std.proofs.lemmas.Bool.{leb-true}
use Rattle.std.proofs.lemmas.Bool.Decides.{nat_tests, same_from_decides}
use Rattle.std.proofs.lemmas.Fmt.{decimal_is_IsNumeral}
use Rattle.std.proofs.lemmas.List.{map-append}
use Rattle.std.proofs.lemmas.List.Folds.{list_all-append}
use Rattle.std.proofs.lemmas.Slice.Eq.{bytes_eq-Decides}
use Rattle.std.specs.Char.{digit_value}
use Rattle.std.specs.Cmp.Derive.{both_true}
use Rattle.std.specs.Fmt.{signed_decimal}
use Rattle.std.specs.List.{list_all, list_any, AllByRecursion}
use Rattle.std.specs.Option.{option_map_or}
use Rattle.std.specs.Str.{bytes_eq}
use Rattle.std.specs.Str.Parse.{AllDigits}
use Rattle.spec_script.specs.declared.value.Value.{Value}
use Rattle.spec_script.specs.declared.value.Value.TheVariants.{Int, Text}
use Rattle.spec_script.specs.Identifiers.{is_identifier, is_identifier_start, is_identifier_continue}
use Rattle.spec_script.specs.Texts.{is_name, is_not_zero, name_stands, value_stands}
use Rattle.spec_script.proofs.Bools.{both}
use Rattle.spec_tree_file.specs.Marks.{no_name_twice}
use Rattle.tree_elements.specs.Written.{can_stand}
use Rattle.tree_elements.proofs.Ascii.{is_low, literal, literal_value}
use Rattle.spec_tree.specs.declared.built_ins.Range.{Range}
use Rattle.spec_tree.specs.declared.built_ins.Range.TheVariants.{AnyValue}
use Rattle.spec_tree.specs.declared.term.Port.{Port}
use Rattle.spec_tree.specs.declared.term.PortValue.{PortValue}
use Rattle.spec_tree.specs.declared.term.PortValue.TheVariants.{Lit, Key}
use Rattle.spec_tree.specs.BuiltIns.{PortRule, fits}
use Rattle.spec_tree.specs.Names.{is_among}
use Rattle.spec_tree.specs.Numbers.{int_in, is_int}
use Rattle.spec_tree.specs.PrintedTree.{port_text}
use Rattle.spec_tree.specs.Trees.{all_differ, names_of, port_stands}
use Rattle.spec_tree.specs.Values.{in_braces, is_port_name, key_said, key_value, literal as said, literal_value as value_said, value_in}
use Rattle.spec_tree_file.specs.declared.models.ModelPort.{ModelPort}
use Rattle.spec_tree_file.specs.Attributes.{Attributes, value_of}
use Rattle.spec_tree_file.specs.declared.build_fault.BuildFault.{BuildFault}
use Rattle.spec_tree_file.specs.Content.{Rules, AnyPort, AnyKey, Modelled, BuiltIn, is_port, name_fits, range_of}
use Rattle.tree_build.specs.ContentSteps.{or_bad, port_of, ports_in, with_absent, with_attribute, with_default, with_fallback, with_model, with_modelled, with_port, with_ranged, with_rule, with_rules, with_written}
use Rattle.tree_build.proofs.PortFits.{all_pushed, int_in_is, some_same}
use Rattle.tree_build.proofs.Sizes.{same_ok, went}

-- ---- Values

digit_some : (d : ℕ) → digit_value d < 10 → is_not_zero d ≡ true
digit_some d h = grind (arith, nat_tests)

digit_low : (d : ℕ) → digit_value d < 10 → is_low d ≡ true
digit_low d h = grind (arith, nat_tests)

digits_some : (ds : List ℕ) → AllDigits 10 ds → list_all is_not_zero ds ≡ true
digits_some [] h = refl
digits_some (d ∷ ds) h = both_true (digit_some d h.0) (digits_some ds h.1)

digits_low : (ds : List ℕ) → AllDigits 10 ds → list_all is_low ds ≡ true
digits_low [] h = refl
digits_low (d ∷ ds) h = both_true (digit_low d h.0) (digits_low ds h.1)

-- a number of 64 bits
number_stands : (n : ℤ) → is_int n ≡ true → value_stands (signed_decimal n) ≡ true
number_stands (pos n) h =
    let small : n ≤ 9223372036854775807 = leb-true n 9223372036854775807 (both true (nat_le n 9223372036854775807) h).1 in
    let told = decimal_is_IsNumeral n (omega arith) in
    literal_value (decimal n) (digits_some (decimal n) told.0.1) (digits_low (decimal n) told.0.1)
number_stands (negsuc n) h =
    let small : n ≤ 9223372036854775807 = leb-true n 9223372036854775807 (both (nat_le n 9223372036854775807) true h).0 in
    let told = decimal_is_IsNumeral (suc n) (omega arith) in
    literal_value (45 ∷ decimal (suc n)) (both_true refl (digits_some (decimal (suc n)) told.0.1)) (both_true refl (digits_low (decimal (suc n)) told.0.1))

letter_some : (c : ℕ) → is_identifier_continue c ≡ true → is_not_zero c ≡ true
letter_some c h = grind (arith, nat_tests)

letter_low : (c : ℕ) → is_identifier_continue c ≡ true → is_low c ≡ true
letter_low c h = grind (arith, nat_tests)

all_letters : (p : ℕ → Bool) → ((c : ℕ) → is_identifier_continue c ≡ true → p c ≡ true) → (cs : List ℕ) → list_all is_identifier_continue cs ≡ true → list_all p cs ≡ true
all_letters p f [] h = refl
all_letters p f (c ∷ cs) h = let t = both (is_identifier_continue c) (list_all is_identifier_continue cs) h in both_true (f c t.0) (all_letters p f cs t.1)

letters : (key : List ℕ) → is_identifier key ≡ true → list_all is_identifier_continue key ≡ true
letters [] h = refl
letters (c ∷ cs) h = (both (is_identifier_start c) (list_all is_identifier_continue (c ∷ cs)) h).1

-- a key in braces
key_stands : (key : List ℕ) → is_identifier key ≡ true → value_stands (123 ∷ (key ++ 125 ∷ [])) ≡ true
key_stands key h =
    let all = letters key h in
    literal_value (123 ∷ (key ++ 125 ∷ []))
    (both_true refl (list_all-append is_not_zero key (125 ∷ []) ∙ both_true (all_letters is_not_zero letter_some key all) refl))
    (both_true refl (list_all-append is_low key (125 ∷ []) ∙ both_true (all_letters is_low letter_low key all) refl))

keyed : (key : List ℕ) (v : PortValue) (b : Bool) → is_identifier key ≡ b → ◌≡◌ {A = Option PortValue} (if b then Some (Key key) else None) (Some v) → value_stands (port_text v) ≡ true
keyed key v true e h = subst (λ (x : PortValue). value_stands (port_text x) ≡ true) (some_same (Key key) v h) (key_stands key e)
keyed key v false e h = absurd (cc)

said_by : (text : List ℕ) (o : Option ℤ) → value_stands text ≡ true → int_in text ≡ o → value_stands (port_text (Lit (option_map_or Int o (Text text)))) ≡ true
said_by text (Some n) v e = number_stands n (int_in_is text n e)
said_by text None v e = v

lit : (value : Value) (v : PortValue) (b : Bool) → value_stands (port_text (Lit value)) ≡ true → ◌≡◌ {A = Option PortValue} (if b then Some (Lit value) else None) (Some v) → value_stands (port_text v) ≡ true
lit value v true s h = subst (λ (x : PortValue). value_stands (port_text x) ≡ true) (some_same (Lit value) v h) s
lit value v false s h = absurd (cc)

by_braces : (range : Range) (port text : List ℕ) (v : PortValue) (b : Bool) → value_stands text ≡ true →
    (if b then key_value (key_said port text) else value_said range (said text)) ≡ Some v → value_stands (port_text v) ≡ true
by_braces range port text v true s h = keyed (key_said port text) v (is_identifier (key_said port text)) refl h
by_braces range port text v false s h = lit (said text) v (fits range (said text)) (said_by text (int_in text) s refl) h

-- what a text says at a port
value_in_stands : (range : Range) (port text : List ℕ) (v : PortValue) → value_stands text ≡ true → value_in range port text ≡ Some v → value_stands (port_text v) ≡ true
value_in_stands range port text v s h = by_braces range port text v (in_braces text) s h

-- ---- Names that differ

pub same_either_way : (a b : List ℕ) → bytes_eq a b ≡ bytes_eq b a
same_either_way a b =
    same_from_decides (bytes_eq a b) (bytes_eq b a) (bytes_eq-Decides a b) (λ h. sym ((bytes_eq-Decides b a).0 h), λ e. (bytes_eq-Decides b a).1 (sym e))

pub neither : (a b : Bool) → (a || b) ≡ false → (a ≡ false) × (b ≡ false)
neither true b h = absurd (cc)
neither false b h = (refl, h)

pub or_false : (a b : Bool) → a ≡ false → b ≡ false → (a || b) ≡ false
or_false true b p q = p
or_false false b p q = q

pub not_true : (b : Bool) → not b ≡ true → b ≡ false
not_true true h = absurd (cc)
not_true false h = refl

pub to_not : (b : Bool) → b ≡ false → not b ≡ true
to_not true h = absurd (cc)
to_not false h = refl

pub among_pushed : (other : List ℕ) (names : List (List ℕ)) (name : List ℕ) → is_among other names ≡ false → bytes_eq other name ≡ false → is_among other (names ++ name ∷ []) ≡ false
among_pushed other [] name h d = or_false (bytes_eq other name) false d refl
among_pushed other (n ∷ names) name h d =
    let t = neither (bytes_eq other n) (is_among other names) h in
    or_false (bytes_eq other n) (is_among other (names ++ name ∷ [])) t.0 (among_pushed other names name t.1 d)

pub differ_pushed : (names : List (List ℕ)) (name : List ℕ) → all_differ names ≡ true → is_among name names ≡ false → all_differ (names ++ name ∷ []) ≡ true
differ_pushed [] name h d = refl
differ_pushed (n ∷ names) name h d =
    let t = both (not (is_among n names)) (all_differ names) h in
    let e = neither (bytes_eq name n) (is_among name names) d in
    both_true (to_not (is_among n (names ++ name ∷ [])) (among_pushed n names name (not_true (is_among n names) t.0) (same_either_way n name ∙ e.0))) (differ_pushed names name t.1 e.1)

-- ---- One port more

-- ports that can be written, each once
pub record Stand (ports : List Port) : Type 0 where
  pub stand : list_all port_stands ports ≡ true
  pub apart : all_differ (names_of ports) ≡ true

pub none_stand : Stand []
none_stand = record { stand = refl; apart = refl }

-- nothing is added, or, where this is so, a port of this name that can be written
abbrev Step : Type 0 → List Port → List Port → List ℕ → Type 0
Step Q ports new name = (new ≡ ports) ⊎ (Q × ((v : PortValue) × (port_stands (port_of name v) ≡ true) × (ports ++ port_of name v ∷ [] ≡ new)))

names_pushed : (ports : List Port) (name : List ℕ) (v : PortValue) → names_of (ports ++ port_of name v ∷ []) ≡ names_of ports ++ name ∷ []
names_pushed ports name v = map-append (λ (port : Port). port.name) ports (port_of name v ∷ [])

step_stands : (Q : Type 0) (ports new : List Port) (name : List ℕ) → Stand ports → (Q → is_among name (names_of ports) ≡ false) → Step Q ports new name → Stand new
step_stands Q ports new name s free (inl same) = subst Stand (sym same) s
step_stands Q ports new name s free (inr (q, more)) =
    subst Stand more.2
    (record {
      stand = all_pushed port_stands ports (port_of name more.0) s.stand more.1;
      apart = ap all_differ (names_pushed ports name more.0) ∙ differ_pushed (names_of ports) name s.apart (free q);
    })

step_others : (Q : Type 0) (ports new : List Port) (name other : List ℕ) → is_among other (names_of ports) ≡ false → bytes_eq other name ≡ false → Step Q ports new name → is_among other (names_of new) ≡ false
step_others Q ports new name other h d (inl same) = subst (λ (x : List Port). is_among other (names_of x) ≡ false) (sym same) h
step_others Q ports new name other h d (inr (q, more)) =
    subst (λ (x : List Port). is_among other (names_of x) ≡ false) more.2
    (ap (is_among other) (names_pushed ports name more.0) ∙ among_pushed other (names_of ports) name h d)

step_by :
    (Q : Type 0) → Q → (uid : ℕ) (ports new : List Port) (range : Range) (name text : List ℕ) (o : Option PortValue) → is_port_name name ≡ true → name_stands name ≡ true →
    value_stands text ≡ true → value_in range name text ≡ o → or_bad uid (option_map (λ value. ports ++ port_of name value ∷ []) o) ≡ Ok new → Step Q ports new name
step_by Q q uid ports new range name text None p n v e h = absurd (cc)
step_by Q q uid ports new range name text (Some value) p n v e h =
    inr (q, (value, both_true p (both_true n (value_in_stands range name text value v e)), same_ok (ports ++ port_of name value ∷ []) new h))

port_step :
    (Q : Type 0) → Q → (uid : ℕ) (ports new : List Port) (range : Range) (name text : List ℕ) → is_port_name name ≡ true → name_stands name ≡ true → value_stands text ≡ true →
    with_port uid ports range name text ≡ Ok new → Step Q ports new name
port_step Q q uid ports new range name text p n v h = step_by Q q uid ports new range name text (value_in range name text) p n v refl h

kept : (Q : Type 0) (ports new : List Port) (name : List ℕ) → ◌≡◌ {A = Result (List Port) BuildFault} (Ok ports) (Ok new) → Step Q ports new name
kept Q ports new name h = inl (sym (same_ok ports new h))

-- ---- The ports that are written

ranged_step :
    (uid : ℕ) (ports new : List Port) (fit : Bool) (range : Option Range) (name text : List ℕ) → is_port_name name ≡ true → name_stands name ≡ true → value_stands text ≡ true →
    with_ranged uid ports fit range name text ≡ Ok new → Step (Unit {0}) ports new name
ranged_step uid ports new true (Some range) name text p n v h = port_step (Unit {0}) tt uid ports new range name text p n v h
ranged_step uid ports new true None name text p n v h = absurd (cc)
ranged_step uid ports new false (Some range) name text p n v h = absurd (cc)
ranged_step uid ports new false None name text p n v h = absurd (cc)

attribute_by :
    (uid : ℕ) (with_code : Bool) (rules : Rules) (ports new : List Port) (a : List ℕ × List ℕ) (b : Bool) → is_port with_code a.0 ≡ b → can_stand a ≡ true →
    (if b then with_ranged uid ports (name_fits rules a.0) (range_of rules a.0) a.0 a.1 else Ok ports) ≡ Ok new → Step (Unit {0}) ports new a.0
attribute_by uid with_code rules ports new a true e s h =
    let t = both (name_stands a.0) (value_stands a.1) s in
    ranged_step uid ports new (name_fits rules a.0) (range_of rules a.0) a.0 a.1 (both (is_port_name a.0) (not (with_code && bytes_eq a.0 (codes "code"))) e).0 t.0 t.1 h
attribute_by uid with_code rules ports new a false e s h = kept (Unit {0}) ports new a.0 h

-- none of these attributes is a port
abbrev NoneThere : List Port → Attributes → Type 0
NoneThere ports attributes = AllByRecursion (λ a. is_among a.0 (names_of ports) ≡ false) attributes

still_none : (ports new : List Port) (name : List ℕ) (attributes : Attributes) → list_any (λ (b : List ℕ × List ℕ). bytes_eq b.0 name) attributes ≡ false →
    Step (Unit {0}) ports new name → NoneThere ports attributes → NoneThere new attributes
still_none ports new name [] d step none = tt
still_none ports new name (a ∷ more) d step none =
    let t = neither (bytes_eq a.0 name) (list_any (λ (b : List ℕ × List ℕ). bytes_eq b.0 name) more) d in
    (step_others (Unit {0}) ports new name a.0 none.0 t.0 step, still_none ports new name more t.1 step none.1)

-- what is written can be written, and no other port is there
record Wrote (ports new : List Port) (attributes : Attributes) : Type 0 where
  stand : Stand new
  others : (other : List ℕ) → is_among other (names_of ports) ≡ false → value_of other attributes ≡ None → is_among other (names_of new) ≡ false

not_found : (b : Bool) (text : List ℕ) (o : Option (List ℕ)) → cond b (Some text) o ≡ None → (b ≡ false) × (o ≡ None)
not_found true text o h = absurd (cc)
not_found false text o h = (refl, h)

wrote : (uid : ℕ) (with_code : Bool) (rules : Rules) (ports new : List Port) (attributes : Attributes) → list_all can_stand attributes ≡ true → no_name_twice attributes ≡ true →
    Stand ports → NoneThere ports attributes → with_written uid with_code rules ports attributes ≡ Ok new → Wrote ports new attributes
wrote uid with_code rules ports new [] all single s none h =
    subst (λ (x : List Port). Wrote ports x []) (same_ok ports new h) (record { stand = s; others = λ other h e. h })
wrote uid with_code rules ports new (a ∷ more) all single s none h =
    let w = went (λ (next : List Port). with_written uid with_code rules next more) (with_attribute uid with_code rules ports a) new h in
    let t = both (can_stand a) (list_all can_stand more) all in
    let u = both (not (list_any (λ (b : List ℕ × List ℕ). bytes_eq b.0 a.0) more)) (no_name_twice more) single in
    let step = attribute_by uid with_code rules ports w.0 a (is_port with_code a.0) refl t.0 w.1 in
    let rest =
    wrote uid with_code rules w.0 new more t.1 u.1 (step_stands (Unit {0}) ports w.0 a.0 s (λ q. none.0) step)
    (still_none ports w.0 a.0 more (not_true (list_any (λ (b : List ℕ × List ℕ). bytes_eq b.0 a.0) more) u.0) step none.1) w.2 in
    record {
      stand = rest.stand;
      others = λ other h e. let f = not_found (bytes_eq other a.0) a.1 (value_of other more) e in rest.others other (step_others (Unit {0}) ports w.0 a.0 other h f.0 step) f.1;
    }

-- ---- The ports that are filled in

-- the texts of a rule are in ASCII
abbrev pub default_stands : Option (List ℕ) → Bool
default_stands None = true
default_stands (Some text) = list_all is_not_zero text && list_all is_low text

abbrev pub rule_stands : PortRule → Bool
rule_stands rule = is_port_name rule.name && ((is_name rule.name && list_all is_low rule.name) && default_stands rule.default)

abbrev pub rules_stand : List PortRule → Bool
rules_stand rules = list_all rule_stands rules && all_differ (map (λ (rule : PortRule). rule.name) rules)

-- the texts of a model can be written
abbrev pub fallback_stands : Option (List ℕ) → Bool
fallback_stands None = true
fallback_stands (Some text) = value_stands text

abbrev pub model_port_stands : ModelPort → Bool
model_port_stands port = is_port_name port.name && (name_stands port.name && fallback_stands port.fallback)

abbrev pub model_names : List ModelPort → List (List ℕ)
model_names ports = map (λ (port : ModelPort). port.name) ports

abbrev pub model_stands : List ModelPort → Bool
model_stands ports = list_all model_port_stands ports && all_differ (model_names ports)

abbrev pub RulesStand : Rules → Type 0
RulesStand (Modelled ports) = model_stands ports ≡ true
RulesStand (BuiltIn rules) = rules_stand rules ≡ true
RulesStand _ = Unit {0}

-- a port of this name is not written
abbrev Absent : Attributes → List ℕ → Type 0
Absent attributes name = value_of name attributes ≡ None

-- each of these names that no attribute writes is that of no port
abbrev Free : Attributes → List Port → List (List ℕ) → Type 0
Free attributes ports names = AllByRecursion (λ name. Absent attributes name → is_among name (names_of ports) ≡ false) names

still_free : (attributes : Attributes) (ports new : List Port) (name : List ℕ) (names : List (List ℕ)) → is_among name names ≡ false → Step (Absent attributes name) ports new name → Free attributes ports names →
    Free attributes new names
still_free attributes ports new name [] d step free = tt
still_free attributes ports new name (n ∷ names) d step free =
    let t = neither (bytes_eq name n) (is_among name names) d in (
      λ none. step_others (Absent attributes name) ports new name n (free.0 none) (same_either_way n name ∙ t.0) step,
      still_free attributes ports new name names t.1 step free.1,
    )

default_step : (uid : ℕ) (attributes : Attributes) (ports new : List Port) (rule : PortRule) (o : Option (List ℕ)) → Absent attributes rule.name → rule.default ≡ o → rule_stands rule ≡ true →
    with_default uid ports rule o ≡ Ok new → Step (Absent attributes rule.name) ports new rule.name
default_step uid attributes ports new rule None none e s h = absurd (cc)
default_step uid attributes ports new rule (Some text) none e s h =
    let t = both (is_port_name rule.name) ((is_name rule.name && list_all is_low rule.name) && default_stands rule.default) s in
    let u = both (is_name rule.name && list_all is_low rule.name) (default_stands rule.default) t.1 in
    let n = both (is_name rule.name) (list_all is_low rule.name) u.0 in
    let v = both (list_all is_not_zero text) (list_all is_low text) (ap default_stands (sym e) ∙ u.1) in
    port_step (Absent attributes rule.name) none uid ports new rule.range rule.name text t.0 (literal rule.name n.0 n.1) (literal_value text v.0 v.1) h

rule_by : (uid : ℕ) (attributes : Attributes) (ports new : List Port) (rule : PortRule) (o : Option (List ℕ)) → value_of rule.name attributes ≡ o → rule_stands rule ≡ true →
    (if is_some o then Ok ports else with_default uid ports rule rule.default) ≡ Ok new → Step (Absent attributes rule.name) ports new rule.name
rule_by uid attributes ports new rule (Some text) e s h = kept (Absent attributes rule.name) ports new rule.name h
rule_by uid attributes ports new rule None e s h = default_step uid attributes ports new rule rule.default e refl s h

rules_filled : (uid : ℕ) (attributes : Attributes) (ports new : List Port) (rules : List PortRule) → list_all rule_stands rules ≡ true → all_differ (map (λ (rule : PortRule). rule.name) rules) ≡ true →
    Stand ports → Free attributes ports (map (λ (rule : PortRule). rule.name) rules) → with_rules uid attributes ports rules ≡ Ok new → Stand new
rules_filled uid attributes ports new [] all apart s free h = subst Stand (same_ok ports new h) s
rules_filled uid attributes ports new (rule ∷ rules) all apart s free h =
    let names = map (λ (r : PortRule). r.name) rules in
    let w = went (λ (next : List Port). with_rules uid attributes next rules) (with_rule uid attributes ports rule) new h in
    let t = both (rule_stands rule) (list_all rule_stands rules) all in
    let u = both (not (is_among rule.name names)) (all_differ names) apart in
    let step = rule_by uid attributes ports w.0 rule (value_of rule.name attributes) refl t.0 w.1 in
    rules_filled uid attributes w.0 new rules t.1 u.1 (step_stands (Absent attributes rule.name) ports w.0 rule.name s free.0 step)
    (still_free attributes ports w.0 rule.name names (not_true (is_among rule.name names) u.0) step free.1) w.2

fallback_step : (uid : ℕ) (attributes : Attributes) (ports new : List Port) (port : ModelPort) (o : Option (List ℕ)) → Absent attributes port.name → port.fallback ≡ o → model_port_stands port ≡ true →
    with_fallback uid ports port.name o ≡ Ok new → Step (Absent attributes port.name) ports new port.name
fallback_step uid attributes ports new port None none e s h = kept (Absent attributes port.name) ports new port.name h
fallback_step uid attributes ports new port (Some text) none e s h =
    let t = both (is_port_name port.name) (name_stands port.name && fallback_stands port.fallback) s in
    let u = both (name_stands port.name) (fallback_stands port.fallback) t.1 in
    port_step (Absent attributes port.name) none uid ports new AnyValue port.name text t.0 u.0 (ap fallback_stands (sym e) ∙ u.1) h

modelled_by : (uid : ℕ) (attributes : Attributes) (ports new : List Port) (port : ModelPort) (o : Option (List ℕ)) → value_of port.name attributes ≡ o → model_port_stands port ≡ true →
    (if is_some o then Ok ports else with_fallback uid ports port.name port.fallback) ≡ Ok new → Step (Absent attributes port.name) ports new port.name
modelled_by uid attributes ports new port (Some text) e s h = kept (Absent attributes port.name) ports new port.name h
modelled_by uid attributes ports new port None e s h = fallback_step uid attributes ports new port port.fallback e refl s h

model_filled : (uid : ℕ) (attributes : Attributes) (ports new : List Port) (model : List ModelPort) → list_all model_port_stands model ≡ true → all_differ (model_names model) ≡ true →
    Stand ports → Free attributes ports (model_names model) → with_model uid attributes ports model ≡ Ok new → Stand new
model_filled uid attributes ports new [] all apart s free h = subst Stand (same_ok ports new h) s
model_filled uid attributes ports new (port ∷ more) all apart s free h =
    let names = model_names more in
    let w = went (λ (next : List Port). with_model uid attributes next more) (with_modelled uid attributes ports port) new h in
    let t = both (model_port_stands port) (list_all model_port_stands more) all in
    let u = both (not (is_among port.name names)) (all_differ names) apart in
    let step = modelled_by uid attributes ports w.0 port (value_of port.name attributes) refl t.0 w.1 in
    model_filled uid attributes w.0 new more t.1 u.1 (step_stands (Absent attributes port.name) ports w.0 port.name s free.0 step)
    (still_free attributes ports w.0 port.name names (not_true (is_among port.name names) u.0) step free.1) w.2

-- ---- All ports of a node

free_from : (attributes : Attributes) (ports : List Port) (names : List (List ℕ)) → Wrote [] ports attributes → Free attributes ports names
free_from attributes ports [] w = tt
free_from attributes ports (name ∷ names) w = (λ none. w.others name refl none, free_from attributes ports names w)

absent_filled : (uid : ℕ) (attributes : Attributes) (rules : Rules) (ports new : List Port) → RulesStand rules → Wrote [] ports attributes → with_absent uid attributes rules ports ≡ Ok new → Stand new
absent_filled uid attributes AnyPort ports new r w h = subst Stand (same_ok ports new h) w.stand
absent_filled uid attributes AnyKey ports new r w h = subst Stand (same_ok ports new h) w.stand
absent_filled uid attributes (Modelled model) ports new r w h =
    let t = both (list_all model_port_stands model) (all_differ (model_names model)) r in
    model_filled uid attributes ports new model t.0 t.1 w.stand (free_from attributes ports (model_names model) w) h
absent_filled uid attributes (BuiltIn rules) ports new r w h =
    let names = map (λ (rule : PortRule). rule.name) rules in
    let t = both (list_all rule_stands rules) (all_differ names) r in
    rules_filled uid attributes ports new rules t.0 t.1 w.stand (free_from attributes ports names w) h

none_at_first : (attributes : Attributes) → NoneThere [] attributes
none_at_first [] = tt
none_at_first (a ∷ more) = (refl, none_at_first more)

-- the ports of a node whose attributes and rules can be written
pub ports_stand : (uid : ℕ) (with_code : Bool) (rules : Rules) (attributes : Attributes) (ports : List Port) → RulesStand rules → list_all can_stand attributes ≡ true → no_name_twice attributes ≡ true →
    ports_in uid with_code rules attributes ≡ Ok ports → Stand ports
ports_stand uid with_code rules attributes ports r all single h =
    let w = went (with_absent uid attributes rules) (with_written uid with_code rules [] attributes) ports h in
    absent_filled uid attributes rules w.0 ports r (wrote uid with_code rules [] w.0 attributes all single none_stand (none_at_first attributes) w.1) w.2
