-- The ports that are read fit their node.
use Rattle.std.proofs.Common.{◌≡◌, ℕ, ℤ, Bool, true, false, List, [], ◌∷◌, ◌++◌, Option, Some, None, Ok, refl, ap, sym, ◌∙◌, subst}
use Rattle.std.specs.Prelude.{not, is_some, option_map, ◌&&◌, ◌||◌, if◌then◌else◌}
use Rattle.std.specs.List.{list_all}
use Rattle.std.specs.Option.{option_map_or}
use Rattle.std.specs.Str.{bytes_eq}
use Rattle.std.specs.Str.Parse.{signed_digits_value}
use Rattle.spec_script.specs.declared.value.Value.{Value}
use Rattle.spec_script.specs.declared.value.Value.TheVariants.{Int, Text}
use Rattle.spec_script.specs.Identifiers.{is_identifier}
use Rattle.spec_script.proofs.Bools.{both}
use Rattle.spec_tree.specs.declared.built_ins.Range.{Range}
use Rattle.spec_tree.specs.declared.built_ins.Range.TheVariants.{AnyValue}
use Rattle.spec_tree.specs.declared.term.Port.{Port}
use Rattle.spec_tree.specs.declared.term.PortValue.{PortValue}
use Rattle.spec_tree.specs.declared.term.PortValue.TheVariants.{Lit, Key}
use Rattle.spec_tree.specs.BuiltIns.{PortRule, fits}
use Rattle.spec_tree.specs.Names.{is_among}
use Rattle.spec_tree.specs.Numbers.{int_in, is_canonical, is_int, of_64_bits}
use Rattle.spec_tree.specs.Trees.{is_one_of, names_of}
use Rattle.spec_tree.specs.Values.{in_braces, is_plain, key_said, key_value, literal, literal_value, value_fits, value_in}
use Rattle.spec_tree_file.specs.Content.{Rules, AnyPort, AnyKey, Modelled, BuiltIn, name_fits, range_among, range_of}
use Rattle.tree_build.specs.ContentSteps.{is_modelled, or_bad, port_of, with_port}
use Rattle.tree_build.proofs.Sizes.{same_ok}

pub some_same : {X : Type 0} (x y : X) → ◌≡◌ {A = Option X} (Some x) (Some y) → x ≡ y
some_same x y h = cc

pub both_true : (a b : Bool) → a ≡ true → b ≡ true → (a && b) ≡ true
both_true a b h k = ap (λ (x : Bool). x && b) h ∙ k

-- ---- Values

keyed : (range : Range) (key : List ℕ) (v : PortValue) (b : Bool) → is_identifier key ≡ b →
    ◌≡◌ {A = Option PortValue} (if b then Some (Key key) else None) (Some v) → value_fits range v ≡ true
keyed range key v true e h = subst (λ (x : PortValue). value_fits range x ≡ true) (some_same (Key key) v h) e
keyed range key v false e h = absurd (cc)

lit : (range : Range) (value : Value) (v : PortValue) (b : Bool) → is_plain value ≡ true → fits range value ≡ b →
    ◌≡◌ {A = Option PortValue} (if b then Some (Lit value) else None) (Some v) → value_fits range v ≡ true
lit range value v true p e h =
    subst (λ (x : PortValue). value_fits range x ≡ true) (some_same (Lit value) v h) (both_true (is_plain value) (fits range value) p e)
lit range value v false p e h = absurd (cc)

in_64_bits : (n z : ℤ) (b : Bool) → is_int z ≡ b → ◌≡◌ {A = Option ℤ} (if b then Some z else None) (Some n) → is_int n ≡ true
in_64_bits n z true e h = subst (λ (x : ℤ). is_int x ≡ true) (some_same z n h) e
in_64_bits n z false e h = absurd (cc)

int_by : (text : List ℕ) (n : ℤ) (b : Bool) → (if b then of_64_bits (signed_digits_value 10 text) else None) ≡ Some n → is_int n ≡ true
int_by text n true h = in_64_bits n (signed_digits_value 10 text) (is_int (signed_digits_value 10 text)) refl h
int_by text n false h = absurd (cc)

-- a number that a text writes has 64 bits
pub int_in_is : (text : List ℕ) (n : ℤ) → int_in text ≡ Some n → is_int n ≡ true
int_in_is text n h = int_by text n (is_canonical text) h

plain : (text : List ℕ) (o : Option ℤ) → in_braces text ≡ false → int_in text ≡ o → is_plain (option_map_or Int o (Text text)) ≡ true
plain text (Some n) b e = int_in_is text n e
plain text None b e =
    ap (λ (x : Option ℤ). not (is_some x) && not (in_braces text)) e ∙ ap (λ (x : Bool). not x) b

by_braces : (range : Range) (port text : List ℕ) (v : PortValue) (b : Bool) → in_braces text ≡ b →
    (if b then key_value (key_said port text) else literal_value range (literal text)) ≡ Some v → value_fits range v ≡ true
by_braces range port text v true e h = keyed range (key_said port text) v (is_identifier (key_said port text)) refl h
by_braces range port text v false e h = lit range (literal text) v (fits range (literal text)) (plain text (int_in text) e refl) refl h

-- what a text says at a port fits it
pub value_fits-in : (range : Range) (port text : List ℕ) (v : PortValue) → value_in range port text ≡ Some v → value_fits range v ≡ true
value_fits-in range port text v h = by_braces range port text v (in_braces text) refl h

-- ---- Ports by their rules

abbrev pub port_fits : Rules → Port → Bool
port_fits AnyPort port = value_fits AnyValue port.value
port_fits AnyKey port = is_identifier port.name && value_fits AnyValue port.value
port_fits (Modelled ports) port = value_fits AnyValue port.value
port_fits (BuiltIn rules) port = is_one_of rules port

found_by : (b : Bool) (rule : PortRule) (rules : List PortRule) (name : List ℕ) (range : Range) (v : PortValue) →
    (if b then Some rule.range else range_among rules name) ≡ Some range → value_fits range v ≡ true →
    (range_among rules name ≡ Some range → is_one_of rules (port_of name v) ≡ true) →
    (if b then value_fits rule.range v else is_one_of rules (port_of name v)) ≡ true
found_by true rule rules name range v h f rest = subst (λ (r : Range). value_fits r v ≡ true) (sym (some_same rule.range range h)) f
found_by false rule rules name range v h f rest = rest h

found : (rules : List PortRule) (name : List ℕ) (range : Range) (v : PortValue) → range_among rules name ≡ Some range → value_fits range v ≡ true →
    is_one_of rules (port_of name v) ≡ true
found [] name range v h f = absurd (cc)
found (rule ∷ rules) name range v h f = found_by (bytes_eq name rule.name) rule rules name range v h f (λ k. found rules name range v k f)

modelled_by : (b : Bool) (range : Range) (v : PortValue) → ◌≡◌ {A = Option Range} (if b then Some AnyValue else None) (Some range) → value_fits range v ≡ true → value_fits AnyValue v ≡ true
modelled_by true range v h f = subst (λ (r : Range). value_fits r v ≡ true) (sym (some_same AnyValue range h)) f
modelled_by false range v h f = absurd (cc)

pub ranged : (rules : Rules) (name : List ℕ) (range : Range) (v : PortValue) → name_fits rules name ≡ true → range_of rules name ≡ Some range →
    value_fits range v ≡ true → port_fits rules (port_of name v) ≡ true
ranged AnyPort name range v n h f = modelled_by true range v h f
ranged AnyKey name range v n h f = both_true (is_identifier name) (value_fits AnyValue v) n (modelled_by true range v h f)
ranged (Modelled ports) name range v n h f = modelled_by (is_modelled ports name) range v h f
ranged (BuiltIn rules) name range v n h f = found rules name range v h f

-- ---- One port more

-- the ports grow, and those that are added fit
pub record Grows (p : Port → Bool) (old new : List Port) : Type 0 where
  pub fit : list_all p old ≡ true → list_all p new ≡ true
  pub names : (name : List ℕ) → is_among name (names_of old) ≡ true → is_among name (names_of new) ≡ true

pub stays : (p : Port → Bool) (ports : List Port) → Grows p ports ports
stays p ports = record { fit = λ h. h; names = λ name h. h }

pub grows_on : (p : Port → Bool) (a b c : List Port) → Grows p a b → Grows p b c → Grows p a c
grows_on p a b c g h = record { fit = λ x. h.fit (g.fit x); names = λ name x. h.names name (g.names name x) }

pub all_pushed : {A : Type 0} (p : A → Bool) (xs : List A) (x : A) → list_all p xs ≡ true → p x ≡ true → list_all p (xs ++ x ∷ []) ≡ true
all_pushed p [] x h k = both_true (p x) true k refl
all_pushed p (y ∷ ys) x h k =
    let q = both (p y) (list_all p ys) h in both_true (p y) (list_all p (ys ++ x ∷ [])) q.0 (all_pushed p ys x q.1 k)

or_left : (a b : Bool) → a ≡ true → (a || b) ≡ true
or_left a b h = ap (λ (x : Bool). x || b) h

or_kept : (a b c : Bool) → (b ≡ true → c ≡ true) → (a || b) ≡ true → (a || c) ≡ true
or_kept true b c f h = refl
or_kept false b c f h = f h

among_kept : (name : List ℕ) (ports : List Port) (x : Port) → is_among name (names_of ports) ≡ true → is_among name (names_of (ports ++ x ∷ [])) ≡ true
among_kept name [] x h = absurd (cc)
among_kept name (y ∷ ys) x h = or_kept (bytes_eq name y.name) (is_among name (names_of ys)) (is_among name (names_of (ys ++ x ∷ []))) (among_kept name ys x) h

or_right : (a b : Bool) → b ≡ true → (a || b) ≡ true
or_right true b h = refl
or_right false b h = h

pub among_last : (name : List ℕ) (ports : List Port) (x : Port) → bytes_eq name x.name ≡ true → is_among name (names_of (ports ++ x ∷ [])) ≡ true
among_last name [] x h = or_left (bytes_eq name x.name) false h
among_last name (y ∷ ys) x h = or_right (bytes_eq name y.name) (is_among name (names_of (ys ++ x ∷ []))) (among_last name ys x h)

-- a port that was added: its value fits its range
pub record Added (ports new : List Port) (range : Range) (name : List ℕ) : Type 0 where
  pub value : PortValue
  pub fit : value_fits range value ≡ true
  pub is : ports ++ port_of name value ∷ [] ≡ new

added_by : (uid : ℕ) (ports new : List Port) (range : Range) (name text : List ℕ) (o : Option PortValue) → value_in range name text ≡ o →
    or_bad uid (option_map (λ value. ports ++ port_of name value ∷ []) o) ≡ Ok new → Added ports new range name
added_by uid ports new range name text None e h = absurd (cc)
added_by uid ports new range name text (Some v) e h =
    record { value = v; fit = value_fits-in range name text v e; is = same_ok (ports ++ port_of name v ∷ []) new h }

pub added : (uid : ℕ) (ports new : List Port) (range : Range) (name text : List ℕ) → with_port uid ports range name text ≡ Ok new → Added ports new range name
added uid ports new range name text h = added_by uid ports new range name text (value_in range name text) refl h

pub grows_by : (p : Port → Bool) (ports new : List Port) (range : Range) (name : List ℕ) → ((v : PortValue) → value_fits range v ≡ true → p (port_of name v) ≡ true) →
    Added ports new range name → Grows p ports new
grows_by p ports new range name f a =
    subst (λ (x : List Port). Grows p ports x) a.is
    (record { fit = λ h. all_pushed p ports (port_of name a.value) h (f a.value a.fit); names = λ n h. among_kept n ports (port_of name a.value) h })
