-- The mark of a node that fits can be written.
use Rattle.std.proofs.Common.{◌≡◌, ℕ, Bool, true, false, not, ◌&&◌, ◌||◌, if◌then◌else◌, List, [], ◌∷◌, ◌++◌, map, Option, Some, None, ◌⊎◌, inl, inr, refl, ap, sym, ◌∙◌, subst, append_assoc, append-nil, codes}
use Rattle.std.proofs.lemmas.List.Folds.{list_all-append, list_any-append}
use Rattle.std.proofs.lemmas.Slice.Eq.{bytes_eq-Decides}
use Rattle.std.specs.List.{flat_map, list_all, list_any}
use Rattle.std.specs.Char.{is_ascii_digit}
use Rattle.std.specs.Prelude.{◌==◌, nat_eq, nat_le, slice_index}
use Rattle.tree_build.proofs.PortTexts.{neither, not_true, or_false, same_either_way, to_not}
use Rattle.tree_round_trip.proofs.Values.{and_true}
use Rattle.tree_elements.proofs.Ascii.{literal, literal_value}
use Rattle.std.specs.Str.{bytes_eq, is_utf8}
use Rattle.spec_script.proofs.Bools.{both}
use Rattle.spec_script.specs.Identifiers.{is_identifier, is_identifier_start, is_identifier_continue}
use Rattle.spec_script.specs.Texts.{name_stands, value_stands}
use Rattle.spec_script.specs.declared.syntax.Script.{Script}
use Rattle.spec_tree_file.specs.Marks.{is_name, is_name_first, is_name_rest, is_not_zero, no_name_twice}
use Rattle.tree_elements.specs.Written.{can_stand}
use Rattle.spec_tree.specs.BuiltIns.{kind_among, kind_named, named_kinds, PortRule, has_code}
use Rattle.spec_tree.specs.Names.{is_among, is_reserved}
use Rattle.spec_tree.specs.PrintedTree.{Attribute, attribute_if, element_name, guard_attributes, is_compact, node_attributes, port_attribute, port_text, script_attribute}
use Rattle.spec_tree.specs.Trees.{CodeFits, IdFits, all_differ, guards_stand, is_one_of, names_of, port_stands, ports_fit, script_stands}
use Rattle.spec_tree.specs.Values.{is_port_name}
use Rattle.spec_tree.specs.declared.term.Guards.{Guards}
use Rattle.spec_tree.specs.declared.term.Kind.{Kind}
use Rattle.spec_tree.specs.declared.term.Kind.TheVariants.{Leaf, ScriptCondition, ScriptNode, SubTree}
use Rattle.spec_tree.specs.declared.term.Port.{Port}
use Rattle.spec_tree.specs.declared.term.Term.{Term-F}

-- ---- Names of elements

identifier_start : (c : ℕ) → is_identifier_start c ≡ true → is_name_first c ≡ true
identifier_start c h = rw h refl

rest_true : (a b d x y z : Bool) → (a || d) ≡ true → (a || b || d || x || y || z) ≡ true
rest_true true b d x y z h = refl
rest_true false true d x y z h = refl
rest_true false false true x y z h = refl
rest_true false false false x y z h = absurd (cc)

identifier_rest : (c : ℕ) → is_identifier_continue c ≡ true → is_name_rest c ≡ true
identifier_rest c h = rest_true (is_identifier_start c) (nat_le 128 c) (is_ascii_digit c) (c == 45) (c == 46) (c == 58) h

identifier_all : (cs : List ℕ) → list_all is_identifier_continue cs ≡ true → list_all is_name_rest cs ≡ true
identifier_all [] h = refl
identifier_all (c ∷ cs) h =
    let t = both (is_identifier_continue c) (list_all is_identifier_continue cs) h in
    and_true (is_name_rest c) (list_all is_name_rest cs) (identifier_rest c t.0) (identifier_all cs t.1)

-- an identifier is a name
identifier_is_name : (id : List ℕ) → is_identifier id ≡ true → is_name id ≡ true
identifier_is_name [] h = h
identifier_is_name (c ∷ cs) h =
    let t = both (is_identifier_start c) (list_all is_identifier_continue (c ∷ cs)) h in
    and_true (is_name_first c) (list_all is_name_rest (c ∷ cs)) (identifier_start c t.0) (identifier_all (c ∷ cs) t.1)

either_name :
    (p : List ℕ → Bool) (is : Bool) (known : List ℕ) (k : Kind) (more : Option Kind) (id : List ℕ) (kind : Kind) → bytes_eq id known ≡ is → (if is then Some k else more) ≡ Some kind →
    p known ≡ true → (more ≡ Some kind → p id ≡ true) → p id ≡ true
either_name p true known k more id kind same h named others = subst (λ (z : List ℕ). p z ≡ true) (sym ((bytes_eq-Decides id known).0 same)) named
either_name p false known k more id kind same h named others = others h

-- what holds of each name in a table of kinds holds of a name found there
pub named_by : (p : List ℕ → Bool) (rows : List (List ℕ × Kind)) (id : List ℕ) (kind : Kind) → kind_among rows id ≡ Some kind → list_all (λ (row : List ℕ × Kind). p row.0) rows ≡ true → p id ≡ true
named_by p [] id kind h all = absurd (cc)
named_by p (row ∷ rows) id kind h all =
    let t = both (p row.0) (list_all (λ (r : List ℕ × Kind). p r.0) rows) all in
    either_name p (bytes_eq id row.0) row.0 row.1 (kind_among rows id) id kind refl h t.0 (λ more. named_by p rows id kind more t.1)

-- the name of a built-in node is a name
built_in_name : (id : List ℕ) (kind : Kind) → kind_named id ≡ Some kind → is_name id ≡ true
unfolding named_kinds
built_in_name id kind h = named_by is_name named_kinds id kind h refl

name_of_value : (id : List ℕ) → is_name id ≡ true → value_stands id ≡ true → name_stands id ≡ true
name_of_value id is stands = and_true (is_name id) (is_utf8 id) is ((both (list_all is_not_zero id) (is_utf8 id) stands).1)

leaf_name : (id : List ℕ) (is : Bool) → (is_identifier id && not (is_reserved id)) ≡ is → value_stands id ≡ true → name_stands (if is then id else codes "Action") ≡ true
leaf_name id true h stands =
    name_of_value id (identifier_is_name id ((both (is_identifier id) (not (is_reserved id)) h).0)) stands
leaf_name id false h stands = literal (codes "Action") refl refl

pub element_name_stands : (kind : Kind) (id : List ℕ) → IdFits kind id → value_stands id ≡ true → name_stands (element_name kind id) ≡ true
element_name_stands Leaf id fits stands = leaf_name id (is_compact Leaf id) refl stands
element_name_stands SubTree id fits stands = literal (codes "SubTree") refl refl
element_name_stands kind id fits stands = name_of_value id (built_in_name id kind fits) stands

-- ---- Attributes can stand

if_stands : (is : Bool) (name value : List ℕ) → name_stands name ≡ true → value_stands value ≡ true → list_all can_stand (attribute_if is name value) ≡ true
if_stands true name value n v = and_true (can_stand (name, value)) true (and_true (name_stands name) (value_stands value) n v) refl
if_stands false name value n v = refl

script_can_stand : (name : List ℕ) (script : Option Script) → name_stands name ≡ true → script_stands script ≡ true → list_all can_stand (script_attribute name script) ≡ true
script_can_stand name None n v = refl
script_can_stand name (Some script) n v = and_true (can_stand (name, script.text)) true (and_true (name_stands name) (value_stands script.text) n v) refl

ports_can_stand : (ports : List Port) → list_all port_stands ports ≡ true → list_all can_stand (map port_attribute ports) ≡ true
ports_can_stand [] h = refl
ports_can_stand (port ∷ ports) h =
    let t = both (port_stands port) (list_all port_stands ports) h in
    let one = both (is_port_name port.name) (name_stands port.name && value_stands (port_text port.value)) t.0 in
    and_true (can_stand (port_attribute port)) (list_all can_stand (map port_attribute ports)) one.1 (ports_can_stand ports t.1)

two_stand : (xs ys : List Attribute) → list_all can_stand xs ≡ true → list_all can_stand ys ≡ true → list_all can_stand (xs ++ ys) ≡ true
two_stand xs ys p q = list_all-append can_stand xs ys ∙ and_true (list_all can_stand xs) (list_all can_stand ys) p q

-- ---- The guards

abbrev pub Row : Type 0
Row = List ℕ × Option Script

abbrev pub rows_of : Guards → List Row
rows_of g =
    (codes "_failureIf", g.failure_if)
    ∷ (codes "_successIf", g.success_if)
    ∷ (codes "_skipIf", g.skip_if)
    ∷ (codes "_while", g.while_true)
    ∷ (codes "_onSuccess", g.on_success)
    ∷ (codes "_onFailure", g.on_failure)
    ∷ (codes "_post", g.post)
    ∷ (codes "_onHalted", g.on_halted)
    ∷ []

abbrev pub written_rows : List Row → List Attribute
written_rows rows = flat_map (λ (r : Row). script_attribute r.0 r.1) rows

eight : (a b c d e f g h : List Attribute) → a ++ b ++ c ++ d ++ e ++ f ++ g ++ h ≡ a ++ (b ++ (c ++ (d ++ (e ++ (f ++ (g ++ (h ++ [])))))))
eight a b c d e f g h = simp (append_assoc, append-nil)

pub guards_are_rows : (g : Guards) → guard_attributes g ≡ written_rows (rows_of g)
guards_are_rows g =
    eight (script_attribute (codes "_failureIf") g.failure_if) (script_attribute (codes "_successIf") g.success_if) (script_attribute (codes "_skipIf") g.skip_if)
    (script_attribute (codes "_while") g.while_true) (script_attribute (codes "_onSuccess") g.on_success) (script_attribute (codes "_onFailure") g.on_failure)
    (script_attribute (codes "_post") g.post) (script_attribute (codes "_onHalted") g.on_halted)

abbrev row_stands : Row → Bool
row_stands r = name_stands r.0 && script_stands r.1

rows_stand : (rows : List Row) → list_all row_stands rows ≡ true → list_all can_stand (written_rows rows) ≡ true
rows_stand [] h = refl
rows_stand (r ∷ rows) h =
    let t = both (row_stands r) (list_all row_stands rows) h in
    let one = both (name_stands r.0) (script_stands r.1) t.0 in
    two_stand (script_attribute r.0 r.1) (written_rows rows) (script_can_stand r.0 r.1 one.0 one.1) (rows_stand rows t.1)

row_more : (name : List ℕ) (script : Option Script) (rows : List Row) → name_stands name ≡ true → script_stands script ≡ true → list_all row_stands rows ≡ true → list_all row_stands ((name, script) ∷ rows) ≡ true
row_more name script rows n v h = and_true (row_stands (name, script)) (list_all row_stands rows) (and_true (name_stands name) (script_stands script) n v) h

rows_of_stand :
    (a b c d e f g h : Option Script) →
    (script_stands a && (script_stands b && (script_stands c && (script_stands d && (script_stands e && (script_stands f && (script_stands g && script_stands h))))))) ≡ true →
    list_all row_stands (rows_of (record { failure_if = a; success_if = b; skip_if = c; while_true = d; on_success = e; on_failure = f; post = g; on_halted = h })) ≡ true
rows_of_stand a b c d e f g h all =
    let t1 = both (script_stands a) _ all in
    let t2 = both (script_stands b) _ t1.1 in
    let t3 = both (script_stands c) _ t2.1 in
    let t4 = both (script_stands d) _ t3.1 in
    let t5 = both (script_stands e) _ t4.1 in
    let t6 = both (script_stands f) _ t5.1 in
    let t7 = both (script_stands g) (script_stands h) t6.1 in
    let r8 : List Row = (codes "_onHalted", h) ∷ [] in
    let r7 : List Row = (codes "_post", g) ∷ r8 in
    let r6 : List Row = (codes "_onFailure", f) ∷ r7 in
    let r5 : List Row = (codes "_onSuccess", e) ∷ r6 in
    let r4 : List Row = (codes "_while", d) ∷ r5 in
    let r3 : List Row = (codes "_skipIf", c) ∷ r4 in
    let r2 : List Row = (codes "_successIf", b) ∷ r3 in
    row_more (codes "_failureIf") a r2 (literal (codes "_failureIf") refl refl) t1.0
    (row_more (codes "_successIf") b r3 (literal (codes "_successIf") refl refl) t2.0
    (row_more (codes "_skipIf") c r4 (literal (codes "_skipIf") refl refl) t3.0
    (row_more (codes "_while") d r5 (literal (codes "_while") refl refl) t4.0
    (row_more (codes "_onSuccess") e r6 (literal (codes "_onSuccess") refl refl) t5.0
    (row_more (codes "_onFailure") f r7 (literal (codes "_onFailure") refl refl) t6.0
    (row_more (codes "_post") g r8 (literal (codes "_post") refl refl) t7.0
    (row_more (codes "_onHalted") h [] (literal (codes "_onHalted") refl refl) t7.1 refl)))))))

guards_can_stand : (g : Guards) → guards_stand g ≡ true → list_all can_stand (guard_attributes g) ≡ true
guards_can_stand g h =
    ap (list_all can_stand) (guards_are_rows g)
    ∙ rows_stand (rows_of g) (rows_of_stand g.failure_if g.success_if g.skip_if g.while_true g.on_success g.on_failure g.post g.on_halted h)

-- ---- No attribute occurs twice

abbrev has_name : List ℕ → List Attribute → Bool
has_name n xs = list_any (λ (b : Attribute). bytes_eq b.0 n) xs

pub all_both : (p : List ℕ → Bool) (xs ys : List Attribute) → list_all (λ (a : Attribute). p a.0) xs ≡ true → list_all (λ (a : Attribute). p a.0) ys ≡ true → list_all (λ (a : Attribute). p a.0) (xs ++ ys) ≡ true
all_both p xs ys h k =
    list_all-append (λ (a : Attribute). p a.0) xs ys ∙ and_true (list_all (λ (a : Attribute). p a.0) xs) (list_all (λ (a : Attribute). p a.0) ys) h k

differs_by : (p : List ℕ → Bool) (m n : List ℕ) (is : Bool) → p n ≡ true → not (p m) ≡ true → bytes_eq m n ≡ is → is ≡ false
differs_by p m n true h k same =
    let one : p m ≡ p n = ap p ((bytes_eq-Decides m n).0 same) in
    let no = not_true (p m) k in
    absurd (cc)
differs_by p m n false h k same = refl

apart : (p : List ℕ → Bool) (n : List ℕ) (ys : List Attribute) → p n ≡ true → list_all (λ (b : Attribute). not (p b.0)) ys ≡ true → has_name n ys ≡ false
apart p n [] h all = refl
apart p n (y ∷ ys) h all =
    let t = both (not (p y.0)) (list_all (λ (b : Attribute). not (p b.0)) ys) all in
    or_false (bytes_eq y.0 n) (has_name n ys) (differs_by p y.0 n (bytes_eq y.0 n) h t.0 refl) (apart p n ys h t.1)

twice_by :
    (p : List ℕ → Bool) (xs ys : List Attribute) → no_name_twice xs ≡ true → no_name_twice ys ≡ true → list_all (λ (a : Attribute). p a.0) xs ≡ true →
    list_all (λ (b : Attribute). not (p b.0)) ys ≡ true → no_name_twice (xs ++ ys) ≡ true
twice_by p [] ys h k all none = k
twice_by p (x ∷ xs) ys h k all none =
    let t = both (not (has_name x.0 xs)) (no_name_twice xs) h in
    let a = both (p x.0) (list_all (λ (y : Attribute). p y.0) xs) all in
    let new : has_name x.0 (xs ++ ys) ≡ false =
    list_any-append (λ (b : Attribute). bytes_eq b.0 x.0) xs ys
    ∙ or_false (has_name x.0 xs) (has_name x.0 ys) (not_true (has_name x.0 xs) t.0) (apart p x.0 ys a.0 none) in
    and_true (not (has_name x.0 (xs ++ ys))) (no_name_twice (xs ++ ys)) (to_not (has_name x.0 (xs ++ ys)) new) (twice_by p xs ys t.1 k a.1 none)

if_single : (is : Bool) (name value : List ℕ) → no_name_twice (attribute_if is name value) ≡ true
if_single true name value = refl
if_single false name value = refl

if_all : (p : List ℕ → Bool) (is : Bool) (name value : List ℕ) → p name ≡ true → list_all (λ (a : Attribute). p a.0) (attribute_if is name value) ≡ true
if_all p true name value h = and_true (p name) true h refl
if_all p false name value h = refl

abbrev pub row_names : List Row → List (List ℕ)
row_names rows = map (λ (r : Row). r.0) rows

rows_named : (n : List ℕ) (rows : List Row) → is_among n (row_names rows) ≡ false → has_name n (written_rows rows) ≡ false
rows_named n [] h = refl
rows_named n ((m, None) ∷ rows) h =
    let t = neither (bytes_eq n m) (is_among n (row_names rows)) h in rows_named n rows t.1
rows_named n ((m, Some script) ∷ rows) h =
    let t = neither (bytes_eq n m) (is_among n (row_names rows)) h in
    or_false (bytes_eq m n) (has_name n (written_rows rows)) (same_either_way m n ∙ t.0) (rows_named n rows t.1)

rows_single : (rows : List Row) → all_differ (row_names rows) ≡ true → no_name_twice (written_rows rows) ≡ true
rows_single [] h = refl
rows_single ((m, None) ∷ rows) h =
    let t = both (not (is_among m (row_names rows))) (all_differ (row_names rows)) h in rows_single rows t.1
rows_single ((m, Some script) ∷ rows) h =
    let t = both (not (is_among m (row_names rows))) (all_differ (row_names rows)) h in
    and_true (not (has_name m (written_rows rows))) (no_name_twice (written_rows rows))
    (to_not (has_name m (written_rows rows)) (rows_named m rows (not_true (is_among m (row_names rows)) t.0))) (rows_single rows t.1)

pub rows_all : (p : List ℕ → Bool) (rows : List Row) → list_all (λ (r : Row). p r.0) rows ≡ true → list_all (λ (a : Attribute). p a.0) (written_rows rows) ≡ true
rows_all p [] h = refl
rows_all p ((m, None) ∷ rows) h = rows_all p rows ((both (p m) (list_all (λ (r : Row). p r.0) rows) h).1)
rows_all p ((m, Some script) ∷ rows) h =
    let t = both (p m) (list_all (λ (r : Row). p r.0) rows) h in
    and_true (p m) (list_all (λ (a : Attribute). p a.0) (written_rows rows)) t.0 (rows_all p rows t.1)

-- ---- The names of ports

abbrev pub port_named : Port → Bool
port_named port = is_port_name port.name

pub ports_have_names : (ports : List Port) → list_all port_stands ports ≡ true → list_all port_named ports ≡ true
ports_have_names [] h = refl
ports_have_names (port ∷ ports) h =
    let t = both (port_stands port) (list_all port_stands ports) h in
    let one = both (is_port_name port.name) (name_stands port.name && value_stands (port_text port.value)) t.0 in
    and_true (port_named port) (list_all port_named ports) one.0 (ports_have_names ports t.1)

first_of_two : (a b : Bool) → (a && b) ≡ true → a ≡ true
first_of_two a b h = (both a b h).0

port_named_so : (n : List ℕ) (ports : List Port) → is_among n (names_of ports) ≡ false → has_name n (map port_attribute ports) ≡ false
port_named_so n [] h = refl
port_named_so n (port ∷ ports) h =
    let t = neither (bytes_eq n port.name) (is_among n (names_of ports)) h in
    or_false (bytes_eq port.name n) (has_name n (map port_attribute ports)) (same_either_way port.name n ∙ t.0) (port_named_so n ports t.1)

ports_single : (ports : List Port) → all_differ (names_of ports) ≡ true → no_name_twice (map port_attribute ports) ≡ true
ports_single [] h = refl
ports_single (port ∷ ports) h =
    let t = both (not (is_among port.name (names_of ports))) (all_differ (names_of ports)) h in
    and_true (not (has_name port.name (map port_attribute ports))) (no_name_twice (map port_attribute ports))
    (to_not (has_name port.name (map port_attribute ports)) (port_named_so port.name ports (not_true (is_among port.name (names_of ports)) t.0))) (ports_single ports t.1)

-- ---- The mark of a node

pub no_ports : (ports : List Port) → list_all (is_one_of []) ports ≡ true → ports ≡ []
no_ports [] h = refl
no_ports (port ∷ ports) h = absurd (cc)

-- a node with a code has no ports
ports_or_code : (kind : Kind) (ports : List Port) (code : Option Script) → ports_fit kind ports ≡ true → CodeFits (has_code kind) code → (code ≡ None) ⊎ (ports ≡ [])
ports_or_code ScriptNode ports code h c =
    inr (no_ports ports (first_of_two (list_all (is_one_of []) ports) (list_all (λ (rule : PortRule). is_among rule.name (names_of ports)) []) h))
ports_or_code ScriptCondition ports code h c =
    inr (no_ports ports (first_of_two (list_all (is_one_of []) ports) (list_all (λ (rule : PortRule). is_among rule.name (names_of ports)) []) h))
ports_or_code kind ports None h c = inl refl
ports_or_code kind ports (Some script) h c = absurd c

pub ports_all : (p : List ℕ → Bool) (ports : List Port) → ((n : List ℕ) → is_port_name n ≡ true → p n ≡ true) → list_all port_named ports ≡ true → list_all (λ (a : Attribute). p a.0) (map port_attribute ports) ≡ true
ports_all p [] f h = refl
ports_all p (port ∷ ports) f h =
    let t = both (port_named port) (list_all port_named ports) h in
    and_true (p port.name) (list_all (λ (a : Attribute). p a.0) (map port_attribute ports)) (f port.name t.0) (ports_all p ports f t.1)

pub script_all : (p : List ℕ → Bool) (name : List ℕ) (script : Option Script) → p name ≡ true → list_all (λ (a : Attribute). p a.0) (script_attribute name script) ≡ true
script_all p name None h = refl
script_all p name (Some script) h = and_true (p name) true h refl

script_single : (name : List ℕ) (script : Option Script) → no_name_twice (script_attribute name script) ≡ true
script_single name None = refl
script_single name (Some script) = refl

twice_not : (b : Bool) → b ≡ true → not (not b) ≡ true
twice_not true h = refl
twice_not false h = h

-- a name is not that of a guard: these all begin with `_`
abbrev no_guard : List ℕ → Bool
no_guard n = bytes_eq n (codes "_autoremap") || not (nat_eq (slice_index n 0) 95)

guard_by : (a b c d : Bool) → not (a || b || c) ≡ true → (d || not c) ≡ true
guard_by a b c true h = refl
guard_by a b false false h = refl
guard_by true b true false h = absurd (cc)
guard_by false true true false h = absurd (cc)
guard_by false false true false h = absurd (cc)

port_is_no_guard : (n : List ℕ) → is_port_name n ≡ true → no_guard n ≡ true
port_is_no_guard n h = guard_by (bytes_eq n (codes "name")) (bytes_eq n (codes "ID")) (nat_eq (slice_index n 0) 95) (bytes_eq n (codes "_autoremap")) h

abbrev pub head_of : Bool → Bool → Bool → List ℕ → List ℕ → List Attribute
head_of i n a id name = attribute_if i (codes "ID") id ++ attribute_if n (codes "name") name ++ attribute_if a (codes "_autoremap") (codes "true")

pub head_all : (p : List ℕ → Bool) (i n a : Bool) (id name : List ℕ) → p (codes "ID") ≡ true → p (codes "name") ≡ true → p (codes "_autoremap") ≡ true → list_all (λ (x : Attribute). p x.0) (head_of i n a id name) ≡ true
head_all p i n a id name h k l =
    all_both p (attribute_if i (codes "ID") id ++ attribute_if n (codes "name") name) (attribute_if a (codes "_autoremap") (codes "true"))
    (all_both p (attribute_if i (codes "ID") id) (attribute_if n (codes "name") name) (if_all p i (codes "ID") id h) (if_all p n (codes "name") name k))
    (if_all p a (codes "_autoremap") (codes "true") l)

head_single : (i n a : Bool) (id name : List ℕ) → no_name_twice (head_of i n a id name) ≡ true
head_single i n a id name =
    let x = attribute_if i (codes "ID") id in
    let y = attribute_if n (codes "name") name in
    let z = attribute_if a (codes "_autoremap") (codes "true") in
    twice_by (λ (m : List ℕ). not (bytes_eq m (codes "_autoremap"))) (x ++ y) z
    (twice_by (λ (m : List ℕ). bytes_eq m (codes "ID")) x y (if_single i (codes "ID") id) (if_single n (codes "name") name)
    (if_all (λ (m : List ℕ). bytes_eq m (codes "ID")) i (codes "ID") id refl) (if_all (λ (m : List ℕ). not (bytes_eq m (codes "ID"))) n (codes "name") name refl))
    (if_single a (codes "_autoremap") (codes "true"))
    (all_both (λ (m : List ℕ). not (bytes_eq m (codes "_autoremap"))) x y (if_all (λ (m : List ℕ). not (bytes_eq m (codes "_autoremap"))) i (codes "ID") id refl)
    (if_all (λ (m : List ℕ). not (bytes_eq m (codes "_autoremap"))) n (codes "name") name refl))
    (if_all (λ (m : List ℕ). not (not (bytes_eq m (codes "_autoremap")))) a (codes "_autoremap") (codes "true") refl)

coded_single :
    (head : List Attribute) (ports : List Port) (code : Option Script) → no_name_twice (head ++ map port_attribute ports) ≡ true →
    list_all (λ (a : Attribute). not (bytes_eq a.0 (codes "code"))) head ≡ true → (code ≡ None) ⊎ (ports ≡ []) →
    no_name_twice (head ++ map port_attribute ports ++ script_attribute (codes "code") code) ≡ true
coded_single head ports code single all (inl none) =
    subst (λ (z : Option Script). no_name_twice (head ++ map port_attribute ports ++ script_attribute (codes "code") z) ≡ true) (sym none)
    (ap no_name_twice (append-nil (head ++ map port_attribute ports)) ∙ single)
coded_single head ports code single all (inr none) =
    let p = λ (m : List ℕ). not (bytes_eq m (codes "code")) in
    let here = subst (λ (z : List Port). no_name_twice (head ++ map port_attribute z) ≡ true) none single in
    subst (λ (z : List Port). no_name_twice (head ++ map port_attribute z ++ script_attribute (codes "code") code) ≡ true) (sym none)
    (twice_by p (head ++ []) (script_attribute (codes "code") code) here (script_single (codes "code") code) (all_both p head [] all refl)
    (script_all (λ (m : List ℕ). not (p m)) (codes "code") code refl))

-- no attribute occurs twice in the mark of a node that fits
pub node_single : {X : Type 0} (node : Term-F X) → ports_fit node.kind node.ports ≡ true → list_all port_stands node.ports ≡ true → CodeFits (has_code node.kind) node.code → all_differ (names_of node.ports) ≡ true → no_name_twice (node_attributes node) ≡ true
node_single node fits stand code apart =
    let i = not (is_compact node.kind node.id) in
    let n = not (bytes_eq node.name node.id) in
    let head = head_of i n node.autoremap node.id node.name in
    let ports = map port_attribute node.ports in
    let named = ports_have_names node.ports stand in
    let no_port = λ (m : List ℕ). not (is_port_name m) in
    let front = twice_by no_port head ports (head_single i n node.autoremap node.id node.name) (ports_single node.ports apart)
    (head_all no_port i n node.autoremap node.id node.name refl refl refl) (ports_all (λ (m : List ℕ). not (no_port m)) node.ports (λ m h. twice_not (is_port_name m) h) named) in
    let coded = coded_single head node.ports node.code front (head_all (λ (m : List ℕ). not (bytes_eq m (codes "code"))) i n node.autoremap node.id node.name refl refl refl)
    (ports_or_code node.kind node.ports node.code fits code) in
    let all = all_both no_guard (head ++ ports) (script_attribute (codes "code") node.code)
    (all_both no_guard head ports (head_all no_guard i n node.autoremap node.id node.name refl refl refl) (ports_all no_guard node.ports port_is_no_guard named))
    (script_all no_guard (codes "code") node.code refl) in
    let guards = guards_are_rows node.guards in
    twice_by no_guard (head ++ ports ++ script_attribute (codes "code") node.code) (guard_attributes node.guards) coded
    (ap no_name_twice guards ∙ rows_single (rows_of node.guards) refl) all
    (ap (list_all (λ (a : Attribute). not (no_guard a.0))) guards ∙ rows_all (λ (m : List ℕ). not (no_guard m)) (rows_of node.guards) refl)

-- and each can stand there
pub node_stands : {X : Type 0} (node : Term-F X) → value_stands node.id ≡ true → value_stands node.name ≡ true → list_all port_stands node.ports ≡ true → script_stands node.code ≡ true → guards_stand node.guards ≡ true → list_all can_stand (node_attributes node) ≡ true
node_stands node id name ports code guards =
    let a = attribute_if (not (is_compact node.kind node.id)) (codes "ID") node.id in
    let b = attribute_if (not (bytes_eq node.name node.id)) (codes "name") node.name in
    let c = attribute_if node.autoremap (codes "_autoremap") (codes "true") in
    let d = map port_attribute node.ports in
    let e = script_attribute (codes "code") node.code in
    let truth = literal_value (codes "true") refl refl in
    two_stand (a ++ b ++ c ++ d ++ e) (guard_attributes node.guards)
    (two_stand (a ++ b ++ c ++ d) e
    (two_stand (a ++ b ++ c) d
    (two_stand (a ++ b) c
    (two_stand a b (if_stands (not (is_compact node.kind node.id)) (codes "ID") node.id (literal (codes "ID") refl refl) id)
    (if_stands (not (bytes_eq node.name node.id)) (codes "name") node.name (literal (codes "name") refl refl) name))
    (if_stands node.autoremap (codes "_autoremap") (codes "true") (literal (codes "_autoremap") refl refl) truth))
    (ports_can_stand node.ports ports))
    (script_can_stand (codes "code") node.code (literal (codes "code") refl refl) code))
    (guards_can_stand node.guards guards)
