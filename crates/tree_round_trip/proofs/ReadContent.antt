-- The printed attributes of a node that fits say what the node has.
use Rattle.std.proofs.Common.{◌≡◌, ◌⊎◌, inl, inr, ℕ, Bool, true, false, not, ◌&&◌, ◌||◌, cond, if◌then◌else◌, List, [], ◌∷◌, ◌++◌, map, codes, Option, Some, None, Result, Ok, Err, refl, ap, sym, ◌∙◌, subst, append_assoc, append-nil}
use Rattle.std.specs.Prelude.{bytes_eq, is_some, unwrap_or, option_map}
use Rattle.std.proofs.lemmas.List.Folds.{list_all-append}
use Rattle.std.proofs.lemmas.Slice.Eq.{bytes_eq-Decides}
use Rattle.std.specs.Cmp.Derive.{both_true}
use Rattle.std.specs.List.{list_all, AllByRecursion}
use Rattle.std.specs.Map.{lookup}
use Rattle.spec_script.proofs.Bools.{both}
use Rattle.spec_script.specs.declared.syntax.Script.{Script}
use Rattle.spec_script.specs.Identifiers.{is_identifier}
use Rattle.spec_tree.specs.declared.built_ins.Range.{Range}
use Rattle.spec_tree.specs.declared.built_ins.Range.TheVariants.{AnyValue}
use Rattle.spec_tree.specs.declared.term.Guards.{Guards}
use Rattle.spec_tree.specs.declared.term.Kind.{Kind}
use Rattle.spec_tree.specs.declared.term.Kind.TheVariants.{Leaf, ScriptCondition, ScriptNode, SubTree}
use Rattle.spec_tree.specs.declared.term.Port.{Port}
use Rattle.spec_tree.specs.declared.term.PortValue.{PortValue}
use Rattle.spec_tree.specs.declared.term.Term.{Term, Term-F}
use Rattle.spec_tree.specs.BuiltIns.{PortRule, has_code, ports_of}
use Rattle.spec_tree.specs.Names.{is_among}
use Rattle.spec_tree.specs.PrintedTree.{Attribute, guard_attributes, is_compact, node_attributes, port_attribute, port_text, script_attribute}
use Rattle.spec_tree.specs.Trees.{CodeFits, Node, NodeFits, ScriptFits, all_differ, autoremap_fits, is_one_of, names_of, ports_fit}
use Rattle.spec_tree.specs.Values.{is_port_name, value_fits, value_in}
use Rattle.spec_tree_file.specs.Attributes.{Attributes, value_of}
use Rattle.spec_tree_file.specs.ReadSteps.{go_on}
use Rattle.spec_tree_file.specs.declared.content.Content.{Content}
use Rattle.spec_tree_file.specs.declared.build_fault.BuildFault.{BuildFault}
use Rattle.spec_tree_file.specs.declared.build_fault.BuildFault.TheVariants.{UnknownPort}
use Rattle.spec_tree_file.specs.declared.version.Form.TheVariants.{Plain}
use Rattle.spec_tree_file.specs.Content.{Rules, AnyPort, AnyKey, BuiltIn, all_known, content_in, is_port, name_fits, range_among, range_of, rules_of}
use Rattle.tree_build.specs.ContentSteps.{autoremap_in, code_text, guard_in, guards_in, older_autoremap, or_bad, or_bad_script, ports_in, rest_in, said_or_false, script_of, scripts_in, with_absent, with_attribute, with_ranged, with_rules, with_default, with_written}
use Rattle.spec_tree_file.specs.FirstFaults.{refused_if}
use Rattle.spec_tree_file.specs.Reads.{or_else}
use Rattle.tree_build.specs.ReadSteps.{name_in}
use Rattle.tree_build.proofs.ContentLaw.{content_same}
use Rattle.tree_build.proofs.PortTexts.{neither, not_true}
use Rattle.tree_build.proofs.ScriptAnswers.{script_in-script}
use Rattle.tree_round_trip.proofs.Marks.{Row, guards_are_rows, head_all, head_of as head_attributes, no_ports, port_named, ports_all, ports_have_names, row_names, rows_all, rows_of, written_rows}
use Rattle.tree_round_trip.proofs.ReadValues.{or_second, value_reads}

-- ---- The value of an attribute

value_append : (name : List ℕ) (xs ys : Attributes) → value_of name (xs ++ ys) ≡ or_else (value_of name xs) (value_of name ys)
value_append name [] ys = refl
value_append name (x ∷ xs) ys = by_first (bytes_eq name x.0) (value_append name xs ys)
  where
    by_first : (b : Bool) → value_of name (xs ++ ys) ≡ or_else (value_of name xs) (value_of name ys) →
        cond b (Some x.1) (value_of name (xs ++ ys)) ≡ or_else (cond b (Some x.1) (value_of name xs)) (value_of name ys)
    by_first true rest = refl
    by_first false rest = rest

-- another name than this one
abbrev other_than : List ℕ → List ℕ → Bool
other_than name m = not (bytes_eq name m)

abbrev all_other : List ℕ → Attributes → Bool
all_other name xs = list_all (λ (a : Attribute). other_than name a.0) xs

none_named : (name : List ℕ) (xs : Attributes) → all_other name xs ≡ true → value_of name xs ≡ None
none_named name [] h = refl
none_named name (x ∷ xs) h =
    let t = both (other_than name x.0) (all_other name xs) h in
    ap (λ (b : Bool). cond b (Some x.1) (value_of name xs)) (not_true (bytes_eq name x.0) t.0) ∙ none_named name xs t.1

differs_by : (name m : List ℕ) (b : Bool) → bytes_eq name m ≡ b → is_port_name name ≡ false → is_port_name m ≡ true → not b ≡ true
differs_by name m false e h k = refl
differs_by name m true e h k =
    let same : is_port_name name ≡ is_port_name m = ap is_port_name ((bytes_eq-Decides name m).0 e) in absurd (cc)

ports_none : (name : List ℕ) (ports : List Port) → is_port_name name ≡ false → list_all port_named ports ≡ true → value_of name (map port_attribute ports) ≡ None
ports_none name ports h named =
    none_named name (map port_attribute ports) (ports_all (other_than name) ports (λ m k. differs_by name m (bytes_eq name m) refl h k) named)

-- the text of a script that is there
abbrev text_of : Option Script → Option (List ℕ)
text_of None = None
text_of (Some script) = Some script.text

abbrev row_text : Option (Option Script) → Option (List ℕ)
row_text None = None
row_text (Some script) = text_of script

code_value : (code : Option Script) → value_of (codes "code") (script_attribute (codes "code") code) ≡ text_of code
code_value None = refl
code_value (Some script) = refl

code_none : (name : List ℕ) (code : Option Script) → bytes_eq name (codes "code") ≡ false → value_of name (script_attribute (codes "code") code) ≡ None
code_none name None h = refl
code_none name (Some script) h = ap (λ (b : Bool). cond b (Some script.text) None) h

not_in_rows : (name : List ℕ) (rows : List Row) → is_among name (row_names rows) ≡ false → value_of name (written_rows rows) ≡ None
not_in_rows name [] h = refl
not_in_rows name ((m, None) ∷ rows) h = not_in_rows name rows (neither (bytes_eq name m) (is_among name (row_names rows)) h).1
not_in_rows name ((m, Some script) ∷ rows) h =
    let t = neither (bytes_eq name m) (is_among name (row_names rows)) h in
    ap (λ (b : Bool). cond b (Some script.text) (value_of name (written_rows rows))) t.0 ∙ not_in_rows name rows t.1

rows_value : (name : List ℕ) (rows : List Row) → all_differ (row_names rows) ≡ true → value_of name (written_rows rows) ≡ row_text (lookup (bytes_eq name) rows)
rows_value name [] h = refl
rows_value name ((m, None) ∷ rows) h = by_name (bytes_eq name m) refl (rows_value name rows t.1)
  where
    t : (not (is_among m (row_names rows)) ≡ true) × (all_differ (row_names rows) ≡ true)
    t = both (not (is_among m (row_names rows))) (all_differ (row_names rows)) h

    by_name : (b : Bool) → bytes_eq name m ≡ b → value_of name (written_rows rows) ≡ row_text (lookup (bytes_eq name) rows) →
        value_of name (written_rows rows) ≡ row_text (cond b (Some None) (lookup (bytes_eq name) rows))
    by_name true e rest = not_in_rows name rows (subst (λ (n : List ℕ). is_among n (row_names rows) ≡ false) (sym ((bytes_eq-Decides name m).0 e)) (not_true (is_among m (row_names rows)) t.0))
    by_name false e rest = rest
rows_value name ((m, Some script) ∷ rows) h = by_name (bytes_eq name m) (rows_value name rows (both (not (is_among m (row_names rows))) (all_differ (row_names rows)) h).1)
  where
    by_name : (b : Bool) → value_of name (written_rows rows) ≡ row_text (lookup (bytes_eq name) rows) →
        cond b (Some script.text) (value_of name (written_rows rows)) ≡ row_text (cond b (Some (Some script)) (lookup (bytes_eq name) rows))
    by_name true rest = refl
    by_name false rest = rest

-- ---- The attributes of a node

-- a node with this many children
abbrev pub counted : Term-F Term → ℕ → Node
counted x n = record { kind = x.kind; id = x.id; name = x.name; ports = x.ports; code = x.code; guards = x.guards; autoremap = x.autoremap; children = n }

abbrev front : Term-F Term → List Attribute
front x = head_attributes (not (is_compact x.kind x.id)) (not (bytes_eq x.name x.id)) x.autoremap x.id x.name

combined : (a b c d e f g h : Option (List ℕ)) → a ≡ e → b ≡ f → c ≡ g → d ≡ h → or_else (or_else (or_else a b) c) d ≡ or_else (or_else (or_else e f) g) h
combined a b c d e f g h p q r s = cc

-- the value of an attribute, from the parts of the attributes
value_by : (x : Term-F Term) (name : List ℕ) (e f g h : Option (List ℕ)) → value_of name (front x) ≡ e → value_of name (map port_attribute x.ports) ≡ f →
    value_of name (script_attribute (codes "code") x.code) ≡ g → value_of name (guard_attributes x.guards) ≡ h → value_of name (node_attributes x) ≡ or_else (or_else (or_else e f) g) h
value_by x name e f g h p q r s =
    let ports = map port_attribute x.ports in
    let code = script_attribute (codes "code") x.code in
    let guards = guard_attributes x.guards in
    value_append name (front x ++ ports ++ code) guards
    ∙ ap (λ (o : Option (List ℕ)). or_else o (value_of name guards)) (value_append name (front x ++ ports) code ∙ ap (λ (o : Option (List ℕ)). or_else o (value_of name code)) (value_append name (front x) ports))
    ∙ combined (value_of name (front x)) (value_of name ports) (value_of name code) (value_of name guards) e f g h p q r s

guard_value : (x : Term-F Term) (name : List ℕ) → value_of name (guard_attributes x.guards) ≡ row_text (lookup (bytes_eq name) (rows_of x.guards))
guard_value x name = ap (value_of name) (guards_are_rows x.guards) ∙ rows_value name (rows_of x.guards) refl

front_none : (x : Term-F Term) (name : List ℕ) → other_than name (codes "ID") ≡ true → other_than name (codes "name") ≡ true → other_than name (codes "_autoremap") ≡ true → value_of name (front x) ≡ None
front_none x name a b c = none_named name (front x) (head_all (other_than name) (not (is_compact x.kind x.id)) (not (bytes_eq x.name x.id)) x.autoremap x.id x.name a b c)

named_ports : (x : Term-F Term) (n : ℕ) → NodeFits (counted x n) → list_all port_named x.ports ≡ true
named_ports x n fits = ports_have_names x.ports fits.texts.ports

-- ---- Scripts

script_reads : (uid : ℕ) (script : Option Script) → ScriptFits script → script_of uid (text_of script) ≡ Ok script
script_reads uid None h = refl
script_reads uid (Some script) h = ap (or_bad_script uid) (script_in-script script.text script h)

guard_reads : (uid : ℕ) (x : Term-F Term) (n : ℕ) (name : List ℕ) (script : Option Script) → NodeFits (counted x n) → other_than name (codes "ID") ≡ true → other_than name (codes "name") ≡ true →
    other_than name (codes "_autoremap") ≡ true → is_port_name name ≡ false → bytes_eq name (codes "code") ≡ false → lookup (bytes_eq name) (rows_of x.guards) ≡ Some script → ScriptFits script →
    guard_in uid (node_attributes x) name ≡ Ok script
guard_reads uid x n name script fits a b c p d row fit =
    ap (script_of uid) (value_by x name None None None (text_of script) (front_none x name a b c) (ports_none name x.ports p (named_ports x n fits)) (code_none name x.code d)
    (guard_value x name ∙ ap row_text row))
    ∙ script_reads uid script fit

abbrev Read : Type 0
Read = Result (Option Script) BuildFault

eight : (r1 r2 r3 r4 r5 r6 r7 r8 : Read) (o1 o2 o3 o4 o5 o6 o7 o8 : Option Script) → r1 ≡ Ok o1 → r2 ≡ Ok o2 → r3 ≡ Ok o3 → r4 ≡ Ok o4 → r5 ≡ Ok o5 → r6 ≡ Ok o6 → r7 ≡ Ok o7 → r8 ≡ Ok o8 →
    ◌≡◌ {A = Result Guards BuildFault} (go_on (λ failure_if. go_on (λ success_if. go_on (λ skip_if. go_on (λ while_true. go_on (λ on_success. go_on (λ on_failure. go_on (λ post. go_on (λ on_halted. Ok (record {
      failure_if = failure_if;
      success_if = success_if;
      skip_if = skip_if;
      while_true = while_true;
      on_success = on_success;
      on_failure = on_failure;
      post = post;
      on_halted = on_halted;
    })) r8) r7) r6) r5) r4) r3) r2) r1)
    (Ok (record { failure_if = o1; success_if = o2; skip_if = o3; while_true = o4; on_success = o5; on_failure = o6; post = o7; on_halted = o8 }))
eight r1 r2 r3 r4 r5 r6 r7 r8 o1 o2 o3 o4 o5 o6 o7 o8 h1 h2 h3 h4 h5 h6 h7 h8 = rw (h1, h2, h3, h4, h5, h6, h7, h8) refl

guards_read : (uid : ℕ) (x : Term-F Term) (n : ℕ) → NodeFits (counted x n) → guards_in uid (node_attributes x) ≡ Ok x.guards
guards_read uid x n fits =
    let A = node_attributes x in
    let g = x.guards in
    let f = fits.guards in
    eight (guard_in uid A (codes "_failureIf")) (guard_in uid A (codes "_successIf")) (guard_in uid A (codes "_skipIf")) (guard_in uid A (codes "_while"))
    (guard_in uid A (codes "_onSuccess")) (guard_in uid A (codes "_onFailure")) (guard_in uid A (codes "_post")) (guard_in uid A (codes "_onHalted"))
    g.failure_if g.success_if g.skip_if g.while_true g.on_success g.on_failure g.post g.on_halted
    (guard_reads uid x n (codes "_failureIf") g.failure_if fits refl refl refl refl refl refl f.failure_if)
    (guard_reads uid x n (codes "_successIf") g.success_if fits refl refl refl refl refl refl f.success_if)
    (guard_reads uid x n (codes "_skipIf") g.skip_if fits refl refl refl refl refl refl f.skip_if)
    (guard_reads uid x n (codes "_while") g.while_true fits refl refl refl refl refl refl f.while_true)
    (guard_reads uid x n (codes "_onSuccess") g.on_success fits refl refl refl refl refl refl f.on_success)
    (guard_reads uid x n (codes "_onFailure") g.on_failure fits refl refl refl refl refl refl f.on_failure)
    (guard_reads uid x n (codes "_post") g.post fits refl refl refl refl refl refl f.post)
    (guard_reads uid x n (codes "_onHalted") g.on_halted fits refl refl refl refl refl refl f.on_halted)

-- a node with a code has no ports
code_or_ports : (kind : Kind) (ports : List Port) → ports_fit kind ports ≡ true → (has_code kind ≡ false) ⊎ (ports ≡ [])
code_or_ports ScriptNode ports h = inr (no_ports ports (both (list_all (is_one_of []) ports) true h).0)
code_or_ports ScriptCondition ports h = inr (no_ports ports (both (list_all (is_one_of []) ports) true h).0)
code_or_ports kind ports h = inl refl

code_said : (x : Term-F Term) → x.ports ≡ [] → value_of (codes "code") (node_attributes x) ≡ text_of x.code
code_said x none =
    value_by x (codes "code") None None (text_of x.code) None (front_none x (codes "code") refl refl refl) (ap (λ (ps : List Port). value_of (codes "code") (map port_attribute ps)) none)
    (code_value x.code) (guard_value x (codes "code"))
    ∙ last (text_of x.code)
  where
    last : (o : Option (List ℕ)) → or_else o None ≡ o
    last None = refl
    last (Some text) = refl

abbrev code_given : ℕ → Option (List ℕ) → Result (Option (List ℕ)) BuildFault
code_given uid o = or_bad uid (option_map Some o)

code_by : (uid : ℕ) (A : Attributes) (b : Bool) (code : Option Script) → CodeFits b code → (b ≡ true → value_of (codes "code") A ≡ text_of code) → code_text uid b A ≡ Ok (text_of code)
code_by uid A true None fits said = absurd fits
code_by uid A true (Some script) fits said = ap (λ (o : Option (List ℕ)). code_given uid o) (said refl)
code_by uid A false None fits said = refl
code_by uid A false (Some script) fits said = absurd fits

code_reads : (uid : ℕ) (x : Term-F Term) (n : ℕ) → NodeFits (counted x n) → code_text uid (has_code x.kind) (node_attributes x) ≡ Ok (text_of x.code)
code_reads uid x n fits =
    code_by uid (node_attributes x) (has_code x.kind) x.code fits.code
    (λ coded. elim (code_or_ports x.kind x.ports fits.ports) [ inl none ↦ absurd (clash (has_code x.kind) coded none) | inr none ↦ code_said x none ])
  where
    clash : (b : Bool) → b ≡ true → b ≡ false → ⊥
    clash true h k = cc
    clash false h k = cc

code_fits : (b : Bool) (code : Option Script) → CodeFits b code → ScriptFits code
code_fits true None h = absurd h
code_fits true (Some script) h = h
code_fits false None h = tt
code_fits false (Some script) h = absurd h

-- ---- Whether all keys are mapped, and the name

front_autoremap : (i n a : Bool) (id name : List ℕ) → value_of (codes "_autoremap") (head_attributes i n a id name) ≡ (if a then Some (codes "true") else None)
front_autoremap true true true id name = refl
front_autoremap true true false id name = refl
front_autoremap true false true id name = refl
front_autoremap true false false id name = refl
front_autoremap false true true id name = refl
front_autoremap false true false id name = refl
front_autoremap false false true id name = refl
front_autoremap false false false id name = refl

front_name : (i n a : Bool) (id name : List ℕ) → value_of (codes "name") (head_attributes i n a id name) ≡ (if n then Some name else None)
front_name true true true id name = refl
front_name true true false id name = refl
front_name true false true id name = refl
front_name true false false id name = refl
front_name false true true id name = refl
front_name false true false id name = refl
front_name false false true id name = refl
front_name false false false id name = refl

front_id : (i n a : Bool) (id name : List ℕ) → value_of (codes "ID") (head_attributes i n a id name) ≡ (if i then Some id else None)
front_id true true true id name = refl
front_id true true false id name = refl
front_id true false true id name = refl
front_id true false false id name = refl
front_id false true true id name = refl
front_id false true false id name = refl
front_id false false true id name = refl
front_id false false false id name = refl

-- where no other part has the attribute
alone : (o : Option (List ℕ)) → or_else (or_else (or_else o None) None) None ≡ o
alone None = refl
alone (Some text) = refl

front_value : (x : Term-F Term) (n : ℕ) (name : List ℕ) (o : Option (List ℕ)) → NodeFits (counted x n) → is_port_name name ≡ false → bytes_eq name (codes "code") ≡ false →
    lookup (bytes_eq name) (rows_of x.guards) ≡ None → value_of name (front x) ≡ o → value_of name (node_attributes x) ≡ o
front_value x n name o fits p d row h =
    value_by x name o None None None h (ports_none name x.ports p (named_ports x n fits)) (code_none name x.code d) (guard_value x name ∙ ap row_text row) ∙ alone o

autoremap_by : (uid : ℕ) (kind : Kind) (A : Attributes) (b : Bool) → autoremap_fits kind b ≡ true → value_of (codes "_autoremap") A ≡ (if b then Some (codes "true") else None) → autoremap_in uid kind Plain A ≡ Ok b
autoremap_by uid SubTree A b fits h = ap (λ (o : Option (List ℕ)). go_on (λ now. go_on (λ older. Ok (now || older)) (older_autoremap uid Plain A)) (said_or_false uid o)) h ∙ truth_said b
  where
    truth_said : (b : Bool) → go_on (λ (now : Bool). go_on (λ (older : Bool). Ok (now || older)) (older_autoremap uid Plain A)) (said_or_false uid (if b then Some (codes "true") else None)) ≡ Ok b
    truth_said true = refl
    truth_said false = refl
autoremap_by uid kind A true fits h = absurd (cc)
autoremap_by uid kind A false fits h = refl

autoremap_reads : (uid : ℕ) (x : Term-F Term) (n : ℕ) → NodeFits (counted x n) → autoremap_in uid x.kind Plain (node_attributes x) ≡ Ok x.autoremap
autoremap_reads uid x n fits =
    autoremap_by uid x.kind (node_attributes x) x.autoremap fits.autoremap
    (front_value x n (codes "_autoremap") (if x.autoremap then Some (codes "true") else None) fits refl refl refl
    (front_autoremap (not (is_compact x.kind x.id)) (not (bytes_eq x.name x.id)) x.autoremap x.id x.name))

name_by : (name id : List ℕ) (b : Bool) → bytes_eq name id ≡ b → unwrap_or (if not b then Some name else None) id ≡ name
name_by name id true e = sym ((bytes_eq-Decides name id).0 e)
name_by name id false e = refl

-- the name is read
pub name_reads : (x : Term-F Term) (n : ℕ) → NodeFits (counted x n) → name_in (node_attributes x) x.id ≡ x.name
name_reads x n fits =
    ap (λ (o : Option (List ℕ)). unwrap_or o x.id)
    (front_value x n (codes "name") (if not (bytes_eq x.name x.id) then Some x.name else None) fits refl refl refl
    (front_name (not (is_compact x.kind x.id)) (not (bytes_eq x.name x.id)) x.autoremap x.id x.name))
    ∙ name_by x.name x.id (bytes_eq x.name x.id) refl

-- the ID is read, where it is written
pub id_reads : (x : Term-F Term) (n : ℕ) → NodeFits (counted x n) → is_compact x.kind x.id ≡ false → value_of (codes "ID") (node_attributes x) ≡ Some x.id
id_reads x n fits explicit =
    front_value x n (codes "ID") (if not (is_compact x.kind x.id) then Some x.id else None) fits refl refl refl
    (front_id (not (is_compact x.kind x.id)) (not (bytes_eq x.name x.id)) x.autoremap x.id x.name)
    ∙ ap (λ (b : Bool). if not b then Some x.id else None) explicit

-- ---- The ports

-- a port is read from its attribute
record PortReads (with_code : Bool) (rules : Rules) (port : Port) : Type 0 where
  is : is_port with_code port.name ≡ true
  fits : name_fits rules port.name ≡ true
  range : Range
  ranged : range_of rules port.name ≡ Some range
  value : value_in range port.name (port_text port.value) ≡ Some port.value

abbrev AllRead : Bool → Rules → List Port → Type 0
AllRead with_code rules ports = AllByRecursion (PortReads with_code rules) ports

abbrev or_bad_ports : ℕ → List Port → List ℕ → Option PortValue → Result (List Port) BuildFault
or_bad_ports uid so_far name o = or_bad uid (option_map (λ value. so_far ++ (record { name = name; value = value }) ∷ []) o)

port_written : (uid : ℕ) (with_code : Bool) (rules : Rules) (so_far : List Port) (port : Port) → PortReads with_code rules port →
    with_attribute uid with_code rules so_far (port_attribute port) ≡ Ok (so_far ++ port ∷ [])
port_written uid with_code rules so_far port r =
    let text = port_text port.value in
    ap (λ (b : Bool). if b then with_ranged uid so_far (name_fits rules port.name) (range_of rules port.name) port.name text else Ok so_far) r.is
    ∙ ap (λ (b : Bool). with_ranged uid so_far b (range_of rules port.name) port.name text) r.fits
    ∙ ap (λ (o : Option Range). with_ranged uid so_far true o port.name text) r.ranged
    ∙ ap (λ (o : Option PortValue). or_bad_ports uid so_far port.name o) r.value

ports_written : (uid : ℕ) (with_code : Bool) (rules : Rules) (so_far ports : List Port) → AllRead with_code rules ports →
    with_written uid with_code rules so_far (map port_attribute ports) ≡ Ok (so_far ++ ports)
ports_written uid with_code rules so_far [] r = ap (λ (ps : List Port). Ok ps) (sym (append-nil so_far))
ports_written uid with_code rules so_far (port ∷ ports) r =
    ap (λ (q : Result (List Port) BuildFault). go_on (λ next. with_written uid with_code rules next (map port_attribute ports)) q) (port_written uid with_code rules so_far port r.0)
    ∙ ports_written uid with_code rules (so_far ++ port ∷ []) ports r.1
    ∙ ap (λ (ps : List Port). Ok ps) (append_assoc so_far (port ∷ []) ports)

-- none of these attributes is a port
abbrev no_port : Bool → Attributes → Bool
no_port with_code xs = list_all (λ (a : Attribute). not (is_port with_code a.0)) xs

none_written : (uid : ℕ) (with_code : Bool) (rules : Rules) (so_far : List Port) (xs : Attributes) → no_port with_code xs ≡ true → with_written uid with_code rules so_far xs ≡ Ok so_far
none_written uid with_code rules so_far [] h = refl
none_written uid with_code rules so_far (x ∷ xs) h =
    let t = both (not (is_port with_code x.0)) (no_port with_code xs) h in
    ap (λ (b : Bool). go_on (λ next. with_written uid with_code rules next xs) (if b then with_ranged uid so_far (name_fits rules x.0) (range_of rules x.0) x.0 x.1 else Ok so_far)) (not_true (is_port with_code x.0) t.0)
    ∙ none_written uid with_code rules so_far xs t.1

written_append : (uid : ℕ) (with_code : Bool) (rules : Rules) (so_far : List Port) (xs ys : Attributes) →
    with_written uid with_code rules so_far (xs ++ ys) ≡ go_on (λ next. with_written uid with_code rules next ys) (with_written uid with_code rules so_far xs)
written_append uid with_code rules so_far [] ys = refl
written_append uid with_code rules so_far (x ∷ xs) ys = by_step (with_attribute uid with_code rules so_far x) (λ next. written_append uid with_code rules next xs ys)
  where
    by_step : (r : Result (List Port) BuildFault) →
        ((next : List Port) → with_written uid with_code rules next (xs ++ ys) ≡ go_on (λ more. with_written uid with_code rules more ys) (with_written uid with_code rules next xs)) →
        go_on (λ next. with_written uid with_code rules next (xs ++ ys)) r ≡ go_on (λ next. with_written uid with_code rules next ys) (go_on (λ next. with_written uid with_code rules next xs) r)
    by_step (Ok next) rest = rest next
    by_step (Err fault) rest = refl

then_written : (uid : ℕ) (with_code : Bool) (rules : Rules) (a b c : List Port) (xs ys : Attributes) → with_written uid with_code rules a xs ≡ Ok b → with_written uid with_code rules b ys ≡ Ok c →
    with_written uid with_code rules a (xs ++ ys) ≡ Ok c
then_written uid with_code rules a b c xs ys h k =
    written_append uid with_code rules a xs ys ∙ ap (λ (r : Result (List Port) BuildFault). go_on (λ next. with_written uid with_code rules next ys) r) h ∙ k

-- the other attributes are no ports
no_port_by : (with_code : Bool) (name : List ℕ) → is_port_name name ≡ false → not (is_port with_code name) ≡ true
no_port_by with_code name h = ap (λ (b : Bool). not (b && not (with_code && bytes_eq name (codes "code")))) h

front_no_port : (with_code : Bool) (x : Term-F Term) → no_port with_code (front x) ≡ true
front_no_port with_code x =
    head_all (λ (m : List ℕ). not (is_port with_code m)) (not (is_compact x.kind x.id)) (not (bytes_eq x.name x.id)) x.autoremap x.id x.name
    (no_port_by with_code (codes "ID") refl) (no_port_by with_code (codes "name") refl) (no_port_by with_code (codes "_autoremap") refl)

code_no_port : (b : Bool) (code : Option Script) → CodeFits b code → no_port b (script_attribute (codes "code") code) ≡ true
code_no_port true None h = refl
code_no_port true (Some script) h = refl
code_no_port false None h = refl
code_no_port false (Some script) h = absurd h

guards_no_port : (with_code : Bool) (x : Term-F Term) → no_port with_code (guard_attributes x.guards) ≡ true
guards_no_port with_code x =
    ap (no_port with_code) (guards_are_rows x.guards)
    ∙ rows_all (λ (m : List ℕ). not (is_port with_code m)) (rows_of x.guards)
    (both_true (no_port_by with_code (codes "_failureIf") refl)
    (both_true (no_port_by with_code (codes "_successIf") refl)
    (both_true (no_port_by with_code (codes "_skipIf") refl)
    (both_true (no_port_by with_code (codes "_while") refl)
    (both_true (no_port_by with_code (codes "_onSuccess") refl)
    (both_true (no_port_by with_code (codes "_onFailure") refl)
    (both_true (no_port_by with_code (codes "_post") refl)
    (both_true (no_port_by with_code (codes "_onHalted") refl) refl))))))))

written_reads : (uid : ℕ) (rules : Rules) (x : Term-F Term) (n : ℕ) → NodeFits (counted x n) → AllRead (has_code x.kind) rules x.ports →
    with_written uid (has_code x.kind) rules [] (node_attributes x) ≡ Ok x.ports
written_reads uid rules x n fits r =
    let c = has_code x.kind in
    let ports = map port_attribute x.ports in
    let code = script_attribute (codes "code") x.code in
    then_written uid c rules [] x.ports x.ports (front x ++ ports ++ code) (guard_attributes x.guards)
    (then_written uid c rules [] x.ports x.ports (front x ++ ports) code
    (then_written uid c rules [] [] x.ports (front x) ports (none_written uid c rules [] (front x) (front_no_port c x)) (ports_written uid c rules [] x.ports r))
    (none_written uid c rules x.ports code (code_no_port c x.code fits.code)))
    (none_written uid c rules x.ports (guard_attributes x.guards) (guards_no_port c x))

-- ---- No attribute is unknown

abbrev is_known : Bool → Rules → Attribute → Bool
is_known with_code rules a = not (is_port with_code a.0) || is_some (range_of rules a.0)

or_first : (a b : Bool) → a ≡ true → (a || b) ≡ true
or_first true b h = refl
or_first false b h = absurd (cc)

known_others : (with_code : Bool) (rules : Rules) (xs : Attributes) → no_port with_code xs ≡ true → list_all (is_known with_code rules) xs ≡ true
known_others with_code rules [] h = refl
known_others with_code rules (x ∷ xs) h =
    let t = both (not (is_port with_code x.0)) (no_port with_code xs) h in
    both_true (or_first (not (is_port with_code x.0)) (is_some (range_of rules x.0)) t.0) (known_others with_code rules xs t.1)

known_ports : (with_code : Bool) (rules : Rules) (ports : List Port) → AllRead with_code rules ports → list_all (is_known with_code rules) (map port_attribute ports) ≡ true
known_ports with_code rules [] r = refl
known_ports with_code rules (port ∷ ports) r =
    both_true (or_second (not (is_port with_code port.name)) (is_some (range_of rules port.name)) (ap (λ (o : Option Range). is_some o) r.0.ranged)) (known_ports with_code rules ports r.1)

two_known : (with_code : Bool) (rules : Rules) (xs ys : Attributes) → list_all (is_known with_code rules) xs ≡ true → list_all (is_known with_code rules) ys ≡ true → list_all (is_known with_code rules) (xs ++ ys) ≡ true
two_known with_code rules xs ys h k = list_all-append (is_known with_code rules) xs ys ∙ both_true h k

all_are_known : (rules : Rules) (x : Term-F Term) (n : ℕ) → NodeFits (counted x n) → AllRead (has_code x.kind) rules x.ports → all_known (has_code x.kind) rules (node_attributes x) ≡ true
all_are_known rules x n fits r =
    let c = has_code x.kind in
    let ports = map port_attribute x.ports in
    let code = script_attribute (codes "code") x.code in
    two_known c rules (front x ++ ports ++ code) (guard_attributes x.guards)
    (two_known c rules (front x ++ ports) code (two_known c rules (front x) ports (known_others c rules (front x) (front_no_port c x)) (known_ports c rules x.ports r))
    (known_others c rules code (code_no_port c x.code fits.code)))
    (known_others c rules (guard_attributes x.guards) (guards_no_port c x))

-- ---- The ports by the rules of each kind

is_port_by : (b : Bool) (port : Port) → b ≡ false → is_port_name port.name ≡ true → is_port b port.name ≡ true
is_port_by true port h p = absurd (cc)
is_port_by false port h p = both_true p refl

leaf_ports : (ports : List Port) → list_all (λ (port : Port). value_fits AnyValue port.value) ports ≡ true → list_all port_named ports ≡ true → AllRead false AnyPort ports
leaf_ports [] h named = tt
leaf_ports (port ∷ ports) h named =
    let t = both (value_fits AnyValue port.value) (list_all (λ (p : Port). value_fits AnyValue p.value) ports) h in
    let u = both (port_named port) (list_all port_named ports) named in
    (record { is = both_true u.0 refl; fits = refl; range = AnyValue; ranged = refl; value = value_reads AnyValue port.name port.value t.0 }, leaf_ports ports t.1 u.1)

subtree_ports : (ports : List Port) → list_all (λ (port : Port). is_identifier port.name && value_fits AnyValue port.value) ports ≡ true → list_all port_named ports ≡ true → AllRead false AnyKey ports
subtree_ports [] h named = tt
subtree_ports (port ∷ ports) h named =
    let t = both (is_identifier port.name && value_fits AnyValue port.value) (list_all (λ (p : Port). is_identifier p.name && value_fits AnyValue p.value) ports) h in
    let v = both (is_identifier port.name) (value_fits AnyValue port.value) t.0 in
    let u = both (port_named port) (list_all port_named ports) named in
    (record { is = both_true u.0 refl; fits = v.0; range = AnyValue; ranged = refl; value = value_reads AnyValue port.name port.value v.1 }, subtree_ports ports t.1 u.1)

-- the rule of a port
record RuleFound (rules : List PortRule) (port : Port) : Type 0 where
  range : Range
  found : range_among rules port.name ≡ Some range
  fits : value_fits range port.value ≡ true

rule_found : (rules : List PortRule) (port : Port) → is_one_of rules port ≡ true → RuleFound rules port
rule_found [] port h = absurd (cc)
rule_found (rule ∷ rules) port h = by_rule (bytes_eq port.name rule.name) refl h (λ k. rule_found rules port k)
  where
    by_rule : (b : Bool) → bytes_eq port.name rule.name ≡ b → (if b then value_fits rule.range port.value else is_one_of rules port) ≡ true → (is_one_of rules port ≡ true → RuleFound rules port) →
        RuleFound (rule ∷ rules) port
    by_rule true e h rest = record { range = rule.range; found = ap (λ (b : Bool). if b then Some rule.range else range_among rules port.name) e; fits = h }
    by_rule false e h rest =
        let r = rest h in
        record { range = r.range; found = ap (λ (b : Bool). if b then Some rule.range else range_among rules port.name) e ∙ r.found; fits = r.fits }

built_ports : (b : Bool) (rules : List PortRule) (ports : List Port) → (b ≡ false) ⊎ (ports ≡ []) → list_all (is_one_of rules) ports ≡ true → list_all port_named ports ≡ true → AllRead b (BuiltIn rules) ports
built_ports b rules [] c h named = tt
built_ports b rules (port ∷ ports) (inl no_code) h named =
    let t = both (is_one_of rules port) (list_all (is_one_of rules) ports) h in
    let u = both (port_named port) (list_all port_named ports) named in
    let r = rule_found rules port t.0 in (
      record { is = is_port_by b port no_code u.0; fits = refl; range = r.range; ranged = r.found; value = value_reads r.range port.name port.value r.fits },
      built_ports b rules ports (inl no_code) t.1 u.1,
    )
built_ports b rules (port ∷ ports) (inr none) h named = absurd (cc)

-- ---- No port gets a default

among_there : (name : List ℕ) (ports : List Port) → is_among name (names_of ports) ≡ true → is_some (value_of name (map port_attribute ports)) ≡ true
among_there name [] h = absurd (cc)
among_there name (port ∷ ports) h = by_name (bytes_eq name port.name) h (λ k. among_there name ports k)
  where
    by_name : (b : Bool) → (b || is_among name (names_of ports)) ≡ true → (is_among name (names_of ports) ≡ true → is_some (value_of name (map port_attribute ports)) ≡ true) →
        is_some (cond b (Some (port_text port.value)) (value_of name (map port_attribute ports))) ≡ true
    by_name true k rest = refl
    by_name false k rest = rest k

some_else : (a b : Option (List ℕ)) → is_some b ≡ true → is_some (or_else a b) ≡ true
some_else None b h = h
some_else (Some text) b h = refl

some_first : (a b : Option (List ℕ)) → is_some a ≡ true → is_some (or_else a b) ≡ true
some_first None b h = absurd (cc)
some_first (Some text) b h = refl

written_there : (x : Term-F Term) (name : List ℕ) → is_among name (names_of x.ports) ≡ true → is_some (value_of name (node_attributes x)) ≡ true
written_there x name h =
    let ports = map port_attribute x.ports in
    let code = script_attribute (codes "code") x.code in
    let guards = guard_attributes x.guards in
    let a = value_of name (front x) in
    let b = value_of name ports in
    let c = value_of name code in
    let d = value_of name guards in
    ap (λ (o : Option (List ℕ)). is_some o) (value_by x name a b c d refl refl refl refl)
    ∙ some_first (or_else (or_else a b) c) d (some_first (or_else a b) c (some_else a b (among_there name x.ports h)))

rules_there : (uid : ℕ) (x : Term-F Term) (rules : List PortRule) → list_all (λ (rule : PortRule). is_among rule.name (names_of x.ports)) rules ≡ true → with_rules uid (node_attributes x) x.ports rules ≡ Ok x.ports
rules_there uid x [] h = refl
rules_there uid x (rule ∷ rules) h =
    let A = node_attributes x in
    let t = both (is_among rule.name (names_of x.ports)) (list_all (λ (r : PortRule). is_among r.name (names_of x.ports)) rules) h in
    ap (λ (b : Bool). go_on (λ next. with_rules uid A next rules) (if b then Ok x.ports else with_default uid x.ports rule rule.default)) (written_there x rule.name t.0)
    ∙ rules_there uid x rules t.1

-- the ports of a node are read, and none gets a default
record RulesRead (x : Term-F Term) (kind : Kind) : Type 0 where
  read : AllRead (has_code kind) (rules_of [] kind x.id) x.ports
  absent : (uid : ℕ) → with_absent uid (node_attributes x) (rules_of [] kind x.id) x.ports ≡ Ok x.ports

abbrev is_built : Kind → Bool
is_built SubTree = false
is_built Leaf = false
is_built _ = true

sort_of : (kind : Kind) → (kind ≡ SubTree) ⊎ ((kind ≡ Leaf) ⊎ (is_built kind ≡ true))
sort_of SubTree = inl refl
sort_of Leaf = inr (inl refl)
sort_of _ = inr (inr refl)

built_rules : (kind : Kind) (id : List ℕ) → is_built kind ≡ true → rules_of [] kind id ≡ BuiltIn (ports_of kind)
built_rules SubTree id h = absurd (cc)
built_rules Leaf id h = absurd (cc)
built_rules _ id h = refl

built_fit : (kind : Kind) (ports : List Port) → is_built kind ≡ true → ports_fit kind ports ≡ true →
    (list_all (is_one_of (ports_of kind)) ports && list_all (λ (rule : PortRule). is_among rule.name (names_of ports)) (ports_of kind)) ≡ true
built_fit SubTree ports h fit = absurd (cc)
built_fit Leaf ports h fit = absurd (cc)
built_fit _ ports h fit = fit

rules_read_by : (x : Term-F Term) (kind : Kind) → ports_fit kind x.ports ≡ true → list_all port_named x.ports ≡ true → (kind ≡ SubTree) ⊎ ((kind ≡ Leaf) ⊎ (is_built kind ≡ true)) → RulesRead x kind
rules_read_by x kind fit named (inl subtree) =
    let at = subst (λ (k : Kind). ports_fit k x.ports ≡ true) subtree fit in
    let read : RulesRead x SubTree = record { read = subtree_ports x.ports at named; absent = λ uid. refl } in
    subst (RulesRead x) (sym subtree) read
rules_read_by x kind fit named (inr (inl leaf)) =
    let at = subst (λ (k : Kind). ports_fit k x.ports ≡ true) leaf fit in
    let read : RulesRead x Leaf = record { read = leaf_ports x.ports at named; absent = λ uid. refl } in
    subst (RulesRead x) (sym leaf) read
rules_read_by x kind fit named (inr (inr built)) =
    let t = both (list_all (is_one_of (ports_of kind)) x.ports) (list_all (λ (rule : PortRule). is_among rule.name (names_of x.ports)) (ports_of kind)) (built_fit kind x.ports built fit) in
    let rules = sym (built_rules kind x.id built) in
    record {
      read = subst (λ (r : Rules). AllRead (has_code kind) r x.ports) rules (built_ports (has_code kind) (ports_of kind) x.ports (code_or_ports kind x.ports fit) t.0 named);
      absent = λ uid. subst (λ (r : Rules). with_absent uid (node_attributes x) r x.ports ≡ Ok x.ports) rules (rules_there uid x (ports_of kind) t.1);
    }

ports_read : (uid : ℕ) (x : Term-F Term) (n : ℕ) → NodeFits (counted x n) → RulesRead x x.kind → ports_in uid (has_code x.kind) (rules_of [] x.kind x.id) (node_attributes x) ≡ Ok x.ports
ports_read uid x n fits r =
    let rules = rules_of [] x.kind x.id in
    ap (λ (q : Result (List Port) BuildFault). go_on (with_absent uid (node_attributes x) rules) q) (written_reads uid rules x n fits r.read) ∙ r.absent uid

-- ---- All together

-- what a node has besides its kind, its ID, its name and its children
abbrev pub content_of : Term-F Term → Content
content_of x = record { ports = x.ports; code = x.code; guards = x.guards; autoremap = x.autoremap }

scripts_read : (uid : ℕ) (x : Term-F Term) (n : ℕ) → NodeFits (counted x n) → scripts_in uid x.ports (text_of x.code) x.autoremap (node_attributes x) ≡ Ok (content_of x)
scripts_read uid x n fits =
    let A = node_attributes x in
    ap (λ (r : Result (Option Script) BuildFault). go_on (λ code. go_on (λ guards. Ok (record { ports = x.ports; code = code; guards = guards; autoremap = x.autoremap })) (guards_in uid A)) r)
    (script_reads uid x.code (code_fits (has_code x.kind) x.code fits.code))
    ∙ ap (λ (r : Result Guards BuildFault). go_on (λ guards. Ok (record { ports = x.ports; code = x.code; guards = guards; autoremap = x.autoremap })) r) (guards_read uid x n fits)

rest_reads : (uid : ℕ) (x : Term-F Term) (n : ℕ) → NodeFits (counted x n) → rest_in uid x.kind Plain (node_attributes x) x.ports ≡ Ok (content_of x)
rest_reads uid x n fits =
    let A = node_attributes x in
    ap (λ (r : Result (Option (List ℕ)) BuildFault). go_on (λ text. go_on (λ autoremap. scripts_in uid x.ports text autoremap A) (autoremap_in uid x.kind Plain A)) r) (code_reads uid x n fits)
    ∙ ap (λ (r : Result Bool BuildFault). go_on (λ autoremap. scripts_in uid x.ports (text_of x.code) autoremap A) r) (autoremap_reads uid x n fits)
    ∙ scripts_read uid x n fits

-- the attributes of a node that fits say what it has
pub content_reads : (uid : ℕ) (x : Term-F Term) (n : ℕ) → NodeFits (counted x n) → content_in uid [] x.kind x.id Plain (node_attributes x) ≡ Ok (content_of x)
content_reads uid x n fits =
    let A = node_attributes x in
    let rules = rules_of [] x.kind x.id in
    let r = rules_read_by x x.kind fits.ports (named_ports x n fits) (sort_of x.kind) in
    let rest = λ (q : Result (List Port) BuildFault). go_on (rest_in uid x.kind Plain A) q in
    sym (content_same uid x.kind Plain rules A)
    ∙ ap (λ (b : Bool). refused_if (not b) (UnknownPort uid) (rest (ports_in uid (has_code x.kind) rules A))) (all_are_known rules x n fits r.read)
    ∙ ap rest (ports_read uid x n fits r)
    ∙ rest_reads uid x n fits
