-- What is read step by step is what the definition says.
use Rattle.std.proofs.Common.{◌≡◌, ℕ, Bool, true, false, List, [], ◌∷◌, ◌++◌, map, codes, Option, Some, None, Result, Ok, Err, cond, refl, ap, sym, ◌∙◌, append_assoc, append-nil}
use Rattle.std.specs.Prelude.{not, is_some, filter, filter_map, option_map, option_and_then, unwrap_or, ◌&&◌, ◌||◌, if◌then◌else◌}
use Rattle.std.proofs.lemmas.List.Folds.{list_all-append}
use Rattle.std.specs.List.{cons_option, list_all, list_any}
use Rattle.std.specs.Result.{result_ok, result_err}
use Rattle.spec_script.specs.declared.fault.ScriptFault.{ScriptFault}
use Rattle.spec_script.specs.declared.syntax.Script.{Script}
use Rattle.spec_tree.specs.declared.built_ins.Range.{Range}
use Rattle.spec_tree.specs.declared.built_ins.Range.TheVariants.{AnyValue}
use Rattle.spec_tree.specs.declared.term.Guards.{Guards}
use Rattle.spec_tree.specs.declared.term.Kind.{Kind}
use Rattle.spec_tree.specs.declared.term.Kind.TheVariants.{SubTree}
use Rattle.spec_tree.specs.declared.term.Port.{Port}
use Rattle.spec_tree.specs.declared.term.PortValue.{PortValue}
use Rattle.spec_tree.specs.BuiltIns.{PortRule, has_code}
use Rattle.spec_tree.specs.Values.{value_in}
use Rattle.spec_tree_file.specs.declared.models.ModelPort.{ModelPort}
use Rattle.spec_tree_file.specs.Attributes.{Attributes, value_of}
use Rattle.spec_tree_file.specs.ReadSteps.{go_on}
use Rattle.spec_tree_file.specs.declared.content.Content.{Content}
use Rattle.spec_tree_file.specs.declared.build_fault.BuildFault.{BuildFault}
use Rattle.spec_tree_file.specs.declared.build_fault.BuildFault.TheVariants.{UnknownPort, OldSubTree, BadLiteral, BadScript}
use Rattle.spec_tree_file.specs.declared.version.Form.{Form}
use Rattle.spec_tree_file.specs.declared.version.Form.TheVariants as form
use Rattle.spec_tree_file.specs.Content.{Rules, AnyPort, AnyKey, Modelled, BuiltIn, all_known, autoremap_said, content_by, content_of, form_fits, guard_names, guards_at, is_absent, is_port, name_fits, port_said, port_written, ports_absent, ports_said, range_of, script_at, script_fault, script_names, there, truth_said, values_stand}
use Rattle.tree_build.specs.ContentSteps.{autoremap_in, code_text, guard_in, guards_in, or_bad, or_bad_script, port_of, ports_in, rest_in, ruled_in, said_or_false, script_of, scripts_in, with_absent, with_default, with_fallback, with_model, with_port, with_ranged, with_rules, with_written}
use Rattle.spec_tree_file.specs.FirstFaults.{fault_if, refused_if, unless}
use Rattle.spec_tree_file.specs.ScriptOf.{script_in}

-- ---- Faults in order

-- a step and what follows it
next_same : {A B : Type 0} (next : A → Result B BuildFault) (fs gs : List BuildFault) (x : A) (y : B) (r : Result A BuildFault) → r ≡ unless fs x → next x ≡ unless gs y → go_on next r ≡ unless (fs ++ gs) y
next_same next [] gs x y r h k = ap (go_on next) h ∙ k
next_same next (f ∷ fs) gs x y r h k = ap (go_on next) h

refused : {A : Type 0} (b : Bool) (f : BuildFault) (fs : List BuildFault) (y : A) (r : Result A BuildFault) → r ≡ unless fs y → refused_if b f r ≡ unless (fault_if b f ++ fs) y
refused true f fs y r h = refl
refused false f fs y r h = h

two : {A : Type 0} (a b : Bool) (f : BuildFault) (y : A) → unless (fault_if (not a) f ++ fault_if (not b) f) y ≡ unless (fault_if (not (a && b)) f) y
two true b f y = refl
two false b f y = refl

three : {A : Type 0} (a b c : Bool) (f : BuildFault) (fs : List BuildFault) (y : A) → unless (fault_if (not a) f ++ (fault_if (not b) f ++ (fault_if (not c) f ++ fs))) y ≡ unless (fault_if (not (a && (b && c))) f ++ fs) y
three true true true f fs y = refl
three true true false f fs y = refl
three true false c f fs y = refl
three false b c f fs y = refl

-- ---- Ports

abbrev bad : ℕ → List (Option Port) → List BuildFault
bad uid said = fault_if (not (list_all is_some said)) (BadLiteral uid)

abbrev with_said : ℕ → List Port → Option Port → Result (List Port) BuildFault
with_said uid ports said = or_bad uid (option_map (λ port. ports ++ port ∷ []) said)

step : (uid : ℕ) (ports : List Port) (p : Option Port) (rest : List (Option Port)) (next : List Port → Result (List Port) BuildFault) →
    ((ps : List Port) → next ps ≡ unless (bad uid rest) (ps ++ there rest)) → go_on next (with_said uid ports p) ≡ unless (bad uid (p ∷ rest)) (ports ++ there (p ∷ rest))
step uid ports None rest next h = refl
step uid ports (Some port) rest next h = h (ports ++ port ∷ []) ∙ ap (unless (bad uid rest)) (append_assoc ports (port ∷ []) (there rest))

port_same_by : (uid : ℕ) (ports : List Port) (name : List ℕ) (o : Option PortValue) →
    or_bad uid (option_map (λ value. ports ++ port_of name value ∷ []) o) ≡ with_said uid ports (option_map (λ value. port_of name value) o)
port_same_by uid ports name None = refl
port_same_by uid ports name (Some value) = refl

port_same : (uid : ℕ) (ports : List Port) (range : Range) (name text : List ℕ) → with_port uid ports range name text ≡ with_said uid ports (port_said range name text)
port_same uid ports range name text = port_same_by uid ports name (value_in range name text)

ranged_same : (uid : ℕ) (ports : List Port) (fit : Bool) (range : Option Range) (name text : List ℕ) →
    with_ranged uid ports fit range name text ≡ with_said uid ports (if fit then option_and_then (λ r. port_said r name text) range else None)
ranged_same uid ports true (Some range) name text = port_same uid ports range name text
ranged_same uid ports true None name text = refl
ranged_same uid ports false (Some range) name text = refl
ranged_same uid ports false None name text = refl

abbrev writes : Bool → Rules → Attributes → List (Option Port)
writes with_code rules attributes = map (port_written rules) (filter (λ a. is_port with_code a.0) attributes)

written_same : (uid : ℕ) (with_code : Bool) (rules : Rules) (ports : List Port) (attributes : Attributes) →
    with_written uid with_code rules ports attributes ≡ unless (bad uid (writes with_code rules attributes)) (ports ++ there (writes with_code rules attributes))
written_same uid with_code rules ports [] = ap (λ (ps : List Port). Ok ps) (sym (append-nil ports))
written_same uid with_code rules ports (a ∷ more) = by_port (λ ps. written_same uid with_code rules ps more) (is_port with_code a.0)
  where
    next : List Port → Result (List Port) BuildFault
    next ps = with_written uid with_code rules ps more

    said : Bool → List (Option Port)
    said b = map (port_written rules) (cond b (a ∷ filter (λ a. is_port with_code a.0) more) (filter (λ a. is_port with_code a.0) more))

    by_port : ((ps : List Port) → next ps ≡ unless (bad uid (writes with_code rules more)) (ps ++ there (writes with_code rules more))) → (b : Bool) →
        go_on next (if b then with_ranged uid ports (name_fits rules a.0) (range_of rules a.0) a.0 a.1 else Ok ports) ≡ unless (bad uid (said b)) (ports ++ there (said b))
    by_port same true =
        ap (go_on next) (ranged_same uid ports (name_fits rules a.0) (range_of rules a.0) a.0 a.1)
        ∙ step uid ports (port_written rules a) (writes with_code rules more) next same
    by_port same false = same ports

rules_same : (uid : ℕ) (attributes : Attributes) (ports : List Port) (rules : List PortRule) →
    with_rules uid attributes ports rules ≡ unless (bad uid (ports_absent (BuiltIn rules) attributes)) (ports ++ there (ports_absent (BuiltIn rules) attributes))
rules_same uid attributes ports [] = ap (λ (ps : List Port). Ok ps) (sym (append-nil ports))
rules_same uid attributes ports (rule ∷ more) = by_written (λ ps. rules_same uid attributes ps more) (is_some (value_of rule.name attributes))
  where
    next : List Port → Result (List Port) BuildFault
    next ps = with_rules uid attributes ps more

    rest : List (Option Port)
    rest = ports_absent (BuiltIn more) attributes

    by_default : (o : Option (List ℕ)) → with_default uid ports rule o ≡ with_said uid ports (option_and_then (port_said rule.range rule.name) o)
    by_default None = refl
    by_default (Some text) = port_same uid ports rule.range rule.name text

    said : Bool → List (Option Port)
    said b =
        map (λ (r : PortRule). option_and_then (port_said r.range r.name) r.default)
        (cond (not b) (rule ∷ filter (λ (r : PortRule). is_absent attributes r.name) more) (filter (λ (r : PortRule). is_absent attributes r.name) more))

    by_written : ((ps : List Port) → next ps ≡ unless (bad uid rest) (ps ++ there rest)) → (b : Bool) →
        go_on next (if b then Ok ports else with_default uid ports rule rule.default) ≡ unless (bad uid (said b)) (ports ++ there (said b))
    by_written same true = same ports
    by_written same false =
        ap (go_on next) (by_default rule.default)
        ∙ step uid ports (option_and_then (port_said rule.range rule.name) rule.default) rest next same

model_same : (uid : ℕ) (attributes : Attributes) (ports : List Port) (model : List ModelPort) →
    with_model uid attributes ports model ≡ unless (bad uid (ports_absent (Modelled model) attributes)) (ports ++ there (ports_absent (Modelled model) attributes))
model_same uid attributes ports [] = ap (λ (ps : List Port). Ok ps) (sym (append-nil ports))
model_same uid attributes ports (port ∷ more) = by_written (λ ps. model_same uid attributes ps more) (is_some (value_of port.name attributes))
  where
    next : List Port → Result (List Port) BuildFault
    next ps = with_model uid attributes ps more

    rest : List (Option Port)
    rest = ports_absent (Modelled more) attributes

    by_fallback : ((ps : List Port) → next ps ≡ unless (bad uid rest) (ps ++ there rest)) → (o : Option (List ℕ)) → go_on next (with_fallback uid ports port.name o)
        ≡ unless (bad uid (cons_option (option_map (port_said AnyValue port.name) o) rest)) (ports ++ there (cons_option (option_map (port_said AnyValue port.name) o) rest))
    by_fallback same None = same ports
    by_fallback same (Some text) =
        ap (go_on next) (port_same uid ports AnyValue port.name text)
        ∙ step uid ports (port_said AnyValue port.name text) rest next same

    said : Bool → List (Option Port)
    said b =
        filter_map (λ (p : ModelPort). option_map (port_said AnyValue p.name) p.fallback)
        (cond (not b) (port ∷ filter (λ (p : ModelPort). is_absent attributes p.name) more) (filter (λ (p : ModelPort). is_absent attributes p.name) more))

    by_written : ((ps : List Port) → next ps ≡ unless (bad uid rest) (ps ++ there rest)) → (b : Bool) →
        go_on next (if b then Ok ports else with_fallback uid ports port.name port.fallback) ≡ unless (bad uid (said b)) (ports ++ there (said b))
    by_written same true = same ports
    by_written same false = by_fallback same port.fallback

absent_same : (uid : ℕ) (attributes : Attributes) (rules : Rules) (ports : List Port) →
    with_absent uid attributes rules ports ≡ unless (bad uid (ports_absent rules attributes)) (ports ++ there (ports_absent rules attributes))
absent_same uid attributes (Modelled model) ports = model_same uid attributes ports model
absent_same uid attributes (BuiltIn rules) ports = rules_same uid attributes ports rules
absent_same uid attributes AnyPort ports = ap (λ (ps : List Port). Ok ps) (sym (append-nil ports))
absent_same uid attributes AnyKey ports = ap (λ (ps : List Port). Ok ps) (sym (append-nil ports))

there-append : (xs ys : List (Option Port)) → there (xs ++ ys) ≡ there xs ++ there ys
there-append [] ys = refl
there-append (None ∷ xs) ys = there-append xs ys
there-append (Some x ∷ xs) ys = ap (λ (ps : List Port). x ∷ ps) (there-append xs ys)

pub ports_same : (uid : ℕ) (with_code : Bool) (rules : Rules) (attributes : Attributes) →
    ports_in uid with_code rules attributes ≡ unless (bad uid (ports_said with_code rules attributes)) (there (ports_said with_code rules attributes))
ports_same uid with_code rules attributes =
    let w = writes with_code rules attributes in
    let a = ports_absent rules attributes in
    next_same (with_absent uid attributes rules) (bad uid w) (bad uid a) (there w) (there w ++ there a) (with_written uid with_code rules [] attributes)
    (written_same uid with_code rules [] attributes) (absent_same uid attributes rules (there w))
    ∙ two (list_all is_some w) (list_all is_some a) (BadLiteral uid) (there w ++ there a)
    ∙ ap (λ (b : Bool). unless (fault_if (not b) (BadLiteral uid)) (there w ++ there a)) (sym (list_all-append is_some w a))
    ∙ ap (unless (bad uid (w ++ a))) (sym (there-append w a))

-- ---- Scripts

abbrev script_faults : ℕ → Attributes → List (List ℕ) → List BuildFault
script_faults uid attributes names = map (BadScript uid) (filter_map (script_fault attributes) names)

script_step :
    {B : Type 0} (uid : ℕ) (attributes : Attributes) (name : List ℕ) (names : List (List ℕ)) (next : Option Script → Result B BuildFault) (y : B) →
    next (script_at attributes name) ≡ unless (script_faults uid attributes names) y →
    go_on next (guard_in uid attributes name) ≡ unless (script_faults uid attributes (name ∷ names)) y
script_step {B} uid attributes name names next y h = by_text (value_of name attributes) h
  where
    rest : List ScriptFault
    rest = filter_map (script_fault attributes) names

    by_read : (r : Result Script ScriptFault) → next (result_ok r) ≡ unless (map (BadScript uid) rest) y → go_on next (or_bad_script uid r) ≡ unless (map (BadScript uid) (cons_option (result_err r) rest)) y
    by_read (Ok script) k = k
    by_read (Err fault) k = refl

    by_text : (o : Option (List ℕ)) → next (option_and_then (λ text. result_ok (script_in text)) o) ≡ unless (map (BadScript uid) rest) y →
        go_on next (script_of uid o) ≡ unless (map (BadScript uid) (cons_option (option_and_then (λ text. result_err (script_in text)) o) rest)) y
    by_text None k = k
    by_text (Some text) k = by_read (script_in text) k

abbrev guards_with : Option Script → Option Script → Option Script → Option Script → Option Script → Option Script → Option Script → Option Script → Guards
guards_with a b c d e f g h = record { failure_if = a; success_if = b; skip_if = c; while_true = d; on_success = e; on_failure = f; post = g; on_halted = h }

pub guards_same : (uid : ℕ) (attributes : Attributes) → guards_in uid attributes ≡ unless (script_faults uid attributes guard_names) (guards_at attributes)
guards_same uid attributes =
    let s = script_at attributes in
    let y = guards_at attributes in
    let g = guard_in uid attributes in
    let a = s (codes "_failureIf") in
    let b = s (codes "_successIf") in
    let c = s (codes "_skipIf") in
    let d = s (codes "_while") in
    let e = s (codes "_onSuccess") in
    let f = s (codes "_onFailure") in
    let p = s (codes "_post") in
    let n8 = codes "_onHalted" ∷ [] in
    let n7 = codes "_post" ∷ n8 in
    let n6 = codes "_onFailure" ∷ n7 in
    let n5 = codes "_onSuccess" ∷ n6 in
    let n4 = codes "_while" ∷ n5 in
    let n3 = codes "_skipIf" ∷ n4 in
    let n2 = codes "_successIf" ∷ n3 in
    let t8 = λ (a b c d e f p h : Option Script). Ok (guards_with a b c d e f p h) in
    let t7 = λ (a b c d e f p : Option Script). go_on (λ h. t8 a b c d e f p h) (g (codes "_onHalted")) in
    let t6 = λ (a b c d e f : Option Script). go_on (λ p. t7 a b c d e f p) (g (codes "_post")) in
    let t5 = λ (a b c d e : Option Script). go_on (λ f. t6 a b c d e f) (g (codes "_onFailure")) in
    let t4 = λ (a b c d : Option Script). go_on (λ e. t5 a b c d e) (g (codes "_onSuccess")) in
    let t3 = λ (a b c : Option Script). go_on (λ d. t4 a b c d) (g (codes "_while")) in
    let t2 = λ (a b : Option Script). go_on (λ c. t3 a b c) (g (codes "_skipIf")) in
    let t1 = λ (a : Option Script). go_on (λ b. t2 a b) (g (codes "_successIf")) in
    script_step uid attributes (codes "_failureIf") n2 t1 y
    (script_step uid attributes (codes "_successIf") n3 (t2 a) y
    (script_step uid attributes (codes "_skipIf") n4 (t3 a b) y
    (script_step uid attributes (codes "_while") n5 (t4 a b c) y
    (script_step uid attributes (codes "_onSuccess") n6 (t5 a b c d) y
    (script_step uid attributes (codes "_onFailure") n7 (t6 a b c d e) y
    (script_step uid attributes (codes "_post") n8 (t7 a b c d e f) y
    (script_step uid attributes (codes "_onHalted") [] (t8 a b c d e f p) y refl)))))))

-- the text of a node's code
abbrev code_said : Bool → Attributes → Option (List ℕ)
code_said with_code attributes = if with_code then value_of (codes "code") attributes else None

code_same : (uid : ℕ) (with_code : Bool) (attributes : Attributes) →
    code_text uid with_code attributes ≡ unless (fault_if (not (not with_code || is_some (value_of (codes "code") attributes))) (BadLiteral uid)) (code_said with_code attributes)
code_same uid false attributes = refl
code_same uid true attributes = by_text (value_of (codes "code") attributes)
  where
    by_text : (o : Option (List ℕ)) → or_bad uid (option_map Some o) ≡ unless (fault_if (not (is_some o)) (BadLiteral uid)) o
    by_text None = refl
    by_text (Some text) = refl

abbrev content_with : Bool → Attributes → List Port → Bool → Content
content_with with_code attributes ports autoremap = record {
  ports = ports;
  code = if with_code then script_at attributes (codes "code") else None;
  guards = guards_at attributes;
  autoremap = autoremap;
}

scripts_same : (uid : ℕ) (with_code : Bool) (ports : List Port) (autoremap : Bool) (attributes : Attributes) →
    scripts_in uid ports (code_said with_code attributes) autoremap attributes ≡ unless (script_faults uid attributes (script_names with_code)) (content_with with_code attributes ports autoremap)
scripts_same uid with_code ports autoremap attributes = by_code with_code
  where
    made : Option Script → Guards → Content
    made code guards = record { ports = ports; code = code; guards = guards; autoremap = autoremap }

    all : List BuildFault
    all = script_faults uid attributes guard_names

    rest : (code : Option Script) → go_on (λ guards. Ok (made code guards)) (guards_in uid attributes) ≡ unless all (made code (guards_at attributes))
    rest code =
        next_same (λ guards. Ok (made code guards)) all [] (guards_at attributes) (made code (guards_at attributes)) (guards_in uid attributes) (guards_same uid attributes) refl
        ∙ ap (λ (fs : List BuildFault). unless fs (made code (guards_at attributes))) (append-nil all)

    by_code : (b : Bool) → scripts_in uid ports (code_said b attributes) autoremap attributes ≡ unless (script_faults uid attributes (script_names b)) (content_with b attributes ports autoremap)
    by_code false = rest None
    by_code true =
        script_step uid attributes (codes "code") guard_names (λ code. go_on (λ guards. Ok (made code guards)) (guards_in uid attributes)) (made (script_at attributes (codes "code")) (guards_at attributes))
        (rest (script_at attributes (codes "code")))

-- ---- The keys of a SubTree node

abbrev maps : List (Option Bool) → Bool
maps said = list_any (λ t. unwrap_or t false) said

truth_same : (uid : ℕ) (o : Option (List ℕ)) → said_or_false uid o ≡ or_bad uid (truth_said o)
truth_same uid None = refl
truth_same uid (Some text) = refl

one_truth : (uid : ℕ) (o : Option Bool) → go_on (λ now. go_on (λ older. Ok (now || older)) (Ok false)) (or_bad uid o) ≡ unless (fault_if (not (list_all is_some (o ∷ []))) (BadLiteral uid)) (maps (o ∷ []))
one_truth uid None = refl
one_truth uid (Some true) = refl
one_truth uid (Some false) = refl

two_truths : (uid : ℕ) (o p : Option Bool) →
    go_on (λ now. go_on (λ older. Ok (now || older)) (or_bad uid p)) (or_bad uid o) ≡ unless (fault_if (not (list_all is_some (o ∷ p ∷ []))) (BadLiteral uid)) (maps (o ∷ p ∷ []))
two_truths uid None p = refl
two_truths uid (Some b) None = refl
two_truths uid (Some true) (Some q) = refl
two_truths uid (Some false) (Some true) = refl
two_truths uid (Some false) (Some false) = refl

autoremap_same : (uid : ℕ) (kind : Kind) (form : Form) (attributes : Attributes) →
    autoremap_in uid kind form attributes ≡ unless (fault_if (not (list_all is_some (autoremap_said kind form attributes))) (BadLiteral uid)) (maps (autoremap_said kind form attributes))
autoremap_same uid SubTree form.SubTreePlus attributes =
    let o = value_of (codes "_autoremap") attributes in
    let p = value_of (codes "__autoremap") attributes in
    ap (λ (r : Result Bool BuildFault). go_on (λ now. go_on (λ older. Ok (now || older)) (said_or_false uid p)) r) (truth_same uid o)
    ∙ ap (λ (r : Result Bool BuildFault). go_on (λ now. go_on (λ older. Ok (now || older)) r) (or_bad uid (truth_said o))) (truth_same uid p)
    ∙ two_truths uid (truth_said o) (truth_said p)
autoremap_same uid SubTree form.OldSubTree attributes =
    let o = value_of (codes "_autoremap") attributes in
    ap (λ (r : Result Bool BuildFault). go_on (λ now. go_on (λ older. Ok (now || older)) (Ok false)) r) (truth_same uid o) ∙ one_truth uid (truth_said o)
autoremap_same uid SubTree form.Plain attributes =
    let o = value_of (codes "_autoremap") attributes in
    ap (λ (r : Result Bool BuildFault). go_on (λ now. go_on (λ older. Ok (now || older)) (Ok false)) r) (truth_same uid o) ∙ one_truth uid (truth_said o)
autoremap_same uid kind form attributes = refl

-- ---- All together

rest_same : (uid : ℕ) (kind : Kind) (form : Form) (attributes : Attributes) (ports : List Port) →
    rest_in uid kind form attributes ports
    ≡ unless (fault_if (not (not (has_code kind) || is_some (value_of (codes "code") attributes))) (BadLiteral uid)
    ++ (fault_if (not (list_all is_some (autoremap_said kind form attributes))) (BadLiteral uid) ++ script_faults uid attributes (script_names (has_code kind))))
    (content_with (has_code kind) attributes ports (maps (autoremap_said kind form attributes)))
rest_same uid kind form attributes ports =
    let with_code = has_code kind in
    let said = autoremap_said kind form attributes in
    let text = code_said with_code attributes in
    let scripts = script_faults uid attributes (script_names with_code) in
    let truths = fault_if (not (list_all is_some said)) (BadLiteral uid) in
    let content = content_with with_code attributes ports (maps said) in
    next_same (λ text. go_on (λ autoremap. scripts_in uid ports text autoremap attributes) (autoremap_in uid kind form attributes))
    (fault_if (not (not with_code || is_some (value_of (codes "code") attributes))) (BadLiteral uid)) (truths ++ scripts) text content (code_text uid with_code attributes) (code_same uid with_code attributes)
    (next_same (λ autoremap. scripts_in uid ports text autoremap attributes) truths scripts (maps said) content (autoremap_in uid kind form attributes) (autoremap_same uid kind form attributes)
    (scripts_same uid with_code ports (maps said) attributes))

-- what is read of a node that may have these ports
pub content_same : (uid : ℕ) (kind : Kind) (form : Form) (rules : Rules) (attributes : Attributes) → ruled_in uid kind form rules attributes ≡ content_by uid kind form rules attributes
content_same uid kind form rules attributes =
    let with_code = has_code kind in
    let said = ports_said with_code rules attributes in
    let truths = autoremap_said kind form attributes in
    let written = not with_code || is_some (value_of (codes "code") attributes) in
    let scripts = script_faults uid attributes (script_names with_code) in
    let content = content_of kind form rules attributes in
    let values = fault_if (not (values_stand kind form rules attributes)) (BadLiteral uid) ++ scripts in
    refused (not (all_known with_code rules attributes)) (UnknownPort uid) (fault_if (not (form_fits form attributes)) (OldSubTree uid) ++ values) content
    (refused_if (not (form_fits form attributes)) (OldSubTree uid) (go_on (rest_in uid kind form attributes) (ports_in uid with_code rules attributes)))
    (refused (not (form_fits form attributes)) (OldSubTree uid) values content (go_on (rest_in uid kind form attributes) (ports_in uid with_code rules attributes))
    (next_same (rest_in uid kind form attributes) (bad uid said) (fault_if (not written) (BadLiteral uid) ++ (fault_if (not (list_all is_some truths)) (BadLiteral uid) ++ scripts)) (there said) content
    (ports_in uid with_code rules attributes) (ports_same uid with_code rules attributes) (rest_same uid kind form attributes (there said))
    ∙ three (list_all is_some said) written (list_all is_some truths) (BadLiteral uid) scripts content))
