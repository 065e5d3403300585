-- All ports of a node fit it, and none of those that it must have is absent.
use Rattle.std.proofs.Common.{◌≡◌, ℕ, Bool, true, false, List, [], ◌∷◌, Option, Some, None, Ok, refl, ap, sym, ◌∙◌, subst}
use Rattle.std.specs.Prelude.{is_some, bytes_eq, if◌then◌else◌}
use Rattle.std.specs.List.{list_all, AllByRecursion}
use Rattle.std.proofs.lemmas.Slice.Eq.{bytes_eq-Decides}
use Rattle.spec_tree.specs.declared.built_ins.Range.{Range}
use Rattle.spec_tree.specs.declared.built_ins.Range.TheVariants.{AnyValue}
use Rattle.spec_tree.specs.declared.term.Port.{Port}
use Rattle.spec_tree.specs.declared.term.PortValue.{PortValue}
use Rattle.spec_tree.specs.BuiltIns.{PortRule}
use Rattle.spec_tree.specs.Names.{is_among}
use Rattle.spec_tree.specs.Trees.{is_one_of, names_of}
use Rattle.spec_tree.specs.Values.{value_fits}
use Rattle.spec_tree_file.specs.declared.models.ModelPort.{ModelPort}
use Rattle.spec_tree_file.specs.Attributes.{Attributes, value_of}
use Rattle.spec_tree_file.specs.Content.{Rules, AnyPort, AnyKey, Modelled, BuiltIn, is_port, name_fits, range_of}
use Rattle.tree_build.specs.ContentSteps.{port_of, ports_in, with_absent, with_attribute, with_default, with_fallback, with_model, with_modelled, with_ranged, with_rule, with_rules, with_written}
use Rattle.tree_build.proofs.PortFits.{Grows, added, among_last, both_true, grows_by, grows_on, port_fits, ranged, stays}
use Rattle.tree_build.proofs.Sizes.{same_ok, went}

-- ---- The ports that are written

-- a written port is there
pub record Wrote (rules : Rules) (ports new : List Port) (name : List ℕ) : Type 0 where
  pub grows : Grows (port_fits rules) ports new
  pub there : (other : List ℕ) → bytes_eq other name ≡ true → is_among other (names_of new) ≡ true

wrote_by : (uid : ℕ) (rules : Rules) (ports new : List Port) (name text : List ℕ) (b : Bool) (o : Option Range) → name_fits rules name ≡ b → range_of rules name ≡ o →
    with_ranged uid ports b o name text ≡ Ok new → Wrote rules ports new name
wrote_by uid rules ports new name text true (Some range) n r h =
    let a = added uid ports new range name text h in
    record {
      grows = grows_by (port_fits rules) ports new range name (λ v f. ranged rules name range v n r f) a;
      there = λ other e. subst (λ (x : List Port). is_among other (names_of x) ≡ true) a.is (among_last other ports (port_of name a.value) e);
    }
wrote_by uid rules ports new name text true None n r h = absurd (cc)
wrote_by uid rules ports new name text false (Some range) n r h = absurd (cc)
wrote_by uid rules ports new name text false None n r h = absurd (cc)

-- an attribute that is a port, and one that is none
abbrev Step : Rules → List Port → List Port → List ℕ → Bool → Type 0
Step rules ports new name true = Wrote rules ports new name
Step rules ports new name false = Grows (port_fits rules) ports new

step_by : (uid : ℕ) (rules : Rules) (ports new : List Port) (a : List ℕ × List ℕ) (b : Bool) →
    (if b then with_ranged uid ports (name_fits rules a.0) (range_of rules a.0) a.0 a.1 else Ok ports) ≡ Ok new → Step rules ports new a.0 b
step_by uid rules ports new a true h = wrote_by uid rules ports new a.0 a.1 (name_fits rules a.0) (range_of rules a.0) refl refl h
step_by uid rules ports new a false h = subst (λ (x : List Port). Grows (port_fits rules) ports x) (same_ok ports new h) (stays (port_fits rules) ports)

grown : (rules : Rules) (ports new : List Port) (name : List ℕ) (b : Bool) → Step rules ports new name b → Grows (port_fits rules) ports new
grown rules ports new name true s = s.grows
grown rules ports new name false s = s

there_by : (rules : Rules) (ports new : List Port) (name other : List ℕ) (b : Bool) → Step rules ports new name b → b ≡ true → bytes_eq other name ≡ true → is_among other (names_of new) ≡ true
there_by rules ports new name other true s e same = s.there other same
there_by rules ports new name other false s e same = absurd (cc)

pub written_grows : (uid : ℕ) (with_code : Bool) (rules : Rules) (ports new : List Port) (attributes : Attributes) → with_written uid with_code rules ports attributes ≡ Ok new →
    Grows (port_fits rules) ports new
written_grows uid with_code rules ports new [] h = subst (λ (x : List Port). Grows (port_fits rules) ports x) (same_ok ports new h) (stays (port_fits rules) ports)
written_grows uid with_code rules ports new (a ∷ more) h =
    let w = went (λ (next : List Port). with_written uid with_code rules next more) (with_attribute uid with_code rules ports a) new h in
    grows_on (port_fits rules) ports w.0 new
    (grown rules ports w.0 a.0 (is_port with_code a.0) (step_by uid rules ports w.0 a (is_port with_code a.0) w.1))
    (written_grows uid with_code rules w.0 new more w.2)

-- the port of an attribute is there
written_there_by : (uid : ℕ) (with_code : Bool) (rules : Rules) (ports new : List Port) (a : List ℕ × List ℕ) (more : Attributes) (name : List ℕ) (b : Bool) →
    bytes_eq name a.0 ≡ b → is_port with_code name ≡ true → is_some (if b then Some a.1 else value_of name more) ≡ true →
    (mid : List Port) → with_attribute uid with_code rules ports a ≡ Ok mid → Grows (port_fits rules) mid new →
    (is_some (value_of name more) ≡ true → is_among name (names_of new) ≡ true) → is_among name (names_of new) ≡ true
written_there_by uid with_code rules ports new a more name true e p s mid w g rest =
    let same = (bytes_eq-Decides name a.0).0 e in
    g.names name (there_by rules ports mid a.0 name (is_port with_code a.0) (step_by uid rules ports mid a (is_port with_code a.0) w) (ap (is_port with_code) (sym same) ∙ p) e)
written_there_by uid with_code rules ports new a more name false e p s mid w g rest = rest s

pub written_there : (uid : ℕ) (with_code : Bool) (rules : Rules) (ports new : List Port) (attributes : Attributes) (name : List ℕ) → with_written uid with_code rules ports attributes ≡ Ok new →
    is_port with_code name ≡ true → is_some (value_of name attributes) ≡ true → is_among name (names_of new) ≡ true
written_there uid with_code rules ports new [] name h p s = absurd (cc)
written_there uid with_code rules ports new (a ∷ more) name h p s =
    let w = went (λ (next : List Port). with_written uid with_code rules next more) (with_attribute uid with_code rules ports a) new h in
    written_there_by uid with_code rules ports new a more name (bytes_eq name a.0) refl p s w.0 w.1 (written_grows uid with_code rules w.0 new more w.2)
    (λ k. written_there uid with_code rules w.0 new more name w.2 p k)

-- ---- The ports that are filled in

-- each value of a rule's range may stand at its port
abbrev pub Own : List PortRule → PortRule → Type 0
Own rules rule = (v : PortValue) → value_fits rule.range v ≡ true → is_one_of rules (port_of rule.name v) ≡ true

-- after a rule was followed its port is there, if those that are written are
pub record Filled (rules : List PortRule) (attributes : Attributes) (ports new : List Port) (name : List ℕ) : Type 0 where
  pub grows : Grows (is_one_of rules) ports new
  pub there : (is_some (value_of name attributes) ≡ true → is_among name (names_of ports) ≡ true) → is_among name (names_of new) ≡ true

bytes_same : (name : List ℕ) → bytes_eq name name ≡ true
bytes_same name = (bytes_eq-Decides name name).1 refl

filled_by : (uid : ℕ) (rules : List PortRule) (attributes : Attributes) (ports new : List Port) (rule : PortRule) (o : Option (List ℕ)) → Own rules rule →
    with_default uid ports rule o ≡ Ok new → Filled rules attributes ports new rule.name
filled_by uid rules attributes ports new rule None own h = absurd (cc)
filled_by uid rules attributes ports new rule (Some text) own h =
    let a = added uid ports new rule.range rule.name text h in
    record {
      grows = grows_by (is_one_of rules) ports new rule.range rule.name own a;
      there = λ x. subst (λ (ps : List Port). is_among rule.name (names_of ps) ≡ true) a.is (among_last rule.name ports (port_of rule.name a.value) (bytes_same rule.name));
    }

rule_by : (uid : ℕ) (rules : List PortRule) (attributes : Attributes) (ports new : List Port) (rule : PortRule) (b : Bool) → is_some (value_of rule.name attributes) ≡ b → Own rules rule →
    (if b then Ok ports else with_default uid ports rule rule.default) ≡ Ok new → Filled rules attributes ports new rule.name
rule_by uid rules attributes ports new rule true e own h =
    subst (λ (x : List Port). Filled rules attributes ports x rule.name) (same_ok ports new h) (record { grows = stays (is_one_of rules) ports; there = λ x. x e })
rule_by uid rules attributes ports new rule false e own h = filled_by uid rules attributes ports new rule rule.default own h

-- the ports of these rules are there
abbrev pub AllThere : List PortRule → List Port → Type 0
AllThere rules ports = AllByRecursion (λ rule. is_among rule.name (names_of ports) ≡ true) rules

-- each port is there that is written
abbrev pub ThereWhereWritten : Attributes → List PortRule → List Port → Type 0
ThereWhereWritten attributes rules ports = AllByRecursion (λ rule. is_some (value_of rule.name attributes) ≡ true → is_among rule.name (names_of ports) ≡ true) rules

still : (p : Port → Bool) (attributes : Attributes) (rules : List PortRule) (ports new : List Port) → Grows p ports new → ThereWhereWritten attributes rules ports → ThereWhereWritten attributes rules new
still p attributes [] ports new g h = tt
still p attributes (rule ∷ rules) ports new g h = (λ x. g.names rule.name (h.0 x), still p attributes rules ports new g h.1)

pub rules_fill : (uid : ℕ) (all : List PortRule) (attributes : Attributes) (ports new : List Port) (rules : List PortRule) → AllByRecursion (Own all) rules →
    with_rules uid attributes ports rules ≡ Ok new → ThereWhereWritten attributes rules ports → Grows (is_one_of all) ports new × AllThere rules new
rules_fill uid all attributes ports new [] own h there = (subst (λ (x : List Port). Grows (is_one_of all) ports x) (same_ok ports new h) (stays (is_one_of all) ports), tt)
rules_fill uid all attributes ports new (rule ∷ rules) own h there =
    let w = went (λ (next : List Port). with_rules uid attributes next rules) (with_rule uid attributes ports rule) new h in
    let f = rule_by uid all attributes ports w.0 rule (is_some (value_of rule.name attributes)) refl own.0 w.1 in
    let r = rules_fill uid all attributes w.0 new rules own.1 w.2 (still (is_one_of all) attributes rules ports w.0 f.grows there.1) in
    (grows_on (is_one_of all) ports w.0 new f.grows r.0, (r.0.names rule.name (f.there there.0), r.1))

-- ---- All ports of a node

fallback_by : (uid : ℕ) (ports new : List Port) (name : List ℕ) (o : Option (List ℕ)) → with_fallback uid ports name o ≡ Ok new → Grows (port_fits AnyPort) ports new
fallback_by uid ports new name (Some text) h = grows_by (port_fits AnyPort) ports new AnyValue name (λ v f. f) (added uid ports new AnyValue name text h)
fallback_by uid ports new name None h = subst (λ (x : List Port). Grows (port_fits AnyPort) ports x) (same_ok ports new h) (stays (port_fits AnyPort) ports)

modelled_by : (uid : ℕ) (ports new : List Port) (port : ModelPort) (b : Bool) → (if b then Ok ports else with_fallback uid ports port.name port.fallback) ≡ Ok new → Grows (port_fits AnyPort) ports new
modelled_by uid ports new port true h = subst (λ (x : List Port). Grows (port_fits AnyPort) ports x) (same_ok ports new h) (stays (port_fits AnyPort) ports)
modelled_by uid ports new port false h = fallback_by uid ports new port.name port.fallback h

model_grows : (uid : ℕ) (attributes : Attributes) (ports new : List Port) (model : List ModelPort) → with_model uid attributes ports model ≡ Ok new → Grows (port_fits AnyPort) ports new
model_grows uid attributes ports new [] h = subst (λ (x : List Port). Grows (port_fits AnyPort) ports x) (same_ok ports new h) (stays (port_fits AnyPort) ports)
model_grows uid attributes ports new (port ∷ more) h =
    let w = went (λ (next : List Port). with_model uid attributes next more) (with_modelled uid attributes ports port) new h in
    grows_on (port_fits AnyPort) ports w.0 new (modelled_by uid ports w.0 port (is_some (value_of port.name attributes)) w.1) (model_grows uid attributes w.0 new more w.2)

pub any_fit : (uid : ℕ) (with_code : Bool) (attributes : Attributes) (ports : List Port) → ports_in uid with_code AnyPort attributes ≡ Ok ports → list_all (port_fits AnyPort) ports ≡ true
any_fit uid with_code attributes ports h =
    let w = went (with_absent uid attributes AnyPort) (with_written uid with_code AnyPort [] attributes) ports h in
    subst (λ (x : List Port). list_all (port_fits AnyPort) x ≡ true) (same_ok w.0 ports w.2) ((written_grows uid with_code AnyPort [] w.0 attributes w.1).fit refl)

pub key_fit : (uid : ℕ) (with_code : Bool) (attributes : Attributes) (ports : List Port) → ports_in uid with_code AnyKey attributes ≡ Ok ports → list_all (port_fits AnyKey) ports ≡ true
key_fit uid with_code attributes ports h =
    let w = went (with_absent uid attributes AnyKey) (with_written uid with_code AnyKey [] attributes) ports h in
    subst (λ (x : List Port). list_all (port_fits AnyKey) x ≡ true) (same_ok w.0 ports w.2) ((written_grows uid with_code AnyKey [] w.0 attributes w.1).fit refl)

pub model_fit : (uid : ℕ) (with_code : Bool) (model : List ModelPort) (attributes : Attributes) (ports : List Port) → ports_in uid with_code (Modelled model) attributes ≡ Ok ports →
    list_all (port_fits AnyPort) ports ≡ true
model_fit uid with_code model attributes ports h =
    let w = went (with_absent uid attributes (Modelled model)) (with_written uid with_code (Modelled model) [] attributes) ports h in
    (model_grows uid attributes w.0 ports model w.2).fit ((written_grows uid with_code (Modelled model) [] w.0 attributes w.1).fit refl)

where_written : (uid : ℕ) (with_code : Bool) (all rules : List PortRule) (attributes : Attributes) (ports : List Port) → AllByRecursion (λ rule. is_port with_code rule.name ≡ true) rules →
    with_written uid with_code (BuiltIn all) [] attributes ≡ Ok ports → ThereWhereWritten attributes rules ports
where_written uid with_code all [] attributes ports p h = tt
where_written uid with_code all (rule ∷ rules) attributes ports p h =
    (λ s. written_there uid with_code (BuiltIn all) [] ports attributes rule.name h p.0 s, where_written uid with_code all rules attributes ports p.1 h)

there_all : (rules : List PortRule) (ports : List Port) → AllThere rules ports → list_all (λ rule. is_among rule.name (names_of ports)) rules ≡ true
there_all [] ports h = refl
there_all (rule ∷ rules) ports h = both_true (is_among rule.name (names_of ports)) (list_all (λ rule. is_among rule.name (names_of ports)) rules) h.0 (there_all rules ports h.1)

pub built_fit : (uid : ℕ) (with_code : Bool) (rules : List PortRule) (attributes : Attributes) (ports : List Port) → AllByRecursion (Own rules) rules →
    AllByRecursion (λ rule. is_port with_code rule.name ≡ true) rules → ports_in uid with_code (BuiltIn rules) attributes ≡ Ok ports →
    (list_all (is_one_of rules) ports ≡ true) × (list_all (λ rule. is_among rule.name (names_of ports)) rules ≡ true)
built_fit uid with_code rules attributes ports own written h =
    let w = went (with_absent uid attributes (BuiltIn rules)) (with_written uid with_code (BuiltIn rules) [] attributes) ports h in
    let g = written_grows uid with_code (BuiltIn rules) [] w.0 attributes w.1 in
    let f = rules_fill uid rules attributes w.0 ports rules own w.2 (where_written uid with_code rules rules attributes w.0 written w.1) in
    (f.0.fit (g.fit refl), there_all rules ports f.1)
