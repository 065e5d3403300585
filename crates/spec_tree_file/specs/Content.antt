-- What the attributes of a node say: its ports and its scripts, or the first fault in them.
use Rattle.std.specs.Prelude.{ℕ, List, [], ◌∷◌, ◌++◌, map, filter, filter_map, codes, Bool, true, false, not, is_some, ◌&&◌, ◌||◌, if◌then◌else◌, Option, Some, None, option_map, option_and_then, unwrap_or, Result}
use Rattle.std.specs.List.{list_all, list_any}
use Rattle.std.specs.Result.{result_ok, result_err}
use Rattle.std.specs.Str.{bytes_eq}
use Rattle.spec_script.specs.declared.fault.ScriptFault.{ScriptFault}
use Rattle.spec_script.specs.declared.syntax.Script.{Script}
use Rattle.spec_script.specs.Identifiers.{is_identifier}
use Rattle.spec_tree.specs.declared.built_ins.Range.{Range}
use Rattle.spec_tree.specs.declared.built_ins.Range.TheVariants.{AnyValue}
use Rattle.spec_tree.specs.declared.term.Guards.{Guards}
use Rattle.spec_tree.specs.declared.term.Kind.{Kind}
use Rattle.spec_tree.specs.declared.term.Kind.TheVariants.{SubTree, Leaf}
use Rattle.spec_tree.specs.declared.term.Port.{Port}
use Rattle.spec_tree.specs.BuiltIns.{PortRule, has_code, ports_of}
use Rattle.spec_tree.specs.Values.{is_port_name, value_in}
use Rattle.spec_tree_file.specs.declared.models.ModelPort.{ModelPort}
use Rattle.spec_tree_file.specs.declared.models.NodeModel.{NodeModel}
use Rattle.spec_tree_file.specs.Attributes.{Attributes, value_of}
use Rattle.spec_tree_file.specs.Models.{Models, model_of}
use Rattle.spec_tree_file.specs.declared.content.Content.{Content}
use Rattle.spec_tree_file.specs.declared.build_fault.BuildFault.{BuildFault}
use Rattle.spec_tree_file.specs.declared.build_fault.BuildFault.TheVariants.{UnknownPort, OldSubTree, BadLiteral, BadScript}
use Rattle.spec_tree_file.specs.declared.version.Form.{Form}
use Rattle.spec_tree_file.specs.declared.version.Form.TheVariants as form
use Rattle.spec_tree_file.specs.FirstFaults.{fault_if, unless}
use Rattle.spec_tree_file.specs.ScriptOf.{script_in}

-- ---- Which ports a node may have

-- a leaf without a model has any port, a SubTree node any key, a leaf with a model the ports of that, and a built-in node its own
pub data Rules : Type 0 where
  AnyPort : Rules
  AnyKey : Rules
  Modelled : List ModelPort → Rules
  BuiltIn : List PortRule → Rules

-- the rules of a leaf, by its model
abbrev pub model_rules : Option NodeModel → Rules
model_rules None = AnyPort
model_rules (Some model) = Modelled model.ports

-- which ports a node of this kind and ID may have
abbrev pub rules_of : Models → Kind → List ℕ → Rules
rules_of models SubTree id = AnyKey
rules_of models Leaf id = model_rules (model_of id models)
rules_of models kind id = BuiltIn (ports_of kind)

-- the range of the port of this name among these
abbrev pub range_among : List PortRule → List ℕ → Option Range
range_among [] name = None
range_among (rule ∷ rules) name = if bytes_eq name rule.name then Some rule.range else range_among rules name

-- the range of the node's port of this name, if it may have one
abbrev pub range_of : Rules → List ℕ → Option Range
range_of AnyPort name = Some AnyValue
range_of AnyKey name = Some AnyValue
range_of (Modelled ports) name = if list_any (λ port. bytes_eq name port.name) ports then Some AnyValue else None
range_of (BuiltIn rules) name = range_among rules name

-- the ports of a SubTree node are identifiers
abbrev pub name_fits : Rules → List ℕ → Bool
name_fits AnyKey name = is_identifier name
name_fits _ name = true

-- whether the attribute of this name is a port; `code` is none of a node that has a code
abbrev pub is_port : Bool → List ℕ → Bool
is_port with_code name = is_port_name name && not (with_code && bytes_eq name (codes "code"))

-- whether the node has all ports that are written
abbrev pub all_known : Bool → Rules → Attributes → Bool
all_known with_code rules attributes = list_all (λ a. not (is_port with_code a.0) || is_some (range_of rules a.0)) attributes

-- an old SubTree has no attribute but an ID and a name
abbrev pub form_fits : Form → Attributes → Bool
form_fits form.OldSubTree attributes = list_all (λ a. bytes_eq a.0 (codes "ID") || bytes_eq a.0 (codes "name")) attributes
form_fits form attributes = true

-- ---- The ports

-- the port of this range and name that a text says, if the text may stand there
abbrev pub port_said : Range → List ℕ → List ℕ → Option Port
port_said range name text = option_map (λ value. record { name = name; value = value }) (value_in range name text)

-- the port that an attribute says
abbrev pub port_written : Rules → List ℕ × List ℕ → Option Port
port_written rules a = if name_fits rules a.0 then option_and_then (λ range. port_said range a.0 a.1) (range_of rules a.0) else None

-- whether no attribute has this name
abbrev pub is_absent : Attributes → List ℕ → Bool
is_absent attributes name = not (is_some (value_of name attributes))

-- What the ports say that are not written: of a built-in node each its default, and nothing where it has none, since it has to be
-- written; of a leaf with a model those that have a fallback, each this.
abbrev pub ports_absent : Rules → Attributes → List (Option Port)
ports_absent (BuiltIn rules) attributes =
    map (λ rule. option_and_then (port_said rule.range rule.name) rule.default) (filter (λ rule. is_absent attributes rule.name) rules)
ports_absent (Modelled ports) attributes =
    filter_map (λ port. option_map (port_said AnyValue port.name) port.fallback) (filter (λ port. is_absent attributes port.name) ports)
ports_absent rules attributes = []

-- what the ports of a node say: those that are written, in their order, and then the others
abbrev pub ports_said : Bool → Rules → Attributes → List (Option Port)
ports_said with_code rules attributes = map (port_written rules) (filter (λ a. is_port with_code a.0) attributes) ++ ports_absent rules attributes

-- those that say something
abbrev pub there : {A : Type 0} → List (Option A) → List A
there said = filter_map (λ x. x) said

-- ---- The keys of a SubTree node

-- the truth value that a text says, if it says one
abbrev pub truth_in : List ℕ → Option Bool
truth_in text =
    if bytes_eq text (codes "true") || bytes_eq text (codes "1") then Some true
    else if bytes_eq text (codes "false") || bytes_eq text (codes "0") then Some false
    else None

-- the truth value that a text says, and false where there is no text
abbrev pub truth_said : Option (List ℕ) → Option Bool
truth_said None = Some false
truth_said (Some text) = truth_in text

-- the attributes that may say that all keys are mapped; a SubTreePlus has an older name too
abbrev pub autoremap_names : Kind → Form → List (List ℕ)
autoremap_names SubTree form.SubTreePlus = codes "_autoremap" ∷ codes "__autoremap" ∷ []
autoremap_names SubTree form = codes "_autoremap" ∷ []
autoremap_names kind form = []

-- what they say
abbrev pub autoremap_said : Kind → Form → Attributes → List (Option Bool)
autoremap_said kind form attributes = map (λ name. truth_said (value_of name attributes)) (autoremap_names kind form)

-- ---- The scripts

-- the guards, in the order in which their faults come
abbrev pub guard_names : List (List ℕ)
guard_names =
    codes "_failureIf"
    ∷ codes "_successIf"
    ∷ codes "_skipIf"
    ∷ codes "_while"
    ∷ codes "_onSuccess"
    ∷ codes "_onFailure"
    ∷ codes "_post"
    ∷ codes "_onHalted"
    ∷ []

-- the attributes that are scripts: the code of a node that has one comes before the guards
abbrev pub script_names : Bool → List (List ℕ)
script_names with_code = if with_code then codes "code" ∷ guard_names else guard_names

-- the script in the attribute of this name, if it has one
abbrev pub script_at : Attributes → List ℕ → Option Script
script_at attributes name = option_and_then (λ text. result_ok (script_in text)) (value_of name attributes)

-- the fault of the script there, if it has one
abbrev pub script_fault : Attributes → List ℕ → Option ScriptFault
script_fault attributes name = option_and_then (λ text. result_err (script_in text)) (value_of name attributes)

-- the guards of a node
abbrev pub guards_at : Attributes → Guards
guards_at attributes = record {
  failure_if = script_at attributes (codes "_failureIf");
  success_if = script_at attributes (codes "_successIf");
  skip_if = script_at attributes (codes "_skipIf");
  while_true = script_at attributes (codes "_while");
  on_success = script_at attributes (codes "_onSuccess");
  on_failure = script_at attributes (codes "_onFailure");
  post = script_at attributes (codes "_post");
  on_halted = script_at attributes (codes "_onHalted");
}

-- ---- All together

-- whether each port says something, a node that has a code has it written, and each truth value is one
abbrev pub values_stand : Kind → Form → Rules → Attributes → Bool
values_stand kind form rules attributes =
    list_all is_some (ports_said (has_code kind) rules attributes)
    && ((not (has_code kind) || is_some (value_of (codes "code") attributes))
    && list_all is_some (autoremap_said kind form attributes))

-- The faults of a node, the first first: a port that it may not have, what an old SubTree may not have, a value that may not stand or
-- is missing, and the scripts that can't be read.
abbrev pub faults_of : ℕ → Kind → Form → Rules → Attributes → List BuildFault
faults_of uid kind form rules attributes =
    fault_if (not (all_known (has_code kind) rules attributes)) (UnknownPort uid)
    ++ (fault_if (not (form_fits form attributes)) (OldSubTree uid)
    ++ (fault_if (not (values_stand kind form rules attributes)) (BadLiteral uid)
    ++ map (BadScript uid) (filter_map (script_fault attributes) (script_names (has_code kind)))))

-- what a node has that has no fault
abbrev pub content_of : Kind → Form → Rules → Attributes → Content
content_of kind form rules attributes = record {
  ports = there (ports_said (has_code kind) rules attributes);
  code = if has_code kind then script_at attributes (codes "code") else None;
  guards = guards_at attributes;
  autoremap = list_any (λ said. unwrap_or said false) (autoremap_said kind form attributes);
}

-- what the attributes of a node say that may have these ports
abbrev pub content_by : ℕ → Kind → Form → Rules → Attributes → Result Content BuildFault
content_by uid kind form rules attributes = unless (faults_of uid kind form rules attributes) (content_of kind form rules attributes)

-- what the attributes of a node of this kind, ID and form say
abbrev pub content_in : ℕ → Models → Kind → List ℕ → Form → Attributes → Result Content BuildFault
content_in uid models kind id form attributes = content_by uid kind form (rules_of models kind id) attributes
