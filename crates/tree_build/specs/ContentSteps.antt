-- How what the attributes of a node say is read, step by step. Only clauses of private functions cite this; it is proved to be `Content`.
use Rattle.std.specs.Prelude.{ℕ, List, [], ◌∷◌, ◌++◌, filter, codes, Bool, true, false, not, is_some, ◌||◌, if◌then◌else◌, Option, Some, None, option_map, Result, Ok, Err}
use Rattle.spec_script.specs.declared.fault.ScriptFault.{ScriptFault}
use Rattle.spec_script.specs.declared.syntax.Script.{Script}
use Rattle.std.specs.List.{list_all, list_any}
use Rattle.std.specs.Str.{bytes_eq}
use Rattle.spec_tree.specs.declared.built_ins.Range.{Range}
use Rattle.spec_tree.specs.declared.built_ins.Range.TheVariants.{AnyValue}
use Rattle.spec_tree.specs.declared.term.Guards.{Guards}
use Rattle.spec_tree.specs.declared.term.Kind.{Kind}
use Rattle.spec_tree.specs.declared.term.Kind.TheVariants.{SubTree}
use Rattle.spec_tree.specs.declared.term.Port.{Port}
use Rattle.spec_tree.specs.declared.term.PortValue.{PortValue}
use Rattle.spec_tree.specs.BuiltIns.{PortRule, has_code}
use Rattle.spec_tree.specs.Values.{value_in}
use Rattle.spec_tree_file.specs.declared.models.ModelPort.{ModelPort}
use Rattle.spec_tree_file.specs.Attributes.{Attributes, value_of}
use Rattle.spec_tree_file.specs.ReadSteps.{go_on}
use Rattle.spec_tree_file.specs.declared.content.Content.{Content}
use Rattle.spec_tree_file.specs.declared.build_fault.BuildFault.{BuildFault}
use Rattle.spec_tree_file.specs.declared.build_fault.BuildFault.TheVariants.{UnknownPort, OldSubTree, BadLiteral, BadScript}
use Rattle.spec_tree_file.specs.declared.version.Form.{Form}
use Rattle.spec_tree_file.specs.declared.version.Form.TheVariants as form
use Rattle.spec_tree_file.specs.Content.{Rules, Modelled, BuiltIn, all_known, form_fits, is_absent, is_port, name_fits, range_of, truth_in}
use Rattle.spec_tree_file.specs.FirstFaults.{refused_if}
use Rattle.spec_tree_file.specs.ScriptOf.{script_in}

-- whether a model has a port of this name
abbrev pub is_modelled : List ModelPort → List ℕ → Bool
is_modelled ports name = list_any (λ port. bytes_eq name port.name) ports

-- whether a node has no attribute but an ID and a name
abbrev pub is_bare : Attributes → Bool
is_bare attributes = list_all (λ a. bytes_eq a.0 (codes "ID") || bytes_eq a.0 (codes "name")) attributes

-- ---- The values of the ports

-- what is there, or else a bad literal of the node with this uid
abbrev pub or_bad : {A : Type 0} → ℕ → Option A → Result A BuildFault
or_bad uid (Some x) = Ok x
or_bad uid None = Err (BadLiteral uid)

-- a port of this name and value
abbrev pub port_of : List ℕ → PortValue → Port
port_of name value = record { name = name; value = value }

-- the ports with one of this name and text, if the text may stand there
abbrev pub with_port : ℕ → List Port → Range → List ℕ → List ℕ → Result (List Port) BuildFault
with_port uid ports range name text = or_bad uid (option_map (λ value. ports ++ port_of name value ∷ []) (value_in range name text))

-- the ports with one of this name and text, if the name fits and the node may have it
abbrev pub with_ranged : ℕ → List Port → Bool → Option Range → List ℕ → List ℕ → Result (List Port) BuildFault
with_ranged uid ports true (Some range) name text = with_port uid ports range name text
with_ranged uid ports fits range name text = Err (BadLiteral uid)

-- the ports with that of this attribute, if it is one
abbrev pub with_attribute : ℕ → Bool → Rules → List Port → List ℕ × List ℕ → Result (List Port) BuildFault
with_attribute uid with_code rules ports a =
    if is_port with_code a.0 then with_ranged uid ports (name_fits rules a.0) (range_of rules a.0) a.0 a.1 else Ok ports

-- the ports with those that these attributes write, in their order
abbrev pub with_written : ℕ → Bool → Rules → List Port → Attributes → Result (List Port) BuildFault
with_written uid with_code rules ports [] = Ok ports
with_written uid with_code rules ports (a ∷ more) =
    go_on (λ next. with_written uid with_code rules next more) (with_attribute uid with_code rules ports a)

-- a built-in node's port that is not written has its default; one without a default must be written
abbrev pub with_default : ℕ → List Port → PortRule → Option (List ℕ) → Result (List Port) BuildFault
with_default uid ports rule (Some text) = with_port uid ports rule.range rule.name text
with_default uid ports rule None = Err (BadLiteral uid)

-- a built-in node's port is added where it is not written
abbrev pub with_rule : ℕ → Attributes → List Port → PortRule → Result (List Port) BuildFault
with_rule uid attributes ports rule = if is_some (value_of rule.name attributes) then Ok ports else with_default uid ports rule rule.default

-- those of all its rules, in order
abbrev pub with_rules : ℕ → Attributes → List Port → List PortRule → Result (List Port) BuildFault
with_rules uid attributes ports [] = Ok ports
with_rules uid attributes ports (rule ∷ more) = go_on (λ next. with_rules uid attributes next more) (with_rule uid attributes ports rule)

-- a leaf's port that is not written has the fallback of its model, if there is one
abbrev pub with_fallback : ℕ → List Port → List ℕ → Option (List ℕ) → Result (List Port) BuildFault
with_fallback uid ports name (Some text) = with_port uid ports AnyValue name text
with_fallback uid ports name None = Ok ports

-- a leaf's port is added where it is not written
abbrev pub with_modelled : ℕ → Attributes → List Port → ModelPort → Result (List Port) BuildFault
with_modelled uid attributes ports port =
    if is_some (value_of port.name attributes) then Ok ports else with_fallback uid ports port.name port.fallback

-- those of all ports of its model, in order
abbrev pub with_model : ℕ → Attributes → List Port → List ModelPort → Result (List Port) BuildFault
with_model uid attributes ports [] = Ok ports
with_model uid attributes ports (port ∷ more) = go_on (λ next. with_model uid attributes next more) (with_modelled uid attributes ports port)

-- the ports with these defaults, where they are not written
abbrev pub with_defaults : Attributes → List Port → List Port → List Port
with_defaults attributes ports defaults = ports ++ filter (λ port. is_absent attributes port.name) defaults

-- the ports with those that are not written
abbrev pub with_absent : ℕ → Attributes → Rules → List Port → Result (List Port) BuildFault
with_absent uid attributes (Modelled ports) so_far = with_model uid attributes so_far ports
with_absent uid attributes (BuiltIn rules) so_far = with_rules uid attributes so_far rules
with_absent uid attributes _ so_far = Ok so_far

-- the ports of a node: those that are written, in their order, and then those that are not
abbrev pub ports_in : ℕ → Bool → Rules → Attributes → Result (List Port) BuildFault
ports_in uid with_code rules attributes = go_on (with_absent uid attributes rules) (with_written uid with_code rules [] attributes)

-- ---- The scripts

-- a script, or else a bad script of the node with this uid
abbrev pub or_bad_script : ℕ → Result Script ScriptFault → Result (Option Script) BuildFault
or_bad_script uid (Ok script) = Ok (Some script)
or_bad_script uid (Err fault) = Err (BadScript uid fault)

-- the script of a text, if there is one
abbrev pub script_of : ℕ → Option (List ℕ) → Result (Option Script) BuildFault
script_of uid None = Ok None
script_of uid (Some text) = or_bad_script uid (script_in text)

-- the text of the node's code: a node that has one must have it written
abbrev pub code_text : ℕ → Bool → Attributes → Result (Option (List ℕ)) BuildFault
code_text uid false attributes = Ok None
code_text uid true attributes = or_bad uid (option_map Some (value_of (codes "code") attributes))

-- the guard in the attribute of this name
abbrev pub guard_in : ℕ → Attributes → List ℕ → Result (Option Script) BuildFault
guard_in uid attributes name = script_of uid (value_of name attributes)

-- the eight guards, in the order in which their faults come
abbrev pub guards_in : ℕ → Attributes → Result Guards BuildFault
guards_in uid attributes =
    go_on (λ failure_if.
    go_on (λ success_if.
    go_on (λ skip_if.
    go_on (λ while_true.
    go_on (λ on_success.
    go_on (λ on_failure.
    go_on (λ post.
    go_on (λ on_halted. Ok (record {
      failure_if = failure_if;
      success_if = success_if;
      skip_if = skip_if;
      while_true = while_true;
      on_success = on_success;
      on_failure = on_failure;
      post = post;
      on_halted = on_halted;
    }))
    (guard_in uid attributes (codes "_onHalted")))
    (guard_in uid attributes (codes "_post")))
    (guard_in uid attributes (codes "_onFailure")))
    (guard_in uid attributes (codes "_onSuccess")))
    (guard_in uid attributes (codes "_while")))
    (guard_in uid attributes (codes "_skipIf")))
    (guard_in uid attributes (codes "_successIf")))
    (guard_in uid attributes (codes "_failureIf"))

-- ---- All together

-- the truth value that a text says, and false where there is no text
abbrev pub said_or_false : ℕ → Option (List ℕ) → Result Bool BuildFault
said_or_false uid None = Ok false
said_or_false uid (Some text) = or_bad uid (truth_in text)

-- what a SubTreePlus says by the older name
abbrev pub older_autoremap : ℕ → Form → Attributes → Result Bool BuildFault
older_autoremap uid form.SubTreePlus attributes = said_or_false uid (value_of (codes "__autoremap") attributes)
older_autoremap uid form attributes = Ok false

-- whether all keys of a SubTree node are mapped: either name may say so, and both have to be truth values
abbrev pub autoremap_in : ℕ → Kind → Form → Attributes → Result Bool BuildFault
autoremap_in uid SubTree form attributes =
    go_on (λ now. go_on (λ older. Ok (now || older))
    (older_autoremap uid form attributes))
    (said_or_false uid (value_of (codes "_autoremap") attributes))
autoremap_in uid kind form attributes = Ok false

-- the scripts of a node, whose ports are these
abbrev pub scripts_in : ℕ → List Port → Option (List ℕ) → Bool → Attributes → Result Content BuildFault
scripts_in uid ports text autoremap attributes =
    go_on (λ code. go_on (λ guards. Ok (record { ports = ports; code = code; guards = guards; autoremap = autoremap }))
    (guards_in uid attributes))
    (script_of uid text)

-- the rest of what the attributes of a node say, whose ports are these
abbrev pub rest_in : ℕ → Kind → Form → Attributes → List Port → Result Content BuildFault
rest_in uid kind form attributes ports =
    go_on (λ text. go_on (λ autoremap. scripts_in uid ports text autoremap attributes)
    (autoremap_in uid kind form attributes))
    (code_text uid (has_code kind) attributes)

-- what the attributes of a node say, which may have these ports: unknown ports come first, then what an old SubTree may not have,
-- then values that may not stand, then scripts that can't be read
abbrev pub ruled_in : ℕ → Kind → Form → Rules → Attributes → Result Content BuildFault
ruled_in uid kind form rules attributes =
    refused_if (not (all_known (has_code kind) rules attributes)) (UnknownPort uid)
    (refused_if (not (form_fits form attributes)) (OldSubTree uid)
    (go_on (rest_in uid kind form attributes) (ports_in uid (has_code kind) rules attributes)))
