-- The rules that a JSON text says, or its first fault.
use Rattle.std.specs.Prelude.{ℕ, List, [], ◌∷◌, codes, nat_le, if◌then◌else◌, Option, Some, None, option_map, Result, Ok, Err}
use Rattle.std.specs.Str.{bytes_eq, is_utf8}
use Rattle.serde_json.specs.Data.{Data, Members, no_members, member}
use Rattle.serde_json.specs.Find.{as_number, as_object, as_str, as_u64, get, get_member}
use Rattle.serde_json.specs.Read.{read}
use Rattle.spec_script.specs.declared.fault.ScriptFault.{ScriptFault}
use Rattle.spec_script.specs.declared.syntax.Script.{Script}
use Rattle.base_texts.specs.Options.{◌>>=◌}
use Rattle.spec_tree.specs.Limits.{longest_duration}
use Rattle.spec_tree_file.specs.ReadSteps.{go_on}
use Rattle.spec_tree_file.specs.ScriptOf.{script_in}
use Rattle.spec_tree_file.specs.declared.mock_fault.MockFault.{MockFault}
use Rattle.spec_tree_file.specs.declared.mock_fault.MockFault.TheVariants.{Json, Form, BadScript}
use Rattle.spec_tree_file.specs.declared.mock_rules.Configuration.{Configuration}
use Rattle.spec_tree_file.specs.declared.mock_rules.ReturnStatus.{ReturnStatus}
use Rattle.spec_tree_file.specs.declared.mock_rules.ReturnStatus.TheVariants.{Success, Failure}
use Rattle.spec_tree_file.specs.declared.mock_rules.Rule.{Rule}
use Rattle.spec_tree_file.specs.declared.mock_rules.Rules.{Rules}

-- The value of a JSON text, nested to at most 127. Its objects have their members by the bytes of the members' names, and of
-- several members of one name the last.
abbrev pub json_of : List ℕ → Option Data
json_of bytes = if is_utf8 bytes then read bytes else None

-- the members of an object; any other value has not the form, which is told by this name
abbrev pub members_in : List ℕ → Option Members → Result Members MockFault
members_in name None = Err (Form name)
members_in name (Some members) = Ok members

-- ---- A configuration

-- what a member that may be left out says; this where it is
abbrev pub said : {A : Type 0} → Option A → (Data → Option A) → Option Data → Option A
said other value None = other
said other value (Some d) = value d

-- `return_status`: one of two texts
abbrev pub status_named : List ℕ → Option ReturnStatus
status_named text =
    if bytes_eq text (codes "SUCCESS") then Some Success
    else (if bytes_eq text (codes "FAILURE") then Some Failure else None)

abbrev pub status_in : Data → Option ReturnStatus
status_in d = as_str d >>= status_named

-- `async_delay`: a number of milliseconds, written in digits alone
abbrev pub within_duration : ℕ → Option ℕ
within_duration ms = if nat_le ms longest_duration then Some ms else None

abbrev pub delay_in : Data → Option ℕ
delay_in d = as_number d >>= as_u64 >>= within_duration

-- `post_script`: the text of a script
abbrev pub text_in : Data → Option (Option (List ℕ))
text_in d = option_map Some (as_str d)

-- what a configuration says, before its script is read
pub record Draft : Type 0 where
  pub return_status : ReturnStatus
  pub async_delay : ℕ
  pub post_script : Option (List ℕ)

-- what a value says as a configuration, where it has the form of one. What is no object has no members.
abbrev pub draft_in : Data → Option Draft
draft_in d =
    said None status_in (get (codes "return_status") d) >>= λ status.
    said (Some 0) delay_in (get (codes "async_delay") d) >>= λ delay.
    said (Some None) text_in (get (codes "post_script") d) >>= λ text.
    Some (record { return_status = status; async_delay = delay; post_script = text })

-- the configuration of a name that a draft says, where its script is read
abbrev pub configured : List ℕ → Draft → Option Script → Configuration
configured name draft script = record { name = name; return_status = draft.return_status; async_delay = draft.async_delay; post_script = script }

abbrev pub with_script : List ℕ → Draft → Result Script ScriptFault → Result Configuration MockFault
with_script name draft (Ok script) = Ok (configured name draft (Some script))
with_script name draft (Err fault) = Err (BadScript name fault)

abbrev pub with_text : List ℕ → Draft → Option (List ℕ) → Result Configuration MockFault
with_text name draft None = Ok (configured name draft None)
with_text name draft (Some text) = with_script name draft (script_in text)

abbrev pub with_draft : List ℕ → Option Draft → Result Configuration MockFault
with_draft name None = Err (Form name)
with_draft name (Some draft) = with_text name draft draft.post_script

-- the configuration of a member, its name and its value
abbrev pub configuration_in : List ℕ → Data → Result Configuration MockFault
configuration_in name d = with_draft name (draft_in d)

-- ---- A rule

abbrev pub with_replacement : List ℕ → Option (List ℕ) → Result Rule MockFault
with_replacement pattern None = Err (Form pattern)
with_replacement pattern (Some text) = Ok (record { pattern = pattern; replacement = text })

-- the rule of a member, its pattern and its value
abbrev pub rule_in : List ℕ → Data → Result Rule MockFault
rule_in pattern d = with_replacement pattern (as_str d)

-- ---- The file

-- what each of some members says, in their order, or the first fault
abbrev pub each : {A : Type 0} → (List ℕ → Data → Result A MockFault) → Members → Result (List A) MockFault
each one no_members = Ok []
each one (member name d members) = go_on (λ first. go_on (λ others. Ok (first ∷ others)) (each one members)) (one name d)

-- the members of a member that may be left out, and is an object
abbrev pub object_in : Option Data → Result Members MockFault
object_in None = Ok no_members
object_in (Some d) = members_in [] (as_object d)

-- what the two members say: all configurations before all rules
abbrev pub both : Members → Members → Result Rules MockFault
both configurations rules =
    go_on (λ cs. go_on (λ rs. Ok (record { configurations = cs; rules = rs })) (each rule_in rules)) (each configuration_in configurations)

-- what a document says
abbrev pub document_in : Members → Result Rules MockFault
document_in document =
    go_on (λ configurations. go_on (both configurations) (object_in (get_member (codes "SubstitutionRules") document)))
    (object_in (get_member (codes "TestNodeConfigs") document))

-- the value of a text, where it is a JSON text
abbrev pub value_of : Option Data → Result Data MockFault
value_of None = Err Json
value_of (Some d) = Ok d

-- the rules of a text
abbrev pub rules_in : List ℕ → Result Rules MockFault
rules_in bytes = go_on (λ d. go_on document_in (members_in [] (as_object d))) (value_of (json_of bytes))
