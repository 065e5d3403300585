-- Rules that a file says can be run.
use Rattle.std.proofs.Common.{◌≡◌, ℕ, ◌≤◌, codes, nat_le, Bool, true, false, if◌then◌else◌, List, [], ◌∷◌, Option, Some, None, Result, Ok, Err, refl, ap, subst, arith}
use Rattle.std.specs.Prelude.{IfOk}
use Rattle.std.specs.List.{AllByRecursion}
use Rattle.std.proofs.lemmas.Bool.{leb-true}
use Rattle.std.proofs.lemmas.Option.{same_Some}
use Rattle.serde_json.specs.Data.{Data, Members, no_members, member}
use Rattle.serde_json.specs.Find.{as_number, as_u64, get, get_member}
use Rattle.spec_script.specs.declared.fault.ScriptFault.{ScriptFault}
use Rattle.base_texts.specs.declared.stop.Stop.{Stop}
use Rattle.spec_script.specs.declared.syntax.Script.{Script}
use Rattle.base_texts.specs.Options.{◌>>=◌}
use Rattle.base_texts.specs.Stops.{Gives}
use Rattle.spec_tree.specs.Limits.{longest_duration}
use Rattle.spec_tree_file.specs.ReadSteps.{go_on}
use Rattle.spec_tree_file.specs.ScriptOf.{script_in}
use Rattle.tree_build.proofs.ScriptFits.{own_text, script_in-reads}
use Rattle.tree_build.proofs.Sizes.{went}
use Rattle.spec_tree_file.specs.declared.mock_fault.MockFault.{MockFault}
use Rattle.spec_tree_file.specs.declared.mock_rules.Configuration.{Configuration}
use Rattle.spec_tree_file.specs.declared.mock_rules.ReturnStatus.{ReturnStatus}
use Rattle.spec_tree_file.specs.declared.mock_rules.Rule.{Rule}
use Rattle.spec_tree_file.specs.declared.mock_rules.Rules.{Rules}
use Rattle.tree_mock.specs.FitRules.{ConfigurationFits, RulesFit}
use Rattle.spec_tree_file.specs.RuleFiles.{Draft, both, configuration_in, configured, delay_in, document_in, draft_in, each, members_in, object_in, rule_in, said, status_in, text_in, with_draft, with_script, with_text, within_duration}

same_ok : {A : Type 0} (x y : A) → ◌≡◌ {A = Result A MockFault} (Ok x) (Ok y) → x ≡ y
same_ok x y e = cc

-- ---- The delay

within_by : (b : Bool) (ms n : ℕ) → nat_le ms longest_duration ≡ b → (if b then Some ms else None) ≡ Some n → n ≤ longest_duration
within_by true ms n few e = subst (λ (k : ℕ). k ≤ longest_duration) (same_Some ms n e) (leb-true ms longest_duration few)
within_by false ms n few e = absurd (cc)

counted : (o : Option ℕ) (n : ℕ) → (o >>= within_duration) ≡ Some n → n ≤ longest_duration
counted None n e = absurd (cc)
counted (Some ms) n e = within_by (nat_le ms longest_duration) ms n refl e

delay_fits : (o : Option Data) (ms : ℕ) → said (Some 0) delay_in o ≡ Some ms → ms ≤ longest_duration
delay_fits None ms e = let none : 0 ≡ ms = same_Some 0 ms e in omega (arith, none)
delay_fits (Some d) ms e = counted (as_number d >>= as_u64) ms e

drafted : (status : Option ReturnStatus) (delay : Option ℕ) (text : Option (Option (List ℕ))) (draft : Draft)
    → (status >>= λ s. delay >>= λ ms. text >>= λ t. Some (record { return_status = s; async_delay = ms; post_script = t })) ≡ Some draft → delay ≡ Some draft.async_delay
drafted None delay text draft e = absurd (cc)
drafted (Some s) None text draft e = absurd (cc)
drafted (Some s) (Some ms) None draft e = absurd (cc)
drafted (Some s) (Some ms) (Some t) draft e = ap (λ (d : Draft). Some d.async_delay) (same_Some (record { return_status = s; async_delay = ms; post_script = t }) draft e)

draft_fits : (d : Data) (draft : Draft) → draft_in d ≡ Some draft → draft.async_delay ≤ longest_duration
draft_fits d draft e =
    delay_fits (get (codes "async_delay") d) draft.async_delay
    (drafted (said None status_in (get (codes "return_status") d)) (said (Some 0) delay_in (get (codes "async_delay") d)) (said (Some None) text_in (get (codes "post_script") d)) draft e)

-- ---- A configuration

module _ (name : List ℕ) (draft : Draft) (c : Configuration) (few : draft.async_delay ≤ longest_duration) where
  by_script : (text : List ℕ) (r : Result Script ScriptFault) → script_in text ≡ r → with_script name draft r ≡ Ok c → ConfigurationFits c
  by_script text (Ok s) is e =
      subst ConfigurationFits (same_ok (configured name draft (Some s)) c e) (record { async_delay = few; post_script = own_text text s (script_in-reads text s is) })
  by_script text (Err f) is e = absurd (cc)

  by_text : (o : Option (List ℕ)) → with_text name draft o ≡ Ok c → ConfigurationFits c
  by_text None e = subst ConfigurationFits (same_ok (configured name draft None) c e) (record { async_delay = few; post_script = tt })
  by_text (Some text) e = by_script text (script_in text) refl e

by_draft : (name : List ℕ) (o : Option Draft) (c : Configuration) → ((draft : Draft) → o ≡ Some draft → draft.async_delay ≤ longest_duration) → with_draft name o ≡ Ok c → ConfigurationFits c
by_draft name None c few e = absurd (cc)
by_draft name (Some draft) c few e = by_text name draft c (few draft refl) draft.post_script e

configuration_fits : (name : List ℕ) (d : Data) (c : Configuration) → configuration_in name d ≡ Ok c → ConfigurationFits c
configuration_fits name d c e = by_draft name (draft_in d) c (draft_fits d) e

-- ---- The file

one_more : (r : Result Configuration MockFault) (rs : Result (List Configuration) MockFault) (cs : List Configuration)
    → ((c : Configuration) → r ≡ Ok c → ConfigurationFits c) → ((xs : List Configuration) → rs ≡ Ok xs → AllByRecursion ConfigurationFits xs)
    → go_on (λ first. go_on (λ others. Ok (first ∷ others)) rs) r ≡ Ok cs → AllByRecursion ConfigurationFits cs
one_more (Ok c) (Ok xs) cs one more e = subst (AllByRecursion ConfigurationFits) (same_ok (c ∷ xs) cs e) (one c refl, more xs refl)
one_more (Ok c) (Err f) cs one more e = absurd (cc)
one_more (Err f) rs cs one more e = absurd (cc)

each_fits : (members : Members) (cs : List Configuration) → each configuration_in members ≡ Ok cs → AllByRecursion ConfigurationFits cs
each_fits no_members cs e = subst (AllByRecursion ConfigurationFits) (same_ok [] cs e) tt
each_fits (member name d members) cs e = one_more (configuration_in name d) (each configuration_in members) cs (configuration_fits name d) (each_fits members) e

both_fit : (cs : Result (List Configuration) MockFault) (rs : Result (List Rule) MockFault) (rules : Rules)
    → ((xs : List Configuration) → cs ≡ Ok xs → AllByRecursion ConfigurationFits xs)
    → go_on (λ xs. go_on (λ ys. Ok (record { configurations = xs; rules = ys })) rs) cs ≡ Ok rules → RulesFit rules
both_fit (Ok xs) (Ok ys) rules fit e =
    subst (λ (zs : List Configuration). AllByRecursion ConfigurationFits zs) (ap (λ (r : Rules). r.configurations) (same_ok (record { configurations = xs; rules = ys }) rules e)) (fit xs refl)
both_fit (Ok xs) (Err f) rules fit e = absurd (cc)
both_fit (Err f) rs rules fit e = absurd (cc)

document_fits : (document : Members) (rules : Rules) → document_in document ≡ Ok rules → RulesFit rules
document_fits document rules e =
    let w = went (λ (configurations : Members). go_on (both configurations) (object_in (get_member (codes "SubstitutionRules") document))) (object_in (get_member (codes "TestNodeConfigs") document)) rules e in
    let v = went (both w.0) (object_in (get_member (codes "SubstitutionRules") document)) rules w.2 in
    both_fit (each configuration_in w.0) (each rule_in v.0) rules (each_fits w.0) v.2

pub gives_fit : (r : Result Rules (Stop MockFault)) (document : Members) → Gives r (document_in document) → IfOk r RulesFit
gives_fit (Ok rules) document e = document_fits document rules e
gives_fit (Err stop) document e = tt

pub members_fit : (r : Result Rules (Stop MockFault)) (o : Option Members) → Gives r (go_on document_in (members_in [] o)) → IfOk r RulesFit
members_fit r (Some document) e = gives_fit r document e
members_fit (Ok rules) None e = absurd (cc)
members_fit (Err stop) None e = tt
