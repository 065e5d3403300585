-- What is said without a fault is said whatever the uid of the node.
use Rattle.std.proofs.Common.{◌≡◌, ℕ, Bool, true, false, List, [], ◌∷◌, ◌++◌, map, Ok}
use Rattle.spec_script.specs.declared.fault.ScriptFault.{ScriptFault}
use Rattle.spec_tree.specs.declared.term.Kind.{Kind}
use Rattle.spec_tree.specs.BuiltIns.{has_code}
use Rattle.spec_tree_file.specs.Attributes.{Attributes}
use Rattle.spec_tree_file.specs.Models.{Models}
use Rattle.spec_tree_file.specs.declared.content.Content.{Content}
use Rattle.spec_tree_file.specs.declared.build_fault.BuildFault.TheVariants.{UnknownPort, OldSubTree, BadLiteral, BadScript}
use Rattle.spec_tree_file.specs.declared.version.Form.{Form}
use Rattle.spec_tree_file.specs.Content.{all_known, content_in, content_of, form_fits, rules_of, script_fault, script_names, values_stand}
use Rattle.spec_tree_file.specs.FirstFaults.{fault_if, unless}
use Rattle.std.specs.Prelude.{filter_map, not}

unfaulted : (a b c : Bool) (faults : List ScriptFault) (x y : Content) (uid : ℕ) →
    unless (fault_if a (UnknownPort 0) ++ (fault_if b (OldSubTree 0) ++ (fault_if c (BadLiteral 0) ++ map (BadScript 0) faults))) x ≡ Ok y →
    unless (fault_if a (UnknownPort uid) ++ (fault_if b (OldSubTree uid) ++ (fault_if c (BadLiteral uid) ++ map (BadScript uid) faults))) x ≡ Ok y
unfaulted true b c faults x y uid h = absurd (cc)
unfaulted false true c faults x y uid h = absurd (cc)
unfaulted false false true faults x y uid h = absurd (cc)
unfaulted false false false (f ∷ faults) x y uid h = absurd (cc)
unfaulted false false false [] x y uid h = h

pub any_uid : (models : Models) (kind : Kind) (id : List ℕ) (form : Form) (attributes : Attributes) (y : Content) (uid : ℕ) →
    content_in 0 models kind id form attributes ≡ Ok y → content_in uid models kind id form attributes ≡ Ok y
any_uid models kind id form attributes y uid h =
    let rules = rules_of models kind id in
    unfaulted (not (all_known (has_code kind) rules attributes)) (not (form_fits form attributes)) (not (values_stand kind form rules attributes))
    (filter_map (script_fault attributes) (script_names (has_code kind))) (content_of kind form rules attributes) y uid h
