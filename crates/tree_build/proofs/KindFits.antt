-- What is so of each built-in node.
use Rattle.std.proofs.Common.{◌≡◌, ℕ, Bool, true, false, List, [], ◌∷◌, Option, Some, refl, subst}
use Rattle.std.specs.Prelude.{bytes_eq, if◌then◌else◌}
use Rattle.std.specs.List.{list_all, AllByRecursion}
use Rattle.spec_tree.specs.declared.term.Kind.{Kind}
use Rattle.spec_tree.specs.declared.term.Kind.TheVariants.{Sequence, SequenceWithMemory, ReactiveSequence, Fallback, ReactiveFallback, Parallel, Switch, IfThenElse, WhileDoElse, RecoveryNode, PipelineSequence, RoundRobin, Inverter, ForceSuccess, ForceFailure, KeepRunningUntilFailure, Retry, Repeat, Timeout, Delay, RunOnce, RateController, AlwaysSuccess, AlwaysFailure, ScriptNode, ScriptCondition}
use Rattle.spec_tree.specs.declared.term.Port.{Port}
use Rattle.spec_tree.specs.BuiltIns.{has_code, kind_among, kind_named, named_kinds, ports_of, switch_ports}
use Rattle.spec_tree.specs.Names.{is_among}
use Rattle.spec_tree.specs.Trees.{IdFits, is_one_of, names_of, ports_fit}
use Rattle.spec_tree_file.specs.Models.{Models}
use Rattle.spec_tree_file.specs.Content.{BuiltIn, is_port, rules_of}
use Rattle.tree_build.proofs.PortFits.{both_true, some_same}
use Rattle.tree_build.proofs.PortLists.{Own}
use Rattle.tree_build.proofs.PortTexts.{rules_stand}

-- its ports are its own, can be written, and may be; and its parts are asked of it as of a built-in node
pub record Fine (kind : Kind) : Type 0 where
  pub own : AllByRecursion (Own (ports_of kind)) (ports_of kind)
  pub texts : rules_stand (ports_of kind) ≡ true
  pub written : AllByRecursion (λ rule. is_port (has_code kind) rule.name ≡ true) (ports_of kind)
  pub id : (id : List ℕ) → kind_named id ≡ Some kind → IdFits kind id
  pub rules : (models : Models) (id : List ℕ) → rules_of models kind id ≡ BuiltIn (ports_of kind)
  pub fit : (ports : List Port) → list_all (is_one_of (ports_of kind)) ports ≡ true → list_all (λ rule. is_among rule.name (names_of ports)) (ports_of kind) ≡ true → ports_fit kind ports ≡ true

fine_Sequence : Fine Sequence
unfolding switch_ports
fine_Sequence = record {
  own = tt;
  texts = refl;
  written = tt;
  id = λ id h. h;
  rules = λ models id. refl;
  fit = λ ports a b. both_true (list_all (is_one_of (ports_of Sequence)) ports) (list_all (λ rule. is_among rule.name (names_of ports)) (ports_of Sequence)) a b;
}

fine_SequenceWithMemory : Fine SequenceWithMemory
unfolding switch_ports
fine_SequenceWithMemory = record {
  own = tt;
  texts = refl;
  written = tt;
  id = λ id h. h;
  rules = λ models id. refl;
  fit = λ ports a b. both_true (list_all (is_one_of (ports_of SequenceWithMemory)) ports) (list_all (λ rule. is_among rule.name (names_of ports)) (ports_of SequenceWithMemory)) a b;
}

fine_ReactiveSequence : Fine ReactiveSequence
unfolding switch_ports
fine_ReactiveSequence = record {
  own = tt;
  texts = refl;
  written = tt;
  id = λ id h. h;
  rules = λ models id. refl;
  fit = λ ports a b. both_true (list_all (is_one_of (ports_of ReactiveSequence)) ports) (list_all (λ rule. is_among rule.name (names_of ports)) (ports_of ReactiveSequence)) a b;
}

fine_Fallback : Fine Fallback
unfolding switch_ports
fine_Fallback = record {
  own = tt;
  texts = refl;
  written = tt;
  id = λ id h. h;
  rules = λ models id. refl;
  fit = λ ports a b. both_true (list_all (is_one_of (ports_of Fallback)) ports) (list_all (λ rule. is_among rule.name (names_of ports)) (ports_of Fallback)) a b;
}

fine_ReactiveFallback : Fine ReactiveFallback
unfolding switch_ports
fine_ReactiveFallback = record {
  own = tt;
  texts = refl;
  written = tt;
  id = λ id h. h;
  rules = λ models id. refl;
  fit = λ ports a b. both_true (list_all (is_one_of (ports_of ReactiveFallback)) ports) (list_all (λ rule. is_among rule.name (names_of ports)) (ports_of ReactiveFallback)) a b;
}

fine_Parallel : Fine Parallel
unfolding switch_ports
fine_Parallel = record {
  own = (λ v f. f, (λ v f. f, tt));
  texts = refl;
  written = (refl, (refl, tt));
  id = λ id h. h;
  rules = λ models id. refl;
  fit = λ ports a b. both_true (list_all (is_one_of (ports_of Parallel)) ports) (list_all (λ rule. is_among rule.name (names_of ports)) (ports_of Parallel)) a b;
}

fine_Switch2 : Fine (Switch 2)
unfolding switch_ports
fine_Switch2 = record {
  own = (λ v f. f, (λ v f. f, (λ v f. f, tt)));
  texts = refl;
  written = (refl, (refl, (refl, tt)));
  id = λ id h. h;
  rules = λ models id. refl;
  fit = λ ports a b. both_true (list_all (is_one_of (ports_of (Switch 2))) ports) (list_all (λ rule. is_among rule.name (names_of ports)) (ports_of (Switch 2))) a b;
}

fine_Switch3 : Fine (Switch 3)
unfolding switch_ports
fine_Switch3 = record {
  own = (λ v f. f, (λ v f. f, (λ v f. f, (λ v f. f, tt))));
  texts = refl;
  written = (refl, (refl, (refl, (refl, tt))));
  id = λ id h. h;
  rules = λ models id. refl;
  fit = λ ports a b. both_true (list_all (is_one_of (ports_of (Switch 3))) ports) (list_all (λ rule. is_among rule.name (names_of ports)) (ports_of (Switch 3))) a b;
}

fine_Switch4 : Fine (Switch 4)
unfolding switch_ports
fine_Switch4 = record {
  own = (λ v f. f, (λ v f. f, (λ v f. f, (λ v f. f, (λ v f. f, tt)))));
  texts = refl;
  written = (refl, (refl, (refl, (refl, (refl, tt)))));
  id = λ id h. h;
  rules = λ models id. refl;
  fit = λ ports a b. both_true (list_all (is_one_of (ports_of (Switch 4))) ports) (list_all (λ rule. is_among rule.name (names_of ports)) (ports_of (Switch 4))) a b;
}

fine_Switch5 : Fine (Switch 5)
unfolding switch_ports
fine_Switch5 = record {
  own = (λ v f. f, (λ v f. f, (λ v f. f, (λ v f. f, (λ v f. f, (λ v f. f, tt))))));
  texts = refl;
  written = (refl, (refl, (refl, (refl, (refl, (refl, tt))))));
  id = λ id h. h;
  rules = λ models id. refl;
  fit = λ ports a b. both_true (list_all (is_one_of (ports_of (Switch 5))) ports) (list_all (λ rule. is_among rule.name (names_of ports)) (ports_of (Switch 5))) a b;
}

fine_Switch6 : Fine (Switch 6)
unfolding switch_ports
fine_Switch6 = record {
  own = (λ v f. f, (λ v f. f, (λ v f. f, (λ v f. f, (λ v f. f, (λ v f. f, (λ v f. f, tt)))))));
  texts = refl;
  written = (refl, (refl, (refl, (refl, (refl, (refl, (refl, tt)))))));
  id = λ id h. h;
  rules = λ models id. refl;
  fit = λ ports a b. both_true (list_all (is_one_of (ports_of (Switch 6))) ports) (list_all (λ rule. is_among rule.name (names_of ports)) (ports_of (Switch 6))) a b;
}

fine_IfThenElse : Fine IfThenElse
unfolding switch_ports
fine_IfThenElse = record {
  own = tt;
  texts = refl;
  written = tt;
  id = λ id h. h;
  rules = λ models id. refl;
  fit = λ ports a b. both_true (list_all (is_one_of (ports_of IfThenElse)) ports) (list_all (λ rule. is_among rule.name (names_of ports)) (ports_of IfThenElse)) a b;
}

fine_WhileDoElse : Fine WhileDoElse
unfolding switch_ports
fine_WhileDoElse = record {
  own = tt;
  texts = refl;
  written = tt;
  id = λ id h. h;
  rules = λ models id. refl;
  fit = λ ports a b. both_true (list_all (is_one_of (ports_of WhileDoElse)) ports) (list_all (λ rule. is_among rule.name (names_of ports)) (ports_of WhileDoElse)) a b;
}

fine_RecoveryNode : Fine RecoveryNode
unfolding switch_ports
fine_RecoveryNode = record {
  own = (λ v f. f, tt);
  texts = refl;
  written = (refl, tt);
  id = λ id h. h;
  rules = λ models id. refl;
  fit = λ ports a b. both_true (list_all (is_one_of (ports_of RecoveryNode)) ports) (list_all (λ rule. is_among rule.name (names_of ports)) (ports_of RecoveryNode)) a b;
}

fine_PipelineSequence : Fine PipelineSequence
unfolding switch_ports
fine_PipelineSequence = record {
  own = tt;
  texts = refl;
  written = tt;
  id = λ id h. h;
  rules = λ models id. refl;
  fit = λ ports a b. both_true (list_all (is_one_of (ports_of PipelineSequence)) ports) (list_all (λ rule. is_among rule.name (names_of ports)) (ports_of PipelineSequence)) a b;
}

fine_RoundRobin : Fine RoundRobin
unfolding switch_ports
fine_RoundRobin = record {
  own = tt;
  texts = refl;
  written = tt;
  id = λ id h. h;
  rules = λ models id. refl;
  fit = λ ports a b. both_true (list_all (is_one_of (ports_of RoundRobin)) ports) (list_all (λ rule. is_among rule.name (names_of ports)) (ports_of RoundRobin)) a b;
}

fine_Inverter : Fine Inverter
unfolding switch_ports
fine_Inverter = record {
  own = tt;
  texts = refl;
  written = tt;
  id = λ id h. h;
  rules = λ models id. refl;
  fit = λ ports a b. both_true (list_all (is_one_of (ports_of Inverter)) ports) (list_all (λ rule. is_among rule.name (names_of ports)) (ports_of Inverter)) a b;
}

fine_ForceSuccess : Fine ForceSuccess
unfolding switch_ports
fine_ForceSuccess = record {
  own = tt;
  texts = refl;
  written = tt;
  id = λ id h. h;
  rules = λ models id. refl;
  fit = λ ports a b. both_true (list_all (is_one_of (ports_of ForceSuccess)) ports) (list_all (λ rule. is_among rule.name (names_of ports)) (ports_of ForceSuccess)) a b;
}

fine_ForceFailure : Fine ForceFailure
unfolding switch_ports
fine_ForceFailure = record {
  own = tt;
  texts = refl;
  written = tt;
  id = λ id h. h;
  rules = λ models id. refl;
  fit = λ ports a b. both_true (list_all (is_one_of (ports_of ForceFailure)) ports) (list_all (λ rule. is_among rule.name (names_of ports)) (ports_of ForceFailure)) a b;
}

fine_KeepRunningUntilFailure : Fine KeepRunningUntilFailure
unfolding switch_ports
fine_KeepRunningUntilFailure = record {
  own = tt;
  texts = refl;
  written = tt;
  id = λ id h. h;
  rules = λ models id. refl;
  fit = λ ports a b. both_true (list_all (is_one_of (ports_of KeepRunningUntilFailure)) ports) (list_all (λ rule. is_among rule.name (names_of ports)) (ports_of KeepRunningUntilFailure)) a b;
}

fine_Retry : Fine Retry
unfolding switch_ports
fine_Retry = record {
  own = (λ v f. f, tt);
  texts = refl;
  written = (refl, tt);
  id = λ id h. h;
  rules = λ models id. refl;
  fit = λ ports a b. both_true (list_all (is_one_of (ports_of Retry)) ports) (list_all (λ rule. is_among rule.name (names_of ports)) (ports_of Retry)) a b;
}

fine_Repeat : Fine Repeat
unfolding switch_ports
fine_Repeat = record {
  own = (λ v f. f, tt);
  texts = refl;
  written = (refl, tt);
  id = λ id h. h;
  rules = λ models id. refl;
  fit = λ ports a b. both_true (list_all (is_one_of (ports_of Repeat)) ports) (list_all (λ rule. is_among rule.name (names_of ports)) (ports_of Repeat)) a b;
}

fine_Timeout : Fine Timeout
unfolding switch_ports
fine_Timeout = record {
  own = (λ v f. f, tt);
  texts = refl;
  written = (refl, tt);
  id = λ id h. h;
  rules = λ models id. refl;
  fit = λ ports a b. both_true (list_all (is_one_of (ports_of Timeout)) ports) (list_all (λ rule. is_among rule.name (names_of ports)) (ports_of Timeout)) a b;
}

fine_Delay : Fine Delay
unfolding switch_ports
fine_Delay = record {
  own = (λ v f. f, tt);
  texts = refl;
  written = (refl, tt);
  id = λ id h. h;
  rules = λ models id. refl;
  fit = λ ports a b. both_true (list_all (is_one_of (ports_of Delay)) ports) (list_all (λ rule. is_among rule.name (names_of ports)) (ports_of Delay)) a b;
}

fine_RunOnce : Fine RunOnce
unfolding switch_ports
fine_RunOnce = record {
  own = (λ v f. f, tt);
  texts = refl;
  written = (refl, tt);
  id = λ id h. h;
  rules = λ models id. refl;
  fit = λ ports a b. both_true (list_all (is_one_of (ports_of RunOnce)) ports) (list_all (λ rule. is_among rule.name (names_of ports)) (ports_of RunOnce)) a b;
}

fine_RateController : Fine RateController
unfolding switch_ports
fine_RateController = record {
  own = (λ v f. f, tt);
  texts = refl;
  written = (refl, tt);
  id = λ id h. h;
  rules = λ models id. refl;
  fit = λ ports a b. both_true (list_all (is_one_of (ports_of RateController)) ports) (list_all (λ rule. is_among rule.name (names_of ports)) (ports_of RateController)) a b;
}

fine_AlwaysSuccess : Fine AlwaysSuccess
unfolding switch_ports
fine_AlwaysSuccess = record {
  own = tt;
  texts = refl;
  written = tt;
  id = λ id h. h;
  rules = λ models id. refl;
  fit = λ ports a b. both_true (list_all (is_one_of (ports_of AlwaysSuccess)) ports) (list_all (λ rule. is_among rule.name (names_of ports)) (ports_of AlwaysSuccess)) a b;
}

fine_AlwaysFailure : Fine AlwaysFailure
unfolding switch_ports
fine_AlwaysFailure = record {
  own = tt;
  texts = refl;
  written = tt;
  id = λ id h. h;
  rules = λ models id. refl;
  fit = λ ports a b. both_true (list_all (is_one_of (ports_of AlwaysFailure)) ports) (list_all (λ rule. is_among rule.name (names_of ports)) (ports_of AlwaysFailure)) a b;
}

fine_ScriptNode : Fine ScriptNode
unfolding switch_ports
fine_ScriptNode = record {
  own = tt;
  texts = refl;
  written = tt;
  id = λ id h. h;
  rules = λ models id. refl;
  fit = λ ports a b. both_true (list_all (is_one_of (ports_of ScriptNode)) ports) (list_all (λ rule. is_among rule.name (names_of ports)) (ports_of ScriptNode)) a b;
}

fine_ScriptCondition : Fine ScriptCondition
unfolding switch_ports
fine_ScriptCondition = record {
  own = tt;
  texts = refl;
  written = tt;
  id = λ id h. h;
  rules = λ models id. refl;
  fit = λ ports a b. both_true (list_all (is_one_of (ports_of ScriptCondition)) ports) (list_all (λ rule. is_among rule.name (names_of ports)) (ports_of ScriptCondition)) a b;
}

all_fine : AllByRecursion (λ row. Fine row.1) named_kinds
unfolding named_kinds
all_fine = (fine_Sequence, (fine_SequenceWithMemory, (fine_ReactiveSequence, (fine_Fallback, (fine_ReactiveFallback, (fine_Parallel, (fine_Switch2, (fine_Switch3, (fine_Switch4, (fine_Switch5, (fine_Switch6, (fine_IfThenElse, (fine_WhileDoElse, (fine_RecoveryNode, (fine_PipelineSequence, (fine_RoundRobin, (fine_Inverter, (fine_ForceSuccess, (fine_ForceFailure, (fine_KeepRunningUntilFailure, (fine_Retry, (fine_Repeat, (fine_Timeout, (fine_Delay, (fine_RunOnce, (fine_RateController, (fine_AlwaysSuccess, (fine_AlwaysFailure, (fine_ScriptNode, (fine_ScriptCondition, tt))))))))))))))))))))))))))))))

lift_by : (row rest_row : Kind) (b : Bool) (o : Option Kind) → ◌≡◌ {A = Option Kind} (if b then Some row else o) (Some rest_row) → Fine row → (o ≡ Some rest_row → Fine rest_row) → Fine rest_row
lift_by row k true o h f rest = subst Fine (some_same row k h) f
lift_by row k false o h f rest = rest h

lift : (rows : List (List ℕ × Kind)) → AllByRecursion (λ row. Fine row.1) rows → (name : List ℕ) (k : Kind) → kind_among rows name ≡ Some k → Fine k
lift [] f name k h = absurd (cc)
lift (row ∷ rows) f name k h = lift_by row.1 k (bytes_eq name row.0) (kind_among rows name) h f.0 (λ g. lift rows f.1 name k g)

pub fine : (name : List ℕ) (k : Kind) → kind_named name ≡ Some k → Fine k
fine name k h = lift named_kinds all_fine name k h
