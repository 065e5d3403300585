-- The names that are no leaf's: those of the built-in nodes, and those that tree files keep for themselves.
use Rattle.std.specs.Prelude.{ℕ, List, [], ◌∷◌, Bool, ◌||◌, codes}
use Rattle.std.specs.List.{list_any}
use Rattle.std.specs.Str.{bytes_eq}

-- the names of the built-in nodes
abbrev pub built_in_names : List (List ℕ)
built_in_names =
    codes "Sequence" ∷ codes "SequenceWithMemory" ∷ codes "ReactiveSequence" ∷ codes "Fallback"
    ∷ codes "ReactiveFallback" ∷ codes "Parallel" ∷ codes "Switch2" ∷ codes "Switch3" ∷ codes "Switch4"
    ∷ codes "Switch5" ∷ codes "Switch6" ∷ codes "IfThenElse" ∷ codes "WhileDoElse" ∷ codes "RecoveryNode"
    ∷ codes "PipelineSequence" ∷ codes "RoundRobin" ∷ codes "Inverter"
    ∷ codes "ForceSuccess" ∷ codes "ForceFailure" ∷ codes "KeepRunningUntilFailure"
    ∷ codes "RetryUntilSuccessful" ∷ codes "Repeat" ∷ codes "Timeout" ∷ codes "Delay" ∷ codes "RunOnce"
    ∷ codes "RateController"
    ∷ codes "AlwaysSuccess" ∷ codes "AlwaysFailure" ∷ codes "Script" ∷ codes "ScriptCondition" ∷ []

-- the names that the file format keeps for itself
abbrev pub format_names : List (List ℕ)
format_names =
    codes "Action" ∷ codes "Condition" ∷ codes "Control" ∷ codes "Decorator" ∷ codes "SubTree"
    ∷ codes "BehaviorTree" ∷ codes "TreeNodesModel" ∷ codes "root" ∷ []

-- whether a name is one of these
abbrev pub is_among : List ℕ → List (List ℕ) → Bool
is_among name names = list_any (λ n. bytes_eq name n) names

-- whether a name is no leaf's
abbrev pub is_reserved : List ℕ → Bool
is_reserved name = is_among name built_in_names || is_among name format_names
