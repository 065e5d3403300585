-- How two leaves may meet: by their lowest common ancestor, and the children of it that have them.
use Rattle.std.specs.Prelude.{ℕ, zero, suc, ◌+◌, List, [], ◌∷◌, if◌then◌else◌, nat_lt, sum_by}
use Rattle.spec_tree.specs.declared.term.Kind.{Kind}
use Rattle.spec_tree.specs.declared.term.Kind.TheVariants.{Sequence, SequenceWithMemory, ReactiveSequence, Fallback, ReactiveFallback, Switch, IfThenElse, WhileDoElse, RecoveryNode, RoundRobin}
use Rattle.spec_tree.specs.declared.term.Term.{Term, Term-F, fold-Term}
use Rattle.spec_exclusive.specs.declared.meeting.Meeting.{Meeting}
use Rattle.spec_exclusive.specs.declared.meeting.Meeting.TheVariants.{Never, Handover, Together}

-- How leaves may meet that stand below two children of a node of this kind, of which the earlier one has this place. Some
-- nodes have ended, or have reset, each other child where they visit one. A reactive node visits its earlier children while
-- a later one is RUNNING, and resets that one in the same visit. A WhileDoElse leaves its branch as it is while it visits the
-- condition, and resets the other branch before it visits one. Parallel and PipelineSequence leave children RUNNING while
-- they visit others; and a node with one child has no two
abbrev pub meeting_at : Kind → ℕ → Meeting
meeting_at Sequence earlier = Never
meeting_at SequenceWithMemory earlier = Never
meeting_at Fallback earlier = Never
meeting_at (Switch cases) earlier = Never
meeting_at IfThenElse earlier = Never
meeting_at RecoveryNode earlier = Never
meeting_at RoundRobin earlier = Never
meeting_at ReactiveSequence earlier = Handover
meeting_at ReactiveFallback earlier = Handover
meeting_at WhileDoElse (suc branch) = Never
meeting_at _ earlier = Together

-- what is known of a term: how many nodes it has; and how two of its nodes may meet, the earlier and the later one by their
-- uids, where its first node has this uid
pub record Meetings : Type 0 where
  pub size : ℕ
  pub meeting : ℕ → ℕ → ℕ → Meeting

-- how two nodes may meet that stand below some children of a node of this kind, of which the first has this place and this
-- uid: both below one child, or the earlier below one and the later below another
abbrev pub meeting_below : Kind → ℕ → ℕ → List Meetings → ℕ → ℕ → Meeting
meeting_below kind place uid [] earlier later = Together
meeting_below kind place uid (child ∷ children) earlier later =
    if nat_lt later (uid + child.size) then child.meeting uid earlier later
    else if nat_lt earlier (uid + child.size) then meeting_at kind place
    else meeting_below kind (place + 1) (uid + child.size) children earlier later

-- what is known of a node above what is known of its children; a node and one below it may meet
abbrev pub meetings_of_node : Term-F Meetings → Meetings
meetings_of_node node = record {
  size = 1 + sum_by (λ (child : Meetings). child.size) node.children;
  meeting = λ uid earlier later. if nat_lt uid earlier then meeting_below node.kind 0 (uid + 1) node.children earlier later else Together;
}

-- what is known of a term
abbrev pub meetings : Term → Meetings
meetings = fold-Term Meetings meetings_of_node
