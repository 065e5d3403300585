-- The marks of children, from one child to the next.
use Rattle.std.proofs.Common.{◌≡◌, ℕ, ◌+◌, ◌<◌, List, [], ◌∷◌, ◌++◌, length, map, sum, drop, append-nil, Bool, ◌&&◌, sym, ap, ◌∙◌, arith}
use Rattle.std.proofs.lemmas.List.{append_assoc, drop_more}
use Rattle.std.proofs.lemmas.List.Sums.{sum_by-cons}
use Rattle.std.proofs.Math.ListN.{get_or}
use Rattle.std.proofs.Math.Seq.{get_or-append_seam}
use Rattle.spec_run.specs.declared.status.Answer.TheVariants.{Skipped}
use Rattle.spec_tree.specs.declared.term.Kind.{Kind}
use Rattle.spec_tree.specs.declared.term.Port.{Port}
use Rattle.spec_tree.specs.declared.term.Term.{Term, out-Term, fold_out-Term}
use Rattle.spec_tree.specs.Terms.{node_count}
use Rattle.spec_dead.specs.declared.answers.Answers.{Answers}
use Rattle.spec_dead.specs.declared.guarding.Guarding.{Guarding}
use Rattle.spec_dead.specs.Answers.{only}
use Rattle.spec_dead.specs.Dead.{Outlook, answers_of, marks_below, outlook, outlook_of_node}
use Rattle.spec_dead.specs.Guards.{answers_after, before_rule}
use Rattle.spec_dead.specs.Reached.{all_before, answers_at, reaches}
use Rattle.spec_dead.specs.Rules.{rule_answers}
use Rattle.tree_dead.specs.Steps.{lets_on}
use Rattle.tree_dead.proofs.Passing.{all_before_next}

-- the terms from one on
pub terms_here : (ts : List Term) (i : ℕ) (t : Term) → i < length ts → t ≡ get_or ts i t → drop i ts ≡ t ∷ drop (i + 1) ts
terms_here ts i t within is = drop_more ts i t within ∙ ap (λ (x : Term). x ∷ drop (i + 1) ts) (sym is)

-- what some terms may answer
abbrev pub all_answers : List Term → List Answers
all_answers ts = answers_of (map outlook ts)

-- a list, and one more before others
one_more : {A : Type 0} (xs ys rest all : List A) (x : A) → ys ≡ xs ++ (x ∷ []) → xs ++ (x ∷ rest) ≡ all → ys ++ rest ≡ all
one_more xs ys rest all x is whole = ap (λ zs. zs ++ rest) is ∙ append_assoc xs (x ∷ []) rest ∙ whole

pub heard_more : (heard heard1 all : List Answers) (a : Answers) (t : Term) (ts rest : List Term) → ts ≡ t ∷ rest → a ≡ (outlook t).answers → heard1 ≡ heard ++ (a ∷ []) →
    heard ++ all_answers ts ≡ all → heard1 ++ all_answers rest ≡ all
heard_more heard heard1 all a t ts rest here is more known =
    one_more heard heard1 (all_answers rest) all a more
    (ap (λ (x : Answers). heard ++ (x ∷ all_answers rest)) is ∙ ap (λ (xs : List Term). heard ++ all_answers xs) (sym here) ∙ known)

-- what the child after those that were heard may answer
pub heard_here : (heard all : List Answers) (t : Term) (ts rest : List Term) (place : ℕ) → ts ≡ t ∷ rest → length heard ≡ place → heard ++ all_answers ts ≡ all → answers_at all place ≡ (outlook t).answers
heard_here heard all t ts rest place here many known =
    ap (λ (k : ℕ). answers_at all k) (sym many)
    ∙ ap (λ (xs : List Answers). answers_at xs (length heard)) (sym (ap (λ (xs : List Term). heard ++ all_answers xs) (sym here) ∙ known))
    ∙ get_or-append_seam heard (outlook t).answers (all_answers rest) (only Skipped)

pub passes_more : (holds : Answers → Bool) (all : List Answers) (place : ℕ) (passes passes1 : Bool) (a b : Answers) → answers_at all place ≡ b → a ≡ b → passes ≡ all_before holds all place → passes1 ≡ (passes && holds a) → passes1 ≡ all_before holds all (place + 1)
passes_more holds all place passes passes1 a b here is known next =
    next ∙ ap (λ (p : Bool). p && holds a) known ∙ ap (λ (x : Answers). all_before holds all place && holds x) (is ∙ sym here) ∙ sym (all_before_next holds all place)

pub marks_more : (visits : ℕ → Bool) (place : ℕ) (marks marks1 all : List Bool) (comes : Bool) (t : Term) (ts rest : List Term) → ts ≡ t ∷ rest → comes ≡ visits place →
    marks1 ≡ marks ++ (outlook t).marks comes → marks ++ marks_below visits place (map outlook ts) ≡ all → marks1 ++ marks_below visits (place + 1) (map outlook rest) ≡ all
marks_more visits place marks marks1 all comes t ts rest here is more known =
    ap (λ (ms : List Bool). ms ++ marks_below visits (place + 1) (map outlook rest)) (more ∙ ap (λ (b : Bool). marks ++ (outlook t).marks b) is)
    ∙ append_assoc marks ((outlook t).marks (visits place)) (marks_below visits (place + 1) (map outlook rest))
    ∙ ap (λ (xs : List Term). marks ++ marks_below visits place (map outlook xs)) (sym here) ∙ known

pub count_more : (n n1 all : ℕ) (t : Term) (ts rest : List Term) → ts ≡ t ∷ rest → n1 ≡ n + node_count t → n + sum (map node_count ts) ≡ all → n1 + sum (map node_count rest) ≡ all
count_more n n1 all t ts rest here more known =
    let parts : sum (map node_count (t ∷ rest)) ≡ node_count t + sum (map node_count rest) = sum_by-cons (λ (k : ℕ). k) (node_count t) (map node_count rest) in
    let whole : sum (map node_count ts) ≡ sum (map node_count (t ∷ rest)) = ap (λ (xs : List Term). sum (map node_count xs)) here in
    omega (arith, parts, whole, more, known)

-- ---- The node

pub marks_of_node : (t : Term) (reached : Bool) (ts : List Term) → ts ≡ (out-Term t).children →
    (outlook t).marks reached ≡ reached ∷ marks_below (λ place. reached && (before_rule (out-Term t).guards).goes_on && reaches (out-Term t).kind (out-Term t).ports (all_answers ts) place) 0 (map outlook ts)
marks_of_node t reached ts is =
    ap (λ (o : Outlook). o.marks reached) (fold_out-Term Outlook outlook_of_node t)
    ∙ ap (λ (xs : List Term). reached ∷ marks_below (λ place. reached && (before_rule (out-Term t).guards).goes_on && reaches (out-Term t).kind (out-Term t).ports (all_answers xs) place) 0 (map outlook xs)) (sym is)

pub answers_of_node : (t : Term) (ts : List Term) → ts ≡ (out-Term t).children →
    (outlook t).answers ≡ answers_after (before_rule (out-Term t).guards) (rule_answers (out-Term t).kind (out-Term t).ports (all_answers ts))
answers_of_node t ts is =
    ap (λ (o : Outlook). o.answers) (fold_out-Term Outlook outlook_of_node t)
    ∙ ap (λ (xs : List Term). answers_after (before_rule (out-Term t).guards) (rule_answers (out-Term t).kind (out-Term t).ports (all_answers xs))) (sym is)

pub marks_begin : (t : Term) (reached : Bool) (old marks : List Bool) (ts : List Term) → ts ≡ (out-Term t).children → marks ≡ old ++ (reached ∷ []) →
    marks ++ marks_below (λ place. reached && (before_rule (out-Term t).guards).goes_on && reaches (out-Term t).kind (out-Term t).ports (all_answers ts) place) 0 (map outlook ts) ≡ old ++ (outlook t).marks reached
marks_begin t reached old marks ts is pushed =
    one_more old marks (marks_below (λ place. reached && (before_rule (out-Term t).guards).goes_on && reaches (out-Term t).kind (out-Term t).ports (all_answers ts) place) 0 (map outlook ts)) (old ++ (outlook t).marks reached) reached pushed
    (ap (λ (ms : List Bool). old ++ ms) (sym (marks_of_node t reached ts is)))

pub count_of_node : (t : Term) (ts : List Term) → ts ≡ (out-Term t).children → node_count t ≡ 1 + sum (map node_count ts)
count_of_node t ts is = fold_out-Term ℕ (λ node. 1 + sum node.children) t ∙ ap (λ (xs : List Term). 1 + sum (map node_count xs)) (sym is)

-- ---- What the code found out

-- a child that comes after those that were heard may be visited by the rule
pub rule_here : (kind : Kind) (own ports : List Port) (heard view later all : List Answers) (place : ℕ) (passes found : Bool) → own ≡ ports → view ≡ heard → length heard ≡ place → heard ++ later ≡ all →
    passes ≡ all_before (lets_on kind) all place → (passes ≡ all_before (lets_on kind) (view ++ later) (length view) → found ≡ reaches kind own (view ++ later) (length view)) → found ≡ reaches kind ports all place
rule_here kind own ports heard view later all place passes found is same many known passing finds =
    let whole : view ++ later ≡ all = ap (λ (xs : List Answers). xs ++ later) same ∙ known in
    let number : length view ≡ place = ap length same ∙ many in
    finds (passing ∙ sym (λ i. all_before (lets_on kind) (whole i) (number i))) ∙ (λ i. reaches kind (is i) (whole i) (number i))

pub comes_here : (before before1 : Guarding) (reached by_rule by_rule1 comes : Bool) → before ≡ before1 → by_rule ≡ by_rule1 → comes ≡ (reached && before.goes_on && by_rule) → comes ≡ (reached && before1.goes_on && by_rule1)
comes_here before before1 reached by_rule by_rule1 comes same rule is = is ∙ (λ i. reached && (same i).goes_on && rule i)

pub node_end : (t : Term) (ts : List Term) (before : Guarding) (ports : List Port) (heard view : List Answers) (rule answers : Answers) → ts ≡ (out-Term t).children → before ≡ before_rule (out-Term t).guards → ports ≡ (out-Term t).ports →
    view ≡ heard → heard ++ [] ≡ all_answers ts → rule ≡ rule_answers (out-Term t).kind ports view → answers ≡ answers_after before rule → answers ≡ (outlook t).answers
node_end t ts before ports heard view rule answers is same own seen known by_rule is_answers =
    let all : view ≡ all_answers ts = seen ∙ sym (append-nil heard) ∙ known in
    is_answers ∙ (λ i. answers_after (same i) (by_rule i)) ∙ (λ i. answers_after (before_rule (out-Term t).guards) (rule_answers (out-Term t).kind (own i) (all i))) ∙ sym (answers_of_node t ts is)
