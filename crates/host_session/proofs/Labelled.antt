-- What is told of the nodes of a term, one after another.
use Rattle.std.proofs.Common.{◌≡◌, ℕ, suc, ◌+◌, ◌<◌, List, [], ◌∷◌, ◌++◌, length, map, sum, drop, get_or, refl, sym, ap, subst, ◌∙◌, append_assoc, arith}
use Rattle.std.proofs.lemmas.List.{drop_more}
use Rattle.std.proofs.lemmas.List.Sums.{sum_by-cons}
use Rattle.std.proofs.Math.ListN.{length-append}
use Rattle.spec_tree.specs.declared.term.Term.{Term, Term-F, fold_out-Term, fold-roll-Term, ind-Term, out-Term, roll-Term}
use Rattle.spec_tree.specs.Terms.{node_count}
use Rattle.spec_tree.specs.Boards.{children_scope_number}
use Rattle.spec_tree_file.specs.Substitutions.{inside}
use Rattle.spec_session.specs.declared.label.Label.{Label}
use Rattle.spec_session.specs.Labels.{label_of, labels_all, labels_from, labels_step}

-- the label of a node goes before those of its children
pub first_labels : (before after : List Label) (label : Label) (t : Term) (children : List Term) (uid scope inner : ℕ) (above below : List ℕ) →
    after ≡ before ++ label ∷ [] → label ≡ label_of (out-Term t) scope above → children ≡ (out-Term t).children → uid ≡ length before + 1 →
    inner ≡ children_scope_number (out-Term t).kind uid scope → below ≡ inside (out-Term t).kind (out-Term t).name above →
    after ++ labels_all (map labels_from children) (length after + 1) inner below ≡ before ++ labels_from t (length before + 1) scope above
first_labels before after label t children uid scope inner above below made is same at within deeper =
    let node = out-Term t in
    let all : List Term → ℕ → ℕ → List ℕ → List Label = λ ts. labels_all (map labels_from ts) in
    let next : length (before ++ label ∷ []) + 1 ≡ (length before + 1) + 1 = omega (arith, length-append before (label ∷ [])) in
    ap (λ (ls : List Label). ls ++ all children (length ls + 1) inner below) made
    ∙ (ap (λ (n : ℕ). (before ++ label ∷ []) ++ all children n inner below) next
    ∙ (append_assoc before (label ∷ []) (all children ((length before + 1) + 1) inner below)
    ∙ (ap (λ (l : Label). before ++ l ∷ all children ((length before + 1) + 1) inner below) is
    ∙ (ap (λ (ts : List Term). before ++ label_of node scope above ∷ all ts ((length before + 1) + 1) inner below) same
    ∙ (ap (λ (n : ℕ). before ++ label_of node scope above ∷ all node.children ((length before + 1) + 1) n below) (within ∙ ap (λ (u : ℕ). children_scope_number node.kind u scope) at)
    ∙ (ap (λ (path : List ℕ). before ++ label_of node scope above ∷ all node.children ((length before + 1) + 1) (children_scope_number node.kind (length before + 1) scope) path) deeper
    ∙ sym (ap (λ (f : ℕ → ℕ → List ℕ → List Label). before ++ f (length before + 1) scope above) (fold_out-Term (ℕ → ℕ → List ℕ → List Label) labels_step t))))))))

-- the labels of the child at a place go before those of the ones behind it
pub next_labels : (before after : List Label) (children : List Term) (i : ℕ) (child : Term) (scope : ℕ) (above : List ℕ) → i < length children →
    child ≡ get_or children i child → after ≡ before ++ labels_from child (length before + 1) scope above →
    after ++ labels_all (map labels_from (drop (i + 1) children)) (length after + 1) scope above
    ≡ before ++ labels_all (map labels_from (drop i children)) (length before + 1) scope above
next_labels before after children i child scope above there is made =
    let mine : List Label = labels_from child (length before + 1) scope above in
    let rest : ℕ → List Label = λ uid. labels_all (map labels_from (drop (i + 1) children)) uid scope above in
    let uid : length (before ++ mine) + 1 ≡ (length before + 1) + length mine = omega (arith, length-append before mine) in
    ap (λ (all : List Label). all ++ rest (length all + 1)) made
    ∙ ap (λ (n : ℕ). (before ++ mine) ++ rest n) uid
    ∙ append_assoc before mine (rest ((length before + 1) + length mine))
    ∙ sym (ap (λ (ts : List Term). before ++ labels_all (map labels_from ts) (length before + 1) scope above)
    (drop_more children i child there ∙ ap (λ (t : Term). t ∷ drop (i + 1) children) (sym is)))

-- ---- As many labels as nodes

abbrev AreCounted : Term → Type 0
AreCounted t = (uid scope : ℕ) (above : List ℕ) → length (labels_from t uid scope above) ≡ node_count t

all_counted : (ts : List ((t : Term) × AreCounted t)) (uid scope : ℕ) (above : List ℕ) →
    length (labels_all (map labels_from (map (λ e. e.0) ts)) uid scope above) ≡ sum (map node_count (map (λ e. e.0) ts))
all_counted [] uid scope above = refl
all_counted (e ∷ ts) uid scope above =
    let first = labels_from e.0 uid scope above in
    let rest = map (λ x. x.0) ts in
    let mine : length first ≡ node_count e.0 = e.1 uid scope above in
    let others : length (labels_all (map labels_from rest) (uid + length first) scope above) ≡ sum (map node_count rest) = all_counted ts (uid + length first) scope above in
    omega (arith, length-append first (labels_all (map labels_from rest) (uid + length first) scope above), sum_by-cons (λ (k : ℕ). k) (node_count e.0) (map node_count rest))

-- each node has a label
pub labels_counted : (t : Term) (uid scope : ℕ) (above : List ℕ) → length (labels_from t uid scope above) ≡ node_count t
labels_counted = ind-Term AreCounted (λ x y is uid scope above.
    let inner = children_scope_number x.kind uid scope in
    let path = inside x.kind x.name above in
    let below : length (labels_all (map labels_from x.children) (uid + 1) inner path) ≡ sum (map node_count x.children) =
    subst (λ (z : Term-F Term). length (labels_all (map labels_from z.children) (uid + 1) inner path) ≡ sum (map node_count z.children)) is (all_counted y.children (uid + 1) inner path) in
    let whole : length (labels_from (roll-Term x) uid scope above) ≡ suc (length (labels_all (map labels_from x.children) (uid + 1) inner path)) =
    ap (λ (f : ℕ → ℕ → List ℕ → List Label). length (f uid scope above)) (fold-roll-Term (ℕ → ℕ → List ℕ → List Label) labels_step x) in
    let count : node_count (roll-Term x) ≡ 1 + sum (map node_count x.children) = fold-roll-Term ℕ (λ (node : Term-F ℕ). 1 + sum node.children) x in
    omega arith)
