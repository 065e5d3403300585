-- Going through the nodes of a term: how many they are, and what they name.
use Rattle.std.proofs.Common.{◌≡◌, ℕ, ◌+◌, ◌<◌, List, [], ◌∷◌, ◌++◌, map, sum, length, drop, get_or, length-append, append-nil, if◌then◌else◌, refl, sym, ap, subst, ◌∙◌, arith}
use Rattle.std.proofs.lemmas.Grind.{flat_map-append}
use Rattle.std.proofs.lemmas.List.{drop_more}
use Rattle.std.proofs.lemmas.List.Sums.{sum_by-cons}
use Rattle.std.specs.List.{flat_map}
use Rattle.spec_tree.specs.declared.cell.Naming.{Naming}
use Rattle.spec_tree.specs.declared.term.Kind.{Kind}
use Rattle.spec_tree.specs.declared.term.Kind.TheVariants.{SubTree}
use Rattle.spec_tree.specs.declared.term.Term.{Term, Term-F, ind-Term, fold-roll-Term, fold_out-Term, out-Term}
use Rattle.spec_tree.specs.Boards.{Scope, Standing, standing_step, standing_from, standing_all, literal_names, namings_at, named_in, scope_below, children_scope, children_scope_number, scripts_of, makes_scope}
use Rattle.spec_tree.specs.Terms.{node_count}
use Rattle.tree_board.specs.Namings.{namings_of_term, namings_of_terms, keys_of_node}

abbrev Walk : Type 0
Walk = ℕ → ℕ → Scope → List Standing

abbrev IsCounted : Term → Type 0
IsCounted t = (uid number : ℕ) (scope : Scope) → length (standing_from t uid number scope) ≡ node_count t

all_counted : (ts : List ((t : Term) × IsCounted t)) (uid number : ℕ) (scope : Scope)
    → length (standing_all (map standing_from (map (λ e. e.0) ts)) uid number scope) ≡ sum (map node_count (map (λ e. e.0) ts))
all_counted [] uid number scope = refl
all_counted (e ∷ ts) uid number scope =
    let first = standing_from e.0 uid number scope in
    length-append first (standing_all (map standing_from (map (λ x. x.0) ts)) (uid + length first) number scope)
    ∙ omega (arith, e.1 uid number scope, all_counted ts (uid + length first) number scope, sum_by-cons (λ (k : ℕ). k) (node_count e.0) (map node_count (map (λ x. x.0) ts)))

-- a term stands with each of its nodes
pub standing_count : (t : Term) (uid number : ℕ) (scope : Scope) → length (standing_from t uid number scope) ≡ node_count t
standing_count = ind-Term IsCounted (λ x y is uid number scope.
    let inner = children_scope x.kind uid x.ports x.autoremap scope in
    let children = subst (λ (z : Term-F Term). length (standing_all (map standing_from z.children) (uid + 1) (children_scope_number x.kind uid number) inner) ≡ sum (map node_count z.children)) is
    (all_counted y.children (uid + 1) (children_scope_number x.kind uid number) inner) in
    ap (λ (walk : Walk). length (walk uid number scope)) (fold-roll-Term Walk standing_step x) ∙ omega (arith, children, fold-roll-Term ℕ (λ node. 1 + sum node.children) x))

-- a term's own node, where it stands
abbrev pub standing_here : Term → ℕ → ℕ → Scope → Standing
standing_here t uid number scope = record {
  uid = uid;
  number = number;
  scope = scope;
  kind = (out-Term t).kind;
  ports = (out-Term t).ports;
  autoremap = (out-Term t).autoremap;
  scripts = scripts_of (out-Term t).code (out-Term t).guards;
}

-- a term's node, and then its children
pub standing_out : (t : Term) (uid number : ℕ) (scope : Scope) → standing_from t uid number scope
    ≡ standing_here t uid number scope ∷ standing_all (map standing_from (out-Term t).children) (uid + 1) (children_scope_number (out-Term t).kind uid number)
    (children_scope (out-Term t).kind uid (out-Term t).ports (out-Term t).autoremap scope)
standing_out t uid number scope = ap (λ (walk : Walk). walk uid number scope) (fold_out-Term Walk standing_step t)

-- what a term names: its node, and then its children
pub namings_out : (t : Term) (uid number : ℕ) (scope : Scope) → namings_of_term t uid number scope
    ≡ namings_at (standing_here t uid number scope) ++ namings_of_terms (out-Term t).children (uid + 1) (children_scope_number (out-Term t).kind uid number)
    (children_scope (out-Term t).kind uid (out-Term t).ports (out-Term t).autoremap scope)
namings_out t uid number scope = ap (flat_map namings_at) (standing_out t uid number scope)

-- what some terms name: the first, and then the others
pub namings_cons : (t : Term) (ts : List Term) (uid number : ℕ) (scope : Scope)
    → namings_of_terms (t ∷ ts) uid number scope ≡ namings_of_term t uid number scope ++ namings_of_terms ts (uid + node_count t) number scope
namings_cons t ts uid number scope =
    flat_map-append namings_at (standing_from t uid number scope) (standing_all (map standing_from ts) (uid + length (standing_from t uid number scope)) number scope)
    ∙ ap (λ n. namings_of_term t uid number scope ++ namings_of_terms ts (uid + n) number scope) (standing_count t uid number scope)

-- the nodes from a term on
pub counts_here : (ts : List Term) (i : ℕ) (t : Term) → i < length ts → t ≡ get_or ts i t → sum (map node_count (drop i ts)) ≡ node_count t + sum (map node_count (drop (i + 1) ts))
counts_here ts i t within is_t =
    ap (λ (xs : List Term). sum (map node_count xs)) (drop_more ts i t within ∙ ap (λ (x : Term). x ∷ drop (i + 1) ts) (sym is_t))
    ∙ sum_by-cons (λ (k : ℕ). k) (node_count t) (map node_count (drop (i + 1) ts))

-- what the terms from one on name
pub namings_here : (ts : List Term) (i : ℕ) (t : Term) (uid next number : ℕ) (scope : Scope) → i < length ts → t ≡ get_or ts i t → next ≡ uid + node_count t
    → namings_of_terms (drop i ts) uid number scope ≡ namings_of_term t uid number scope ++ namings_of_terms (drop (i + 1) ts) next number scope
namings_here ts i t uid next number scope within is_t is_next =
    ap (λ (xs : List Term). namings_of_terms xs uid number scope) (drop_more ts i t within ∙ ap (λ (x : Term). x ∷ drop (i + 1) ts) (sym is_t))
    ∙ namings_cons t (drop (i + 1) ts) uid number scope
    ∙ ap (λ n. namings_of_term t uid number scope ++ namings_of_terms (drop (i + 1) ts) n number scope) (sym is_next)

-- what a node names, by its kind
abbrev pub namings_by : Kind → Term → ℕ → ℕ → Scope → List Naming
namings_by kind t uid number scope =
    map (named_in number scope) (keys_of_node t)
    ++ (if makes_scope kind then map (named_in uid (scope_below uid (out-Term t).ports (out-Term t).autoremap scope)) (literal_names (out-Term t).ports) else [])
    ++ namings_of_terms (out-Term t).children (uid + 1) (children_scope_number kind uid number) (children_scope kind uid (out-Term t).ports (out-Term t).autoremap scope)

-- a SubTree node names those of its ports that have literals in the scope that it makes
pub subtree_namings : (t : Term) (uid number : ℕ) (scope : Scope) (inner_number : ℕ) (inner : Scope) → (out-Term t).kind ≡ SubTree → inner_number ≡ uid
    → ((key : List ℕ) → inner key ≡ scope_below uid (out-Term t).ports (out-Term t).autoremap scope key)
    → namings_of_term t uid number scope ≡ map (named_in number scope) (keys_of_node t) ++ map (named_in inner_number inner) (literal_names (out-Term t).ports)
    ++ namings_of_terms (out-Term t).children (uid + 1) inner_number inner
subtree_namings t uid number scope inner_number inner is_subtree is_uid is_inner =
    let made = scope_below uid (out-Term t).ports (out-Term t).autoremap scope in
    let same : inner ≡ made = λ i key. is_inner key i in
    subst (λ (kind : Kind). namings_of_term t uid number scope ≡ namings_by kind t uid number scope) is_subtree (namings_out t uid number scope)
    ∙ sym (ap (λ (n : ℕ). map (named_in number scope) (keys_of_node t) ++ map (named_in n inner) (literal_names (out-Term t).ports)
    ++ namings_of_terms (out-Term t).children (uid + 1) n inner) is_uid
    ∙ ap (λ (s : Scope). map (named_in number scope) (keys_of_node t) ++ map (named_in uid s) (literal_names (out-Term t).ports)
    ++ namings_of_terms (out-Term t).children (uid + 1) uid s) same)

-- any other node makes no scope
other_by : (kind : Kind) (t : Term) (uid number : ℕ) (scope : Scope) → (kind ≡ SubTree → ⊥)
    → namings_by kind t uid number scope ≡ map (named_in number scope) (keys_of_node t) ++ namings_of_terms (out-Term t).children (uid + 1) number scope
other_by SubTree t uid number scope other = absurd (other refl)
other_by _ t uid number scope other = ap (λ (names : List Naming). names ++ namings_of_terms (out-Term t).children (uid + 1) number scope) (append-nil (map (named_in number scope) (keys_of_node t)))

pub other_namings : (t : Term) (uid number : ℕ) (scope : Scope) → ((out-Term t).kind ≡ SubTree → ⊥)
    → namings_of_term t uid number scope ≡ map (named_in number scope) (keys_of_node t) ++ namings_of_terms (out-Term t).children (uid + 1) number scope
other_namings t uid number scope other = namings_out t uid number scope ∙ other_by (out-Term t).kind t uid number scope other
