-- A term's memory is that of its own nodes, and a change of one child changes that child's memory alone.
use Rattle.std.proofs.Common.{◌≡◌, ℕ, zero, suc, ◌+◌, ◌<◌, ◌≤◌, List, [], ◌∷◌, map, length, take, sum_by, get_or, set, refl, sym, ap, subst, ◌∙◌, arith}
use Rattle.std.proofs.lemmas.List.Sums.{sum_by-cons}
use Rattle.spec_run.specs.declared.memory.Memo.TheVariants.{Nothing}
use Rattle.spec_run.specs.declared.memory.Memory.{Memory}
use Rattle.spec_run.specs.declared.status.Status.TheVariants.{Idle}
use Rattle.spec_tree.specs.declared.term.Term.{Term, Term-F, ind-Term, fold-roll-Term, roll-Term}
use Rattle.spec_run.specs.Sites.{Meaning, memory_at, remembered, sizes}
use Rattle.spec_run.specs.Visit.{idle, meaning, meaning_of_node}
use Rattle.run_arena.specs.declared.nodes.Kept.{Kept}
use Rattle.run_arena.specs.Nodes.{at_rest, kept_at}
use Rattle.run_arena.specs.Stands.{Beside, IsKeptAlike, Reading, memories_of, memory_of, reading, reading_of_node, uid_of}

-- ---- sizes

abbrev IsSized : Term → Type 0
IsSized t = (reading t).size ≡ (meaning t).size

abbrev pub all_sizes : List Term → ℕ
all_sizes ts = sizes (map meaning ts)

pub sizes_cons : (t : Term) (ts : List Term) → all_sizes (t ∷ ts) ≡ (meaning t).size + all_sizes ts
sizes_cons t ts = sum_by-cons (λ (c : Meaning). c.size) (meaning t) (map meaning ts)

all_sized : (ts : List ((t : Term) × IsSized t)) → sum_by (λ (c : Reading). c.size) (map reading (map (λ e. e.0) ts)) ≡ all_sizes (map (λ e. e.0) ts)
all_sized [] = refl
all_sized (e ∷ ts) =
    omega (arith, e.1, all_sized ts, sum_by-cons (λ (c : Reading). c.size) (reading e.0) (map reading (map (λ x. x.0) ts)), sizes_cons e.0 (map (λ x. x.0) ts))

-- a memory is read from as many nodes as the term has
pub sized : (t : Term) → (reading t).size ≡ (meaning t).size
sized = ind-Term IsSized (λ x y is.
    ap (λ (r : Reading). r.size) (fold-roll-Term Reading reading_of_node x)
    ∙ subst (λ (z : Term-F Term). 1 + sum_by (λ (c : Reading). c.size) (map reading z.children) ≡ 1 + all_sizes z.children) is (ap (λ (n : ℕ). 1 + n) (all_sized y.children))
    ∙ sym (ap (λ (m : Meaning). m.size) (fold-roll-Term Meaning meaning_of_node x)))

-- ---- the frame

abbrev IsFramed : Term → Type 0
IsFramed t = (uid : ℕ) (a b : List Kept) → IsKeptAlike uid (meaning t).size a b → memory_of t uid a ≡ memory_of t uid b

all_framed : (ts : List ((t : Term) × IsFramed t)) (uid : ℕ) (a b : List Kept) → IsKeptAlike uid (all_sizes (map (λ e. e.0) ts)) a b
    → memories_of (map (λ e. e.0) ts) uid a ≡ memories_of (map (λ e. e.0) ts) uid b
all_framed [] uid a b alike = refl
all_framed (e ∷ ts) uid a b alike =
    let whole = sizes_cons e.0 (map (λ x. x.0) ts) in
    let first = e.1 uid a b (λ p low high. alike p low (omega (arith, high, whole))) in
    let rest = all_framed ts (uid + (reading e.0).size) a b (λ p low high. alike p (omega (arith, low)) (omega (arith, high, whole, sized e.0))) in
    λ i. first i ∷ rest i

-- the memory of a term is that of its own nodes
pub framed : (t : Term) (uid : ℕ) (a b : List Kept) → IsKeptAlike uid (meaning t).size a b → memory_of t uid a ≡ memory_of t uid b
framed = ind-Term IsFramed (λ x y is uid a b alike.
    let whole : (meaning (roll-Term x)).size ≡ 1 + all_sizes x.children = ap (λ (m : Meaning). m.size) (fold-roll-Term Meaning meaning_of_node x) in
    let here : kept_at a uid ≡ kept_at b uid = alike uid (omega arith) (omega (arith, whole)) in
    let children : memories_of x.children (uid + 1) a ≡ memories_of x.children (uid + 1) b =
    subst (λ (z : Term-F Term). IsKeptAlike (uid + 1) (all_sizes z.children) a b → memories_of z.children (uid + 1) a ≡ memories_of z.children (uid + 1) b) is
    (all_framed y.children (uid + 1) a b)
    (λ p low high. alike p (omega (arith, low)) (omega (arith, high, whole))) in
    ap (λ (r : Reading). r.memory uid a) (fold-roll-Term Reading reading_of_node x)
    ∙ (λ i. remembered (here i).status (here i).memo (children i))
    ∙ sym (ap (λ (r : Reading). r.memory uid b) (fold-roll-Term Reading reading_of_node x)))

-- the memory of several terms in order is that of their own nodes
pub framed_all : (ts : List Term) (uid : ℕ) (a b : List Kept) → IsKeptAlike uid (all_sizes ts) a b → memories_of ts uid a ≡ memories_of ts uid b
framed_all [] uid a b alike = refl
framed_all (t ∷ ts) uid a b alike =
    let whole = sizes_cons t ts in
    let first = framed t uid a b (λ p low high. alike p low (omega (arith, high, whole))) in
    let rest = framed_all ts (uid + (reading t).size) a b (λ p low high. alike p (omega (arith, low, sized t)) (omega (arith, high, whole, sized t))) in
    λ i. first i ∷ rest i

-- ---- children

-- the memory of the child at a place
pub memory_at_place : (ts : List Term) (place uid : ℕ) (t : Term) (kept : List Kept) → place < length ts → memory_at (memories_of ts uid kept) place ≡ memory_of (get_or ts place t) (uid_of ts uid place) kept
memory_at_place [] place uid t kept within = absurd (omega (arith, within))
memory_at_place (c ∷ cs) zero uid t kept within = let same : uid ≡ uid + 0 = omega arith in ap (λ u. memory_of c u kept) same
memory_at_place (c ∷ cs) (suc place) uid t kept within =
    let same : uid + (reading c).size + all_sizes (take place cs) ≡ uid + all_sizes (c ∷ take place cs) = omega (arith, sized c, sizes_cons c (take place cs)) in
    memory_at_place cs place (uid + (reading c).size) t kept (omega (arith, within)) ∙ ap (λ u. memory_of (get_or cs place t) u kept) same

-- where only the nodes of the child at a place have changed, only its memory has
pub memory_set : (ts : List Term) (place uid : ℕ) (t : Term) (a b : List Kept) → place < length ts → Beside (uid_of ts uid place) (meaning (get_or ts place t)).size a b
    → set (memories_of ts uid a) place (memory_of (get_or ts place t) (uid_of ts uid place) b) ≡ memories_of ts uid b
memory_set [] place uid t a b within beside = absurd (omega (arith, within))
memory_set (c ∷ cs) zero uid t a b within beside =
    let same : uid + 0 ≡ uid = omega arith in
    let rest = framed_all cs (uid + (reading c).size) a b (λ p low high. sym (beside.above p (omega (arith, low, sized c)))) in
    λ i. memory_of c (same i) b ∷ rest i
memory_set (c ∷ cs) (suc place) uid t a b within beside =
    let same : uid + all_sizes (c ∷ take place cs) ≡ uid + (reading c).size + all_sizes (take place cs) = omega (arith, sized c, sizes_cons c (take place cs)) in
    let first = framed c uid a b (λ p low high. sym (beside.below p (omega (arith, high, sizes_cons c (take place cs))))) in
    let rest = memory_set cs place (uid + (reading c).size) t a b (omega (arith, within)) (subst (λ u. Beside u (meaning (get_or cs place t)).size a b) same beside) in
    (λ i. first i ∷ set (memories_of cs (uid + (reading c).size) a) place (memory_of (get_or cs place t) (same i) b)) ∙ ap (λ (ms : List Memory). memory_of c uid b ∷ ms) rest

-- ---- nodes at rest

abbrev IsRested : Term → Type 0
IsRested t = (uid : ℕ) (kept : List Kept) → ((p : ℕ) → uid ≤ p → p < uid + (meaning t).size → kept_at kept p ≡ at_rest) → memory_of t uid kept ≡ idle t

all_rested : (ts : List ((t : Term) × IsRested t)) (uid : ℕ) (kept : List Kept) → ((p : ℕ) → uid ≤ p → p < uid + all_sizes (map (λ e. e.0) ts) → kept_at kept p ≡ at_rest)
    → memories_of (map (λ e. e.0) ts) uid kept ≡ map idle (map (λ e. e.0) ts)
all_rested [] uid kept rest = refl
all_rested (e ∷ ts) uid kept rest =
    let whole = sizes_cons e.0 (map (λ x. x.0) ts) in
    let first = e.1 uid kept (λ p low high. rest p low (omega (arith, high, whole))) in
    let others = all_rested ts (uid + (reading e.0).size) kept (λ p low high. rest p (omega (arith, low)) (omega (arith, high, whole, sized e.0))) in
    λ i. first i ∷ others i

-- where all nodes are at rest, the memory is the idle one
pub rested : (t : Term) (uid : ℕ) (kept : List Kept) → ((p : ℕ) → uid ≤ p → p < uid + (meaning t).size → kept_at kept p ≡ at_rest) → memory_of t uid kept ≡ idle t
rested = ind-Term IsRested (λ x y is uid kept rest.
    let whole : (meaning (roll-Term x)).size ≡ 1 + all_sizes x.children = ap (λ (m : Meaning). m.size) (fold-roll-Term Meaning meaning_of_node x) in
    let here : kept_at kept uid ≡ at_rest = rest uid (omega arith) (omega (arith, whole)) in
    let children : memories_of x.children (uid + 1) kept ≡ map idle x.children =
    subst (λ (z : Term-F Term). ((p : ℕ) → uid + 1 ≤ p → p < uid + 1 + all_sizes z.children → kept_at kept p ≡ at_rest) → memories_of z.children (uid + 1) kept ≡ map idle z.children) is
    (all_rested y.children (uid + 1) kept)
    (λ p low high. rest p (omega (arith, low)) (omega (arith, high, whole))) in
    ap (λ (r : Reading). r.memory uid kept) (fold-roll-Term Reading reading_of_node x)
    ∙ (λ i. remembered (here i).status (here i).memo (children i))
    ∙ sym (fold-roll-Term Memory (λ node. remembered Idle Nothing node.children) x))
