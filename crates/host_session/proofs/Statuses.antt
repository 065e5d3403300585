-- The statuses of a term's nodes, which stand in an arena from a uid on.
use Rattle.std.proofs.Common.{◌≡◌, ℕ, zero, suc, ◌+◌, ◌<◌, ◌≤◌, Bool, true, false, ◌&&◌, List, [], ◌∷◌, ◌++◌, map, length, sum_by, get_or, Option, Some, None, refl, sym, ap, subst, ◌∙◌, arith, if◌then◌else◌}
use Rattle.std.specs.Prelude.{nat_le, nat_lt, slice_get}
use Rattle.std.specs.List.{flat_map, range_with_len}
use Rattle.std.proofs.lemmas.Bool.Decides.{nat_tests}
use Rattle.std.proofs.lemmas.List.FromFn.{get_or-map-range_with_len, length-map-range_with_len}
use Rattle.std.proofs.lemmas.List.Sums.{sum_by-cons}
use Rattle.std.proofs.lemmas.Option.{slice_get-get_or, slice_get_past}
use Rattle.spec_run.specs.declared.memory.Memory.{Memory, Memory-F, fold-roll-Memory}
use Rattle.spec_run.specs.declared.status.Status.{Status}
use Rattle.spec_tree.specs.declared.term.Term.{Term, Term-F, ind-Term, fold-roll-Term}
use Rattle.spec_tree.specs.Terms.{node_count}
use Rattle.run_arena.specs.declared.nodes.Kept.{Kept}
use Rattle.run_arena.specs.declared.nodes.Node.{Node}
use Rattle.run_arena.specs.Nodes.{kept_at}
use Rattle.run_arena.specs.Stands.{Reading, memories_of, memory_of, reading, reading_of_node}
use Rattle.run_arena.proofs.Framed.{sized}
use Rattle.run_arena.proofs.Static.{size_is}
use Rattle.host_session.specs.Numbered.{numbered}
use Rattle.host_session.specs.Reads.{statuses, statuses_step}
use Rattle.host_session.specs.Statuses.{status_at}

-- the statuses of so many nodes, of which the first has this uid
abbrev kept_from : List Kept → ℕ → ℕ → List Status
kept_from kept uid n = map (λ (p : ℕ). (kept_at kept p).status) (range_with_len uid n)

kept_append : (kept : List Kept) (uid n m : ℕ) → kept_from kept uid (n + m) ≡ kept_from kept uid n ++ kept_from kept (uid + n) m
kept_append kept uid zero m =
    let none : 0 + m ≡ m = omega arith in
    let same : uid ≡ uid + 0 = omega arith in
    ap (kept_from kept uid) none ∙ ap (λ u. kept_from kept u m) same
kept_append kept uid (suc n) m =
    let more : suc n + m ≡ suc (n + m) = omega arith in
    let same : (uid + 1) + n ≡ uid + suc n = omega arith in
    ap (kept_from kept uid) more
    ∙ ap (λ (xs : List Status). (kept_at kept uid).status ∷ xs) (kept_append kept (uid + 1) n m)
    ∙ ap (λ (u : ℕ). ((kept_at kept uid).status ∷ kept_from kept (uid + 1) n) ++ kept_from kept u m) same

abbrev AreKept : Term → Type 0
AreKept t = (uid : ℕ) (kept : List Kept) → statuses (memory_of t uid kept) ≡ kept_from kept uid (reading t).size

abbrev sizes_read : List Term → ℕ
sizes_read ts = sum_by (λ (c : Reading). c.size) (map reading ts)

abbrev all_statuses : List Memory → List Status
all_statuses ms = flat_map (λ (below : List Status). below) (map statuses ms)

all_kept : (ts : List ((t : Term) × AreKept t)) (uid : ℕ) (kept : List Kept) →
    all_statuses (memories_of (map (λ e. e.0) ts) uid kept) ≡ kept_from kept uid (sizes_read (map (λ e. e.0) ts))
all_kept [] uid kept = refl
all_kept (e ∷ ts) uid kept =
    let rest = map (λ x. x.0) ts in
    let size = (reading e.0).size in
    let whole : sizes_read (e.0 ∷ rest) ≡ size + sizes_read rest = sum_by-cons (λ (c : Reading). c.size) (reading e.0) (map reading rest) in
    ap (λ (xs : List Status). xs ++ all_statuses (memories_of rest (uid + size) kept)) (e.1 uid kept)
    ∙ ap (λ (xs : List Status). kept_from kept uid size ++ xs) (all_kept ts (uid + size) kept)
    ∙ sym (kept_append kept uid size (sizes_read rest)) ∙ ap (kept_from kept uid) (sym whole)

-- they are those that the nodes keep
are_kept : (t : Term) (uid : ℕ) (kept : List Kept) → statuses (memory_of t uid kept) ≡ kept_from kept uid (reading t).size
are_kept = ind-Term AreKept (λ x y is uid kept.
    let below : all_statuses (memories_of x.children (uid + 1) kept) ≡ kept_from kept (uid + 1) (sizes_read x.children) =
    subst (λ (z : Term-F Term). all_statuses (memories_of z.children (uid + 1) kept) ≡ kept_from kept (uid + 1) (sizes_read z.children)) is (all_kept y.children (uid + 1) kept) in
    let one : 1 + sizes_read x.children ≡ suc (sizes_read x.children) = omega arith in
    let whole : kept_from kept uid (1 + sizes_read x.children) ≡ (kept_at kept uid).status ∷ kept_from kept (uid + 1) (sizes_read x.children) = ap (kept_from kept uid) one in
    let here : Memory-F Memory = record { status = (kept_at kept uid).status; memo = (kept_at kept uid).memo; children = memories_of x.children (uid + 1) kept } in
    ap (λ (r : Reading). statuses (r.memory uid kept)) (fold-roll-Term Reading reading_of_node x)
    ∙ fold-roll-Memory (List Status) statuses_step here
    ∙ ap (λ (xs : List Status). (kept_at kept uid).status ∷ xs) below
    ∙ sym whole ∙ ap (λ (r : Reading). kept_from kept uid r.size) (sym (fold-roll-Term Reading reading_of_node x)))

-- the status of the node of a uid
pub nth_status : (t : Term) (nodes : List Node) (kept : List Kept) (uid : ℕ) → length nodes ≡ 1 + node_count t →
    numbered (statuses (memory_of t 1 kept)) uid ≡ status_at nodes kept uid
nth_status t nodes kept zero many = refl
nth_status t nodes kept (suc k) many =
    let count : (reading t).size ≡ node_count t = sized t ∙ size_is t in
    ap (λ (xs : List Status). slice_get xs k) (are_kept t 1 kept) ∙ by (nat_lt (suc k) (length nodes)) refl count
  where
    here : List Status
    here = kept_from kept 1 (reading t).size

    shown : (d : Status) (b : Bool) → nat_lt (suc k) (length nodes) ≡ b →
        (if nat_le 1 (suc k) && nat_lt (suc k) (length nodes) then Some d else None) ≡ (if b then Some d else None)
    shown d b e =
        let low : nat_le 1 (suc k) ≡ true = grind (arith, nat_tests) in
        ap (λ (c : Bool). if c && nat_lt (suc k) (length nodes) then Some d else None) low ∙ ap (λ (c : Bool). if c then Some d else None) e

    test : (b : Bool) → nat_lt (suc k) (length nodes) ≡ b → (nat_le 1 (suc k) && nat_lt (suc k) (length nodes)) ≡ b
    test b e = let first : nat_le 1 (suc k) ≡ true = grind (arith, nat_tests) in ap (λ (a : Bool). a && nat_lt (suc k) (length nodes)) first ∙ e

    by : (b : Bool) → nat_lt (suc k) (length nodes) ≡ b → (reading t).size ≡ node_count t →
        slice_get here k ≡ (if nat_le 1 (suc k) && nat_lt (suc k) (length nodes) then Some (kept_at kept (suc k)).status else None)
    by true e count =
        let within : k < (reading t).size = grind (arith, nat_tests) in
        let inside : k < length here = omega (arith, length-map-range_with_len (λ (p : ℕ). (kept_at kept p).status) 1 (reading t).size) in
        let d = (kept_at kept (suc k)).status in
        let one : 1 + k ≡ suc k = omega arith in
        slice_get-get_or here k d inside
        ∙ ap Some (get_or-map-range_with_len (λ (p : ℕ). (kept_at kept p).status) 1 (reading t).size k (suc k) d within one)
        ∙ sym (ap (λ (b : Bool). if b then Some d else None) (test true e))
    by false e count =
        let past : (reading t).size ≤ k = grind (arith, nat_tests) in
        slice_get_past here k (omega (arith, length-map-range_with_len (λ (p : ℕ). (kept_at kept p).status) 1 (reading t).size))
        ∙ sym (ap (λ (b : Bool). if b then Some (kept_at kept (suc k)).status else None) (test false e))
