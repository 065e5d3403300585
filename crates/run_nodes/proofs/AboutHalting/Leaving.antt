-- The calls of a quench: that of one leaf, and those still to come.
use Rattle.std.proofs.Common.{◌≡◌, inl, inr, ℕ, zero, suc, ◌+◌, ◌<◌, ◌≤◌, List, [], ◌∷◌, ◌++◌, map, length, drop, get_or, slice_set, Bool, true, false, is_some, cond, if◌then◌else◌, Option, Some, None, refl, sym, ap, ◌∙◌, append-nil, append_assoc, arith}
use Rattle.std.proofs.lemmas.Bool.{cases_eq, cases_lt}
use Rattle.std.proofs.lemmas.List.{drop-set-lt, drop_more, get_or-set_other, get_or-set_same, length-append, length-map, map-set, set-get_or}
use Rattle.std.proofs.Math.Seq.{map-set_same}
use Rattle.std.proofs.lemmas.List.Sums.{sum_by-drop_more}
use Rattle.spec_run.specs.declared.leaf.Instance.{Instance}
use Rattle.spec_run.specs.declared.leaf.Phase.TheVariants as phase
use Rattle.spec_run.specs.declared.note.Note.{Note}
use Rattle.spec_run.specs.declared.note.Note.TheVariants.{Quenched}
use Rattle.spec_run.specs.Done.{Call}
use Rattle.spec_run.specs.Drivers.{DriverState, is_held}
use Rattle.base_tables.specs.DriverCalls.{instance_at, roster_halted}
use Rattle.spec_run.specs.Leaf.{fresh, let_go, released}
use Rattle.spec_run.specs.Run.{releases, quenched_notes}
use Rattle.run_arena.specs.declared.nodes.Kept.{Kept}
use Rattle.run_arena.specs.declared.nodes.Node.{Node}
use Rattle.run_arena.specs.declared.nodes.ReadyLeaf.{ReadyLeaf}
use Rattle.run_arena.specs.Nodes.{at_rest, kept_at, leaf_at, nobody}
use Rattle.run_arena.specs.Rosters.{AreServed, has_driver, instances_of, leaf_instance, leaves_in, roster_after}
use Rattle.run_arena.specs.Scenes.{marks_of}
use Rattle.run_arena.proofs.Called.{instance_at_uid, instances_called, roster_after_both, roster_after_call}
use Rattle.run_nodes.specs.Halting.Quenches.{releases_one}
use Rattle.run_nodes.proofs.AboutHalting.Marks.{mark_is}

-- the calls of `halted` for the leaves from this uid on
abbrev pub calls_left : List Node → ℕ → List DriverState → List Call
calls_left nodes uid drivers = releases uid (drop uid (instances_of nodes drivers))

-- the call of `halted` for an instance
abbrev call_of : ℕ → Instance → Call
call_of uid i = record { uid = uid; phase = phase.Halted; left = released i }

-- ---- One instance

one_held : (uid : ℕ) (i : Instance) → is_held i ≡ true → releases_one uid i ≡ call_of uid i ∷ []
one_held uid i held = ap (λ (b : Bool). if b then call_of uid i ∷ [] else []) held

one_free : (uid : ℕ) (i : Instance) → is_held i ≡ false → releases_one uid i ≡ []
one_free uid i free = ap (λ (b : Bool). if b then call_of uid i ∷ [] else []) free

since_free : (since : Option ℕ) → is_some since ≡ false → None ≡ since
since_free None free = refl
since_free (Some n) free = cc

-- an instance that is not held stays as it is
pub free_stays : (i : Instance) → is_held i ≡ false → let_go i ≡ i
free_stays i free = λ k. record { since = since_free i.since free k; completions = i.completions; told = (if free k then None else i.told); length = i.length; inputs = i.inputs }

-- one that is held is released
held_goes : (i : Instance) → is_held i ≡ true → let_go i ≡ released i
held_goes i held = λ k. record { since = None; completions = i.completions; told = (if held k then None else i.told); length = i.length; inputs = i.inputs }

-- the calls for some instances are that for the first, and those for the others
releases_by : (uid : ℕ) (i : Instance) (is : List Instance) (b : Bool) → (if b then call_of uid i ∷ releases (uid + 1) is else releases (uid + 1) is) ≡ (if b then call_of uid i ∷ [] else []) ++ releases (uid + 1) is
releases_by uid i is true = refl
releases_by uid i is false = refl

letting_more : (uid : ℕ) (i : Instance) (is : List Instance) → releases uid (i ∷ is) ≡ releases_one uid i ++ releases (uid + 1) is
letting_more uid i is = releases_by uid i is (is_some i.since)

-- ---- One leaf

module _ (nodes : List Node) (drivers : List DriverState) (uid : ℕ) where
  abbrev pub instance_here : Instance
  instance_here = leaf_instance drivers (leaf_at nodes uid)

  -- a leaf that is not held
  module _ (free : is_held instance_here ≡ false) where
    pub free_drivers : drivers ≡ roster_after nodes (releases_one uid instance_here) drivers
    free_drivers = ap (λ (cs : List Call). roster_after nodes cs drivers) (sym (one_free uid instance_here free))

    pub free_instances : instances_of nodes drivers ≡ slice_set (instances_of nodes drivers) uid (let_go instance_here)
    free_instances =
        sym (set-get_or (instances_of nodes drivers) uid fresh)
        ∙ ap (slice_set (instances_of nodes drivers) uid) (instance_at_uid nodes drivers uid ∙ sym (free_stays instance_here free))

    pub free_notes : (runner : ℕ) (n : List Note) → n ≡ n ++ quenched_notes runner (releases_one uid instance_here)
    free_notes runner n = sym (append-nil n) ∙ ap (λ (cs : List Call). n ++ quenched_notes runner cs) (sym (one_free uid instance_here free))

    pub free_length : length (releases_one uid instance_here) ≡ 0
    free_length = ap length (one_free uid instance_here free)

  -- a leaf that is held
  module _ (leaf : ReadyLeaf) (is : leaf_at nodes uid ≡ Some leaf) (served : AreServed drivers nodes) (held : is_held instance_here ≡ true) (drivers1 : List DriverState) (halted : drivers1 ≡ roster_halted drivers leaf.driver leaf.instance) where
    same : instance_here ≡ instance_at drivers leaf.driver leaf.instance
    same = ap (leaf_instance drivers) is

    pub held_drivers : drivers1 ≡ roster_after nodes (releases_one uid instance_here) drivers
    held_drivers =
        halted
        ∙ sym (roster_after_call nodes drivers uid leaf phase.Halted (released (instance_at drivers leaf.driver leaf.instance)) served is (call_of uid instance_here) [] refl refl (ap released same))
        ∙ ap (λ (cs : List Call). roster_after nodes cs drivers) (sym (one_held uid instance_here held))

    pub held_instances : instances_of nodes drivers1 ≡ slice_set (instances_of nodes drivers) uid (let_go instance_here)
    held_instances =
        ap (instances_of nodes) halted
        ∙ instances_called nodes drivers uid leaf phase.Halted (released (instance_at drivers leaf.driver leaf.instance)) served is
        ∙ ap (λ (i : Instance). slice_set (instances_of nodes drivers) uid (released i)) (sym same)
        ∙ ap (slice_set (instances_of nodes drivers) uid) (sym (held_goes instance_here held))

    pub held_notes : (runner : ℕ) (n n1 : List Note) → n1 ≡ n ++ Quenched runner uid ∷ [] → n1 ≡ n ++ quenched_notes runner (releases_one uid instance_here)
    held_notes runner n n1 noted = noted ∙ ap (λ (cs : List Call). n ++ quenched_notes runner cs) (sym (one_held uid instance_here held))

    pub held_length : length (releases_one uid instance_here) ≡ 1
    held_length = ap length (one_held uid instance_here held)

-- ---- One round of the loop of a quench

notes_both : (runner : ℕ) (xs ys : List Call) → quenched_notes runner (xs ++ ys) ≡ quenched_notes runner xs ++ quenched_notes runner ys
notes_both runner [] ys = refl
notes_both runner (x ∷ xs) ys = ap (λ (l : List Note). Quenched runner x.uid ∷ l) (notes_both runner xs ys)

at_most : (uid : ℕ) (i : Instance) (b : Bool) → length (if b then call_of uid i ∷ [] else []) ≤ 1
at_most uid i true = omega arith
at_most uid i false = omega arith

has_leaf : (drivers : List DriverState) (o : Option ReadyLeaf) → is_held (leaf_instance drivers o) ≡ true → has_driver o ≡ true
has_leaf drivers None held = cc
has_leaf drivers (Some leaf) held = refl

module _ (runner : ℕ) (nodes : List Node) (kept : List Kept) (drivers drivers1 : List DriverState) (uid : ℕ) (within : uid < length nodes) (marks : marks_of kept ≡ map is_held (instances_of nodes drivers)) (lets : instances_of nodes drivers1 ≡ slice_set (instances_of nodes drivers) uid (let_go (instance_here nodes drivers uid))) where
  abbrev now : List Instance
  now = instances_of nodes drivers

  inside : uid < length now
  inside = omega (arith, within, length-map nodes (λ (node : Node). leaf_instance drivers node.leaf))

  -- the calls still to come are that of this leaf, and those of the leaves after it
  pub left_more : calls_left nodes uid drivers ≡ releases_one uid (instance_here nodes drivers uid) ++ calls_left nodes (uid + 1) drivers1
  left_more =
      ap (releases uid) (drop_more now uid fresh inside)
      ∙ letting_more uid (get_or now uid fresh) (drop (uid + 1) now)
      ∙ ap (λ (i : Instance). releases_one uid i ++ releases (uid + 1) (drop (uid + 1) now)) (instance_at_uid nodes drivers uid)
      ∙ ap (λ (l : List Instance). releases_one uid (instance_here nodes drivers uid) ++ releases (uid + 1) l)
      (sym (drop-set-lt (uid + 1) now uid (let_go (instance_here nodes drivers uid)) (omega arith)) ∙ ap (drop (uid + 1)) (sym lets))

  pub drivers_more : drivers1 ≡ roster_after nodes (releases_one uid (instance_here nodes drivers uid)) drivers → roster_after nodes (calls_left nodes (uid + 1) drivers1) drivers1 ≡ roster_after nodes (calls_left nodes uid drivers) drivers
  drivers_more called =
      ap (roster_after nodes (calls_left nodes (uid + 1) drivers1)) called
      ∙ sym (roster_after_both nodes (releases_one uid (instance_here nodes drivers uid)) (calls_left nodes (uid + 1) drivers1) drivers)
      ∙ ap (λ (cs : List Call). roster_after nodes cs drivers) (sym left_more)

  pub notes_more : (n n1 : List Note) → n1 ≡ n ++ quenched_notes runner (releases_one uid (instance_here nodes drivers uid)) → n1 ++ quenched_notes runner (calls_left nodes (uid + 1) drivers1) ≡ n ++ quenched_notes runner (calls_left nodes uid drivers)
  notes_more n n1 noted =
      let one = releases_one uid (instance_here nodes drivers uid) in
      let rest = calls_left nodes (uid + 1) drivers1 in
      ap (λ (l : List Note). l ++ quenched_notes runner rest) noted
      ∙ append_assoc n (quenched_notes runner one) (quenched_notes runner rest)
      ∙ ap (λ (l : List Note). n ++ l) (sym (notes_both runner one rest) ∙ ap (quenched_notes runner) (sym left_more))

  pub length_more : length (calls_left nodes uid drivers) ≡ length (releases_one uid (instance_here nodes drivers uid)) + length (calls_left nodes (uid + 1) drivers1)
  length_more = ap length left_more ∙ length-append (releases_one uid (instance_here nodes drivers uid)) (calls_left nodes (uid + 1) drivers1)

  -- each instance is halted once
  pub lets_same : map let_go (instances_of nodes drivers1) ≡ map let_go now
  lets_same =
      ap (map let_go) lets
      ∙ map-set_same let_go now uid (let_go (instance_here nodes drivers uid)) fresh
      (free_stays (let_go (instance_here nodes drivers uid)) refl ∙ ap let_go (sym (instance_at_uid nodes drivers uid)))

  -- and its mark is removed
  pub marks_more : marks_of (slice_set kept uid at_rest) ≡ map is_held (instances_of nodes drivers1)
  marks_more =
      map-set (λ (k : Kept). k.held) kept uid at_rest
      ∙ ap (λ (bs : List Bool). slice_set bs uid false) marks
      ∙ sym (map-set is_held now uid (let_go (instance_here nodes drivers uid)))
      ∙ ap (map is_held) (sym lets)

  -- a call has its place in the reserve
  leaf_counts : leaves_in (drop uid nodes) ≡ (if has_driver (leaf_at nodes uid) then 1 else 0) + leaves_in (drop (uid + 1) nodes)
  leaf_counts = sum_by-drop_more (λ (node : Node). cond (has_driver node.leaf) 1 0) nodes uid nobody within

  call_counts : (o : Option ReadyLeaf) → length (releases_one uid (leaf_instance drivers o)) ≤ (if has_driver o then 1 else 0)
  call_counts None = omega arith
  call_counts (Some leaf) = at_most uid (instance_at drivers leaf.driver leaf.instance) (is_some (instance_at drivers leaf.driver leaf.instance).since)

  pub room_more : (reserve reserve1 : ℕ) → leaves_in (drop uid nodes) ≤ reserve → reserve1 + length (releases_one uid (instance_here nodes drivers uid)) ≡ reserve → leaves_in (drop (uid + 1) nodes) ≤ reserve1
  room_more reserve reserve1 room took = omega (arith, room, took, leaf_counts, call_counts (leaf_at nodes uid))

-- a marked leaf has its place in the reserve
pub room_here : (nodes : List Node) (kept : List Kept) (drivers : List DriverState) (uid reserve : ℕ) → uid < length nodes → marks_of kept ≡ map is_held (instances_of nodes drivers) → leaves_in (drop uid nodes) ≤ reserve → (kept_at kept uid).held ≡ true → 0 < reserve
room_here nodes kept drivers uid reserve within marks room held =
    let has : has_driver (leaf_at nodes uid) ≡ true = has_leaf drivers (leaf_at nodes uid) (sym (mark_is nodes kept drivers uid marks) ∙ held) in
    let one : Bool → ℕ = λ b. cond b 1 0 in
    omega (arith, room, sum_by-drop_more (λ (node : Node). cond (has_driver node.leaf) 1 0) nodes uid nobody within, ap one has)

-- instances of which none is held stay as they are
pub all_free : (is : List Instance) → ((p : ℕ) → is_held (get_or is p fresh) ≡ false) → map let_go is ≡ is
all_free [] free = refl
all_free (i ∷ is) free = λ k. free_stays i (free 0) k ∷ all_free is (λ p. free (suc p)) k

-- ---- Rest

past_end : {X : Type 0} (xs : List X) (p : ℕ) (d : X) → length xs ≤ p → get_or xs p d ≡ d
past_end [] p d past = refl
past_end (x ∷ xs) zero d past = absurd (omega (arith, past))
past_end (x ∷ xs) (suc p) d past = past_end xs p d (omega (arith, past))

-- one more node is at rest
pub rest_more : (kept : List Kept) (uid : ℕ) → uid < length kept → ((p : ℕ) → p < uid → kept_at kept p ≡ at_rest) → (p : ℕ) → p < uid + 1 → kept_at (slice_set kept uid at_rest) p ≡ at_rest
rest_more kept uid within rest p low = elim (cases_eq p uid) [
  | inl same ↦ ap (λ (q : ℕ). kept_at (slice_set kept uid at_rest) q) same ∙ get_or-set_same kept uid at_rest at_rest within
  | inr other ↦ get_or-set_other kept uid p at_rest at_rest other ∙ rest p (omega (arith, low, other))
]

-- where all nodes are at rest, nothing is held
pub nothing_held : (nodes : List Node) (kept : List Kept) (drivers : List DriverState) (uid : ℕ) → length kept ≤ uid → marks_of kept ≡ map is_held (instances_of nodes drivers) → ((p : ℕ) → p < uid → kept_at kept p ≡ at_rest) → (p : ℕ) → is_held (get_or (instances_of nodes drivers) p fresh) ≡ false
nothing_held nodes kept drivers uid over marks rest p =
    let here : kept_at kept p ≡ at_rest = elim (cases_lt p uid) [
      | inl low ↦ rest p low
      | inr past ↦ past_end kept p at_rest (omega (arith, over, past))
    ] in
    ap is_held (instance_at_uid nodes drivers p) ∙ sym (mark_is nodes kept drivers p marks) ∙ ap (λ (k : Kept). k.held) here
