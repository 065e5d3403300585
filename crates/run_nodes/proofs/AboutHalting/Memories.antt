-- The memory of terms that stand in an arena, where what some nodes keep has changed; and the places of children.
use Rattle.std.proofs.Common.{◌≡◌, ℕ, zero, suc, ◌+◌, ◌<◌, ◌≤◌, List, [], ◌∷◌, ◌++◌, map, length, take, get_or, slice_set, length-append, refl, sym, ap, subst, ◌∙◌, arith}
use Rattle.std.proofs.lemmas.List.Sums.{sum_by-cons}
use Rattle.spec_run.specs.declared.memory.Memory.{Memory}
use Rattle.spec_tree.specs.declared.term.Term.{Term, out-Term}
use Rattle.spec_run.specs.Sites.{Meaning, View, memory_at, remembered, sizes}
use Rattle.spec_run.specs.Visit.{meaning}
use Rattle.run_arena.specs.declared.nodes.Kept.{Kept}
use Rattle.run_arena.specs.declared.nodes.Node.{Node}
use Rattle.run_arena.specs.Nodes.{kept_at}
use Rattle.run_arena.specs.Stands.{Beside, IsKeptAlike, StandAll, Stands, memories_of, memory_of, uid_of, uids_of}
use Rattle.run_arena.proofs.Framed.{framed_all, memory_at_place, memory_set}
use Rattle.run_arena.proofs.Opened.{memory_out}

-- the memory of a node that keeps this now, above nodes that keep what they kept
pub memory_above : (t : Term) (uid : ℕ) (before after : List Kept) → IsKeptAlike (uid + 1) (sizes (map meaning (out-Term t).children)) before after →
    memory_of t uid after ≡ remembered (kept_at after uid).status (kept_at after uid).memo (memories_of (out-Term t).children (uid + 1) before)
memory_above t uid before after same =
    memory_out t uid after ∙ ap (λ (ms : List Memory). remembered (kept_at after uid).status (kept_at after uid).memo ms) (sym (framed_all (out-Term t).children (uid + 1) before after same))

-- ---- Children

-- the uids of terms in order, by their places
pub uids_at : (ts : List Term) (place first : ℕ) → place < length ts → get_or (uids_of ts first) place 0 ≡ uid_of ts first place
uids_at [] place first within = absurd (omega (arith, within))
uids_at (c ∷ cs) zero first within = omega arith
uids_at (c ∷ cs) (suc place) first within =
    uids_at cs place (first + (meaning c).size) (omega (arith, within))
    ∙ omega (arith, sum_by-cons (λ (d : Meaning). d.size) (meaning c) (map meaning (take place cs)))

pub uids_many : (ts : List Term) (first : ℕ) → length (uids_of ts first) ≡ length ts
uids_many [] first = refl
uids_many (c ∷ cs) first = ap suc (uids_many cs (first + (meaning c).size))

-- a term among several in order: its place, and its uid where the first has this uid
pub record IsChild (ts : List Term) (first : ℕ) (place : ℕ) (c : Term) (uid : ℕ) : Type 0 where
  pub front : List Term
  pub rest : List Term
  pub all : ts ≡ front ++ c ∷ rest
  pub place_is : length front ≡ place
  pub uid_is : uid ≡ first + sizes (map meaning front)

at_split : {X : Type 0} (xs : List X) (y d : X) (zs : List X) (i : ℕ) → length xs ≡ i → get_or (xs ++ y ∷ zs) i d ≡ y
at_split [] y d zs zero is = refl
at_split [] y d zs (suc i) is = cc
at_split (x ∷ xs) y d zs zero is = cc
at_split (x ∷ xs) y d zs (suc i) is = at_split xs y d zs i (omega (arith, is))

pub front_split : {X : Type 0} (xs ys : List X) (i : ℕ) → length xs ≡ i → take i (xs ++ ys) ≡ xs
front_split [] ys zero is = refl
front_split [] ys (suc i) is = cc
front_split (x ∷ xs) ys zero is = cc
front_split (x ∷ xs) ys (suc i) is = ap (λ (l : List _). x ∷ l) (front_split xs ys i (omega (arith, is)))

sizes_split : (front : List Term) (c : Term) (rest : List Term) → sizes (map meaning (front ++ c ∷ rest)) ≡ sizes (map meaning front) + (meaning c).size + sizes (map meaning rest)
sizes_split [] c rest = omega (arith, sum_by-cons (λ (d : Meaning). d.size) (meaning c) (map meaning rest))
sizes_split (t ∷ front) c rest =
    omega (arith, sizes_split front c rest, sum_by-cons (λ (d : Meaning). d.size) (meaning t) (map meaning front), sum_by-cons (λ (d : Meaning). d.size) (meaning t) (map meaning (front ++ c ∷ rest)))

module _ {ts : List Term} {first place : ℕ} {c : Term} {uid : ℕ} (k : IsChild ts first place c uid) where
  within : place < length ts
  within = omega (arith, k.place_is, ap length k.all, length-append k.front (c ∷ k.rest))

  item : get_or ts place c ≡ c
  item = ap (λ (l : List Term). get_or l place c) k.all ∙ at_split k.front c c k.rest place k.place_is

  at_uid : uid_of ts first place ≡ uid
  at_uid = ap (λ (l : List Term). first + sizes (map meaning (take place l))) k.all ∙ ap (λ (l : List Term). first + sizes (map meaning l)) (front_split k.front (c ∷ k.rest) place k.place_is) ∙ sym k.uid_is

  same : (kept : List Kept) → memory_of (get_or ts place c) (uid_of ts first place) kept ≡ memory_of c uid kept
  same kept = λ i. memory_of (item i) (at_uid i) kept

  -- the memory at its place
  pub child_memory : (kept : List Kept) → memory_at (memories_of ts first kept) place ≡ memory_of c uid kept
  child_memory kept = memory_at_place ts place first c kept within ∙ same kept

  -- its memory among those of the others, where the others keep the same
  pub child_placed : (before after : List Kept) → Beside uid (meaning c).size before after → slice_set (memories_of ts first before) place (memory_of c uid after) ≡ memories_of ts first after
  child_placed before after beside =
      ap (slice_set (memories_of ts first before) place) (sym (same after))
      ∙ memory_set ts place first c before after within (subst (λ (t : Term). Beside (uid_of ts first place) (meaning t).size before after) (sym item) (subst (λ (u : ℕ). Beside u (meaning c).size before after) (sym at_uid) beside))

  -- its nodes are among those of all
  pub child_within : (first ≤ uid) × (uid + (meaning c).size ≤ first + sizes (map meaning ts))
  child_within =
      let all : sizes (map meaning ts) ≡ sizes (map meaning (k.front ++ c ∷ k.rest)) = ap (λ (l : List Term). sizes (map meaning l)) k.all in
      (omega (arith, k.uid_is), omega (arith, k.uid_is, all, sizes_split k.front c k.rest))

-- several terms in order that stand in an arena, and one of them
child_stands_in : (nodes : List Node) (view : View) (front : List Term) (c : Term) (rest : List Term) (first uid : ℕ) → uid ≡ first + sizes (map meaning front) → StandAll (front ++ c ∷ rest) nodes view first → Stands c nodes view uid
child_stands_in nodes view [] c rest first uid is stand = subst (λ (u : ℕ). Stands c nodes view u) (let e : first ≡ uid = omega (arith, is) in e) stand.0
child_stands_in nodes view (t ∷ front) c rest first uid is stand =
    child_stands_in nodes view front c rest (first + (meaning t).size) uid (omega (arith, is, sum_by-cons (λ (d : Meaning). d.size) (meaning t) (map meaning front))) stand.1

pub child_stands : (nodes : List Node) (view : View) {ts : List Term} {first place : ℕ} {c : Term} {uid : ℕ} → IsChild ts first place c uid → StandAll ts nodes view first → Stands c nodes view uid
child_stands nodes view {ts} {first} {place} {c} {uid} k stand = child_stands_in nodes view k.front c k.rest first uid k.uid_is (subst (λ (l : List Term). StandAll l nodes view first) k.all stand)
