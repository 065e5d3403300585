-- Which leaves are held, and what the notes of calls say of one of them.
use Rattle.std.proofs.Common.{◌≡◌, ℕ, zero, suc, ◌+◌, ◌<◌, List, [], ◌∷◌, map, length, nat_eq, cond, Bool, true, false, ◌&&◌, is_some, slice_get, slice_set, Option, Some, None, refl, sym, ap, ◌∙◌, arith}
use Rattle.std.proofs.lemmas.Bool.{eq-eqb, ne_eqb}
use Rattle.std.proofs.Math.Dec.{eqb-suc-suc, eqb-suc-zero, eqb-zero-suc}
use Rattle.base_tables.specs.Shapes.{is_running}
use Rattle.run_laws.proofs.Instances.{held_in}
use Rattle.run_laws.proofs.ReadNotes.{Follows, read_all, read_both}
use Rattle.spec_run.specs.declared.leaf.Instance.{Instance}
use Rattle.spec_run.specs.declared.leaf.Phase.TheVariants as phase
use Rattle.spec_run.specs.declared.note.Note.{Note}
use Rattle.spec_run.specs.declared.note.Note.TheVariants as note
use Rattle.spec_run.specs.Done.{Call}
use Rattle.spec_run.specs.Leaf.{let_go, released}
use Rattle.spec_run.specs.Run.{Runner, quench_notes, quenched_notes, quenched_runner, releases}
use Rattle.spec_run.specs.Visit.{status_of}
use Rattle.spec_serve.specs.Traces.{Noted, is_call}
use Rattle.spec_tree.specs.declared.term.Tree.{Tree}

-- ---- Leaves that are held

abbrev pub there : Option Bool → Bool
there (Some b) = b
there None = false

-- whether the leaf of a uid is held, among these instances
abbrev pub held_among : List Instance → ℕ → Bool
held_among is uid = there (held_in is uid)

-- .. of this runner, where there is one
abbrev pub held_by : Option Runner → ℕ → Bool
held_by (Some r) uid = held_among r.instances uid
held_by None uid = false

-- .. of the runner of a number
abbrev pub held : List Runner → ℕ → ℕ → Bool
held rs (suc place) uid = held_by (slice_get rs place) uid
held rs zero uid = false

cond_false : (b : Bool) → cond b false false ≡ false
cond_false true = refl
cond_false false = refl

-- a leaf that was called is held as its call leaves it, and the others as they were
pub set_held : (is : List Instance) (uid p : ℕ) (w : Instance) → uid < length is → held_among (slice_set is uid w) p ≡ cond (nat_eq p uid) (is_some w.since) (held_among is p)
set_held [] uid p w within = absurd (omega (arith, within))
set_held (x ∷ is) zero zero w within = refl
set_held (x ∷ is) zero (suc p) w within = ap (λ b. cond b (is_some w.since) (held_among is p)) (sym (eqb-suc-zero p))
set_held (x ∷ is) (suc uid) zero w within = ap (λ b. cond b (is_some w.since) (is_some x.since)) (sym (eqb-zero-suc uid))
set_held (x ∷ is) (suc uid) (suc p) w within = set_held is uid p w (omega (arith, within)) ∙ ap (λ b. cond b (is_some w.since) (held_among is p)) (sym (eqb-suc-suc p uid))

-- .. also where there is none, and it is left free
set_free : (is : List Instance) (uid p : ℕ) (w : Instance) → is_some w.since ≡ false → held_among (slice_set is uid w) p ≡ cond (nat_eq p uid) false (held_among is p)
set_free [] uid p w free = sym (cond_false (nat_eq p uid))
set_free (x ∷ is) zero zero w free = free
set_free (x ∷ is) zero (suc p) w free = ap (λ b. cond b false (held_among is p)) (sym (eqb-suc-zero p))
set_free (x ∷ is) (suc uid) zero w free = ap (λ b. cond b false (is_some x.since)) (sym (eqb-zero-suc uid))
set_free (x ∷ is) (suc uid) (suc p) w free = set_free is uid p w free ∙ ap (λ b. cond b false (held_among is p)) (sym (eqb-suc-suc p uid))

-- ---- Notes

-- whether a call leaves its leaf held, by its note
abbrev pub leaves_held : Note → Bool
leaves_held (note.Started uid answer) = is_running (status_of answer)
leaves_held (note.Ran uid answer) = is_running (status_of answer)
leaves_held _ = false

-- whether a runner's leaf is held, after a note in an event of this runner
abbrev pub read_leaf : ℕ → ℕ → ℕ → Note → Bool → Bool
read_leaf runner uid by n known = cond (is_call runner uid by n) (leaves_held n) known

abbrev pub read_noted : ℕ → ℕ → Noted → Bool → Bool
read_noted runner uid n known = read_leaf runner uid n.runner n.note known

module _ (runner uid by : ℕ) where
  -- a leaf of a runner is held as the instances in an event say, if that is an event of the runner, and else as it was
  abbrev pub seen : Bool → List Instance → Bool
  seen other is = cond (nat_eq runner by) (held_among is uid) other

  seen_by : (own here after before now other : Bool) → now ≡ cond here after before → cond (own && here) after (cond own before other) ≡ cond own now other
  seen_by true here after before now other is = sym is
  seen_by false here after before now other is = refl

  pub follows_leaf : (count : ℕ) (other : Bool) → Follows count (read_leaf runner uid by) (seen other)
  follows_leaf count other = record {
    changed = λ at old new known. refl;
    root = λ of answer known. refl;
    started = λ is at w answer many within left. seen_by (nat_eq runner by) (nat_eq uid at) (is_running (status_of answer)) (held_among is uid) (held_among (slice_set is at w) uid) other
        (set_held is at uid w (omega (arith, many, within)) ∙ ap (λ b. cond (nat_eq uid at) b (held_among is uid)) left);
    ran = λ is at w answer many within left. seen_by (nat_eq runner by) (nat_eq uid at) (is_running (status_of answer)) (held_among is uid) (held_among (slice_set is at w) uid) other
        (set_held is at uid w (omega (arith, many, within)) ∙ ap (λ b. cond (nat_eq uid at) b (held_among is uid)) left);
    halted = λ is at w left. seen_by (nat_eq runner by) (nat_eq uid at) false (held_among is uid) (held_among (slice_set is at w) uid) other (set_free is at uid w left);
  }

  -- ---- A quench

  abbrev read : Note → Bool → Bool
  read n known = read_leaf runner uid by n known

  -- a leaf that is free stays so
  stays_free : (of : ℕ) (calls : List Call) → read_all read (quenched_notes of calls) false ≡ false
  stays_free of [] = refl
  stays_free of (c ∷ calls) = ap (λ b. read_all read (quenched_notes of calls) b) (cond_false (nat_eq runner of && nat_eq uid c.uid)) ∙ stays_free of calls

  quench_free : (rs : List Runner) (first : ℕ) → read_all read (quench_notes first rs) false ≡ false
  quench_free [] first = refl
  quench_free (r ∷ rs) first =
      read_both read (quenched_notes first (releases 0 r.instances)) (quench_notes (first + 1) rs) false
      ∙ ap (λ b. read_all read (quench_notes (first + 1) rs) b) (stays_free first (releases 0 r.instances))
      ∙ quench_free rs (first + 1)

  -- the notes of another runner say nothing
  other_runner : (of : ℕ) (calls : List Call) (known : Bool) → nat_eq runner of ≡ false → read_all read (quenched_notes of calls) known ≡ known
  other_runner of [] known other = refl
  other_runner of (c ∷ calls) known other =
      ap (λ b. read_all read (quenched_notes of calls) (cond (b && nat_eq uid c.uid) false known)) other ∙ other_runner of calls known other

  -- the notes of its own runner leave it free
  released_by : (b : Bool) (is : List Instance) (first : ℕ) (c : Call) → nat_eq runner runner ≡ true → nat_eq uid c.uid ≡ true →
      read_all read (quenched_notes runner (cond b (c ∷ releases first is) (releases first is))) b ≡ false
  released_by false is first c same here = stays_free runner (releases first is)
  released_by true is first c same here =
      ap (λ b. read_all read (quenched_notes runner (releases first is)) (cond (b && nat_eq uid c.uid) false true)) same
      ∙ ap (λ b. read_all read (quenched_notes runner (releases first is)) (cond b false true)) here
      ∙ stays_free runner (releases first is)

  passed_by : (b : Bool) (is : List Instance) (first : ℕ) (c : Call) (known : Bool) → nat_eq runner runner ≡ true → nat_eq uid c.uid ≡ false →
      read_all read (quenched_notes runner (releases first is)) known ≡ false → read_all read (quenched_notes runner (cond b (c ∷ releases first is) (releases first is))) known ≡ false
  passed_by false is first c known same other later = later
  passed_by true is first c known same other later =
      ap (λ b. read_all read (quenched_notes runner (releases first is)) (cond (b && nat_eq uid c.uid) false known)) same
      ∙ ap (λ b. read_all read (quenched_notes runner (releases first is)) (cond b false known)) other
      ∙ later

  released_free : (is : List Instance) (first place : ℕ) → uid ≡ first + place → read_all read (quenched_notes runner (releases first is)) (held_among is place) ≡ false
  released_free [] first place at = refl
  released_free (i ∷ is) first zero at =
      released_by (is_some i.since) is (first + 1) (record { uid = first; phase = phase.Halted; left = released i }) (eq-eqb runner runner refl) (eq-eqb uid first (omega (arith, at)))
  released_free (i ∷ is) first (suc place) at =
      passed_by (is_some i.since) is (first + 1) (record { uid = first; phase = phase.Halted; left = released i }) (held_among is place) (eq-eqb runner runner refl) (ne_eqb uid first (λ same. omega (arith, at, same)))
      (released_free is (first + 1) place (omega (arith, at)))

  quench_from : (rs : List Runner) (first place : ℕ) → runner ≡ first + place → read_all read (quench_notes first rs) (held_by (slice_get rs place) uid) ≡ false
  quench_from [] first place at = refl
  quench_from (r ∷ rs) first zero at =
      let of : first ≡ runner = omega (arith, at) in
      read_both read (quenched_notes first (releases 0 r.instances)) (quench_notes (first + 1) rs) (held_among r.instances uid)
      ∙ ap (λ b. read_all read (quench_notes (first + 1) rs) b)
      (ap (λ (n : ℕ). read_all read (quenched_notes n (releases 0 r.instances)) (held_among r.instances uid)) of ∙ released_free r.instances 0 uid (omega arith))
      ∙ quench_free rs (first + 1)
  quench_from (r ∷ rs) first (suc place) at =
      read_both read (quenched_notes first (releases 0 r.instances)) (quench_notes (first + 1) rs) (held_by (slice_get rs place) uid)
      ∙ ap (λ b. read_all read (quench_notes (first + 1) rs) b) (other_runner first (releases 0 r.instances) (held_by (slice_get rs place) uid) (ne_eqb runner first (λ same. omega (arith, at, same))))
      ∙ quench_from rs (first + 1) place (omega (arith, at))

-- after the notes of a quench of all runners no leaf is held,
pub quench_reads : (runner uid by : ℕ) (rs : List Runner) → read_all (read_leaf runner uid by) (quench_notes 1 rs) (held rs runner uid) ≡ false
quench_reads zero uid by rs = quench_free zero uid by rs 1
quench_reads (suc place) uid by rs = quench_from (suc place) uid by rs 1 place (omega arith)

let_go_free : (is : List Instance) (uid : ℕ) → held_among (map let_go is) uid ≡ false
let_go_free [] uid = refl
let_go_free (i ∷ is) zero = refl
let_go_free (i ∷ is) (suc uid) = let_go_free is uid

quenched_at : (tree : Tree) (rs : List Runner) (place uid : ℕ) → held_by (slice_get (map (quenched_runner tree) rs) place) uid ≡ false
quenched_at tree [] place uid = refl
quenched_at tree (r ∷ rs) zero uid = let_go_free r.instances uid
quenched_at tree (r ∷ rs) (suc place) uid = quenched_at tree rs place uid

-- and after the quench none is
pub quenched_free : (tree : Tree) (rs : List Runner) (runner uid : ℕ) → held (map (quenched_runner tree) rs) runner uid ≡ false
quenched_free tree rs zero uid = refl
quenched_free tree rs (suc place) uid = quenched_at tree rs place uid
