-- Children that keep their rules.
use Rattle.std.proofs.Common.{◌≡◌, ℕ, suc, ◌+◌, ◌≤◌, List, [], ◌∷◌, false, map, length, Option, None, refl, ap, arith}
use Rattle.std.proofs.lemmas.List.Sums.{sum_by-cons}
use Rattle.spec_run.specs.declared.memory.Memory.{Memory, Memory-F, out-Memory, out-roll-Memory}
use Rattle.spec_run.specs.declared.memory.Memo.{Memo}
use Rattle.spec_run.specs.declared.status.Status.{Status}
use Rattle.spec_run.specs.declared.status.Status.TheVariants.{Idle}
use Rattle.spec_world.specs.declared.world.Row.{Row}
use Rattle.spec_run.specs.Done.{State}
use Rattle.base_tables.specs.Shapes.{is_running}
use Rattle.spec_run.specs.Sites.{Meaning, View, remembered, sizes}
use Rattle.base_tables.specs.Sound.{Leaves, Sounds, States}
use Rattle.spec_run.specs.Visit.{status_of}
use Rattle.run_laws.proofs.Parts.{Same}

abbrev pub status_in : Memory → Status
status_in m = (out-Memory m).status

pub status_kept : (st : Status) (memo : Memo) (ms : List Memory) → status_in (remembered st memo ms) ≡ st
status_kept st memo ms = ap (λ (x : Memory-F Memory). x.status) (out-roll-Memory (record { status = st; memo = memo; children = ms }))

-- what is known of a child: its rules stay where its instances do and no time goes back, a reset and a visit keep
-- them, and where it is not RUNNING it can become IDLE
pub record Keeps (c : Meaning) (rules : States) : Type 0 where
  pub moves : (rows : List Row) (fault : Option ℕ) (uid : ℕ) (m : Memory) (s s1 : State) →
      rules rows None uid m s → Same uid c.size s s1 → s.moment ≤ s1.moment → rules rows fault uid m s1
  pub settles : (rows : List Row) (uid : ℕ) (m : Memory) (s : State) →
      rules rows None uid m s → is_running (status_in m) ≡ false → rules rows None uid (remembered Idle (out-Memory m).memo (out-Memory m).children) s
  pub reset : (view : View) (uid : ℕ) (m : Memory) (s : State) → rules view.rows None uid m s →
      Leaves (λ f m1 s1. rules view.rows f uid m1 s1) (λ _ m1 s1. status_in m1 ≡ Idle) uid c.size s (c.reset view uid m s)
  pub visit : (view : View) (uid : ℕ) (m : Memory) (s : State) → rules view.rows None uid m s →
      Leaves (λ f m1 s1. rules view.rows f uid m1 s1) (λ a m1 s1. status_in m1 ≡ status_of a) uid c.size s (c.visit view uid m s)

-- children of some type, with what each means and its rules, which it keeps
pub record Family : Type 1 where
  pub Child : Type 0
  pub meaning : Child → Meaning
  pub rules : Child → States
  pub keeps : (c : Child) → Keeps (meaning c) (rules c)

module _ (F : Family) where
  abbrev pub SoundAll : List Row → List F.Child → Option ℕ → ℕ → List Memory → State → Type 0
  SoundAll rows cs fault uid ms s = Sounds (λ c. (F.meaning c).size) F.rules cs rows fault uid ms s

  abbrev pub size_all : List F.Child → ℕ
  size_all cs = sizes (map F.meaning cs)

  pub size_cons : (c : F.Child) (cs : List F.Child) → size_all (c ∷ cs) ≡ (F.meaning c).size + size_all cs
  size_cons c cs = sum_by-cons (λ (k : Meaning). k.size) (F.meaning c) (map F.meaning cs)

  -- the rules of children stay where their instances do and no time goes back
  pub all_move : (rows : List Row) (cs : List F.Child) (fault : Option ℕ) (uid : ℕ) (ms : List Memory) (s s1 : State) →
      SoundAll rows cs None uid ms s → Same uid (size_all cs) s s1 → s.moment ≤ s1.moment → SoundAll rows cs fault uid ms s1
  all_move rows [] fault uid [] s s1 sound same later = tt
  all_move rows [] fault uid (m ∷ ms) s s1 sound same later = sound
  all_move rows (c ∷ cs) fault uid [] s s1 sound same later = sound
  all_move rows (c ∷ cs) fault uid (m ∷ ms) s s1 sound same later = (
    (F.keeps c).moves rows fault uid m s s1 sound.0 (λ p a b. same p a (omega (arith, b, size_cons c cs))) later,
    all_move rows cs fault (uid + (F.meaning c).size) ms s s1 sound.1 (λ p a b. same p (omega (arith, a)) (omega (arith, b, size_cons c cs))) later,
  )

  -- there are as many memories as children
  pub as_many : (rows : List Row) (cs : List F.Child) (uid : ℕ) (ms : List Memory) (s : State) → SoundAll rows cs None uid ms s → length ms ≡ length cs
  as_many rows [] uid [] s sound = refl
  as_many rows [] uid (m ∷ ms) s sound = absurd sound
  as_many rows (c ∷ cs) uid [] s sound = absurd sound
  as_many rows (c ∷ cs) uid (m ∷ ms) s sound = ap suc (as_many rows cs (uid + (F.meaning c).size) ms s sound.1)
