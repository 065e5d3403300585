-- What becomes of the children where one of them is reset or visited.
use Rattle.std.proofs.Common.{◌≡◌, ℕ, zero, suc, ◌+◌, ◌<◌, ◌≤◌, Bool, List, [], ◌∷◌, map, length, slice_set, Option, None, refl, sym, ap, subst, ◌∙◌, arith, ⊎_elim, cond, sum_by, count_by}
use Rattle.std.proofs.lemmas.Bool.{cases_lt}
use Rattle.std.proofs.lemmas.List.{get_or-set_same, get_or-set_other, get_or_past, length-map, length-set, map-set, set_past}
use Rattle.std.proofs.lemmas.List.Sums.{sum_by-set}
use Rattle.spec_run.specs.declared.memory.Memo.TheVariants.{Nothing}
use Rattle.spec_run.specs.declared.memory.Memory.{Memory}
use Rattle.spec_run.specs.declared.status.Status.{Status}
use Rattle.spec_run.specs.declared.status.Status.TheVariants.{Idle}
use Rattle.spec_run.specs.Done.{Done, State}
use Rattle.base_tables.specs.Shapes.{status_at}
use Rattle.spec_run.specs.Sites.{View, children_from, memory_at, placed}
use Rattle.base_tables.specs.Sound.{Leaves, statuses}
use Rattle.spec_run.specs.Steps.{Child, child_at}
use Rattle.spec_run.specs.Visit.{status_of}
use Rattle.run_laws.proofs.Parts.{left_into, within_same}
use Rattle.run_laws.proofs.Children.{Family, SoundAll, as_many, size_all, status_in, status_kept}
use Rattle.run_laws.proofs.Seats.{Seat, seated}

-- the child at this place has this status now, and the others have theirs
pub record Changed (place : ℕ) (st : Status) (ss ss1 : List Status) : Type 0 where
  pub here : status_at ss1 place ≡ st
  pub is_set : ss1 ≡ slice_set ss place st

module _ {place : ℕ} {st : Status} {ss ss1 : List Status} (changed : Changed place st ss ss1) where
  pub others : (k : ℕ) → (k ≡ place → ⊥) → status_at ss1 k ≡ status_at ss k
  others k other = ap (λ (x : List Status). status_at x k) changed.is_set ∙ get_or-set_other ss place k st Idle other

  pub same_number : length ss1 ≡ length ss
  same_number = ap length changed.is_set ∙ length-set ss place st

  -- how many children pass a test has changed by this child alone
  pub counts : (p : Status → Bool) → count_by p ss1 + cond (p (status_at ss place)) 1 0 ≡ count_by p ss + cond (p st) 1 0
  counts p =
      let one : Status → ℕ = λ x. cond (p x) 1 0 in
      ⊎_elim
      (λ within. ap (λ (x : List Status). sum_by one x + one (status_at ss place)) changed.is_set ∙ sum_by-set one ss place st Idle within)
      (λ past. let none : status_at ss place ≡ Idle = get_or_past ss place Idle past in
      let idle : st ≡ Idle = sym changed.here ∙ get_or_past ss1 place Idle (let short : length ss1 ≤ place = omega (arith, past, same_number) in short) in
      ap (λ (x : List Status). sum_by one x + one (status_at ss place)) (changed.is_set ∙ set_past ss place st past) ∙ ap (λ x. sum_by one ss + one x) (none ∙ sym idle))
      (cases_lt place (length ss))

-- after the last child there is none, and nothing changes
unchanged : (ss : List Status) (place : ℕ) → length ss ≤ place → Changed place Idle ss ss
unchanged ss place past = record { here = get_or_past ss place Idle past; is_set = sym (set_past ss place Idle past) }

-- the status of the child at a place
pub status_of_place : (ms : List Memory) (place : ℕ) → status_at (statuses ms) place ≡ status_in (memory_at ms place)
status_of_place [] place = sym (status_kept Idle Nothing [])
status_of_place (m ∷ ms) zero = refl
status_of_place (m ∷ ms) (suc place) = status_of_place ms place

pub number_of_statuses : (ms : List Memory) → length (statuses ms) ≡ length ms
number_of_statuses ms = length-map ms status_in

set_status : (ms : List Memory) (place : ℕ) (m : Memory) (st : Status) → place < length ms → status_in m ≡ st → Changed place st (statuses ms) (statuses (slice_set ms place m))
set_status ms place m st within is =
    let set : statuses (slice_set ms place m) ≡ slice_set (statuses ms) place st = map-set status_in ms place m ∙ ap (λ (x : Status). slice_set (statuses ms) place x) is in
    record {
      here = ap (λ (x : List Status). status_at x place) set ∙ get_or-set_same (statuses ms) place st Idle (omega (arith, within, number_of_statuses ms));
      is_set = set;
    }

module _ (F : Family) (view : View) (cs : List F.Child) (uid : ℕ) where
  -- the children as their node sees them
  abbrev pub children_here : List Child
  children_here = children_from view (map F.meaning cs) uid 0

  abbrev pub All : Option ℕ → List Memory → State → Type 0
  All f ms s = SoundAll F view.rows cs f uid ms s

  -- what a part leaves of the children, with a property of its answer and of the statuses before and after
  abbrev pub AllLeft : {A : Type 0} → (A → List Status → List Status → Type 0) → List Memory → State → Done A (List Memory) → Type 0
  AllLeft fits ms s d = Leaves All (λ a ms1 s1. fits a (statuses ms) (statuses ms1)) uid (size_all F cs) s d

  -- there are as many statuses as children
  pub as_many_statuses : (ms : List Memory) (s : State) → All None ms s → length (statuses ms) ≡ length cs
  as_many_statuses ms s all = number_of_statuses ms ∙ as_many F view.rows cs uid ms s all

  one_acts : {A : Type 0} (st : A → Status) (c : F.Child) (at place : ℕ) (ms : List Memory) (s : State) (d : Done A Memory) → Seat F view.rows cs uid place c at → All None ms s →
      Leaves (λ f m1 s1. F.rules c view.rows f at m1 s1) (λ a m1 s1. status_in m1 ≡ st a) at (F.meaning c).size s d →
      AllLeft (λ a ss ss1. Changed place (st a) ss ss1) ms s (placed place ms d)
  one_acts st c at place ms s d seat all left =
      left_into {rules = λ f m1 s1. F.rules c view.rows f at m1 s1} {fits = λ a m1 s1. status_in m1 ≡ st a} {rules2 = All} {fits2 = λ a ms1 s1. Changed place (st a) (statuses ms) (statuses ms1)}
      uid (size_all F cs) at (F.meaning c).size s d.answer d.memory (slice_set ms place d.memory) d.state seat.low seat.high left
      (λ f here w. seat.back f ms d.memory s d.state all w here)
      (λ a is here w. set_status ms place d.memory (st a) (omega (arith, seat.there, as_many F view.rows cs uid ms s all)) is)

  nobody_past : (place : ℕ) (ms : List Memory) (s : State) → All None ms s → length cs ≤ place → length (statuses ms) ≤ place
  nobody_past place ms s all past = omega (arith, past, as_many_statuses ms s all)

  module _ (place : ℕ) (ms : List Memory) (s : State) (all : All None ms s) where
    abbrev it : Child
    it = child_at children_here place

    -- the child at a place is reset
    pub reset_at : AllLeft (λ _ ss ss1. Changed place Idle ss ss1) ms s (it.reset ms s)
    reset_at =
        let Goal : Child → Type 0 = λ child. AllLeft (λ _ ss ss1. Changed place Idle ss ss1) ms s (child.reset ms s) in
        ⊎_elim
        (λ there. subst Goal (sym there.is_child)
        (one_acts (λ _. Idle) there.who there.at place ms s ((F.meaning there.who).reset view there.at (memory_at ms place) s) there.seat all
        ((F.keeps there.who).reset view there.at (memory_at ms place) s (there.seat.sound ms s all))))
        (λ none. subst Goal (sym none.1) (record { sound = all; within = within_same uid (size_all F cs) s; ends = unchanged (statuses ms) place (nobody_past place ms s all none.0) }))
        (seated F view cs uid place)

    -- it is visited
    pub visit_at : AllLeft (λ a ss ss1. Changed place (status_of a) ss ss1) ms s (it.visit ms s)
    visit_at =
        let Goal : Child → Type 0 = λ child. AllLeft (λ a ss ss1. Changed place (status_of a) ss ss1) ms s (child.visit ms s) in
        ⊎_elim
        (λ there. subst Goal (sym there.is_child)
        (one_acts status_of there.who there.at place ms s ((F.meaning there.who).visit view there.at (memory_at ms place) s) there.seat all
        ((F.keeps there.who).visit view there.at (memory_at ms place) s (there.seat.sound ms s all))))
        (λ none. subst Goal (sym none.1) (record { sound = all; within = within_same uid (size_all F cs) s; ends = unchanged (statuses ms) place (nobody_past place ms s all none.0) }))
        (seated F view cs uid place)

    -- its status is the one at its place
    pub status_here : it.status ms ≡ status_at (statuses ms) place
    status_here =
        ⊎_elim
        (λ there. ap (λ (child : Child). child.status ms) there.is_child ∙ sym (status_of_place ms place))
        (λ none. ap (λ (child : Child). child.status ms) none.1 ∙ sym (get_or_past (statuses ms) place Idle (nobody_past place ms s all none.0)))
        (seated F view cs uid place)
