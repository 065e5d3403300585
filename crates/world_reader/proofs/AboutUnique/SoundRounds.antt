-- The world that a line of rounds makes is valid.
use Rattle.std.proofs.Common.{◌≡◌, ◌∙◌, ◌<◌, ◌≤◌, ◌+◌, ◌-◌, ◌*◌, ◌/◌, ℕ, zero, suc, Bool, true, false, ◌&&◌, List, [], ◌∷◌, ◌++◌, map, length, Result, Err, refl, sym, ap, subst, arith, append-nil, append_assoc, length-append}
use Rattle.std.specs.Prelude.{nat_lt}
use Rattle.std.specs.List.{All, list_all}
use Rattle.std.specs.List.Sorted.{IsNonDecreasingBy}
use Rattle.std.proofs.Math.Nat.{div-mul-le_self}
use Rattle.std.proofs.lemmas.List.{length-map}
use Rattle.std.proofs.lemmas.List.Elements.{All-cons, All-get_or, All-head, All-nil, All-push, All-tail, All-weaker}
use Rattle.std.proofs.lemmas.List.Sorted.{IsNonDecreasingBy-push}
use Rattle.spec_script.proofs.Bools.{both}
use Rattle.spec_world.specs.declared.world.Event.{Event}
use Rattle.spec_world.specs.declared.world.Fact.{Fact}
use Rattle.spec_world.specs.declared.world.What.{What}
use Rattle.spec_world.specs.Worlds.{IsValidEvent, IsValidWhat}
use Rattle.spec_world_file.specs.declared.world_fault.WorldFaultKind.{WorldFaultKind}
use Rattle.spec_world_file.specs.WorldFile.{HaltPart, Part, Reading, TickPart, is_runner, rounds, runner_in, runners_of, steps_to, what_in, with_rounds, world_of}
use Rattle.world_draft.proofs.AboutRounds.{one_more}
use Rattle.world_reader.proofs.AboutUnique.Grown.{world_with_events}
use Rattle.world_reader.proofs.AboutUnique.Sound.{Sound, Stays, at_most, runner_within, stays_else}

-- events that are valid and in order, and none of them is later than this
record Ordered (facts : List Fact) (runners last : ℕ) (events : List Event) : Type 0 where
  valid : All (IsValidEvent facts runners) events
  in_order : IsNonDecreasingBy (λ e. e.at) events
  late : All (λ e. e.at ≤ last) events

module _ (facts : List Fact) (runners : ℕ) where
  abbrev Runs : ℕ → List Event → Type 0
  Runs last events = Ordered facts runners last events

  one_event : (at : ℕ) (what : What) (events : List Event) → at ≤ 1000000000000 → IsValidWhat facts runners what → Runs at events → Runs at (events ++ record { at = at; what = what } ∷ [])
  one_event at what events early valid h =
      let event : Event = record { at = at; what = what } in
      record {
        valid = All-push (IsValidEvent facts runners) events event h.valid (early, valid);
        in_order = IsNonDecreasingBy-push (λ e. e.at) events event h.in_order (λ d some. All-get_or (λ e. e.at ≤ at) events (length events - 1) d (omega arith) h.late);
        late = All-push (λ e. e.at ≤ at) events event h.late (omega arith);
      }

  -- one more round
  round_more : (at : ℕ) (whats : List What) (events : List Event) → at ≤ 1000000000000 → All (IsValidWhat facts runners) whats → Runs at events → Runs at (events ++ map (λ what. record { at = at; what = what }) whats)
  round_more at [] events early valid h = subst (Runs at) (sym (append-nil events)) h
  round_more at (what ∷ whats) events early valid h =
      let event : Event = record { at = at; what = what } in
      subst (Runs at) (append_assoc events (event ∷ []) (map (λ what. record { at = at; what = what }) whats))
      (round_more at whats (events ++ event ∷ []) early (All-tail (IsValidWhat facts runners) what whats valid) (one_event at what events early (All-head (IsValidWhat facts runners) what whats valid) h))

  later : (at last : ℕ) (events : List Event) → at ≤ last → Runs at events → Runs last events
  later at last events on h = record {
    valid = h.valid;
    in_order = h.in_order;
    late = All-weaker (λ e. e.at ≤ at) (λ e. e.at ≤ last) (λ e k. omega (arith, k, on)) events h.late;
  }

  -- a first round, and so many more
  rounds_more : (n at ms : ℕ) (whats : List What) (events : List Event) → at + n * ms ≤ 1000000000000 → All (IsValidWhat facts runners) whats → Runs at events → Runs (at + n * ms) (events ++ rounds (suc n) at ms whats)
  rounds_more zero at ms whats events early valid h =
      let round : List Event = map (λ what. record { at = at; what = what }) whats in
      let all : events ++ round ≡ events ++ (round ++ []) = ap (λ (es : List Event). events ++ es) (sym (append-nil round)) in
      later at (at + zero * ms) (events ++ (round ++ [])) (omega arith) (subst (Runs at) all (round_more at whats events (omega (arith, early)) valid h))
  rounds_more (suc n) at ms whats events early valid h =
      let round : List Event = map (λ what. record { at = at; what = what }) whats in
      let next : Runs (at + ms) (events ++ round) = later at (at + ms) (events ++ round) (omega arith) (round_more at whats events (omega (arith, early)) valid h) in
      let more : suc n * ms ≡ n * ms + ms = one_more n ms in
      let end : at + ms + n * ms ≡ at + suc n * ms = omega (arith, more) in
      subst (λ (last : ℕ). Runs last (events ++ (round ++ rounds (suc n) (at + ms) ms whats))) end
      (subst (Runs (at + ms + n * ms)) (append_assoc events round (rounds (suc n) (at + ms) ms whats))
      (rounds_more n (at + ms) ms whats (events ++ round) (omega (arith, early, end)) valid next))

length-rounds : (n at ms : ℕ) (whats : List What) → length (rounds n at ms whats) ≡ n * length whats
length-rounds zero at ms whats = omega arith
length-rounds (suc n) at ms whats =
    let round : List Event = map (λ what. record { at = at; what = what }) whats in
    let more : suc n * length whats ≡ n * length whats + length whats = one_more n (length whats) in
    let counted : length round ≡ length whats = length-map whats (λ what. record { at = at; what = what }) in
    omega (arith, more, length-append round (rounds n (at + ms) ms whats), counted, length-rounds n (at + ms) ms whats)

pub stays_rounds : (r : Reading) (last ms : ℕ) (whats : List What) → Sound r → last ≤ 1000000000000 → All (IsValidWhat r.facts (runners_of r)) whats → Stays (with_rounds last ms whats r)
stays_rounds r last ms whats h early valid =
    stays_else (nat_lt last r.moment) _ _ (λ on.
    stays_else (nat_lt 100000 (length r.events + (steps_to last ms r + 1) * length whats)) _ _ (λ room.
    let n : ℕ = steps_to last ms r in
    let less : n * ms ≤ last - r.moment = div-mul-le_self (last - r.moment) ms in
    let within : r.moment + n * ms ≤ 1000000000000 = omega (arith, early, at_most last r.moment on, less) in
    let start : Ordered r.facts (runners_of r) r.moment r.events = record { valid = h.world.events; in_order = h.world.in_order; late = h.late } in
    let one : suc n ≡ n + 1 = omega arith in
    let events : List Event = r.events ++ rounds (n + 1) r.moment ms whats in
    let all : Ordered r.facts (runners_of r) (r.moment + n * ms) events =
    subst (λ (k : ℕ). Ordered r.facts (runners_of r) (r.moment + n * ms) (r.events ++ rounds k r.moment ms whats)) one
    (rounds_more r.facts (runners_of r) n r.moment ms whats r.events within valid start) in
    let few : length events ≤ 100000 =
    omega (arith, length-append r.events (rounds (n + 1) r.moment ms whats), length-rounds (n + 1) r.moment ms whats, at_most 100000 (length r.events + (n + 1) * length whats) room) in
    record {
      world = world_with_events (world_of r) events h.world all.valid all.in_order few;
      late = all.late;
      moment = within;
    }))

-- the parts of rounds are valid
part_valid : (facts : List Fact) (runners : ℕ) (part : Part) → is_runner runners (runner_in part) ≡ true → IsValidWhat facts runners (what_in part)
part_valid facts runners (TickPart runner) within = runner_within runners runner within
part_valid facts runners (HaltPart runner) within = runner_within runners runner within

pub parts_valid : (facts : List Fact) (runners : ℕ) (parts : List Part) → list_all (λ part. is_runner runners (runner_in part)) parts ≡ true → All (IsValidWhat facts runners) (map what_in parts)
parts_valid facts runners [] within = All-nil (IsValidWhat facts runners)
parts_valid facts runners (part ∷ parts) within =
    let k = both (is_runner runners (runner_in part)) (list_all (λ part. is_runner runners (runner_in part)) parts) within in
    All-cons (IsValidWhat facts runners) (what_in part) (map what_in parts) (part_valid facts runners part k.0) (parts_valid facts runners parts k.1)
