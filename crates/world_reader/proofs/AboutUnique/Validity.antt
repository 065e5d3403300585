-- A world that a file reads as is valid.
use Rattle.std.proofs.Common.{◌≡◌, ℕ, ◌+◌, ◌≤◌, Bool, true, false, ◌&&◌, List, [], ◌∷◌, ◌++◌, map, length, pos, Option, Some, None, Result, Ok, Err, refl, sym, subst, arith}
use Rattle.std.specs.List.{list_all}
use Rattle.spec_script.proofs.Bools.{both}
use Rattle.std.specs.Prelude.{IsTrue, MatchBool, bytes_eq, codes, nat_abs, ◌==◌}
use Rattle.std.proofs.lemmas.List.{append-nil}
use Rattle.std.proofs.lemmas.List.Elements.{All-nil}
use Rattle.std.proofs.lemmas.List.Sorted.{IsNonDecreasingBy-short}
use Rattle.spec_script.specs.declared.syntax.Expr.{Expr}
use Rattle.spec_world.specs.declared.world.Event.{Event}
use Rattle.spec_world.specs.declared.world.Fact.{Fact}
use Rattle.spec_world.specs.declared.world.Row.{Row}
use Rattle.spec_world.specs.declared.world.RowSort.TheVariants.{When, Timed, TimedBy, Replay, Gate, Sensed, Told}
use Rattle.spec_world.specs.declared.world.Set.{Set}
use Rattle.spec_world.specs.declared.world.What.TheVariants.{Tick, Halt, Change, Tell}
use Rattle.spec_world.specs.declared.world.ToldOut.{ToldOut}
use Rattle.spec_world.specs.declared.world.World.{World}
use Rattle.spec_world_file.specs.declared.world_fault.WorldFault.{WorldFault}
use Rattle.spec_world_file.specs.declared.world_fault.WorldFaultKind.{WorldFaultKind}
use Rattle.spec_world.specs.Worlds.{IsComparisonIn, IsValidEvent, IsValidRow, IsValidWorld}
use Rattle.spec_tree.specs.Numbers.{in_range, is_int}
use Rattle.spec_world_file.specs.WorldFile.{Line, FactLine, IsLine, WhenLine, TimedLine, TimedByLine, ReplayLine, GateLine, SensedLine, ToldLine, FailsLine, NeedsLine, SetsLine, OutLine, NameLine, GoalLine, RunnersLine, AtLine, TickLine, HaltLine, SetLine, TellLine, EveryLine, AfterForm, AfterLine, AfterLines, AfterText, GoesOn, LinesMake, LinesRead, Reading, ReadsNumeric, ReadsOuts, ReadsTold, ReadsWorld, SaysOf, SaysOfOuts, by_expr, by_outs, closed, comparison_number, content, fact_number, is_group, is_ms, is_ignored, is_runner, is_small, is_uid, line_in, lines_in, no_header, nothing_read, plain_row, row_with_effect, row_with_fails, row_with_name, row_with_need, row_with_out, runners_of, telling_of, where_modelled, with_action, with_event, with_row, without_return, world_after, world_of, is_step, runner_in, what_in}
use Rattle.world_reader.proofs.AboutUnique.WellFormed.{AreWell, WellFormed, line_well}
use Rattle.world_reader.proofs.AboutUnique.Grown.{kept_more}
use Rattle.world_reader.proofs.AboutUnique.Sound.{Sound, Stays, comparison_there, fact_there, ms_most, no_names, no_numbers, runner_within, sound_closed, uid_within, stays_event, stays_fact, stays_goal, stays_moment, stays_numbered, stays_placed, stays_ranged, stays_runners, valid_expr}
use Rattle.world_reader.proofs.AboutUnique.SoundRows.{adds_effect, adds_fails, adds_name, adds_need, adds_out, stays_action, stays_comparison, stays_head, stays_modelled, stays_open, stays_placed_open, stays_row}
use Rattle.world_reader.proofs.AboutUnique.SoundRounds.{parts_valid, stays_rounds}
use Rattle.world_reader.proofs.AboutUnique.SoundTellings.{stays_telling}

stays_says : (text : List ℕ) (rule : Expr → Result Reading WorldFaultKind) (said : Result Reading WorldFaultKind) → SaysOf text rule said → ((e : Expr) → ReadsNumeric text (Some e) → Stays (rule e)) → Stays said
stays_says text rule said k h = subst Stays (sym k.is) (by k.expr k.reads)
  where
    by : (o : Option Expr) → ReadsNumeric text o → Stays (by_expr o rule)
    by None reads = tt
    by (Some e) reads = h e reads

stays_outs : (text : List ℕ) (rule : List ToldOut → Result Reading WorldFaultKind) (said : Result Reading WorldFaultKind) → SaysOfOuts text rule said → ((outs : List ToldOut) → ReadsOuts outs text → Stays (rule outs)) → Stays said
stays_outs text rule said k h = subst Stays (sym k.is) (by k.outs k.reads)
  where
    by : (o : Option (List ToldOut)) → ReadsTold text o → Stays (by_outs o rule)
    by None reads = tt
    by (Some outs) reads = h outs reads

stays_line : (r : Reading) (line : Line) (said : Result Reading WorldFaultKind) → WellFormed line → Sound r → AfterLine r line said → Stays said
stays_line r (FactLine name opening) said w h k =
    subst Stays (sym k) (stays_ranged (is_int opening) _ (λ int. stays_fact (closed r) name opening (sound_closed r h) w int))
stays_line r (IsLine id fact op value) said w h k =
    subst Stays (sym k) (stays_ranged (is_int value) _ (λ int. stays_comparison (closed r) id fact op value refl (sound_closed r h) w int))
stays_line r (WhenLine head expr) said w h k =
    stays_says expr _ said k (λ e reads. stays_head (closed r) head with_row (When e) w (λ known. valid_expr expr head.ports r.facts e reads known)
    (λ may. stays_row (closed r) (plain_row head.id head.ports (When e)) refl (sound_closed r h) may))
stays_line r (TimedLine head ms) said w h k =
    subst Stays (sym k) (stays_ranged (is_ms ms) _ (λ m. stays_head (closed r) head with_action (Timed (nat_abs ms) None) w (λ known. (ms_most ms m, tt))
    (λ may. stays_action (closed r) (plain_row head.id head.ports (Timed (nat_abs ms) None)) refl (sound_closed r h) may)))
stays_line r (TimedByLine head expr) said w h k =
    stays_says expr _ said k (λ e reads. stays_placed (is_group e) _ (λ group.
    stays_head (closed r) head with_action (TimedBy e None) w (λ known. (valid_expr expr head.ports r.facts e reads known, tt))
    (λ may. stays_action (closed r) (plain_row head.id head.ports (TimedBy e None)) refl (sound_closed r h) may)))
stays_line r (ReplayLine head ms outcomes) said w h k =
    subst Stays (sym k) (stays_ranged (is_ms ms) _ (λ m. stays_head (closed r) head with_action (Replay (nat_abs ms) outcomes) w.0 (λ known. (ms_most ms m, w.1, w.2))
    (λ may. stays_action (closed r) (plain_row head.id head.ports (Replay (nat_abs ms) outcomes)) refl (sound_closed r h) may)))
stays_line r (GateLine head expr) said w h k =
    stays_says expr _ said k (λ e reads. stays_head (closed r) head with_action (Gate e) w (λ known. valid_expr expr head.ports r.facts e reads known)
    (λ may. stays_action (closed r) (plain_row head.id head.ports (Gate e)) refl (sound_closed r h) may))
stays_line r (SensedLine head) said w h k =
    subst Stays (sym k) (stays_head (closed r) head with_row Sensed w (λ known. tt) (λ may. stays_row (closed r) (plain_row head.id head.ports Sensed) refl (sound_closed r h) may))
stays_line r (ToldLine head) said w h k =
    subst Stays (sym k) (stays_head (closed r) head with_action (Told []) w (λ known. no_names 8) (λ may. stays_action (closed r) (plain_row head.id head.ports (Told [])) refl (sound_closed r h) may))
stays_line r (FailsLine expr) said w h k =
    stays_says expr _ said k (λ e reads. stays_open r (row_with_fails r.facts e) h (λ row valid. adds_fails r.facts (r.rows ++ row ∷ []) row expr e valid reads))
stays_line r (NeedsLine id) said w h k =
    subst Stays (sym k) (stays_placed _ _ (λ placed. stays_numbered (comparison_number r.rows id) _ (λ n is.
    stays_placed_open r (row_with_need n) placed h (λ row modelled valid. adds_need r.facts (r.rows ++ row ∷ []) row n modelled valid (kept_more r.rows row n (comparison_there r.rows id n is))))))
stays_line r (SetsLine fact how value) said w h k =
    subst Stays (sym k) (stays_placed _ _ (λ placed. stays_ranged (is_int value) _ (λ int. stays_numbered (fact_number r.facts fact) _ (λ n is.
    let effect : Set = record { fact = n; how = how; value = value } in
    stays_placed_open r (row_with_effect effect) placed h (λ row modelled valid. adds_effect r.facts (r.rows ++ row ∷ []) row effect modelled valid (fact_there r.facts fact n is) int)))))
stays_line r (OutLine port expr) said w h k =
    stays_says expr _ said k (λ e reads. stays_modelled r (row_with_out r.facts port e) h (λ row modelled valid. adds_out r.facts (r.rows ++ row ∷ []) row expr port e modelled valid w reads))
stays_line r (NameLine port) said w h k =
    subst Stays (sym k) (stays_open r (row_with_name port) h (λ row valid. adds_name r.facts (r.rows ++ row ∷ []) row port valid w))
stays_line r (GoalLine id) said w h k =
    subst Stays (sym k) (stays_numbered (comparison_number (closed r).rows id) _ (λ n is.
    stays_goal (closed r) n (sound_closed r h) (there n (comparison_there (closed r).rows id n is))))
  where
    there : (n : ℕ) → IsComparisonIn (closed r).rows n → IsComparisonIn ((closed r).rows ++ []) n
    there n c = subst (λ (rows : List Row). IsComparisonIn rows n) (sym (append-nil (closed r).rows)) c
stays_line r (RunnersLine count) said w h k =
    subst Stays (sym k) (stays_placed (length r.events == 0) _ (λ none. stays_ranged (in_range (pos 1) (pos 16) count) _ (λ within.
    stays_runners (closed r) (nat_abs count) (sound_closed r h) none (runner_within 16 count within))))
stays_line r (AtLine ms) said w h k =
    subst Stays (sym k) (stays_ranged (is_ms ms) _ (λ m. stays_moment (closed r) (nat_abs ms) (sound_closed r h) (ms_most ms m)))
stays_line r (TickLine runner) said w h k =
    subst Stays (sym k) (stays_ranged (is_runner (runners_of r) runner) _ (λ within. stays_event (closed r) (Tick (nat_abs runner)) (sound_closed r h) (runner_within (runners_of r) runner within)))
stays_line r (HaltLine runner) said w h k =
    subst Stays (sym k) (stays_ranged (is_runner (runners_of r) runner) _ (λ within. stays_event (closed r) (Halt (nat_abs runner)) (sound_closed r h) (runner_within (runners_of r) runner within)))
stays_line r (SetLine fact value) said w h k =
    subst Stays (sym k) (stays_ranged (is_int value) _ (λ int. stays_numbered (fact_number r.facts fact) _ (λ n is.
    stays_event (closed r) (Change n value) (sound_closed r h) (fact_there r.facts fact n is, int))))
stays_line r (TellLine runner uid succeeds outs) said w h k =
    stays_outs outs _ said k (λ told reads.
    stays_ranged (is_runner (runners_of r) runner && is_uid uid && list_all (λ out. is_small out.value) told) _ (λ within.
    let numbers = both (is_runner (runners_of r) runner && is_uid uid) (list_all (λ out. is_small out.value) told) within in
    let leaf = both (is_runner (runners_of r) runner) (is_uid uid) numbers.0 in
    let of_runner = runner_within (runners_of r) runner leaf.0 in
    stays_telling told outs succeeds _ reads numbers.1 (λ valid.
    stays_event (closed r) (Tell (nat_abs runner) (nat_abs uid) (telling_of succeeds told)) (sound_closed r h) (of_runner.0, of_runner.1, uid_within uid leaf.1, valid))))
stays_line r (EveryLine ms last parts) said w h k =
    subst Stays (sym k) (stays_ranged (is_step ms && is_ms last && list_all (λ part. is_runner (runners_of r) (runner_in part)) parts) _ (λ within.
    let numbers = both (is_step ms && is_ms last) (list_all (λ part. is_runner (runners_of r) (runner_in part)) parts) within in
    let end = both (is_step ms) (is_ms last) numbers.0 in
    stays_rounds (closed r) (nat_abs last) (nat_abs ms) (map what_in parts) (sound_closed r h) (ms_most last end.1) (parts_valid r.facts (runners_of r) parts numbers.1)))

stays_form : (r : Reading) (o : Option Line) (said : Result Reading WorldFaultKind) → AreWell WellFormed o → Sound r → AfterForm r o said → Stays said
stays_form r None said w h k = subst Stays (sym k) tt
stays_form r (Some line) said w h k = stays_line r line said w h k

stays_text : (r : Reading) (text : List ℕ) (said : Result Reading WorldFaultKind) → Sound r → AfterText r text said → Stays said
stays_text r text said h = by (is_ignored (content text))
  where
    by : (b : Bool) → MatchBool b (said ≡ Ok r) (AfterForm r (line_in (content text)) said) → Stays said
    by true k = subst Stays (sym k) h
    by false k = stays_form r (line_in (content text)) said (line_well (content text)) h k

-- the world after some lines
abbrev StaysAfter : Result Reading WorldFault → Type 0
StaysAfter (Ok r) = Sound r
StaysAfter (Err fault) = Unit {0}

stays_lines : (n : ℕ) (texts : List (List ℕ)) (r : Reading) (said : Result Reading WorldFault) → Sound r → AfterLines n texts r said → StaysAfter said
stays_lines n [] r said h k = subst StaysAfter (sym k) h
stays_lines n (text ∷ texts) r said h k = by (stays_lines (n + 1) texts) k.0 (stays_text r text k.0 h k.1) k.2
  where
    by : ((left : Reading) (said : Result Reading WorldFault) → Sound left → AfterLines (n + 1) texts left said → StaysAfter said) →
        (next : Result Reading WorldFaultKind) → Stays next → GoesOn n (λ left. AfterLines (n + 1) texts left said) said next → StaysAfter said
    by rest (Ok left) s g = rest left said s g
    by rest (Err kind) s g = subst StaysAfter (sym g) tt

sound_nothing : Sound nothing_read
sound_nothing = record {
  world = record {
    facts = no_names 1024;
    openings = All-nil (λ (f : Fact). IsTrue (is_int f.opening));
    ids = no_names 1024;
    rows = All-nil (IsValidRow [] []);
    goals = no_numbers 64;
    wanted = All-nil (IsComparisonIn []);
    some_runner = omega arith;
    few_runners = omega arith;
    few_events = omega arith;
    events = All-nil (IsValidEvent [] 1);
    in_order = IsNonDecreasingBy-short (λ (e : Event). e.at) [] (omega arith);
  };
  late = All-nil (λ (e : Event). e.at ≤ 0);
  moment = omega arith;
}

valid_after : (after : Result Reading WorldFault) (w : World) → StaysAfter after → Ok w ≡ world_after after → IsValidWorld w
valid_after (Ok r) w s e = let is : w ≡ world_of r = cc in subst IsValidWorld (sym is) s.world
valid_after (Err fault) w s e = absurd (cc)

valid_lines : (texts : List (List ℕ)) (w : World) → LinesRead texts (Ok w) → IsValidWorld w
valid_lines [] w k = absurd (cc)
valid_lines (first ∷ rest) w k = by (bytes_eq (without_return first) (codes "bt-world 1")) k
  where
    by : (b : Bool) → MatchBool b (LinesMake rest (Ok w)) (◌≡◌ {A = Result World WorldFault} (Ok w) no_header) → IsValidWorld w
    by true m = valid_after m.after w (stays_lines 2 rest nothing_read m.after sound_nothing m.lines) m.is
    by false m = absurd (cc)

pub valid_world : (bytes : List ℕ) (w : World) → ReadsWorld bytes (Ok w) → IsValidWorld w
valid_world bytes w k = valid_lines (lines_in bytes) w k
