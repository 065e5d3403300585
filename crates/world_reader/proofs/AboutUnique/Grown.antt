-- A valid world stays valid as it grows.
use Rattle.std.proofs.Common.{◌≡◌, ℕ, zero, suc, ◌-◌, ◌<◌, ◌≤◌, Bool, true, false, List, [], ◌∷◌, ◌++◌, length, Option, Some, None, sym, ap, ◌∙◌, subst, arith}
use Rattle.std.specs.Prelude.{IsTrue, IfSome, bytes_eq, nat_eq, slice_get}
use Rattle.std.specs.List.{All, Contains, list_any}
use Rattle.std.proofs.lemmas.Cmp.{nat_eq_equiv, nat_list_eq_equiv}
use Rattle.std.proofs.lemmas.List.{append_assoc, length_push, map-append, length-map}
use Rattle.std.proofs.lemmas.List.Elements.{All-push, All-weaker, All-nil, All-cons, All-head, All-tail, Contains-append_left, All-get_or}
use Rattle.std.specs.List.Sorted.{IsNonDecreasingBy}
use Rattle.std.proofs.lemmas.List.Sorted.{IsNonDecreasingBy-push}
use Rattle.std.proofs.lemmas.Map.Keys.{IsDistinct-push}
use Rattle.spec_script.specs.declared.syntax.Expr.{Expr}
use Rattle.spec_script.specs.Scripts.{names_of}
use Rattle.spec_world.specs.declared.world.Event.{Event}
use Rattle.spec_world.specs.declared.world.Fact.{Fact}
use Rattle.spec_world.specs.declared.world.Row.{Row}
use Rattle.spec_world.specs.declared.world.RowSort.{RowSort}
use Rattle.spec_world.specs.declared.world.RowSort.TheVariants.{Is, When, Timed, TimedBy, Replay, Gate, Sensed, Told}
use Rattle.spec_world.specs.declared.world.What.{What}
use Rattle.spec_world.specs.declared.world.What.TheVariants.{Tick, Halt, Change, Tell}
use Rattle.spec_world.specs.declared.world.World.{World}
use Rattle.spec_world.specs.Worlds.{AreNames, AreNumbers, IsComparisonIn, IsExprOver, IsValidEvent, IsValidRow, IsValidSet, IsValidSort, IsValidWhat, IsValidWorld, comparisons, ids_of_rows, is_comparison, is_name, names_of_facts}
use Rattle.spec_tree.specs.Numbers.{is_int}

-- ---- Lists

pub all-prefix : {X : Type 0} (P : X → Type 0) (xs ys : List X) → All P (xs ++ ys) → All P xs
all-prefix P [] ys h = All-nil P
all-prefix P (x ∷ xs) ys h = All-cons P x xs (All-head P x (xs ++ ys) h) (all-prefix P xs ys (All-tail P x (xs ++ ys) h))

pub all-last : {X : Type 0} (P : X → Type 0) (xs : List X) (x : X) → All P (xs ++ x ∷ []) → P x
all-last P [] x h = All-head P x [] h
all-last P (y ∷ ys) x h = all-last P ys x (All-tail P y (ys ++ x ∷ []) h)

pub get-prefix : {X : Type 0} (xs ys : List X) (n : ℕ) (x : X) → slice_get xs n ≡ Some x → slice_get (xs ++ ys) n ≡ Some x
get-prefix [] ys n x h = absurd (cc)
get-prefix (y ∷ xs) ys zero x h = h
get-prefix (y ∷ xs) ys (suc n) x h = get-prefix xs ys n x h

pub names-push : (most : ℕ) (names : List (List ℕ)) (name : List ℕ) → AreNames most names → is_name name ≡ true → list_any (bytes_eq name) names ≡ false → length names < most → AreNames most (names ++ name ∷ [])
names-push most names name h named free room = record {
  few = omega (arith, length_push names name);
  named = All-push (λ n. IsTrue (is_name n)) names name h.named named;
  distinct = IsDistinct-push nat_list_eq_equiv names name h.distinct free;
}

pub numbers-push : (most : ℕ) (numbers : List ℕ) (n : ℕ) → AreNumbers most numbers → list_any (nat_eq n) numbers ≡ false → length numbers < most → AreNumbers most (numbers ++ n ∷ [])
numbers-push most numbers n h free room = record {
  few = omega (arith, length_push numbers n);
  distinct = IsDistinct-push nat_eq_equiv numbers n h.distinct free;
}

-- ---- One more fact

module _ (facts : List Fact) (fact : Fact) where
  abbrev pub more_facts : List Fact
  more_facts = facts ++ fact ∷ []

  names_more : names_of_facts more_facts ≡ names_of_facts facts ++ fact.name ∷ []
  names_more = map-append (λ f. f.name) facts (fact ∷ [])

  below_more : (n : ℕ) → n < length facts → n < length more_facts
  below_more n h = omega (arith, length_push facts fact)

  named_more : (ports : List (List ℕ)) (name : List ℕ) → Contains (ports ++ names_of_facts facts) name → Contains (ports ++ names_of_facts more_facts) name
  named_more ports name h =
      subst (λ (ns : List (List ℕ)). Contains ns name) (append_assoc ports (names_of_facts facts) (fact.name ∷ []) ∙ ap (λ (ns : List (List ℕ)). ports ++ ns) (sym names_more))
      (Contains-append_left (ports ++ names_of_facts facts) (fact.name ∷ []) name h)

  expr_more : (ports : List (List ℕ)) (e : Expr) → IsExprOver ports (names_of_facts facts) e → IsExprOver ports (names_of_facts more_facts) e
  expr_more ports e h = record {
    low = h.low;
    textless = h.textless;
    named = All-weaker (Contains (ports ++ names_of_facts facts)) (Contains (ports ++ names_of_facts more_facts)) (named_more ports) (names_of e) h.named;
  }

  fails_more : (ports : List (List ℕ)) (fails : Option Expr) → IfSome fails (IsExprOver ports (names_of_facts facts)) → IfSome fails (IsExprOver ports (names_of_facts more_facts))
  fails_more ports None h = h
  fails_more ports (Some e) h = expr_more ports e h

  sort_more : (ports : List (List ℕ)) (sort : RowSort) → IsValidSort facts ports sort → IsValidSort more_facts ports sort
  sort_more ports (Is n op value) h = (below_more n h.0, h.1, h.2)
  sort_more ports (When e) h = expr_more ports e h
  sort_more ports (Timed ms fails) h = (h.0, fails_more ports fails h.1)
  sort_more ports (TimedBy length fails) h = (expr_more ports length h.0, fails_more ports fails h.1)
  sort_more ports (Replay ms outcomes) h = h
  sort_more ports (Gate e) h = expr_more ports e h
  sort_more ports Sensed h = h
  sort_more ports (Told outs) h = h

  row_more : (rows : List Row) (row : Row) → IsValidRow facts rows row → IsValidRow more_facts rows row
  row_more rows row h = record {
    own = h.own;
    ports = h.ports;
    sort = sort_more row.ports row.sort h.sort;
    needs = h.needs;
    needed = h.needed;
    sets = h.sets;
    effects = All-weaker (IsValidSet facts) (IsValidSet more_facts) (λ set k. (below_more set.fact k.0, k.1)) row.sets h.effects;
    outs = h.outs;
    outputs = All-weaker (λ out. IsExprOver row.ports (names_of_facts facts) out.expr) (λ out. IsExprOver row.ports (names_of_facts more_facts) out.expr) (λ out. expr_more row.ports out.expr) row.outs h.outputs;
    bare = h.bare;
  }

  what_more : (runners : ℕ) (what : What) → IsValidWhat facts runners what → IsValidWhat more_facts runners what
  what_more runners (Tick runner) h = h
  what_more runners (Halt runner) h = h
  what_more runners (Change n value) h = (below_more n h.0, h.1)
  what_more runners (Tell runner uid telling) h = h

  pub world_with_fact : (w : World) → w.facts ≡ facts → IsValidWorld w → is_name fact.name ≡ true → list_any (bytes_eq fact.name) (names_of_facts facts) ≡ false → length facts < 1024 → is_int fact.opening ≡ true → IsValidWorld (record w { facts = more_facts })
  world_with_fact w is h named free room int =
      let k : IsValidWorld (record w { facts = facts }) = subst (λ (fs : List Fact). IsValidWorld (record w { facts = fs })) is h in
      record {
        facts = subst (AreNames 1024) (sym names_more) (names-push 1024 (names_of_facts facts) fact.name k.facts named free (omega (arith, length-map facts (λ f. f.name))));
        openings = All-push (λ f. IsTrue (is_int f.opening)) facts fact k.openings int;
        ids = k.ids;
        rows = All-weaker (IsValidRow facts w.rows) (IsValidRow more_facts w.rows) (row_more w.rows) w.rows k.rows;
        goals = k.goals;
        wanted = k.wanted;
        some_runner = k.some_runner;
        few_runners = k.few_runners;
        few_events = k.few_events;
        events = All-weaker (IsValidEvent facts w.runners) (IsValidEvent more_facts w.runners) (λ event e. (e.0, what_more w.runners event.what e.1)) w.events k.events;
        in_order = k.in_order;
      }

-- ---- One more row, or another one in the last place

-- the comparisons of these rows are comparisons of those
abbrev pub Kept : List Row → List Row → Type 0
Kept rows others = (n : ℕ) → IsComparisonIn rows n → IsComparisonIn others n

row_among : (facts : List Fact) (rows others : List Row) (row : Row) → Kept rows others → IsValidRow facts rows row → IsValidRow facts others row
row_among facts rows others row kept h = record {
  own = h.own;
  ports = h.ports;
  sort = h.sort;
  needs = h.needs;
  needed = All-weaker (IsComparisonIn rows) (IsComparisonIn others) kept row.needs h.needed;
  sets = h.sets;
  effects = h.effects;
  outs = h.outs;
  outputs = h.outputs;
  bare = h.bare;
}

pub kept_more : (rows : List Row) (row : Row) → Kept rows (rows ++ row ∷ [])
kept_more rows row n h =
    subst (λ (bs : List Bool). slice_get bs n ≡ Some true) (sym (map-append (λ r. is_comparison r.sort) rows (row ∷ [])))
    (get-prefix (comparisons rows) (is_comparison row.sort ∷ []) n true h)

kept_last : (rows : List Row) (old new : Row) → is_comparison old.sort ≡ is_comparison new.sort → Kept (rows ++ old ∷ []) (rows ++ new ∷ [])
kept_last rows old new same n h =
    subst (λ (bs : List Bool). slice_get bs n ≡ Some true)
    (map-append (λ r. is_comparison r.sort) rows (old ∷ []) ∙ ap (λ (b : Bool). comparisons rows ++ b ∷ []) same ∙ sym (map-append (λ r. is_comparison r.sort) rows (new ∷ []))) h

-- the rows of a world are changed, and its goals stay
with_rows : (w : World) (rows : List Row) → IsValidWorld w → AreNames 1024 (ids_of_rows rows) → All (IsValidRow w.facts rows) rows → Kept w.rows rows → IsValidWorld (record w { rows = rows })
with_rows w rows h ids all kept = record {
  facts = h.facts;
  openings = h.openings;
  ids = ids;
  rows = all;
  goals = h.goals;
  wanted = All-weaker (IsComparisonIn w.rows) (IsComparisonIn rows) kept w.goals h.wanted;
  some_runner = h.some_runner;
  few_runners = h.few_runners;
  few_events = h.few_events;
  events = h.events;
  in_order = h.in_order;
}

pub world_with_row : (w : World) (row : Row) → IsValidWorld w → IsValidRow w.facts w.rows row → is_name row.id ≡ true → list_any (bytes_eq row.id) (ids_of_rows w.rows) ≡ false → length w.rows < 1024 → IsValidWorld (record w { rows = w.rows ++ row ∷ [] })
world_with_row w row h valid named free room =
    let all = w.rows ++ row ∷ [] in
    with_rows w all h
    (subst (AreNames 1024) (sym (map-append (λ r. r.id) w.rows (row ∷ []))) (names-push 1024 (ids_of_rows w.rows) row.id h.ids named free (omega (arith, length-map w.rows (λ r. r.id)))))
    (All-push (IsValidRow w.facts all) w.rows row
    (All-weaker (IsValidRow w.facts w.rows) (IsValidRow w.facts all) (λ r. row_among w.facts w.rows all r (kept_more w.rows row)) w.rows h.rows)
    (row_among w.facts w.rows all row (kept_more w.rows row) valid))
    (kept_more w.rows row)

pub world_with_last : (w : World) (rows : List Row) (old new : Row) → w.rows ≡ rows ++ old ∷ [] → IsValidWorld w → new.id ≡ old.id → is_comparison old.sort ≡ is_comparison new.sort → (IsValidRow w.facts (rows ++ old ∷ []) old → IsValidRow w.facts (rows ++ old ∷ []) new) → IsValidWorld (record w { rows = rows ++ new ∷ [] })
world_with_last w rows old new is h id same valid =
    let before = rows ++ old ∷ [] in
    let all = rows ++ new ∷ [] in
    let kept : Kept before all = kept_last rows old new same in
    let given : IsValidWorld (record w { rows = before }) = subst (λ (rs : List Row). IsValidWorld (record w { rows = rs })) is h in
    with_rows (record w { rows = before }) all given
    (subst (AreNames 1024) (map-append (λ r. r.id) rows (old ∷ []) ∙ ap (λ (n : List ℕ). ids_of_rows rows ++ n ∷ []) (sym id) ∙ sym (map-append (λ r. r.id) rows (new ∷ []))) given.ids)
    (All-push (IsValidRow w.facts all) rows new
    (All-weaker (IsValidRow w.facts before) (IsValidRow w.facts all) (λ r. row_among w.facts before all r kept) rows (all-prefix (IsValidRow w.facts before) rows (old ∷ []) given.rows))
    (row_among w.facts before all new kept (valid (all-last (IsValidRow w.facts before) rows old given.rows))))
    kept

-- ---- One more goal or event, and other runners before any event

pub world_with_goal : (w : World) (n : ℕ) → IsValidWorld w → IsComparisonIn w.rows n → list_any (nat_eq n) w.goals ≡ false → length w.goals < 64 → IsValidWorld (record w { goals = w.goals ++ n ∷ [] })
world_with_goal w n h there free room = record {
  facts = h.facts;
  openings = h.openings;
  ids = h.ids;
  rows = h.rows;
  goals = numbers-push 64 w.goals n h.goals free room;
  wanted = All-push (IsComparisonIn w.rows) w.goals n h.wanted there;
  some_runner = h.some_runner;
  few_runners = h.few_runners;
  few_events = h.few_events;
  events = h.events;
  in_order = h.in_order;
}

pub world_with_runners : (w : World) (count : ℕ) → IsValidWorld w → w.events ≡ [] → 1 ≤ count → count ≤ 16 → IsValidWorld (record w { runners = count })
world_with_runners w count h none low high = record {
  facts = h.facts;
  openings = h.openings;
  ids = h.ids;
  rows = h.rows;
  goals = h.goals;
  wanted = h.wanted;
  some_runner = low;
  few_runners = high;
  few_events = h.few_events;
  events = subst (All (IsValidEvent w.facts count)) (sym none) (All-nil (IsValidEvent w.facts count));
  in_order = h.in_order;
}

pub world_with_events : (w : World) (events : List Event) → IsValidWorld w → All (IsValidEvent w.facts w.runners) events → IsNonDecreasingBy (λ e. e.at) events → length events ≤ 100000 → IsValidWorld (record w { events = events })
world_with_events w events h valid ordered few = record {
  facts = h.facts;
  openings = h.openings;
  ids = h.ids;
  rows = h.rows;
  goals = h.goals;
  wanted = h.wanted;
  some_runner = h.some_runner;
  few_runners = h.few_runners;
  few_events = few;
  events = valid;
  in_order = ordered;
}

pub world_with_event : (w : World) (event : Event) → IsValidWorld w → IsValidEvent w.facts w.runners event → All (λ e. e.at ≤ event.at) w.events → length w.events < 100000 → IsValidWorld (record w { events = w.events ++ event ∷ [] })
world_with_event w event h valid late room = record {
  facts = h.facts;
  openings = h.openings;
  ids = h.ids;
  rows = h.rows;
  goals = h.goals;
  wanted = h.wanted;
  some_runner = h.some_runner;
  few_runners = h.few_runners;
  few_events = omega (arith, length_push w.events event);
  events = All-push (IsValidEvent w.facts w.runners) w.events event h.events valid;
  in_order = IsNonDecreasingBy-push (λ e. e.at) w.events event h.in_order (λ d some. All-get_or (λ e. e.at ≤ event.at) w.events (length w.events - 1) d (omega arith) late);
}
