-- The world that lines make is valid after each line of a row.
use Rattle.std.proofs.Common.{◌≡◌, ℕ, ◌<◌, ◌≤◌, Bool, true, false, not, ◌||◌, List, [], ◌∷◌, ◌++◌, length, ℤ, Option, Some, None, Result, Ok, Err, refl, sym, ap, ◌∙◌, subst, arith, if◌then◌else◌}
use Rattle.std.specs.Prelude.{bytes_eq, is_some, nat_eq, nat_le, nat_lt}
use Rattle.std.specs.Option.{option_to_list}
use Rattle.std.specs.List.{All, list_all, list_any}
use Rattle.std.proofs.lemmas.List.{append-nil, length-map, map-append}
use Rattle.std.proofs.lemmas.List.Elements.{All-push, All-nil}
use Rattle.std.proofs.lemmas.List.Sums.{AllPass-from_list_all}
use Rattle.spec_script.specs.declared.syntax.Cmp.{Cmp}
use Rattle.spec_script.specs.declared.syntax.Expr.{Expr}
use Rattle.spec_world.specs.declared.world.Fact.{Fact}
use Rattle.spec_world.specs.declared.world.Row.{Row}
use Rattle.spec_world.specs.declared.world.RowSort.{RowSort}
use Rattle.spec_world.specs.declared.world.RowSort.TheVariants.{Is, When, Timed, TimedBy, Replay, Gate, Sensed, Told}
use Rattle.spec_world.specs.declared.world.Set.{Set}
use Rattle.spec_world_file.specs.declared.world_fault.WorldFaultKind.{WorldFaultKind}
use Rattle.spec_tree.specs.Names.{is_reserved}
use Rattle.spec_world.specs.Worlds.{IsComparisonIn, IsExprOver, AreNames, AreNumbers, IsValidRow, IsValidSet, IsValidSort, IsValidWorld, facts_set, ids_of_rows, is_comparison, is_modelled, is_name, names_of_facts, ports_written}
use Rattle.spec_tree.specs.Numbers.{is_int}
use Rattle.spec_world_file.specs.WorldFile.{Reading, Head, ReadsNumeric, fact_number, fails_by, is_taken, knows_all, knows_sort, plain_row, repeats, row_with_effect, row_with_fails, row_with_name, row_with_need, row_with_out, where_modelled, with_action, with_comparison, with_head, with_name, with_open, with_open_row, with_row, world_of}
use Rattle.world_reader.proofs.AboutUnique.WellFormed.{NamedHead}
use Rattle.world_reader.proofs.AboutUnique.Grown.{all-last, names-push, numbers-push, world_with_last, world_with_row}
use Rattle.world_reader.proofs.AboutUnique.Sound.{Sound, Stays, any-map, at_most, below, distinct_ports, fact_there, no_names, no_numbers, not_both, not_not, nothing_distinct, stays_else, stays_numbered, valid_expr}

-- ---- One more row

plain_valid : (facts : List Fact) (rows : List Row) (id : List ℕ) (ports : List (List ℕ)) (sort : RowSort) → is_reserved id ≡ false → list_all is_name ports ≡ true → repeats [] ports ≡ false → length ports ≤ 8 → IsValidSort facts ports sort → IsValidRow facts rows (plain_row id ports sort)
plain_valid facts rows id ports sort own named differ few valid = record {
  own = own;
  ports = record { few = few; named = AllPass-from_list_all is_name ports named; distinct = distinct_ports [] ports (nothing_distinct bytes_eq) differ };
  sort = valid;
  needs = no_numbers 16;
  needed = All-nil (IsComparisonIn rows);
  sets = no_numbers 16;
  effects = All-nil (IsValidSet facts);
  outs = no_names 8;
  outputs = All-nil (λ out. IsExprOver ports (names_of_facts facts) out.expr);
  bare = λ k. (refl, refl, refl);
}

-- a row that may be added where no row is open
pub record MayJoin (r : Reading) (row : Row) : Type 0 where
  pub valid : IsValidRow r.facts r.rows row
  pub named : is_name row.id ≡ true
  pub free : list_any (bytes_eq row.id) (ids_of_rows r.rows) ≡ false

joined : (r : Reading) (row : Row) → r.open_row ≡ None → Sound r → MayJoin r row → length r.rows < 1024 → IsValidWorld (record (world_of r) { rows = r.rows ++ row ∷ [] })
joined r row none h may room =
    let whole : r.rows ++ option_to_list r.open_row ≡ r.rows = ap (λ (o : Option Row). r.rows ++ option_to_list o) none ∙ append-nil r.rows in
    world_with_row (record (world_of r) { rows = r.rows }) row
    (subst (λ (rows : List Row). IsValidWorld (record (world_of r) { rows = rows })) whole h.world)
    may.valid may.named may.free room

pub stays_row : (r : Reading) (row : Row) → r.open_row ≡ None → Sound r → MayJoin r row → Stays (with_row row r)
stays_row r row none h may =
    stays_else (nat_le 1024 (length r.rows)) _ _ (λ room.
    let all = r.rows ++ row ∷ [] in
    let whole : all ++ option_to_list r.open_row ≡ all = ap (λ (o : Option Row). all ++ option_to_list o) none ∙ append-nil all in
    record {
      world = subst (λ (rows : List Row). IsValidWorld (record (world_of r) { rows = rows })) (sym whole) (joined r row none h may (below 1024 (length r.rows) room));
      late = h.late;
      moment = h.moment;
    })

pub stays_action : (r : Reading) (row : Row) → r.open_row ≡ None → Sound r → MayJoin r row → Stays (with_action row r)
stays_action r row none h may =
    stays_else (nat_le 1024 (length r.rows)) _ _ (λ room.
    record {
      world = joined r row none h may (below 1024 (length r.rows) room);
      late = h.late;
      moment = h.moment;
    })

pub stays_head :
    (r : Reading) (head : Head) (add : Row → Reading → Result Reading WorldFaultKind) (sort : RowSort) → NamedHead head →
    (knows_sort head.ports r.facts sort ≡ true → IsValidSort r.facts head.ports sort) →
    (MayJoin r (plain_row head.id head.ports sort) → Stays (add (plain_row head.id head.ports sort) r)) →
    Stays (with_head head add sort r)
stays_head r head add sort named valid adds =
    stays_else (is_taken r.rows head.id || repeats [] head.ports) _ _ (λ single.
    stays_else (not (knows_sort head.ports r.facts sort)) _ _ (λ known.
    stays_else (nat_lt 8 (length head.ports)) _ _ (λ few.
    let apart = not_both (is_taken r.rows head.id) (repeats [] head.ports) single in
    let own = not_both (is_reserved head.id) (list_any (bytes_eq head.id) (ids_of_rows r.rows)) apart.0 in
    adds (record {
      valid = plain_valid r.facts r.rows head.id head.ports sort own.0 named.ports apart.1 (at_most 8 (length head.ports) few) (valid (not_not (knows_sort head.ports r.facts sort) known));
      named = named.id;
      free = own.1;
    }))))

pub stays_comparison : (r : Reading) (id fact : List ℕ) (op : Cmp) (value : ℤ) → r.open_row ≡ None → Sound r → is_name id ≡ true → is_int value ≡ true → Stays (with_comparison id fact op value r)
stays_comparison r id fact op value none h named int =
    stays_else (is_taken r.rows id) _ _ (λ free.
    let own = not_both (is_reserved id) (list_any (bytes_eq id) (ids_of_rows r.rows)) free in
    stays_numbered (fact_number r.facts fact) _ (λ n is.
    stays_row r (plain_row id [] (Is n op value)) none h (record {
      valid = plain_valid r.facts r.rows id [] (Is n op value) own.0 refl refl (omega arith) (fact_there r.facts fact n is, int, refl);
      named = named;
      free = own.1;
    })))

-- ---- More of the open action

-- what an addition makes of a row
abbrev pub Adds : List Fact → List Row → Row → Result Row WorldFaultKind → Type 0
Adds facts rows row (Ok new) = (new.id ≡ row.id) × (is_comparison row.sort ≡ is_comparison new.sort) × IsValidRow facts rows new
Adds facts rows row (Err kind) = Unit {0}

adds_else : (facts : List Fact) (rows : List Row) (row : Row) (b : Bool) (kind : WorldFaultKind) (said : Result Row WorldFaultKind) → (b ≡ false → Adds facts rows row said) → Adds facts rows row (if b then Err kind else said)
adds_else facts rows row true kind said h = tt
adds_else facts rows row false kind said h = h refl

stays_open_row : (r : Reading) (row : Row) (said : Result Row WorldFaultKind) → r.open_row ≡ Some row → Sound r → Adds r.facts (r.rows ++ row ∷ []) row said → Stays (with_open_row r said)
stays_open_row r row (Err kind) is h adds = tt
stays_open_row r row (Ok new) is h adds = record {
  world = world_with_last (world_of r) r.rows row new (ap (λ (o : Option Row). r.rows ++ option_to_list o) is) h.world adds.0 adds.1 (λ old. adds.2);
  late = h.late;
  moment = h.moment;
}

-- the row that is open is valid
open_valid : (r : Reading) (row : Row) → r.open_row ≡ Some row → Sound r → IsValidRow r.facts (r.rows ++ row ∷ []) row
open_valid r row is h =
    all-last (IsValidRow r.facts (r.rows ++ row ∷ [])) r.rows row
    (subst (λ (rows : List Row). All (IsValidRow r.facts rows) rows) (ap (λ (o : Option Row). r.rows ++ option_to_list o) is) h.world.rows)

-- what may be added to any action
pub stays_open :
    (r : Reading) (add : Row → Result Row WorldFaultKind) → Sound r →
    ((row : Row) → IsValidRow r.facts (r.rows ++ row ∷ []) row → Adds r.facts (r.rows ++ row ∷ []) row (add row)) →
    Stays (with_open r.open_row r add)
stays_open r add h adds = by r.open_row refl
  where
    by : (o : Option Row) → r.open_row ≡ o → Stays (with_open o r add)
    by None is = tt
    by (Some row) is = stays_open_row r row (add row) is h (adds row (open_valid r row is h))

-- what may be added to one that is modelled
pub stays_modelled :
    (r : Reading) (add : Row → Result Row WorldFaultKind) → Sound r →
    ((row : Row) → is_modelled row.sort ≡ true → IsValidRow r.facts (r.rows ++ row ∷ []) row → Adds r.facts (r.rows ++ row ∷ []) row (add row)) →
    Stays (with_open (where_modelled r.open_row) r add)
stays_modelled r add h adds = by r.open_row refl
  where
    by : (o : Option Row) → r.open_row ≡ o → Stays (with_open (where_modelled o) r add)
    by None is = tt
    by (Some row) is = row_by (is_modelled row.sort) refl
      where
        row_by : (b : Bool) → is_modelled row.sort ≡ b → Stays (with_open (if b then Some row else None) r add)
        row_by true e = stays_open_row r row (add row) is h (adds row e (open_valid r row is h))
        row_by false e = tt

-- the open action, where it is modelled
modelled_is : (o : Option Row) → is_some (where_modelled o) ≡ true → where_modelled o ≡ o
modelled_is None h = absurd (cc)
modelled_is (Some row) h = by (is_modelled row.sort) h
  where
    by : (b : Bool) → is_some (if b then Some row else None) ≡ true → (if b then Some row else None) ≡ Some row
    by true k = refl
    by false k = absurd (cc)

pub stays_placed_open :
    (r : Reading) (add : Row → Result Row WorldFaultKind) → is_some (where_modelled r.open_row) ≡ true → Sound r →
    ((row : Row) → is_modelled row.sort ≡ true → IsValidRow r.facts (r.rows ++ row ∷ []) row → Adds r.facts (r.rows ++ row ∷ []) row (add row)) →
    Stays (with_open r.open_row r add)
stays_placed_open r add there h adds = subst (λ (o : Option Row). Stays (with_open o r add)) (modelled_is r.open_row there) (stays_modelled r add h adds)

never_bare : (row : Row) (P : Type 0) → is_modelled row.sort ≡ true → is_modelled row.sort ≡ false → P
never_bare row P modelled h = absurd (cc)

pub adds_need : (facts : List Fact) (rows : List Row) (row : Row) (n : ℕ) → is_modelled row.sort ≡ true → IsValidRow facts rows row → IsComparisonIn rows n → Adds facts rows row (row_with_need n row)
adds_need facts rows row n modelled h there =
    adds_else facts rows row (list_any (nat_eq n) row.needs) _ _ (λ free.
    adds_else facts rows row (nat_le 16 (length row.needs)) _ _ (λ room. (
      refl,
      refl,
      record {
        own = h.own;
        ports = h.ports;
        sort = h.sort;
        needs = numbers-push 16 row.needs n h.needs free (below 16 (length row.needs) room);
        needed = All-push (IsComparisonIn rows) row.needs n h.needed there;
        sets = h.sets;
        effects = h.effects;
        outs = h.outs;
        outputs = h.outputs;
        bare = never_bare row _ modelled;
      },
    )))

pub adds_effect : (facts : List Fact) (rows : List Row) (row : Row) (effect : Set) → is_modelled row.sort ≡ true → IsValidRow facts rows row → effect.fact < length facts → is_int effect.value ≡ true → Adds facts rows row (row_with_effect effect row)
adds_effect facts rows row effect modelled h there int =
    adds_else facts rows row (list_any (λ set. nat_eq effect.fact set.fact) row.sets) _ _ (λ free.
    adds_else facts rows row (nat_le 16 (length row.sets)) _ _ (λ room.
    let fewer : length (facts_set row.sets) < 16 = omega (arith, length-map row.sets (λ set. set.fact), below 16 (length row.sets) room) in (
      refl,
      refl,
      record {
        own = h.own;
        ports = h.ports;
        sort = h.sort;
        needs = h.needs;
        needed = h.needed;
        sets = subst (AreNumbers 16) (sym (map-append (λ set. set.fact) row.sets (effect ∷ [])))
            (numbers-push 16 (facts_set row.sets) effect.fact h.sets (any-map (nat_eq effect.fact) (λ set. set.fact) row.sets ∙ free) fewer);
        effects = All-push (IsValidSet facts) row.sets effect h.effects (there, int);
        outs = h.outs;
        outputs = h.outputs;
        bare = never_bare row _ modelled;
      },
    )))

pub adds_out : (facts : List Fact) (rows : List Row) (row : Row) (text port : List ℕ) (e : Expr) → is_modelled row.sort ≡ true → IsValidRow facts rows row → is_name port ≡ true → ReadsNumeric text (Some e) → Adds facts rows row (row_with_out facts port e row)
adds_out facts rows row text port e modelled h named reads =
    adds_else facts rows row (list_any (λ out. bytes_eq port out.port) row.outs) _ _ (λ free.
    adds_else facts rows row (not (knows_all row.ports facts e)) _ _ (λ known.
    adds_else facts rows row (nat_le 8 (length row.outs)) _ _ (λ room.
    let fewer : length (ports_written row.outs) < 8 = omega (arith, length-map row.outs (λ out. out.port), below 8 (length row.outs) room) in (
      refl,
      refl,
      record {
        own = h.own;
        ports = h.ports;
        sort = h.sort;
        needs = h.needs;
        needed = h.needed;
        sets = h.sets;
        effects = h.effects;
        outs = subst (AreNames 8) (sym (map-append (λ out. out.port) row.outs (record { port = port; expr = e } ∷ [])))
            (names-push 8 (ports_written row.outs) port h.outs named (any-map (bytes_eq port) (λ out. out.port) row.outs ∙ free) fewer);
        outputs = All-push (λ out. IsExprOver row.ports (names_of_facts facts) out.expr) row.outs (record { port = port; expr = e }) h.outputs
            (valid_expr text row.ports facts e reads (not_not (knows_all row.ports facts e) known));
        bare = never_bare row _ modelled;
      },
    ))))

-- what is said anew of how an action answers
adds_sort : (facts : List Fact) (rows : List Row) (row : Row) (sort : RowSort) → is_comparison row.sort ≡ is_comparison sort → is_modelled sort ≡ true → IsValidRow facts rows row → IsValidSort facts row.ports sort →
    Adds facts rows row (Ok (record row { sort = sort }))
adds_sort facts rows row sort same modelled h valid = (
  refl,
  same,
  record {
    own = h.own;
    ports = h.ports;
    sort = valid;
    needs = h.needs;
    needed = h.needed;
    sets = h.sets;
    effects = h.effects;
    outs = h.outs;
    outputs = h.outputs;
    bare = never_bare (record row { sort = sort }) _ modelled;
  },
)

fails_known : (facts : List Fact) (rows : List Row) (row : Row) (text : List ℕ) (e : Expr) (ms : ℕ) (t : Bool) → row.sort ≡ Timed ms None → IsValidRow facts rows row → ReadsNumeric text (Some e) → knows_all row.ports facts e ≡ t → Adds facts rows row (fails_by (Timed ms None) row t e)
fails_known facts rows row text e ms false is h reads known = tt
fails_known facts rows row text e ms true is h reads known =
    let timed : IsValidSort facts row.ports (Timed ms None) = subst (IsValidSort facts row.ports) is h.sort in
    adds_sort facts rows row (Timed ms (Some e)) (ap is_comparison is) refl h (timed.0, valid_expr text row.ports facts e reads known)

fails_measured : (facts : List Fact) (rows : List Row) (row : Row) (text : List ℕ) (e length : Expr) (t : Bool) → row.sort ≡ TimedBy length None → IsValidRow facts rows row → ReadsNumeric text (Some e) → knows_all row.ports facts e ≡ t → Adds facts rows row (fails_by (TimedBy length None) row t e)
fails_measured facts rows row text e length false is h reads known = tt
fails_measured facts rows row text e length true is h reads known =
    let timed : IsValidSort facts row.ports (TimedBy length None) = subst (IsValidSort facts row.ports) is h.sort in
    adds_sort facts rows row (TimedBy length (Some e)) (ap is_comparison is) refl h (timed.0, valid_expr text row.ports facts e reads known)

fails_sort : (facts : List Fact) (rows : List Row) (row : Row) (text : List ℕ) (e : Expr) (sort : RowSort) → row.sort ≡ sort → IsValidRow facts rows row → ReadsNumeric text (Some e) → Adds facts rows row (fails_by sort row (knows_all row.ports facts e) e)
fails_sort facts rows row text e (Timed ms None) is h reads = fails_known facts rows row text e ms (knows_all row.ports facts e) is h reads refl
fails_sort facts rows row text e (Timed ms (Some other)) is h reads = tt
fails_sort facts rows row text e (TimedBy length None) is h reads = fails_measured facts rows row text e length (knows_all row.ports facts e) is h reads refl
fails_sort facts rows row text e (TimedBy length (Some other)) is h reads = tt
fails_sort facts rows row text e (Is n op value) is h reads = tt
fails_sort facts rows row text e (When w) is h reads = tt
fails_sort facts rows row text e (Replay ms outcomes) is h reads = tt
fails_sort facts rows row text e (Gate g) is h reads = tt
fails_sort facts rows row text e Sensed is h reads = tt
fails_sort facts rows row text e (Told outs) is h reads = tt

pub adds_fails : (facts : List Fact) (rows : List Row) (row : Row) (text : List ℕ) (e : Expr) → IsValidRow facts rows row → ReadsNumeric text (Some e) → Adds facts rows row (row_with_fails facts e row)
adds_fails facts rows row text e h reads = fails_sort facts rows row text e row.sort refl h reads

name_told : (facts : List Fact) (rows : List Row) (row : Row) (port : List ℕ) (sort : RowSort) → row.sort ≡ sort → IsValidRow facts rows row → is_name port ≡ true → Adds facts rows row (with_name sort row port)
name_told facts rows row port (Told outs) is h named =
    adds_else facts rows row (list_any (bytes_eq port) outs) _ _ (λ free.
    adds_else facts rows row (nat_le 8 (length outs)) _ _ (λ room.
    let told : AreNames 8 outs = subst (IsValidSort facts row.ports) is h.sort in (
      refl,
      ap is_comparison is,
      record {
        own = h.own;
        ports = h.ports;
        sort = names-push 8 outs port told named free (below 8 (length outs) room);
        needs = h.needs;
        needed = h.needed;
        sets = h.sets;
        effects = h.effects;
        outs = h.outs;
        outputs = h.outputs;
        bare = λ k. h.bare (ap is_modelled is);
      },
    )))
name_told facts rows row port (Is n op value) is h named = tt
name_told facts rows row port (When w) is h named = tt
name_told facts rows row port (Timed ms fails) is h named = tt
name_told facts rows row port (TimedBy length fails) is h named = tt
name_told facts rows row port (Replay ms outcomes) is h named = tt
name_told facts rows row port (Gate g) is h named = tt
name_told facts rows row port Sensed is h named = tt

pub adds_name : (facts : List Fact) (rows : List Row) (row : Row) (port : List ℕ) → IsValidRow facts rows row → is_name port ≡ true → Adds facts rows row (row_with_name port row)
adds_name facts rows row port h named = name_told facts rows row port row.sort refl h named
