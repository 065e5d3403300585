use Rattle.std.proofs.Common.{◌≡◌, ◌+◌, ℕ, List, [], ◌∷◌, ◌++◌, length, map, sum, drop, append-nil, length-append, refl, sym, ap, subst, ◌∙◌, arith}
use Rattle.std.proofs.lemmas.List.{drop_all}
use Rattle.std.proofs.lemmas.Result.{on_ok_weaker}
use Rattle.std.proofs.lemmas.List.Sums.{sum_by-cons}
use Rattle.spec_tree.specs.declared.term.Term.{Term, out-Term}
use Rattle.spec_tree.specs.BuiltIns.{has_code}
use Rattle.spec_tree.specs.Boards.{children_scope_number}
use Rattle.spec_tree.specs.Terms.{node_count}
use Rattle.run_arena.specs.Laying.{AreLaid, CanBeLaid, driver_of}
use Rattle.run_arena.proofs.Laid.{can_as, can_below, can_first, can_rest, code_fits, code_named_here, counts_below, counts_within, fit_closed, fits_here, guards_named_here, joined_here, ports_named_here, terms_here}
use Rattle.run_arena.specs.Stands.{uids_of}
use Rattle.run_arena.proofs.Whole.{laid_length, laid_more, next_length, nothing_laid, term_laid, uids_more}
use Rattle.run_arena.proofs.laying.+laying.Goals as goal

pub lay_term-add_node-requires : goal.lay_term-add_node-requires
lay_term-add_node-requires g t c =
    let drivers = g.D.Drivers.states c.args.drivers.now in
    let tree = c.args.setting.now.tree.now in
    let world = c.args.setting.now.world.now in
    let uid = length c.args.nodes.now.items in
    let fits = fits_here tree world drivers c.args.term.now uid c.args.scope c.requires.can in
    record {
      fit = fit_closed _ fits;
      code_fits = code_fits (has_code (out-Term c.args.term.now).kind) (out-Term c.args.term.now).code fits.code;
      guards_fit = fits.guards;
      code = code_named_here tree world drivers c.args.term.now uid c.args.scope c.requires.can;
      guards = guards_named_here tree world drivers c.args.term.now uid c.args.scope c.requires.can;
      ports = ports_named_here tree world drivers c.args.term.now uid c.args.scope c.requires.can;
      joined = joined_here tree world drivers c.args.term.now uid c.args.scope c.requires.can;
      places = c.requires.places;
    }

pub lay_term-lay_terms-requires : goal.lay_term-lay_terms-requires
lay_term-lay_terms-requires g t c = λ κs lives.
    let added = c.in_ok-add_node.ensures in
    let uid = length c.args.nodes.now.items in
    let place : c.len-place.result ≡ uid = omega (arith, c.len-place.ensures, c.args.nodes.now.ok.0) in
    let can = can_as c.args.setting.now.tree.now c.args.setting.now.world.now (g.D.Drivers.states c.args.drivers.now) (out-Term c.args.term.now).children c.list.result.now (uid + 1) (length c.add_node.new.nodes.items)
    (children_scope_number (out-Term c.args.term.now).kind uid c.args.scope) c.scope_under-inner.result
    c.list.ensures
    (ap length added.is ∙ length-append c.args.nodes.now.items (added.node ∷ []))
    (c.scope_under-inner.ensures ∙ ap (λ u. children_scope_number (out-Term c.args.term.now).kind u c.args.scope) (c.in_ok-uid.ensures ∙ place))
    (can_below _ _ _ c.args.term.now uid c.args.scope c.requires.can) in
    let places = next_length (driver_of added.node.leaf) c.args.next.now c.add_node.new.next added.filled.counted ∙ c.requires.places in
    (omega (arith, counts_below c.args.term.now, ap (λ (ts : List Term). sum (map node_count ts)) c.list.ensures, c.decreases), (λ a is. lives.0 a is, (λ a is. lives.1 a is, (can, places))))

pub lay_term-close-requires : goal.lay_term-close-requires
lay_term-close-requires g t c =
    let added = c.in_ok-add_node.ensures in
    let laid = c.in_ok-child_uids.ensures.laid in
    omega (arith, ap length laid.is, length-append c.add_node.new.nodes.items laid.added, ap length added.is, length-append c.args.nodes.now.items (added.node ∷ []), c.len-place.ensures)

pub lay_term-returns : goal.lay_term-returns
lay_term-returns g t c =
    let added = c.in_ok-add_node.ensures in
    let place : c.len-place.result ≡ length c.args.nodes.now.items = omega (arith, c.len-place.ensures, c.args.nodes.now.ok.0) in record {
      laid = on_ok_weaker c.close.result
          (λ is. term_laid _ _ _ c.args.term.now c.args.scope c.args.nodes.now.items c.add_node.new.nodes.items c.lay_terms.new.nodes.items c.close.new.nodes.items added.node
          c.args.next.now c.add_node.new.next c.lay_terms.new.next c.len-place.result c.in_ok-uid.uid c.list.result.now c.scope_under-inner.result c.in_ok-child_uids.child_uids
          place c.in_ok-uid.ensures added.is c.list.ensures c.scope_under-inner.ensures
          c.requires.can added.filled.stands added.filled.is_next added.filled.counted c.in_ok-child_uids.ensures.laid c.in_ok-child_uids.ensures.uids is)
          c.close.ensures;
    }

pub lay_terms-lay_term-requires : goal.lay_terms-lay_term-requires
lay_terms-lay_term-requires g t c = λ κs lives.
    let i = c.loop-term.term-index in
    let here = terms_here c.args.terms.now i c.term-item.result c.loop-term-test.true c.term-item.is in
    let can = can_first c.args.setting.now.tree.now c.args.setting.now.world.now (g.D.Drivers.states c.args.drivers.now) c.term-item.result (drop (i + 1) c.args.terms.now) (length c.loop-term.nodes.items) c.args.scope
    (subst (λ (ts : List Term). CanBeLaid c.args.setting.now.tree.now c.args.setting.now.world.now (g.D.Drivers.states c.args.drivers.now) ts (length c.loop-term.nodes.items) c.args.scope) here c.loop-term.invariant.can) in
    (omega (arith, counts_within c.args.terms.now i c.term-item.result c.loop-term-test.true c.term-item.is, c.decreases), (λ a is. lives.0 a is, (λ a is. lives.1 a is, (can, c.loop-term.invariant.places))))

pub lay_terms-returns : goal.lay_terms-returns
lay_terms-returns g t c =
    let none = drop_all c.loop-term.term-index c.args.terms.now c.loop-term-test.false in
    record {
      laid = c.loop-term.invariant.whole c.loop-term.nodes.items c.loop-term.next
          (subst (λ (ts : List Term). AreLaid c.args.setting.now.tree.now c.args.setting.now.world.now (g.D.Drivers.states c.args.drivers.now) ts c.args.scope c.loop-term.nodes.items c.loop-term.nodes.items c.loop-term.next c.loop-term.next) (sym none)
          (nothing_laid _ _ _ c.args.scope c.loop-term.nodes.items c.loop-term.next));
      uids = sym (append-nil c.loop-term.uids) ∙ ap (λ (ts : List Term). c.loop-term.uids ++ uids_of ts (length c.loop-term.nodes.items)) (sym none) ∙ c.loop-term.invariant.uids;
    }

pub lay_terms-loop-term-init : goal.lay_terms-loop-term-init
lay_terms-loop-term-init g t c = record {
  can = c.requires.can;
  whole = λ new left laid. laid;
  uids = ap (λ (us : List ℕ). us ++ uids_of c.args.terms.now (length c.args.nodes.now.items)) (c.make_room.ensures ∙ c.none-uids.ensures);
  places = c.requires.places;
}

pub lay_terms-loop-term-preserved : goal.lay_terms-loop-term-preserved
lay_terms-loop-term-preserved g t c =
    let i = c.loop-term.term-index in
    let tree = c.args.setting.now.tree.now in
    let world = c.args.setting.now.world.now in
    let drivers = g.D.Drivers.states c.args.drivers.now in
    let here = terms_here c.args.terms.now i c.term-item.result c.loop-term-test.true c.term-item.is in
    let laid = c.in_ok-lay_term.ensures.laid in
    let far : length c.lay_term.new.nodes.items ≡ length c.loop-term.nodes.items + node_count c.term-item.result =
    omega (arith, ap length laid.is, length-append c.loop-term.nodes.items laid.added, laid.size, sum_by-cons (λ (k : ℕ). k) (node_count c.term-item.result) []) in
    record {
      can = can_as tree world drivers _ _ _ _ _ _ refl far refl (can_rest tree world drivers c.term-item.result (drop (i + 1) c.args.terms.now) (length c.loop-term.nodes.items) c.args.scope
          (subst (λ (ts : List Term). CanBeLaid tree world drivers ts (length c.loop-term.nodes.items) c.args.scope) here c.loop-term.invariant.can));
      whole = λ new left rest. c.loop-term.invariant.whole new left
          (subst (λ (ts : List Term). AreLaid tree world drivers ts c.args.scope c.loop-term.nodes.items new c.loop-term.next left) (sym here)
          (laid_more tree world drivers c.term-item.result (drop (i + 1) c.args.terms.now) c.args.scope c.loop-term.nodes.items c.lay_term.new.nodes.items new c.loop-term.next c.lay_term.new.next left laid rest));
      uids = uids_more c.term-item.result (drop (i + 1) c.args.terms.now) (drop i c.args.terms.now) c.loop-term.uids c.push.new.self (length c.loop-term.nodes.items) c.in_ok-narrow.field-0 (length c.lay_term.new.nodes.items)
          c.in_ok-push.ensures.added (c.in_ok-narrow.ensures ∙ omega (arith, c.len.ensures)) far here
          ∙ c.loop-term.invariant.uids;
      places = laid_length laid.added c.loop-term.next c.lay_term.new.next laid.following ∙ c.loop-term.invariant.places;
    }
