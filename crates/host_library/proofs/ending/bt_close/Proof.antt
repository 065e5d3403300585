-- `bt_close` makes the box again, and drops it.
use Rattle.host_library.proofs.Steps.{◌≡◌, List, [], ◌∷◌, refl, proved, full_share, emp, id⊢, Lft, ftrue, flft, Val, bare, fact, fact_i, tables, ‵, raw, ◌⊛◌, some, later, ◌$◌, ◌∵◌, !, qed, done, move, keep, drop, use0, use1, use2, split, join, pick, await, suffices, group, lft_new, enter, of_opd, no_more, and_then, returns, alloc_all, pass_all, free_all, look_at, get, sets, lands_as, yes, Is, shows, lone, RawPtr, unit, vunit, unit_lit, feq_l, feq_i, only, ap, rawptr_vals, rawptr_Tells, plain, nothing, peeks, calls_at, lasts, triple_of, framed, Stays, walk_of, stay_dropped, Goes-dropped, ends_at}
use mir.Syntax.{Dict, impl, tcons, tnil, dnil}
use contract.BorrowLft.{◌⊑◌}
use denote.Exit.{no}
use denote.RattleType.{RattleType, owns}
use denote.RawPtr.{rawptr_Lawful}
use denote.Param.{arg, layout}
use denote.Param.Laws.{arg_laws}
use denote.Struct.Laws.{vals, tells}
use Rattle.host_library.specs.contracts.hosted.Hosted.{the_row as R}
use Rattle.host_library.proofs.hosted.Hosted.TheLaws.{the_row_laws as hosted_laws, the_within as hosted_within}
use Rattle.std_heap.specs.declared.Global.{Global}
use Rattle.std_heap.specs.contracts.Global.{the_row as Z, the_type as heap_type}
use Rattle.std_heap.proofs.Global.TheLaws.{the_row_laws as heap_laws, the_laws as heap_parts, the_within as within}
use Rattle.std_heap.specs.contracts.GlobalAllocator.TheImpl.{ghosts, dict}
use Rattle.std_heap.proofs.GlobalAllocator.TheImpl.Met.{passed}
use Rattle.std.specs.contracts.boxed.Box.from_raw as Raw
use Rattle.std.proofs.boxed.Box.from_raw.Met as raw_met
use Rattle.std.specs.contracts.boxed.Box.{the_row as BoxOf}
use Rattle.std.proofs.boxed.Box.TheLaws.{the_row_laws as box_laws}
use Rattle.host_library.proofs.Destruct++none.drop.Symbol.{glues}
use Rattle.host_library.specs.Owned.{hosted_owns}
use Rattle.host_library.specs.contracts.ending.free as g
use Rattle.host_library.proofs.ending.free.Met.{met}
use Rattle.host_library.specs.contracts.ending.bt_close as f
use Rattle.host_library.proofs.ending.bt_close.Statement.{statement}
use Rattle.host_library.proofs.ending.bt_close.Code as code

abbrev stayed : Stays f.ended.signature.params f.ended.kept
stayed = (stay_dropped _ yes, (stay_dropped _ yes, tt))

-- the types at which the box is made
abbrev Y : RattleType
Y = arg (bare (lone R.mir)) no R

abbrev A : RattleType
A = arg (bare (lone Z.mir)) no Z

abbrev no_drop : Dict
no_drop = impl ("host_library::Destruct++none::drop" ∷ []) (tcons (layout A) tnil) dnil

abbrev heap_val : Global → List Val
heap_val x = vals heap_type heap_parts x

pub bt_close_spec : {M : Type 1} → statement M
bt_close_spec {M} 𝓤 𝓛 𝓜 𝓡 wired =
    let c = f.clauses 𝓛 𝓜.mem 𝓡.returns in let W = walk_of 𝓛 f.ended stayed c in let 𝓣 = tables 𝓤 𝓛.H 𝓜 𝓡 𝓡.env in
    proved 𝓛 f.ended stayed c 𝓜 𝓡 (Goes-dropped 𝓛 0 (plain (λ _. Z)) yes (λ κs x w. refl), (Goes-dropped 𝓛 0 (plain (λ _. RawPtr)) yes (λ κs x w. refl), tt))
    f.Key.name code.function (code.unfolded 𝓤 𝓛.H 𝓜 𝓡 wired)
    (λ κs. (heap_val, (rawptr_vals, tt))) (λ κs. (tells heap_type heap_parts, (rawptr_Tells, tt))) (λ κs qs bounds a e are.
    let h = a.0 in let p = a.1.0 in
    let y : W.Ghost = ((κs, qs, bounds, a, (heap_val h, (rawptr_vals p, tt))), e) in
    qed 𝓛 ((‵ ftrue ⊛ ‵ (owns (Z ∷ RawPtr ∷ []) a (heap_val h, (rawptr_vals p, tt)))) ∷ ‵ (hosted_owns p e) ∷ []) ∵ split ! $ drop ! $
    enter ! _ _ _ _ _ $ alloc_all ! (λ l. pass_all ! refl (((heap_laws.lawful 𝓛).typed h (heap_val h) are.0).0, (((rawptr_Lawful 𝓛).typed p _ refl).0, tt)) $
    sets ! (of_opd ! (get ! refl)) refl ((rawptr_Lawful 𝓛).typed p _ refl).0 $
    -- [what the arguments own; the session; the locals]
    lft_new ! tt (λ β. lft_new ! tt (λ α. let κ : Lft = α ∷ [] in let κ' : Lft = β ∷ [] in
    let G = triple_of 𝓛 (Raw.signature Y A ghosts dict no_drop) (Raw.spec Y A ghosts dict no_drop 𝓛 𝓜.mem 𝓡.returns) in
    let z : G.Ghost = (((κ, (κ', tt)), (full_share, (full_share, tt)), tt, (h, (p, tt)), (heap_val h, (rawptr_vals p, tt))), e) in
    let toks = ‵ (flft κ full_share) ⊛ ‵ (flft κ' full_share) ⊛ ‵ ftrue in
    -- [the token of α; that of β; what the arguments own; the session; the locals]
    nothing ! $ move ! (2 ∷ 0 ∷ []) $ join ! $ move ! (1 ∷ 0 ∷ []) $ join ! $ join ! $
    move ! (1 ∷ []) $ use0 𝓛 (raw (fact 𝓤 (κ' ⊑ A.lives))) (fact_i 𝓤 (κ' ⊑ A.lives) (emp 𝓤) (within κ')) $ join ! $
    use0 𝓛 (raw (fact 𝓤 (κ ⊑ Y.lives))) (fact_i 𝓤 (κ ⊑ Y.lives) (emp 𝓤) (hosted_within κ)) $ join ! $
    move ! (1 ∷ 0 ∷ []) $ use2 𝓛 (raw (G.pre z)) (id⊢ 𝓤 _) $
    calls_at ! (framed 𝓤 𝓛.H 𝓜 (tables 𝓤 𝓛.H 𝓜 𝓡 𝓡.env)) G
    (raw_met.met 𝓤 𝓛 𝓜 𝓡 (code.calls-std_alloc::boxed::Box::from_raw 𝓡.env wired) Y A (arg_laws (bare (lone R.mir)) no R hosted_laws refl) (arg_laws (bare (lone Z.mir)) no Z heap_laws refl) ghosts dict no_drop
    (passed 𝓡.env (code.calls-std_heap::GlobalAllocator::allocate 𝓡.env wired) (code.calls-std_heap::GlobalAllocator::deallocate 𝓡.env wired) (code.calls-std_heap::GlobalAllocator::grow 𝓡.env wired) (code.calls-std_heap::GlobalAllocator::shrink 𝓡.env wired) M 𝓤 𝓛 𝓜 𝓡)
    (glues 𝓡.env (code.calls-host_library::Destruct++none::drop 𝓡.env wired) A (arg_laws (bare (lone Z.mir)) no Z heap_laws refl) M 𝓤 𝓛 𝓜 𝓡)) z
    (and_then ! (get ! refl) (and_then ! (get ! refl) (no_more !))) (λ v.
    let B : RattleType = BoxOf R Z ghosts in let box_typed = box_laws R Z ghosts hosted_laws heap_laws in
    use1 𝓛 (later (some (λ (r : B.Denot). (toks ⊛ ‵ (B.own_val r (v ∷ []))) ⊛ some (λ (ls : Unit {0} × (Unit {0} × Unit {0})).
    ‵ (lasts (Raw.ended Y A ghosts dict no_drop) z.0.0 z.0.3 ls) ⊛ (raw (fact 𝓤 (r.value ≡ e)) ⊛ raw (fact 𝓤 (r.alloc ≡ h))))))) (id⊢ 𝓤 _) $
    await ! tt $ pick ! (λ r. split ! $ split ! $
    -- [the tokens; the box; what is known of it; the locals]
    move ! (1 ∷ []) $ peeks ! B (Is B) (shows 𝓛 B) r (v ∷ []) (λ is.
    lands_as ! refl refl ((box_typed.lawful 𝓛).typed r (v ∷ []) is).0 $
    let G' = triple_of 𝓛 g.signature (g.spec 𝓛 𝓜.mem 𝓡.returns) in
    let z' : G'.Ghost = ((tt, tt, tt, (r, tt), (v ∷ [], tt)), tt) in
    -- [the box; the tokens; what is known of it; the locals]
    nothing ! $ move ! (1 ∷ 0 ∷ []) $ join ! $ nothing ! $ join ! $ nothing ! $ move ! (1 ∷ 0 ∷ []) $ use2 𝓛 (raw (G'.pre z')) (id⊢ 𝓤 _) $
    calls_at ! (framed 𝓤 𝓛.H 𝓜 (tables 𝓤 𝓛.H 𝓜 𝓡 𝓡.env)) G' (met 𝓤 𝓛 𝓜 𝓡 (code.calls-host_library::ending::free 𝓡.env wired)) z'
    (and_then ! (get ! refl) (no_more !)) (λ u.
    use1 𝓛 (later (some (λ (r' : Unit {0}). (‵ ftrue ⊛ ‵ (unit.own_val r' (u ∷ []))) ⊛ some (λ (ls : Unit {0} × Unit {0}). ‵ (lasts g.ended z'.0.0 z'.0.3 ls) ⊛ raw (emp 𝓤))))) (id⊢ 𝓤 _) $
    await ! tt $ pick ! (λ r'. split ! $ split ! $ drop ! $ feq_l ! (λ is_unit. lands_as ! (ap only is_unit) refl (tt, tt) $
    sets ! (of_opd ! (unit_lit !)) refl (tt, tt) $
    returns ! (look_at ! 0 refl) $ free_all ! refl $
    suffices ! _ (ends_at 𝓛 f.ended stayed c y vunit tt (tt, (tt, tt)) (tt, (tt, tt))) $
    keep ! [] $ use0 𝓛 (raw (emp 𝓤)) (id⊢ 𝓤 _) $ feq_i ! _ (vunit ∷ []) _ refl $ nothing ! $ nothing ! $ join ! $ nothing ! $ join ! $ nothing ! $ group ! 3 $ done !))))))))))
