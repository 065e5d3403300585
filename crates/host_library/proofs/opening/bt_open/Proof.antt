-- `bt_open` hands the pointer of the box out.
use Rattle.host_library.proofs.Steps.{ℕ, ◌<◌, ◌^◌, List, [], ◌∷◌, ◌++◌, w32, refl, ap, MutBor, proved, full_share, SProp, emp, sep, ex, ex_i, id⊢, Lft, ftrue, flft, named, Val, vint, bare, fact, fact_i, tables, sem, ‵, raw, ◌⊛◌, some, later, ◌$◌, ◌∵◌, !, qed, done, move, keep, drop, use0, use1, use2, split, join, fsplit, feq_l, feq_i, pick, await, suffices, group, enter, of_opd, stop, no_more, and_then, returns, alloc_all, pass_all, free_all, look_at, get, through, sets, lands_as, u8, u32, yes, lone, Ptr, RawPtr, MutRef, mut_vals, plain, nothing, heard, only, owned, uint_Makes, lft_new, calls_at, lasts, triple_of, framed, Stays, walk_of, stay_dropped, Goes-dropped, ends_at}
use Rattle.std.proofs.Common.{Bor, Bool, length, lit<, subst}
use Rattle.std.proofs.VecSteps.Shapes.{after, head, arm_body}
use types.Kit.{split3, fsplit3, at_ret, any_q, rewrite}
use types.Run.{lit, fld, first, exec, switches_on, assigns, store}
use types.Part.{whole}
use types.Match.{vrt, in_variant}
use types.ByLocal.{get_in, get_tag, sets_last, env}
use mir.Syntax.{Dict, impl, tcons, tnil, dnil}
use prog.Wp.{Wp, after_seq, at_return}
use contract.BorrowLft.{◌⊑◌}
use denote.Memory.{cell_at}
use denote.Builtin.{SliceRefOf}
use denote.Plain.{uint_Lawful}
use denote.RawPtr.{ptr_val, rawptr_Lawful}
use denote.Steps.{opens, closes}
use denote.Ref.{mut_Tells}
use denote.Slice.{ShrSlice, shr_slice_vals, shr_slice_Tells}
use denote.Triple.Clauses.{Lasts}
use denote.Triple.Walked.{stay_ref, Goes-ref}
use denote.RattleType.{RattleType, owns}
use denote.Struct.Laws.{vals, tells}
use denote.Exit.{no}
use denote.Param.{arg, layout}
use denote.Param.Laws.{arg_laws}
use Rattle.std.specs.Prelude.{Result, Ok, Err}
use Rattle.std.specs.declared.boxed.Box.{Box}
use Rattle.std.specs.contracts.result.Result as RS
use Rattle.std.specs.contracts.boxed.Box.{the_row as BoxOf}
use Rattle.std.proofs.boxed.Box.TheLaws.{the_row_laws as box_laws}
use Rattle.std.specs.contracts.boxed.Box.into_raw as Raw
use Rattle.std.proofs.boxed.Box.into_raw.Met as raw_met
use Rattle.std_heap.specs.declared.Global.{Global}
use Rattle.std_heap.specs.contracts.Global.{the_row as Z, the_type as heap_type}
use Rattle.std_heap.proofs.Global.TheLaws.{the_row_laws as heap_laws, the_laws as heap_parts, the_within as within}
use Rattle.std_heap.specs.contracts.GlobalAllocator.TheImpl.{ghosts, dict}
use Rattle.std_heap.proofs.GlobalAllocator.TheImpl.Met.{passed}
use Rattle.host_library.specs.declared.hosted.Hosted.{Hosted}
use Rattle.host_library.specs.contracts.hosted.Hosted.{the_row as R}
use Rattle.host_library.proofs.hosted.Hosted.TheLaws.{the_row_laws as hosted_laws, the_within as hosted_within}
use Rattle.host_library.proofs.Destruct++none.drop.Symbol.{glues}
use Rattle.host_library.proofs.Glued.{Y, Y-laws, drops, glued}
use Rattle.host_library.proofs.Results.{and_tt, result_out}
use Rattle.host_library.specs.Opening.{Given, OpenTold, given_of}
use Rattle.host_library.specs.Owned.{given_owns, hosted_owns}
use Rattle.std.specs.Str.{is_utf8}
use Rattle.host_library.specs.contracts.opening.given as g
use Rattle.host_library.proofs.opening.given.Met.{met}
use Rattle.host_library.specs.contracts.opening.bt_open as f
use Rattle.host_library.proofs.opening.bt_open.Statement.{statement}
use Rattle.host_library.proofs.opening.bt_open.Code as code

abbrev stayed : Stays f.ended.signature.params f.ended.kept
stayed = (stay_dropped _ yes, (stay_dropped _ yes, (stay_dropped _ yes, (stay_dropped _ yes, (stay_ref (3 ∷ []) tt (plain (λ _. RawPtr)), tt)))))

-- the types at which the box is taken apart
abbrev A : RattleType
A = arg (bare (lone Z.mir)) no Z

abbrev no_drop : Dict
no_drop = impl ("host_library::Destruct++none::drop" ∷ []) (tcons (layout A) tnil) dnil

abbrev heap_val : Global → List Val
heap_val x = vals heap_type heap_parts x

abbrev B : RattleType
B = BoxOf R Z ghosts

abbrev Answered : RattleType
Answered = RS.the_row B u32

pub bt_open_spec : {M : Type 1} → statement M
bt_open_spec {M} 𝓤 𝓛 𝓜 𝓡 wired =
    let c = f.clauses 𝓛 𝓜.mem 𝓡.returns in let W = walk_of 𝓛 f.ended stayed c in let 𝓣 = tables 𝓤 𝓛.H 𝓜 𝓡 𝓡.env in
    proved 𝓛 f.ended stayed c 𝓜 𝓡 (Goes-dropped 𝓛 4 (plain (λ _. Z)) yes (λ κs x w. refl), (Goes-dropped 𝓛 4 (SliceRefOf (0 ∷ []) tt (plain (λ _. u8)) (λ _. tt)) yes (λ κs x w. refl), (Goes-dropped 𝓛 4 (SliceRefOf (1 ∷ []) tt (plain (λ _. u8)) (λ _. tt)) yes (λ κs x w. refl), (Goes-dropped 𝓛 4 (SliceRefOf (2 ∷ []) tt (plain (λ _. u8)) (λ _. tt)) yes (λ κs x w. refl), (Goes-ref 𝓛 4 3 tt (plain (λ _. RawPtr)), tt)))))
    f.Key.name code.function (code.unfolded 𝓤 𝓛.H 𝓜 𝓡 wired)
    (λ κs. (heap_val, (shr_slice_vals, (shr_slice_vals, (shr_slice_vals, (mut_vals, tt))))))
    (λ κs. (tells heap_type heap_parts, (shr_slice_Tells (named 0) κs.0 u8, (shr_slice_Tells (named 0) κs.1.0 u8, (shr_slice_Tells (named 0) κs.1.1.0 u8, (mut_Tells (named 0) κs.1.1.1.0 RawPtr, tt)))))) (λ κs qs bounds a e are.
    let h = a.0 in let tree : Bor (List ℕ) = a.1.0 in let world : Bor (List ℕ) = a.1.1.0 in let main : Bor (List ℕ) = a.1.1.1.0 in
    let low-tree : length tree.now < 2 ^ 64 = are.1.0.0.1.0 in let low-world : length world.now < 2 ^ 64 = are.1.1.0.0.1.0 in let low-main : length main.now < 2 ^ 64 = are.1.1.1.0.0.1.0 in
    let r : MutBor Ptr = a.1.1.1.1.0 in let b = r.ref_ptr.0 in let o = r.ref_ptr.1 in let is_text : Bool = is_utf8 main.now in
    let y : W.Ghost = ((κs, qs, bounds, a, (heap_val h, (shr_slice_vals tree, (shr_slice_vals world, (shr_slice_vals main, (mut_vals r, tt)))))), e) in
    let box_lawful = (box_laws R Z ghosts hosted_laws heap_laws).lawful 𝓛 in
    let fm = framed 𝓤 𝓛.H 𝓜 (tables 𝓤 𝓛.H 𝓜 𝓡 𝓡.env) in
    qed 𝓛 (((‵ (flft κs.0 qs.0) ⊛ ‵ (flft κs.1.0 qs.1.0) ⊛ ‵ (flft κs.1.1.0 qs.1.1.0) ⊛ ‵ (flft κs.1.1.1.0 qs.1.1.1.0) ⊛ ‵ ftrue) ⊛
    ‵ (owns (Z ∷ ShrSlice (named 0) κs.0 u8 ∷ ShrSlice (named 0) κs.1.0 u8 ∷ ShrSlice (named 0) κs.1.1.0 u8 ∷ MutRef (named 0) κs.1.1.1.0 RawPtr ∷ []) a y.0.4)) ∷ ‵ ftrue ∷ []) ∵
    split ! $ split3 ! $ move ! (2 ∷ []) $ split3 ! $ move ! (5 ∷ []) $ fsplit ! $ move ! (1 ∷ []) $ fsplit ! $ move ! (1 ∷ []) $ fsplit ! $ move ! (1 ∷ []) $ fsplit ! $ move ! (1 ∷ []) $ fsplit ! $
    keep ! (0 ∷ 2 ∷ 3 ∷ 4 ∷ 5 ∷ 9 ∷ 10 ∷ 6 ∷ 7 ∷ []) $
    -- [the reference; the slices, the last first; the handle; the tokens of the slices; that of the reference; the locals]
    enter ! _ _ _ _ _ $ alloc_all ! (λ l. pass_all ! refl (((heap_laws.lawful 𝓛).typed h (heap_val h) are.0).0, ((tt, (tt, (record { fits = low-tree }, tt))), ((tt, (tt, (record { fits = low-world }, tt))), ((tt, (tt, (record { fits = low-main }, tt))), ((tt, tt), tt))))) $
    let En = env code.function.locals l in let both = head (after 1 code.function.body) in let Post = W.post y in
    let Then = any_q (after_seq 𝓤 𝓛.H (Wp 𝓤 𝓛.H 𝓣.C 𝓣.Λ En (after 2 code.function.body) (at_return 𝓤 𝓛.H En Post)) (at_return 𝓤 𝓛.H En Post)) in
    let G = triple_of 𝓛 g.signature (g.spec 𝓛 𝓜.mem 𝓡.returns) in
    let z : G.Ghost = (
      (
        (κs.0, (κs.1.0, (κs.1.1.0, tt))),
        (qs.0, (qs.1.0, (qs.1.1.0, tt))),
        tt,
        (h, (tree, (world, (main, tt)))),
        (heap_val h, (shr_slice_vals tree, (shr_slice_vals world, (shr_slice_vals main, tt)))),
      ),
      tt,
    ) in
    nothing ! $ move ! (2 ∷ 0 ∷ []) $ join ! $ move ! (2 ∷ 0 ∷ []) $ join ! $ move ! (2 ∷ 0 ∷ []) $ join ! $ move ! (2 ∷ 0 ∷ []) $ join ! $
    nothing ! $ move ! (5 ∷ 0 ∷ []) $ join ! $ move ! (4 ∷ 0 ∷ []) $ join ! $ move ! (3 ∷ 0 ∷ []) $ join ! $ join ! $
    nothing ! $ move ! (1 ∷ 0 ∷ []) $ use2 𝓛 (raw (G.pre z)) (id⊢ 𝓤 _) $
    calls_at ! fm G (met 𝓤 𝓛 𝓜 𝓡 (code.calls-host_library::opening::given 𝓡.env wired)) z
    (and_then ! (get ! refl) (and_then ! (get ! refl) (and_then ! (get ! refl) (and_then ! (get ! refl) (no_more !))))) (λ v.
    use1 𝓛 (later (some (λ (m : Result (Box Hosted Global) ℕ). ((‵ (flft κs.0 qs.0) ⊛ ‵ (flft κs.1.0 qs.1.0) ⊛ ‵ (flft κs.1.1.0 qs.1.1.0) ⊛ ‵ ftrue) ⊛ ‵ (Answered.own_val m (v ∷ []))) ⊛
    some (λ (ws : Lasts g.ended z.0.0 z.0.3). ‵ (lasts g.ended z.0.0 z.0.3 ws) ⊛ raw (fact 𝓤 (Given is_text tree.now world.now main.now (given_of m))))))) (id⊢ 𝓤 _) $
    await ! tt $ pick ! (λ m. split ! $ split ! $ split3 ! $ move ! (2 ∷ []) $ split ! $ move ! (5 ∷ []) $ pick ! (λ ws. split ! $ drop ! $ heard ! _ (λ told. move ! (4 ∷ 2 ∷ 3 ∷ 0 ∷ 6 ∷ 5 ∷ []) $
    -- [the box, or the code of why there is none; the tokens of the slices; that of the reference; the reference; nothing; the locals]
    result_out B u32 (lone B.mir) (lone u32.mir) refl refl 𝓛 box_lawful (uint_Lawful 𝓛 w32) ! m v
    (λ x u is is_ok good.
    lands_as ! is_ok refl (and_tt _ good.0, (record { fits = lit< tt }, (good.1, tt))) $
    first ! $ switches_on ! (get_tag ! (vrt ! refl (fld ! refl (stop !))) (whole !)) $ exec ! 𝓣.C 𝓣.Λ En (arm_body 0 both) Then $
    sets ! (of_opd ! (get_in ! (vrt ! refl (fld ! refl (stop !))) (in_variant ! 0 0 refl refl (whole !)))) refl good $ sets ! (of_opd ! (get ! refl)) refl good $
    lft_new ! tt (λ β. lft_new ! tt (λ α. let κ : Lft = α ∷ [] in let κ' : Lft = β ∷ [] in
    let G' = triple_of 𝓛 (Raw.signature Y A ghosts dict no_drop drops) (Raw.spec Y A ghosts dict no_drop drops 𝓛 𝓜.mem 𝓡.returns) in
    let z' : G'.Ghost = (((κ, (κ', tt)), (full_share, (full_share, tt)), tt, (x, tt), (u ∷ [], tt)), tt) in
    -- [the token of α; that of β; the box; the tokens of the slices; that of the reference; the reference; nothing; the locals]
    nothing ! $ move ! (3 ∷ 0 ∷ []) $ join ! $ nothing ! $ move ! (3 ∷ 0 ∷ []) $ join ! $ move ! (2 ∷ 0 ∷ []) $ join ! $ move ! (0 ∷ 1 ∷ []) $ join ! $
    nothing ! $ use0 𝓛 (raw (fact 𝓤 (κ' ⊑ A.lives))) (fact_i 𝓤 (κ' ⊑ A.lives) (emp 𝓤) (within κ')) $ join ! $
    use0 𝓛 (raw (fact 𝓤 (κ ⊑ Y.lives))) (fact_i 𝓤 (κ ⊑ Y.lives) (emp 𝓤) (hosted_within κ)) $ join ! $
    move ! (1 ∷ 0 ∷ []) $ use2 𝓛 (raw (G'.pre z')) (id⊢ 𝓤 _) $
    calls_at ! fm G' (raw_met.met 𝓤 𝓛 𝓜 𝓡 (code.calls-std_alloc::boxed::Box::into_raw 𝓡.env wired) Y A Y-laws (arg_laws (bare (lone Z.mir)) no Z heap_laws refl) ghosts dict no_drop drops
    (passed 𝓡.env (code.calls-std_heap::GlobalAllocator::allocate 𝓡.env wired) (code.calls-std_heap::GlobalAllocator::deallocate 𝓡.env wired) (code.calls-std_heap::GlobalAllocator::grow 𝓡.env wired) (code.calls-std_heap::GlobalAllocator::shrink 𝓡.env wired) M 𝓤 𝓛 𝓜 𝓡)
    (glues 𝓡.env (code.calls-host_library::Destruct++none::drop 𝓡.env wired) A (arg_laws (bare (lone Z.mir)) no Z heap_laws refl) M 𝓤 𝓛 𝓜 𝓡)
    (glued 𝓤 𝓛 𝓜 𝓡 (code.calls-host_library::host_library++hosted++Hosted+Destruct::drop 𝓡.env wired))) z' (and_then ! (get ! refl) (no_more !)) (λ p.
    let E' = Raw.ended Y A ghosts dict no_drop drops in
    use1 𝓛 (later (some (λ (at : Ptr). ((‵ (flft κ full_share) ⊛ ‵ (flft κ' full_share) ⊛ ‵ ftrue) ⊛ ‵ (RawPtr.own_val at (p ∷ []))) ⊛
    some (λ (ls : Lasts E' z'.0.0 z'.0.3). ‵ (lasts E' z'.0.0 z'.0.3 ls) ⊛ ‵ (hosted_owns at x.value))))) (id⊢ 𝓤 _) $
    await ! tt $ pick ! (λ at. split ! $ split ! $ drop ! $ feq_l ! (λ is_at. pick ! (λ ls. split ! $ drop ! $
    let at_good = ((rawptr_Lawful 𝓛).typed at (ptr_val at ∷ []) refl).0 in
    -- [the session; the tokens of the slices; that of the reference; the reference; nothing; the locals]
    lands_as ! (ap only is_at) refl at_good $
    move ! (5 ∷ 4 ∷ []) $ fsplit3 ! $ move ! (1 ∷ 2 ∷ 3 ∷ []) $ opens ! tt RawPtr b o (λ us. move ! (1 ∷ []) $ feq_l ! (λ is_us.
    rewrite ! 0 (λ (ws : List Val). ‵ (cell_at full_share RawPtr.mir ws b o)) is_us refl $
    assigns ! (of_opd ! (get ! refl)) (through ! refl (stop !)) (store ! 0 refl at_good) $
    feq_i ! (List Val) (ptr_val at ∷ []) (ptr_val at ∷ []) refl $ move ! (1 ∷ []) $ closes ! tt RawPtr at (ptr_val at ∷ []) b o $
    -- [two parts of the reference; its token; its first part; the session; the tokens of the slices; nothing; the locals]
    sets_last ! (of_opd ! (lit ! tt)) refl (tt, record { fits = lit< tt }) $
    exec ! 𝓣.C 𝓣.Λ En (after 2 code.function.body) (at_ret En Post) $ sets ! (of_opd ! (get ! refl)) refl (tt, record { fits = lit< tt }) $
    returns ! (look_at ! 0 refl) $ free_all ! refl $ keep ! (5 ∷ 6 ∷ 7 ∷ 2 ∷ 3 ∷ 0 ∷ 1 ∷ 4 ∷ []) $
    suffices ! _ (ends_at 𝓛 f.ended stayed c y (vint w32 0) 0 (tt, (tt, (tt, (tt, (at, tt))))) (tt, (tt, (tt, (tt, (tt, tt)))))) $
    nothing ! $ move ! (4 ∷ 0 ∷ []) $ join ! $ move ! (3 ∷ 0 ∷ []) $ join ! $ move ! (2 ∷ 0 ∷ []) $ join ! $ move ! (1 ∷ 0 ∷ []) $ join ! $
    move ! (1 ∷ 2 ∷ 3 ∷ []) $ group ! 3 $ nothing ! $ move ! (1 ∷ 0 ∷ []) $ join ! $ nothing ! $ join ! $ nothing ! $ join ! $ nothing ! $ join ! $ nothing ! $ join ! $
    owned ! u32 _ (uint_Makes 𝓛 w32) 0 _ (refl, lit< tt) $ move ! (3 ∷ []) $
    let Left : Result Hosted ℕ → SProp 𝓤 = λ k. sep 𝓤 (sem 𝓛 (given_owns at k)) (fact 𝓤 (OpenTold is_text tree.now world.now main.now r.now at k 0)) in
    let holds = subst (λ (k : Result (Box Hosted Global) ℕ). Given is_text tree.now world.now main.now (given_of k)) is told in
    use0 𝓛 (raw (fact 𝓤 (OpenTold is_text tree.now world.now main.now r.now at (Ok x.value) 0))) (fact_i 𝓤 (OpenTold is_text tree.now world.now main.now r.now at (Ok x.value) 0) (emp 𝓤) (refl, tt, holds)) $ move ! (1 ∷ 0 ∷ []) $ join ! $
    use1 𝓛 (raw (ex 𝓤 Left)) (ex_i 𝓤 Left (Ok x.value)) $ move ! (3 ∷ 2 ∷ 1 ∷ []) $ group ! 3 $ done !)))))))))
    (λ code' u is is_err good.
    lands_as ! is_err refl (and_tt _ good.0, (record { fits = lit< tt }, (good.1, tt))) $
    first ! $ switches_on ! (get_tag ! (vrt ! refl (fld ! refl (stop !))) (whole !)) $ exec ! 𝓣.C 𝓣.Λ En (arm_body 1 both) Then $
    sets ! (of_opd ! (get_in ! (vrt ! refl (fld ! refl (stop !))) (in_variant ! 1 0 refl refl (whole !)))) refl good $ sets_last ! (of_opd ! (get ! refl)) refl good $
    exec ! 𝓣.C 𝓣.Λ En (after 2 code.function.body) (at_ret En Post) $ sets ! (of_opd ! (get ! refl)) refl good $
    returns ! (look_at ! 0 refl) $ free_all ! refl $ keep ! (0 ∷ 1 ∷ 2 ∷ 3 ∷ 4 ∷ 5 ∷ []) $
    -- [the code; the tokens of the slices; that of the reference; the reference]
    suffices ! _ (ends_at 𝓛 f.ended stayed c y u code' (tt, (tt, (tt, (tt, (r.now, tt))))) (tt, (tt, (tt, (tt, (tt, tt)))))) $
    nothing ! $ move ! (5 ∷ 0 ∷ []) $ join ! $ move ! (4 ∷ 0 ∷ []) $ join ! $ move ! (3 ∷ 0 ∷ []) $ join ! $ move ! (2 ∷ 0 ∷ []) $ join ! $ nothing ! $ move ! (3 ∷ 0 ∷ []) $ join ! $
    nothing ! $ join ! $ nothing ! $ join ! $ nothing ! $ join ! $ nothing ! $ join ! $
    let Left : Result Hosted ℕ → SProp 𝓤 = λ k. sep 𝓤 (sem 𝓛 (given_owns r.now k)) (fact 𝓤 (OpenTold is_text tree.now world.now main.now r.now r.now k code')) in
    let holds = subst (λ (k : Result (Box Hosted Global) ℕ). Given is_text tree.now world.now main.now (given_of k)) is told in
    use0 𝓛 (raw (fact 𝓤 (OpenTold is_text tree.now world.now main.now r.now r.now (Err code') code'))) (fact_i 𝓤 (OpenTold is_text tree.now world.now main.now r.now r.now (Err code') code') (emp 𝓤) (refl, refl, holds)) $ nothing ! $ join ! $
    use1 𝓛 (raw (ex 𝓤 Left)) (ex_i 𝓤 Left (Err code')) $ move ! (2 ∷ 1 ∷ 3 ∷ []) $ group ! 3 $ done !)))))))
