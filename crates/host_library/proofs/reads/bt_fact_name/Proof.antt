-- `bt_fact_name` lends the session and the room for the one call that it makes, and has the session back as it was.
use Rattle.host_library.proofs.Steps.{◌≡◌, ◌<◌, ◌^◌, ◌++◌, w32, w64, vint, ℕ, List, length, u8, u32, usize, owned, owns, uint_vals, uint_Tells, uint_Makes, uint_Lawful, [], ◌∷◌, refl, Bor, MutBor, proved, full_share, emp, sep, id⊢, fst∗, never, Lft, Incl-refl, ftrue, flft, flent, named, vptr, bare, fact, fact_i, tables, sem, ‵, raw, ◌⊛◌, some, later, prop, ◌$◌, ◌∵◌, !, qed, move, keep, drop, use0, use1, use2, split, join, fsplit, fjoin, feq_l, pick, await, regoal, suffices, group, done, lft_new, lft_end, lent_back, enter, of_opd, addr, stop, from, fld, hop, agg, sub, whole, get_in, look_in_at, no_more, and_then, returns, alloc_all, pass_all, free_all, look_at, get, through, sets, lands_as, yes, Is, shows, lends_shr, lone, part_at, Ptr, RawPtr, block_ptr, null_ptr, in_a_block, rawptr_vals, rawptr_Tells, ShrRef, shr_vals, MutSlice, mut_slice_vals, mut_slice_Tells, plain, nothing, heard, peeks, calls_at, lasts, triple_of, framed, Stays, walk_of, stay_dropped, gave_slice, Goes-dropped, Goes-gave_slice, ends_at}
use prog.Wp.{WpFn}
use Rattle.std.specs.Prelude.{slice_get}
use Rattle.host_library.specs.Reads as reads
use Rattle.host_library.specs.Texts.{TextTold}
use Rattle.host_library.specs.declared.hosted.Hosted.{Hosted}
use Rattle.host_library.specs.contracts.hosted.Hosted.{the_row as R}
use Rattle.host_library.proofs.hosted.Hosted.TheLaws.{the_row_laws as hosted_laws, the_within as within}
use Rattle.host_library.specs.Owned.{hosted_owns, holds}
use Rattle.host_library.specs.contracts.hosted.Hosted.fact_name as g
use Rattle.host_library.proofs.hosted.Hosted.fact_name.Met.{met}
use Rattle.host_library.specs.contracts.reads.bt_fact_name as f
use Rattle.host_library.proofs.reads.bt_fact_name.Statement.{statement}
use Rattle.host_library.proofs.reads.bt_fact_name.Code as code

abbrev stayed : Stays f.ended.signature.params f.ended.kept
stayed = (stay_dropped _ yes, (stay_dropped _ yes, (gave_slice (0 ∷ []) tt (plain (λ _. u8)), tt)))

pub bt_fact_name_spec : {M : Type 1} → statement M
bt_fact_name_spec 𝓤 𝓛 𝓜 𝓡 wired =
    let c = f.clauses 𝓛 𝓜.mem 𝓡.returns in let W = walk_of 𝓛 f.ended stayed c in let 𝓣 = tables 𝓤 𝓛.H 𝓜 𝓡 𝓡.env in
    proved 𝓛 f.ended stayed c 𝓜 𝓡 (Goes-dropped 𝓛 1 (plain (λ _. RawPtr)) yes (λ κs x w. refl), (Goes-dropped 𝓛 1 (plain (λ _. u32)) yes (λ κs x w. refl), (Goes-gave_slice 𝓛 1 0 tt (plain (λ _. u8)), tt)))
    f.Key.name code.function (code.unfolded 𝓤 𝓛.H 𝓜 𝓡 wired)
    (λ κs. (rawptr_vals, (uint_vals w32, (mut_slice_vals, tt)))) (λ κs. (rawptr_Tells, (uint_Tells w32, (mut_slice_Tells (named 0) κs.0 u8, tt)))) (λ κs qs bounds a e are.
    let number = a.1.0 in let low-number : number < 2 ^ 32 = are.1.0.1 in
    let x : MutBor (List ℕ) = a.1.1.0 in let low-count : length x.now < 2 ^ 64 = are.1.1.0.0.1.0 in
    let y : Ptr → W.Ghost = λ p. ((κs, qs, bounds, (p, (number, (x, tt))), (rawptr_vals p, (uint_vals w32 number, (mut_slice_vals x, tt)))), e) in
    qed 𝓛 (((‵ (flft κs.0 qs.0) ⊛ ‵ ftrue) ⊛ ‵ (owns (RawPtr ∷ u32 ∷ MutSlice (named 0) κs.0 u8 ∷ []) (a.0, (number, (x, tt))) (rawptr_vals a.0, (uint_vals w32 number, (mut_slice_vals x, tt))))) ∷ ‵ (hosted_owns a.0 e) ∷ []) ∵
    split ! $ split ! $ move ! (2 ∷ []) $ fsplit ! $ drop ! $ fsplit ! $ drop ! $ fsplit ! $ keep ! (4 ∷ 0 ∷ 2 ∷ []) $
    -- [the session; the room; its token]
    in_a_block ! a.0 (λ p. hosted_owns p e) (fst∗ 𝓤 (never 𝓤) (sem 𝓛 (holds (bare (lone R.mir)) null_ptr))) (λ b o same.
    regoal ! (λ p. prop (WpFn 𝓤 𝓛.H 𝓣.C 𝓣.Λ code.function (rawptr_vals p ++ (vint w32 number ∷ mut_slice_vals x)) (W.post (y p)))) same refl $
    fsplit ! $ enter ! _ _ _ _ _ $ alloc_all ! (λ l. pass_all ! refl ((tt, tt), ((tt, record { fits = low-number }), ((tt, (tt, (record { fits = low-count }, tt))), tt))) $
    -- [the session in its block; the right to free it; the room; its token; the locals]
    sets ! (of_opd ! (get ! refl)) refl (tt, tt) $ sets ! (addr ! (through ! refl (stop !))) refl (tt, tt) $
    sets ! (addr ! (from ! (fld ! refl (hop ! (look_in_at ! 3 (sub ! 0 refl (whole !))) (stop !))))) refl (tt, tt) $
    sets ! (agg ! (and_then ! (get ! refl) (and_then ! (get_in ! (fld ! refl (stop !)) (sub ! 1 refl (whole !))) (no_more !)))) refl (tt, (tt, (record { fits = low-count }, tt))) $
    lft_new ! tt (λ α. let κ : Lft = α ∷ [] in move ! (1 ∷ 0 ∷ []) $
    use2 𝓛 (later ((‵ ((ShrRef (named 0) κ R).own_val (record { ref_ptr = (b, o); now = e }) (vptr b o ∷ [])) ⊛ ‵ (flent κ (part_at R full_share e b o))) ⊛ ‵ (flft κ full_share)))
    (lends_shr 𝓛 R (named 0) κ full_share e b o R.lives (hosted_laws.shares 𝓛 e) ((κ, full_share) ∷ []) (within κ) (Incl-refl κ)) $ await ! tt $ split ! $ split ! $
    -- [the loan; the lender's part; the token of α; the right to free; the room; its token; the locals]
    let r : Bor Hosted = record { ref_ptr = (b, o); now = e } in
    let G = triple_of 𝓛 g.signature (g.spec 𝓛 𝓜.mem 𝓡.returns) in
    let z : G.Ghost = (((κ, (κs.0, tt)), (full_share, (qs.0, tt)), tt, (r, (number, (x, tt))), (shr_vals r, (uint_vals w32 number, (mut_slice_vals x, tt)))), tt) in
    nothing ! $ move ! (5 ∷ 0 ∷ []) $ join ! $ owned ! u32 _ (uint_Makes 𝓛 w32) number _ (refl, low-number) $ join ! $ move ! (1 ∷ 0 ∷ []) $ join ! $
    -- [what is passed; the lender's part; the token of α; the right to free; the room's token; the locals]
    nothing ! $ move ! (5 ∷ 0 ∷ []) $ join ! $ move ! (3 ∷ 0 ∷ []) $ join ! $ join ! $
    nothing ! $ move ! (1 ∷ 0 ∷ []) $ use2 𝓛 (raw (G.pre z)) (id⊢ 𝓤 _) $
    calls_at ! (framed 𝓤 𝓛.H 𝓜 (tables 𝓤 𝓛.H 𝓜 𝓡 𝓡.env)) G (met 𝓤 𝓛 𝓜 𝓡 (code.calls-host_library::hosted::Hosted::fact_name 𝓡.env wired)) z
    (and_then ! (get ! refl) (and_then ! (get ! refl) (and_then ! (get ! refl) (no_more !)))) (λ v.
    use1 𝓛 (later (some (λ (m : ℕ). ((‵ (flft κ full_share) ⊛ (‵ (flft κs.0 qs.0) ⊛ ‵ ftrue)) ⊛ ‵ (usize.own_val m (v ∷ []))) ⊛
    some (λ (ws : Unit {0} × (Unit {0} × (List ℕ × Unit {0}))). ‵ (lasts g.ended z.0.0 z.0.3 ws) ⊛ raw (fact 𝓤 (TextTold (reads.fact_named (slice_get e.session.world.facts number)) x.now m ws.1.1.0)))))) (id⊢ 𝓤 _) $
    await ! tt $ pick ! (λ m. split ! $ split ! $ split ! $ lft_end ! tt $
    -- [α is over; the room's token; the result; what is known; the lender's part; the right to free; the locals]
    move ! (2 ∷ []) $ peeks ! usize (Is usize) (shows 𝓛 usize) m (v ∷ []) (λ is.
    lands_as ! refl refl ((uint_Lawful 𝓛 w64).typed m (v ∷ []) is).0 $
    move ! (3 ∷ []) $ pick ! (λ ws. split ! $ move ! (1 ∷ []) $ heard ! _ (λ told.
    -- [what is left; the result; α is over; the room's token; the lender's part; the right to free; the locals]
    move ! (2 ∷ 4 ∷ []) $ lent_back ! tt $ move ! (0 ∷ 4 ∷ []) $ fjoin ! $
    -- [the session; what is left; the result; the room's token; the locals]
    move ! (1 ∷ []) $ fsplit ! $ drop ! $ fsplit ! $ drop ! $ fsplit ! $ fsplit ! $ fsplit ! $ move ! (1 ∷ []) $ feq_l ! (λ as_many. fjoin ! $
    -- [the room's last bytes and its borrow; nothing; the session; the result; the room's token; the locals]
    returns ! (look_at ! 0 refl) $ free_all ! refl $ keep ! (0 ∷ 2 ∷ 3 ∷ 4 ∷ []) $
    use0 𝓛 (raw (fact 𝓤 (TextTold (reads.fact_named (slice_get e.session.world.facts number)) x.now m ws.1.1.0))) (fact_i 𝓤 (TextTold (reads.fact_named (slice_get e.session.world.facts number)) x.now m ws.1.1.0) (emp 𝓤) told) $ move ! (2 ∷ 0 ∷ []) $
    use2 𝓛 (raw (sep 𝓤 (sem 𝓛 (hosted_owns (block_ptr b o) e)) (fact 𝓤 (TextTold (reads.fact_named (slice_get e.session.world.facts number)) x.now m ws.1.1.0)))) (id⊢ 𝓤 _) $
    suffices ! _ (ends_at 𝓛 f.ended stayed c (y (block_ptr b o)) v m (tt, (tt, (ws.1.1.0, tt))) (tt, (tt, (as_many, tt)))) $
    -- [what the contract says; the room's; the result; the room's token]
    nothing ! $ move ! (2 ∷ 0 ∷ []) $ join ! $ nothing ! $ join ! $ nothing ! $ join ! $ move ! (3 ∷ 0 ∷ 2 ∷ []) $ group ! 3 $ done !))))))))))
