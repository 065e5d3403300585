-- `bt_entry` lends the session for the one call that it makes, and has it back as it was.
use Rattle.host_library.proofs.Steps.{◌≡◌, ◌<◌, ◌^◌, ◌++◌, w32, w64, vint, ℕ, u32, u64, usize, owned, uint_vals, uint_Tells, uint_Makes, uint_Lawful, [], ◌∷◌, refl, Bor, proved, full_share, emp, sep, id⊢, fst∗, never, Lft, Incl-refl, ftrue, flft, flent, named, vptr, bare, fact, fact_i, tables, sem, ‵, raw, ◌⊛◌, some, later, prop, ◌$◌, ◌∵◌, !, qed, done, move, keep, drop, use0, use1, use2, split, join, fsplit, fjoin, pick, await, regoal, suffices, group, lft_new, lft_end, lent_back, enter, of_opd, addr, stop, no_more, and_then, returns, alloc_all, pass_all, free_all, look_at, get, through, sets, lands_as, yes, Is, shows, lends_shr, lone, part_at, Ptr, RawPtr, block_ptr, null_ptr, in_a_block, rawptr_vals, rawptr_Tells, ShrRef, shr_vals, plain, nothing, heard, peeks, calls_at, lasts, on_entry, triple_of, framed, Stays, walk_of, stay_dropped, Goes-dropped, ends_at}
use prog.Wp.{WpFn}
use Rattle.host_library.specs.Reads as reads
use Rattle.host_library.specs.Values as values
use Rattle.host_library.specs.declared.values.Valued.{Valued}
use Rattle.host_library.specs.contracts.values.Valued.{the_row as Told}
use Rattle.host_library.proofs.values.Valued.TheLaws.{the_row_laws as told_laws}
use Rattle.host_library.specs.declared.hosted.Hosted.{Hosted}
use Rattle.host_library.specs.contracts.hosted.Hosted.{the_row as R}
use Rattle.host_library.proofs.hosted.Hosted.TheLaws.{the_row_laws as hosted_laws, the_within as within}
use Rattle.host_library.specs.Owned.{hosted_owns, holds}
use Rattle.host_library.specs.contracts.hosted.Hosted.entry as g
use Rattle.host_library.proofs.hosted.Hosted.entry.Met.{met}
use Rattle.host_library.specs.contracts.reads.bt_entry as f
use Rattle.host_library.proofs.reads.bt_entry.Statement.{statement}
use Rattle.host_library.proofs.reads.bt_entry.Code as code

abbrev stayed : Stays f.ended.signature.params f.ended.kept
stayed = (stay_dropped _ yes, (stay_dropped _ yes, (stay_dropped _ yes, tt)))

pub bt_entry_spec : {M : Type 1} → statement M
bt_entry_spec 𝓤 𝓛 𝓜 𝓡 wired =
    let c = f.clauses 𝓛 𝓜.mem 𝓡.returns in let W = walk_of 𝓛 f.ended stayed c in let 𝓣 = tables 𝓤 𝓛.H 𝓜 𝓡 𝓡.env in
    proved 𝓛 f.ended stayed c 𝓜 𝓡 (Goes-dropped 𝓛 0 (plain (λ _. RawPtr)) yes (λ κs x w. refl), (Goes-dropped 𝓛 0 (plain (λ _. u32)) yes (λ κs x w. refl), (Goes-dropped 𝓛 0 (plain (λ _. u32)) yes (λ κs x w. refl), tt)))
    f.Key.name code.function (code.unfolded 𝓤 𝓛.H 𝓜 𝓡 wired)
    (λ κs. (rawptr_vals, (uint_vals w32, (uint_vals w32, tt)))) (λ κs. (rawptr_Tells, (uint_Tells w32, (uint_Tells w32, tt)))) (λ κs qs bounds a e are.
    let runner = a.1.0 in let low-runner : runner < 2 ^ 32 = are.1.0.1 in
    let slot = a.1.1.0 in let low-slot : slot < 2 ^ 32 = are.1.1.0.1 in
    let y : Ptr → W.Ghost = λ p. ((κs, qs, bounds, (p, (runner, (slot, tt))), (rawptr_vals p, (uint_vals w32 runner, (uint_vals w32 slot, tt)))), e) in
    qed 𝓛 (raw (on_entry 𝓛 f.signature κs qs a (y a.0).0.4) ∷ ‵ (hosted_owns a.0 e) ∷ []) ∵ drop ! $
    in_a_block ! a.0 (λ p. hosted_owns p e) (fst∗ 𝓤 (never 𝓤) (sem 𝓛 (holds (bare (lone R.mir)) null_ptr))) (λ b o same.
    regoal ! (λ p. prop (WpFn 𝓤 𝓛.H 𝓣.C 𝓣.Λ code.function (rawptr_vals p ++ (vint w32 runner ∷ vint w32 slot ∷ [])) (W.post (y p)))) same refl $
    fsplit ! $ enter ! _ _ _ _ _ $ alloc_all ! (λ l. pass_all ! refl ((tt, tt), ((tt, record { fits = low-runner }), ((tt, record { fits = low-slot }), tt))) $
    -- [the session in its block; the right to free it; the locals]
    sets ! (of_opd ! (get ! refl)) refl (tt, tt) $ sets ! (addr ! (through ! refl (stop !))) refl (tt, tt) $
    lft_new ! tt (λ α. let κ : Lft = α ∷ [] in move ! (1 ∷ 0 ∷ []) $
    use2 𝓛 (later ((‵ ((ShrRef (named 0) κ R).own_val (record { ref_ptr = (b, o); now = e }) (vptr b o ∷ [])) ⊛ ‵ (flent κ (part_at R full_share e b o))) ⊛ ‵ (flft κ full_share)))
    (lends_shr 𝓛 R (named 0) κ full_share e b o R.lives (hosted_laws.shares 𝓛 e) ((κ, full_share) ∷ []) (within κ) (Incl-refl κ)) $ await ! tt $ split ! $ split ! $
    -- [the loan; the lender's part; the token of α; the right to free; the locals]
    let r : Bor Hosted = record { ref_ptr = (b, o); now = e } in
    let G = triple_of 𝓛 g.signature (g.spec 𝓛 𝓜.mem 𝓡.returns) in
    let z : G.Ghost = (((κ, tt), (full_share, tt), tt, (r, (runner, (slot, tt))), (shr_vals r, (uint_vals w32 runner, (uint_vals w32 slot, tt)))), tt) in
    nothing ! $ owned ! u32 _ (uint_Makes 𝓛 w32) slot _ (refl, low-slot) $ join ! $ owned ! u32 _ (uint_Makes 𝓛 w32) runner _ (refl, low-runner) $ join ! $ move ! (1 ∷ 0 ∷ []) $ join ! $ nothing ! $ move ! (3 ∷ 0 ∷ []) $ join ! $ join ! $
    nothing ! $ move ! (1 ∷ 0 ∷ []) $ use2 𝓛 (raw (G.pre z)) (id⊢ 𝓤 _) $
    calls_at ! (framed 𝓤 𝓛.H 𝓜 (tables 𝓤 𝓛.H 𝓜 𝓡 𝓡.env)) G (met 𝓤 𝓛 𝓜 𝓡 (code.calls-host_library::hosted::Hosted::entry 𝓡.env wired)) z
    (and_then ! (get ! refl) (and_then ! (get ! refl) (and_then ! (get ! refl) (no_more !)))) (λ v.
    use1 𝓛 (later (some (λ (m : Valued). ((‵ (flft κ full_share) ⊛ ‵ ftrue) ⊛ ‵ (Told.own_val m (v ∷ []))) ⊛
    some (λ (ws : Unit {0} × (Unit {0} × (Unit {0} × Unit {0}))). ‵ (lasts g.ended z.0.0 z.0.3 ws) ⊛ raw (fact 𝓤 (m ≡ values.value_told (reads.entry_read e.session runner slot))))))) (id⊢ 𝓤 _) $
    await ! tt $ pick ! (λ m. split ! $ split ! $ split ! $ lft_end ! tt $
    -- [α is over; nothing; the result; what is known of it; the lender's part; the right to free; the locals]
    move ! (2 ∷ []) $ peeks ! Told (Is Told) (shows 𝓛 Told) m (v ∷ []) (λ is.
    lands_as ! refl refl ((told_laws.lawful 𝓛).typed m (v ∷ []) is).0 $
    move ! (3 ∷ []) $ pick ! (λ ws. split ! $ move ! (1 ∷ []) $ heard ! _ (λ told.
    -- [nothing; the result; α is over; nothing; the lender's part; the right to free; the locals]
    move ! (2 ∷ 4 ∷ []) $ lent_back ! tt $ move ! (0 ∷ 4 ∷ []) $ fjoin ! $
    returns ! (look_at ! 0 refl) $ free_all ! refl $ keep ! (0 ∷ 2 ∷ []) $
    use0 𝓛 (raw (fact 𝓤 (m ≡ values.value_told (reads.entry_read e.session runner slot)))) (fact_i 𝓤 (m ≡ values.value_told (reads.entry_read e.session runner slot)) (emp 𝓤) told) $ move ! (1 ∷ 0 ∷ []) $
    use2 𝓛 (raw (sep 𝓤 (sem 𝓛 (hosted_owns (block_ptr b o) e)) (fact 𝓤 (m ≡ values.value_told (reads.entry_read e.session runner slot))))) (id⊢ 𝓤 _) $ move ! (1 ∷ []) $
    suffices ! _ (ends_at 𝓛 f.ended stayed c (y (block_ptr b o)) v m (tt, (tt, (tt, tt))) (tt, (tt, (tt, tt)))) $
    nothing ! $ nothing ! $ join ! $ nothing ! $ join ! $ nothing ! $ join ! $ nothing ! $ group ! 3 $ done !)))))))))
