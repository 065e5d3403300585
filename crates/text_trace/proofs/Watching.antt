-- A watcher that was shown some blocks, and then others.
use Rattle.std.proofs.Common.{◌≡◌, ℕ, List, [], ◌++◌, Option, Some, None, ◌∷◌, refl, sym, ap, subst, ◌∙◌, append_assoc, append-nil}
use Rattle.std.specs.List.{flat_map}
use Rattle.std.proofs.lemmas.Grind.{flat_map-append}
use Rattle.spec_run.specs.declared.block.Block.{Block}
use Rattle.spec_run.specs.declared.note.Note.{Note}
use Rattle.spec_outside.specs.Appending.{Appended, AppendedPrefix}
use Rattle.base_outside.proofs.Appends.{Appended-nil, Appended-trans, AppendedPrefix-after, AppendedPrefix-longer, AppendedPrefix-whole}
use Rattle.spec_output.specs.declared.counts.Counts.{Counts}
use Rattle.spec_output.specs.Counts.{counts_in, notes_in}
use Rattle.text_trace.specs.Following.{Following, all_followed, followed}
use Rattle.text_trace.specs.Watches.{Counted, Followed, WasShown, Watched}

counted_none : (old : Option Counts) → Counted old old []
counted_none None = tt
counted_none (Some old) = λ earlier was. ap Some (was ∙ ap counts_in (sym (append-nil earlier)))

counted_both : (a b c : Option Counts) (xs ys : List Note) → Counted a b xs → Counted b c ys → Counted a c (xs ++ ys)
counted_both None b c xs ys p q = tt
counted_both (Some old) b c xs ys p q = λ earlier was.
    let next : Counted (Some (counts_in (earlier ++ xs))) c ys = subst (λ (o : Option Counts). Counted o c ys) (p earlier was) q in
    next (earlier ++ xs) refl ∙ ap (λ (ns : List Note). Some (counts_in ns)) (append_assoc earlier xs ys)

followed_none : (old : Option Following) → Followed old old []
followed_none None = tt
followed_none (Some old) = refl

all_followed_both : (xs ys : List Block) (f : Following) → all_followed ys (all_followed xs f) ≡ all_followed (xs ++ ys) f
all_followed_both [] ys f = refl
all_followed_both (x ∷ xs) ys f = all_followed_both xs ys (followed x f)

followed_both : (a b c : Option Following) (xs ys : List Block) → Followed a b xs → Followed b c ys → Followed a c (xs ++ ys)
followed_both None b c xs ys p q = tt
followed_both (Some old) b c xs ys p q =
    let next : Followed (Some (all_followed xs old)) c ys = subst (λ (o : Option Following). Followed o c ys) p q in
    next ∙ ap Some (all_followed_both xs ys old)

-- no block was shown
pub shown_none : (w : Watched) → WasShown w w []
shown_none w = record { text = refl; written = Appended-nil w.written; counted = counted_none w.counts; followed = followed_none w.expecting }

module _ (a b c : Watched) (xs ys : List Block) (p : WasShown a b xs) where
  text_both : flat_map a.text xs ++ flat_map b.text ys ≡ flat_map a.text (xs ++ ys)
  text_both = ap (λ (f : Block → List ℕ). flat_map a.text xs ++ flat_map f ys) p.text ∙ sym (flat_map-append a.text xs ys)

  -- some blocks, and then others
  pub shown_both : WasShown b c ys → WasShown a c (xs ++ ys)
  shown_both q = record {
    text = q.text ∙ p.text;
    written = subst (Appended a.written c.written) text_both (Appended-trans a.written b.written c.written (flat_map a.text xs) (flat_map b.text ys) p.written q.written);
    followed = followed_both a.expecting b.expecting c.expecting xs ys p.followed q.followed;
    counted = subst (Counted a.counts c.counts) (sym (flat_map-append (λ (x : Block). x.notes) xs ys)) (counted_both a.counts b.counts c.counts (notes_in xs) (notes_in ys) p.counted q.counted);
  }

  -- some blocks, and then a prefix of the text of others
  pub front_after : AppendedPrefix b.written c.written (flat_map b.text ys) → AppendedPrefix a.written c.written (flat_map a.text (xs ++ ys))
  front_after q = subst (AppendedPrefix a.written c.written) text_both (AppendedPrefix-after a.written b.written c.written (flat_map a.text xs) (flat_map b.text ys) p.written q)

-- the text of some blocks is a prefix of that of more
pub front_of : (a b : Watched) (xs ys : List Block) → WasShown a b xs → AppendedPrefix a.written b.written (flat_map a.text (xs ++ ys))
front_of a b xs ys p =
    subst (AppendedPrefix a.written b.written) (sym (flat_map-append a.text xs ys))
    (AppendedPrefix-longer a.written b.written (flat_map a.text xs) (flat_map a.text ys) (AppendedPrefix-whole a.written b.written (flat_map a.text xs) p.written))

pub front_all : (a b : Watched) (xs : List Block) → WasShown a b xs → AppendedPrefix a.written b.written (flat_map a.text xs)
front_all a b xs p = AppendedPrefix-whole a.written b.written (flat_map a.text xs) p.written
