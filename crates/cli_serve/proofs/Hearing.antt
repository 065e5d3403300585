-- What is heard of an input, line after line.
use Rattle.std.proofs.Common.{◌≡◌, ◌∙◌, ◌==◌, append_assoc, ℕ, nat_eq, nat_lt, Bool, true, false, cond, if◌then◌else◌, List, [], ◌∷◌, ◌++◌, length, Option, Some, None, refl, sym, ap, subst, inl, inr}
use Rattle.std.specs.List.{onto_first, slice_split}
use Rattle.cli_serve.specs.Serving.{TookLine}
use Rattle.cli_serve.specs.Taking.{Comes}
use Rattle.spec_outside.specs.Lines.{Cut, End, Line, Long, Next, before_feed, from_feed, most_line_bytes, next_by, next_in}
use Rattle.spec_serve.specs.declared.request_fault.RequestFault.TheVariants as request
use Rattle.spec_serve.specs.Served.{Hears}
use Rattle.spec_serve.specs.Talks.{Heard, heard_from, heard_in, heard_of, nothing_heard}

-- the parts between line feeds
abbrev parts_of : List ℕ → List (List ℕ)
parts_of bytes = slice_split (λ b. b == 10) bytes

-- the parts after the first one, of the bytes from the first line feed on
abbrev parts_after : List ℕ → List (List ℕ)
parts_after [] = []
parts_after (feed ∷ rest) = parts_of rest

one_more : (b : ℕ) (bytes : List ℕ) (fed : Bool) → parts_of bytes ≡ before_feed bytes ∷ parts_after (from_feed bytes) →
    cond fed ([] ∷ parts_of bytes) (onto_first b (parts_of bytes))
    ≡ (if fed then [] else b ∷ before_feed bytes) ∷ parts_after (if fed then b ∷ bytes else from_feed bytes)
one_more b bytes true h = refl
one_more b bytes false h = ap (onto_first b) h

-- the first part is what comes before the first line feed
split_feed : (bytes : List ℕ) → parts_of bytes ≡ before_feed bytes ∷ parts_after (from_feed bytes)
split_feed [] = refl
split_feed (b ∷ bytes) = one_more b bytes (nat_eq b 10) (split_feed bytes)

-- what is taken of a part that is followed by another one
part_heard : (part next : List ℕ) (parts : List (List ℕ)) (rest : Heard) → heard_from part (next ∷ parts) rest ≡ record rest { texts = part ∷ rest.texts }
part_heard [] next parts rest = refl
part_heard (b ∷ part) next parts rest = refl

-- .. by the bytes after its line feed
line_heard : (part bytes : List ℕ) (rest : Heard) → heard_from part (parts_of bytes) rest ≡ record rest { texts = part ∷ rest.texts }
line_heard part bytes rest =
    ap (λ (parts : List (List ℕ)). heard_from part parts rest) (split_feed bytes)
    ∙ part_heard part (before_feed bytes) (parts_after (from_feed bytes)) rest

-- what is taken by the bytes before the first line feed, and by those from it on
abbrev heard_by : Bool → List ℕ → List ℕ → Heard
heard_by long text from =
    if long then nothing_heard (Some request.TooLong) else heard_from text (parts_after from) (heard_in (parts_after from))

abbrev next_if : Bool → List ℕ → List ℕ → Next
next_if long text from = if long then Long else next_by text from

heard_parts : (bytes : List ℕ) → heard_of bytes ≡ heard_by (nat_lt most_line_bytes (length (before_feed bytes))) (before_feed bytes) (from_feed bytes)
heard_parts bytes = ap heard_in (split_feed bytes)

by_line : (long : Bool) (before from text rest : List ℕ) → next_if long before from ≡ Line text rest →
    heard_by long before from ≡ record (heard_of rest) { texts = text ∷ (heard_of rest).texts }
by_line true before from text rest h = cc
by_line false [] [] text rest h = cc
by_line false (b ∷ before) [] text rest h = cc
by_line false before (feed ∷ after) text rest h =
    let texts : before ≡ text = cc in
    let rests : after ≡ rest = cc in
    line_heard before after (heard_of after)
    ∙ ap (λ (bytes : List ℕ). record (heard_of bytes) { texts = before ∷ (heard_of bytes).texts }) rests
    ∙ ap (λ (t : List ℕ). record (heard_of rest) { texts = t ∷ (heard_of rest).texts }) texts

by_end : (long : Bool) (before from : List ℕ) → next_if long before from ≡ End → heard_by long before from ≡ nothing_heard None
by_end true before from h = cc
by_end false [] [] h = refl
by_end false (b ∷ before) [] h = cc
by_end false before (feed ∷ after) h = cc

by_cut : (long : Bool) (before from : List ℕ) → next_if long before from ≡ Cut → heard_by long before from ≡ nothing_heard (Some request.End)
by_cut true before from h = cc
by_cut false [] [] h = cc
by_cut false (b ∷ before) [] h = refl
by_cut false before (feed ∷ after) h = cc

by_long : (long : Bool) (before from : List ℕ) → next_if long before from ≡ Long → heard_by long before from ≡ nothing_heard (Some request.TooLong)
by_long true before from h = refl
by_long false [] [] h = cc
by_long false (b ∷ before) [] h = cc
by_long false before (feed ∷ after) h = cc

-- a line is taken, and what is taken of the bytes after it
pub heard_line : (bytes text rest : List ℕ) → next_in bytes ≡ Line text rest → heard_of bytes ≡ record (heard_of rest) { texts = text ∷ (heard_of rest).texts }
heard_line bytes text rest h =
    heard_parts bytes ∙ by_line (nat_lt most_line_bytes (length (before_feed bytes))) (before_feed bytes) (from_feed bytes) text rest h

-- no line is taken at the end
pub heard_end : (bytes : List ℕ) → next_in bytes ≡ End → heard_of bytes ≡ nothing_heard None
heard_end bytes h = heard_parts bytes ∙ by_end (nat_lt most_line_bytes (length (before_feed bytes))) (before_feed bytes) (from_feed bytes) h

-- .. nor in the middle of a line
pub heard_cut : (bytes : List ℕ) → next_in bytes ≡ Cut → heard_of bytes ≡ nothing_heard (Some request.End)
heard_cut bytes h = heard_parts bytes ∙ by_cut (nat_lt most_line_bytes (length (before_feed bytes))) (before_feed bytes) (from_feed bytes) h

-- .. nor at a line that is too long
pub heard_long : (bytes : List ℕ) → next_in bytes ≡ Long → heard_of bytes ≡ nothing_heard (Some request.TooLong)
heard_long bytes h = heard_parts bytes ∙ by_long (nat_lt most_line_bytes (length (before_feed bytes))) (before_feed bytes) (from_feed bytes) h

-- ---- Of an input

-- some lines, and then what is heard of the rest
abbrev pub after_texts : List (List ℕ) → Heard → Heard
after_texts texts heard = record heard { texts = texts ++ heard.texts }

-- these lines were taken of the bytes that were still to come, where the input tells them
abbrev pub TookLines : Option (List ℕ) → List (List ℕ) → Option (List ℕ) → Type 0
TookLines None texts ahead = Unit {0}
TookLines (Some bytes) texts ahead = (rest : List ℕ) × (ahead ≡ Some rest) × (heard_of bytes ≡ after_texts texts (heard_of rest))

pub took_none : (ahead : Option (List ℕ)) → TookLines ahead [] ahead
took_none None = tt
took_none (Some bytes) = (bytes, refl, refl)

-- one more line was taken
pub took_more : (first ahead after : Option (List ℕ)) (texts : List (List ℕ)) (text : List ℕ) →
    TookLines first texts ahead → TookLine ahead text after → TookLines first (texts ++ text ∷ []) after
took_more None ahead after texts text took line = tt
took_more (Some bytes) ahead after texts text took line =
    let line' : TookLine (Some took.0) text after = subst (λ (a : Option (List ℕ)). TookLine a text after) took.1 line in (
      line'.0,
      line'.2,
      took.2 ∙ ap (after_texts texts) (heard_line took.0 text line'.0 line'.1)
          ∙ ap (λ (all : List (List ℕ)). record (heard_of line'.0) { texts = all }) (sym (append_assoc texts (text ∷ []) (heard_of line'.0).texts)),
    )

-- what is heard of the rest is heard after the lines that were taken
pub hears_after : (first ahead : Option (List ℕ)) (texts : List (List ℕ)) (MayFail : Type 0) (heard : Heard) →
    TookLines first texts ahead → Hears ahead MayFail heard → Hears first MayFail (after_texts texts heard)
hears_after None ahead texts MayFail heard took hears = tt
hears_after (Some bytes) ahead texts MayFail heard took hears =
    let hears' : Hears (Some took.0) MayFail heard = subst (λ (a : Option (List ℕ)). Hears a MayFail heard) took.1 hears in
    elim hears' [
      | inl whole ↦ inl (ap (after_texts texts) whole ∙ sym took.2)
      | inr fails ↦ inr (
        fails.0,
        record {
          rest = fails.1.rest;
          texts = ap (λ (h : Heard). h.texts) took.2 ∙ ap (λ (all : List (List ℕ)). texts ++ all) fails.1.texts
              ∙ sym (append_assoc texts heard.texts fails.1.rest);
          broken = fails.1.broken;
        },
      )
    ]

pub took_line : (ahead after : Option (List ℕ)) (text : List ℕ) → TookLine ahead text after → TookLines ahead (text ∷ []) after
took_line ahead after text line = took_more ahead ahead after [] text (took_none ahead) line

-- something is heard of every input
pub hears_some : (ahead : Option (List ℕ)) (MayFail : Type 0) → (heard : Heard) × Hears ahead MayFail heard
hears_some None MayFail = (nothing_heard None, tt)
hears_some (Some bytes) MayFail = (heard_of bytes, inl refl)

-- nothing more may be heard where a read may fail
pub hears_nothing : (ahead : Option (List ℕ)) (MayFail : Type 0) → MayFail → Hears ahead MayFail (nothing_heard (Some request.End))
hears_nothing None MayFail may = tt
hears_nothing (Some bytes) MayFail may = inr (may, record { rest = (heard_of bytes).texts; texts = refl; broken = refl })

-- what is heard where a read may fail for one reason is heard where it may for a weaker one
pub hears_weaker : (ahead : Option (List ℕ)) (MayFail Weaker : Type 0) (heard : Heard) → (MayFail → Weaker) → Hears ahead MayFail heard → Hears ahead Weaker heard
hears_weaker None MayFail Weaker heard f hears = tt
hears_weaker (Some bytes) MayFail Weaker heard f hears = elim hears [ inl whole ↦ inl whole | inr fails ↦ inr (f fails.0, fails.1) ]

pub hears_end : (ahead : Option (List ℕ)) (MayFail : Type 0) → Comes ahead End → Hears ahead MayFail (nothing_heard None)
hears_end None MayFail comes = tt
hears_end (Some bytes) MayFail comes = inl (sym (heard_end bytes comes))

pub hears_cut : (ahead : Option (List ℕ)) (MayFail : Type 0) → Comes ahead Cut → Hears ahead MayFail (nothing_heard (Some request.End))
hears_cut None MayFail comes = tt
hears_cut (Some bytes) MayFail comes = inl (sym (heard_cut bytes comes))

pub hears_long : (ahead : Option (List ℕ)) (MayFail : Type 0) → Comes ahead Long → Hears ahead MayFail (nothing_heard (Some request.TooLong))
hears_long None MayFail comes = tt
hears_long (Some bytes) MayFail comes = inl (sym (heard_long bytes comes))
