-- The lines that were answered, one after the other.
use Rattle.std.proofs.Common.{◌≡◌, ◌⊎◌, ◌+◌, ◌≤◌, ℕ, List, [], ◌∷◌, ◌++◌, Option, sym, subst, append_assoc, inl, inr}
use Rattle.base_outside.proofs.Rises.{Rose-after}
use Rattle.cli_serve.proofs.Hearing.{TookLines, after_texts, hears_after, hears_weaker, took_more, took_none}
use Rattle.cli_serve.proofs.Parts.{part_none, part_over, part_then, part_weaker}
use Rattle.cli_serve.specs.declared.over.Over.{Over}
use Rattle.cli_serve.specs.Serving.{IsOver, IsPart, IsStop, Out, TookLine}
use Rattle.spec_outside.specs.Appending.{Appended}
use Rattle.spec_outside.specs.Counts.{Rose}
use Rattle.spec_program.specs.declared.exit.Exit.TheVariants as exit
use Rattle.spec_serve.specs.Served.{Hears}
use Rattle.spec_serve.specs.Talks.{Heard, LinesSaid, Said, finish_all}
use Rattle.spec_session.specs.Sessions.{Sitting}
use Rattle.spec_world_file.specs.WorldFile.{Reading}
use Rattle.std.specs.List.{concat}

-- lines were answered up to one of a number
pub record Answered (first ahead : Option (List ℕ)) (number : ℕ) (before r : Reading) (opened s : Sitting) (old new : Out) : Type 0 where
  pub texts : List (List ℕ)
  pub took : TookLines first texts ahead
  pub part : (heard : Heard) → IsPart (LinesSaid (texts ++ heard.texts) heard.broken 1 before opened) (LinesSaid heard.texts heard.broken number r s) old new

pub answered_none : (ahead : Option (List ℕ)) (r : Reading) (s : Sitting) (o : Out) → Answered ahead ahead 1 r r s s o o
answered_none ahead r s o = record {
  texts = [];
  took = took_none ahead;
  part = λ heard. part_none (LinesSaid heard.texts heard.broken 1 r s) (LinesSaid heard.texts heard.broken 1 r s) o (λ rest h. h);
}

-- one more was
pub answered_more : (first ahead after : Option (List ℕ)) (number : ℕ) (before r left : Reading) (opened s s' : Sitting) (old mid new : Out) →
    Answered first ahead number before r opened s old mid → (text : List ℕ) → TookLine ahead text after →
    ((heard : Heard) → IsPart (LinesSaid (text ∷ heard.texts) heard.broken number r s) (LinesSaid heard.texts heard.broken (number + 1) left s') mid new) →
    Answered first after (number + 1) before left opened s' old new
answered_more first ahead after number before r left opened s s' old mid new done text took next = record {
  texts = done.texts ++ text ∷ [];
  took = took_more first ahead after done.texts text done.took took;
  part = λ heard.
      let Rest : Said → Type 0 = LinesSaid heard.texts heard.broken (number + 1) left s' in
      subst (λ (z : List (List ℕ)). IsPart (LinesSaid z heard.broken 1 before opened) Rest old new) (sym (append_assoc done.texts (text ∷ []) heard.texts))
      (part_then (LinesSaid (done.texts ++ (text ∷ heard.texts)) heard.broken 1 before opened) (LinesSaid (text ∷ heard.texts) heard.broken number r s) Rest old mid new
      (done.part (record heard { texts = text ∷ heard.texts })) (next heard));
}

-- nothing more was written
part_same : (A B : Said → Type 0) (a b c : Out) → IsPart A B a b → c.written ≡ b.written → IsPart A B a c
part_same A B a b c p same = record {
  lines = p.lines;
  events = p.events;
  wrote = subst (λ (w : Option (List ℕ)). Appended a.written w (concat p.lines)) (sym same) p.wrote;
  all = p.all;
}

-- no line is left
pub answered_end : (first ahead : Option (List ℕ)) (number : ℕ) (before r : Reading) (opened s s' : Sitting) (old mid new : Out) →
    Answered first ahead number before r opened s old mid →
    ((heard : Heard) × Hears ahead ⊥ heard × LinesSaid heard.texts heard.broken number r s (finish_all exit.Done s') × (new.written ≡ mid.written)) →
    (heard : Heard) × Hears first ⊥ heard × IsPart (LinesSaid heard.texts heard.broken 1 before opened) (λ rest. rest ≡ finish_all exit.Done s') old new
answered_end first ahead number before r opened s s' old mid new done ends =
    let heard : Heard = ends.0 in (
      after_texts done.texts heard,
      hears_after first ahead done.texts ⊥ heard done.took ends.1,
      part_same (LinesSaid (done.texts ++ heard.texts) heard.broken 1 before opened) (λ rest. rest ≡ finish_all exit.Done s') old mid new
          (part_weaker (LinesSaid (done.texts ++ heard.texts) heard.broken 1 before opened) (LinesSaid heard.texts heard.broken number r s) (λ rest. rest ≡ finish_all exit.Done s') old mid
          (done.part heard) (λ rest is. subst (LinesSaid heard.texts heard.broken number r s) (sym is) ends.2)) ends.3,
    )

rises : (why : Over) (a b c : ℕ) → a ≤ b → Rose b c ⊎ IsStop why → Rose a c ⊎ IsStop why
rises why a b c count h = elim h [ inl rose ↦ inl (Rose-after a b c count rose) | inr stopped ↦ inr stopped ]

-- one was not answered
pub answered_over : (first ahead : Option (List ℕ)) (number : ℕ) (before r : Reading) (opened s s' : Sitting) (why : Over) (a b c : ℕ) (old mid new : Out) →
    Answered first ahead number before r opened s old mid → a ≤ b → old.faults ≤ mid.faults →
    ((heard : Heard) × Hears ahead (Rose b c ⊎ IsStop why) heard × IsOver why number s' (LinesSaid heard.texts heard.broken number r s) mid new) →
    (heard : Heard) × Hears first (Rose a c ⊎ IsStop why) heard × IsOver why number s' (LinesSaid heard.texts heard.broken 1 before opened) old new
answered_over first ahead number before r opened s s' why a b c old mid new done lines count over =
    let heard : Heard = over.0 in (
      after_texts done.texts heard,
      hears_after first ahead done.texts (Rose a c ⊎ IsStop why) heard done.took
          (hears_weaker ahead (Rose b c ⊎ IsStop why) (Rose a c ⊎ IsStop why) heard (rises why a b c lines) over.1),
      part_over why number s' (LinesSaid (done.texts ++ heard.texts) heard.broken 1 before opened) (LinesSaid heard.texts heard.broken number r s) old mid new
          (done.part heard) count over.2,
    )
