-- A file reads as one world at most, or it has one first faulty line.
use Rattle.std.proofs.Common.{◌≡◌, ℕ, ◌+◌, Bool, true, false, List, [], ◌∷◌, Option, Some, None, Result, Ok, Err, refl, sym, ap, ◌∙◌, subst}
use Rattle.std.specs.Prelude.{MatchBool, bytes_eq, codes}
use Rattle.spec_script.specs.declared.syntax.Expr.{Expr}
use Rattle.script_reader.proofs.Exclusive.{one-expr}
use Rattle.spec_world.specs.declared.world.ToldOut.{ToldOut}
use Rattle.spec_world.specs.declared.world.World.{World}
use Rattle.spec_world_file.specs.declared.world_fault.WorldFault.{WorldFault}
use Rattle.spec_world_file.specs.declared.world_fault.WorldFaultKind.{WorldFaultKind}
use Rattle.spec_world_file.specs.WorldFile.{Line, FactLine, IsLine, WhenLine, TimedLine, TimedByLine, ReplayLine, GateLine, SensedLine, ToldLine, FailsLine, NeedsLine, SetsLine, OutLine, NameLine, GoalLine, RunnersLine, AtLine, TickLine, HaltLine, SetLine, TellLine, EveryLine, AfterForm, AfterLine, AfterLines, AfterText, GoesOn, LinesMake, LinesRead, Reading, ReadsNumeric, ReadsOuts, ReadsTold, ReadsWorld, SaysOf, SaysOfOuts, by_expr, by_outs, content, is_ignored, line_in, lines_in, no_header, nothing_read, without_gap, without_return, world_after}
use Rattle.world_lines.proofs.Telling.{never_begins, one_out}

one_numeric : (text : List ℕ) (a b : Option Expr) → ReadsNumeric text a → ReadsNumeric text b → a ≡ b
one_numeric text None None h k = refl
one_numeric text None (Some e) h k = absurd (h e k.0 k.1)
one_numeric text (Some e) None h k = absurd (k e h.0 h.1)
one_numeric text (Some e) (Some f) h k = ap (λ (x : Expr). Some x) (one-expr text e f h.0 k.0)

one_saying : (text : List ℕ) (rule : Expr → Result Reading WorldFaultKind) (a b : Result Reading WorldFaultKind) → SaysOf text rule a → SaysOf text rule b → a ≡ b
one_saying text rule a b h k = h.is ∙ ap (λ (o : Option Expr). by_expr o rule) (one_numeric text h.expr k.expr h.reads k.reads) ∙ sym k.is

one_telling : (a b : List ToldOut) (text : List ℕ) → ReadsOuts a text → ReadsOuts b text → a ≡ b
one_telling [] [] text h k = refl
one_telling [] (out ∷ outs) text h k = absurd (never_begins text out k.0 h k.1)
one_telling (out ∷ outs) [] text h k = absurd (never_begins text out h.0 k h.1)
one_telling (out ∷ outs) (other ∷ others) text h k =
    let same = one_out text out other h.0 k.0 h.1 k.1 in
    let more = one_telling outs others (without_gap h.0) h.2 (subst (λ (rest : List ℕ). ReadsOuts others (without_gap rest)) (sym same.1) k.2) in
    ap (λ (o : ToldOut). o ∷ outs) same.0 ∙ ap (λ (os : List ToldOut). other ∷ os) more

one_told : (text : List ℕ) (a b : Option (List ToldOut)) → ReadsTold text a → ReadsTold text b → a ≡ b
one_told text None None h k = refl
one_told text None (Some outs) h k = absurd (h outs k)
one_told text (Some outs) None h k = absurd (k outs h)
one_told text (Some outs) (Some others) h k = ap (λ (os : List ToldOut). Some os) (one_telling outs others text h k)

one_said : (text : List ℕ) (rule : List ToldOut → Result Reading WorldFaultKind) (a b : Result Reading WorldFaultKind) → SaysOfOuts text rule a → SaysOfOuts text rule b → a ≡ b
one_said text rule a b h k = h.is ∙ ap (λ (o : Option (List ToldOut)). by_outs o rule) (one_told text h.outs k.outs h.reads k.reads) ∙ sym k.is

one_line : (r : Reading) (line : Line) (a b : Result Reading WorldFaultKind) → AfterLine r line a → AfterLine r line b → a ≡ b
one_line r (FactLine name opening) a b h k = h ∙ sym k
one_line r (IsLine id fact op value) a b h k = h ∙ sym k
one_line r (WhenLine head expr) a b h k = one_saying expr _ a b h k
one_line r (TimedLine head ms) a b h k = h ∙ sym k
one_line r (TimedByLine head expr) a b h k = one_saying expr _ a b h k
one_line r (ReplayLine head ms outcomes) a b h k = h ∙ sym k
one_line r (GateLine head expr) a b h k = one_saying expr _ a b h k
one_line r (SensedLine head) a b h k = h ∙ sym k
one_line r (ToldLine head) a b h k = h ∙ sym k
one_line r (FailsLine expr) a b h k = one_saying expr _ a b h k
one_line r (NeedsLine id) a b h k = h ∙ sym k
one_line r (SetsLine fact how value) a b h k = h ∙ sym k
one_line r (OutLine port expr) a b h k = one_saying expr _ a b h k
one_line r (NameLine port) a b h k = h ∙ sym k
one_line r (GoalLine id) a b h k = h ∙ sym k
one_line r (RunnersLine count) a b h k = h ∙ sym k
one_line r (AtLine ms) a b h k = h ∙ sym k
one_line r (TickLine runner) a b h k = h ∙ sym k
one_line r (HaltLine runner) a b h k = h ∙ sym k
one_line r (SetLine fact value) a b h k = h ∙ sym k
one_line r (TellLine runner uid succeeds outs) a b h k = one_said outs _ a b h k
one_line r (EveryLine ms last parts) a b h k = h ∙ sym k

one_form : (r : Reading) (o : Option Line) (a b : Result Reading WorldFaultKind) → AfterForm r o a → AfterForm r o b → a ≡ b
one_form r None a b h k = h ∙ sym k
one_form r (Some line) a b h k = one_line r line a b h k

one_text : (r : Reading) (text : List ℕ) (a b : Result Reading WorldFaultKind) → AfterText r text a → AfterText r text b → a ≡ b
one_text r text a b = by (is_ignored (content text))
  where
    by : (t : Bool) → MatchBool t (a ≡ Ok r) (AfterForm r (line_in (content text)) a) → MatchBool t (b ≡ Ok r) (AfterForm r (line_in (content text)) b) → a ≡ b
    by true h k = h ∙ sym k
    by false h k = one_form r (line_in (content text)) a b h k

one_after : (n : ℕ) (texts : List (List ℕ)) (r : Reading) (a b : Result Reading WorldFault) → AfterLines n texts r a → AfterLines n texts r b → a ≡ b
one_after n [] r a b h k = h ∙ sym k
one_after n (text ∷ texts) r a b h k =
    by (one_after (n + 1) texts) k.0 (subst (GoesOn n (λ left. AfterLines (n + 1) texts left a) a) (one_text r text h.0 k.0 h.1 k.1) h.2) k.2
  where
    by : ((left : Reading) (a b : Result Reading WorldFault) → AfterLines (n + 1) texts left a → AfterLines (n + 1) texts left b → a ≡ b) →
        (next : Result Reading WorldFaultKind) → GoesOn n (λ left. AfterLines (n + 1) texts left a) a next → GoesOn n (λ left. AfterLines (n + 1) texts left b) b next → a ≡ b
    by rest (Ok left) x y = rest left a b x y
    by rest (Err kind) x y = x ∙ sym y

one_making : (texts : List (List ℕ)) (a b : Result World WorldFault) → LinesMake texts a → LinesMake texts b → a ≡ b
one_making texts a b h k = h.is ∙ ap world_after (one_after 2 texts nothing_read h.after k.after h.lines k.lines) ∙ sym k.is

one_reading : (texts : List (List ℕ)) (a b : Result World WorldFault) → LinesRead texts a → LinesRead texts b → a ≡ b
one_reading [] a b h k = h ∙ sym k
one_reading (first ∷ rest) a b h k = by (bytes_eq (without_return first) (codes "bt-world 1")) h k
  where
    by : (t : Bool) → MatchBool t (LinesMake rest a) (a ≡ no_header) → MatchBool t (LinesMake rest b) (b ≡ no_header) → a ≡ b
    by true h k = one_making rest a b h k
    by false h k = h ∙ sym k

pub one_world : (bytes : List ℕ) (a b : Result World WorldFault) → ReadsWorld bytes a → ReadsWorld bytes b → a ≡ b
one_world bytes a b h k = one_reading (lines_in bytes) a b h k
