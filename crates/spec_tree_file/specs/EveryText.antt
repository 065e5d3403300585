-- The proof that every text has a reading. It stands here since a definition picks the reading by it (`Scripts`); what it proves is all
-- that counts, and stands in `Readings`.
use Rattle.std.specs.Prelude.{◌≡◌, ℕ, ◌≤◌, List, [], ◌∷◌, length, Bool, true, false, nat_le, Option, Some, None, Ok, Err, refl}
use Rattle.std.proofs.Common.{ap, ◌∙◌}
use Rattle.std.proofs.lemmas.Bool.{leb-true, leb-false}
use Rattle.spec_script.specs.declared.stage.Verdict.{Verdict}
use Rattle.spec_script.specs.declared.stage.Verdict.TheVariants as verdict
use Rattle.spec_script.specs.declared.stage.Stage.TheVariants.{Blank}
use Rattle.spec_script.specs.declared.fault.ScriptFault.{ScriptFault}
use Rattle.spec_script.specs.declared.fault.ScriptFault.TheVariants.{TooLong, TooNested}
use Rattle.spec_script.specs.declared.syntax.Stmt.{Stmt}
use Rattle.spec_script.specs.declared.token.Placed.{Placed}
use Rattle.spec_script.specs.Grammar.{IsStmts, kept}
use Rattle.spec_script.specs.Reading.{bare, high_stmt, token_fault, tokens_of}
use Rattle.spec_script.specs.Spots.{Checked, Spot, may_end, refused, run, step, then_spot}
use Rattle.spec_script.proofs.Readings.{script-clean, script-read, script-refused}
use Rattle.spec_tree_file.specs.Readings.{EveryText, Reading}

-- where some tokens lead
abbrev Found : Spot → List Placed → Type 0
Found s ts = (v : Verdict) × Checked s ts v

at_end : (s : Spot) (b : Bool) → may_end s ≡ b → Found s []
at_end s true h = (verdict.Whole, record { spot = s; led = refl; ends = h })
at_end s false h = (verdict.Unfinished, record { spot = s; led = refl; ends = h })

led_on : (s u : Spot) (t : Placed) (ts : List Placed) → step s t.token ≡ Some u → (o : Option Spot) → run (bare ts) u ≡ o → run (bare (t ∷ ts)) s ≡ o
led_on s u t ts h o k = ap (λ (x : Option Spot). then_spot x (run (bare ts))) h ∙ k

following : (s u : Spot) (t : Placed) (ts : List Placed) → step s t.token ≡ Some u → Found u ts → Found s (t ∷ ts)
following s u t ts h (verdict.Whole, l) = (verdict.Whole, record { spot = l.spot; led = led_on s u t ts h (Some l.spot) l.led; ends = l.ends })
following s u t ts h (verdict.Unfinished, l) = (verdict.Unfinished, record { spot = l.spot; led = led_on s u t ts h (Some l.spot) l.led; ends = l.ends })
following s u t ts h (verdict.Stuck place, l) = (
  verdict.Stuck place,
  record {
    front = t ∷ l.front;
    token = l.token;
    rest = l.rest;
    spot = l.spot;
    at = ap (λ (x : List Placed). t ∷ x) l.at;
    led = led_on s u t l.front h (Some l.spot) l.led;
    stuck = l.stuck;
  },
)

next : (s : Spot) (t : Placed) (ts : List Placed) → ((u : Spot) → Found u ts) → (o : Option Spot) → step s t.token ≡ o → Found s (t ∷ ts)
next s t ts rest None h = (verdict.Stuck t.place, record { front = []; token = t.token; rest = ts; spot = s; at = refl; led = refl; stuck = h })
next s t ts rest (Some u) h = following s u t ts h (rest u)

-- some tokens lead to an end, or to a token with which nothing goes on
found : (s : Spot) (ts : List Placed) → Found s ts
found s [] = at_end s (may_end s) refl
found s (t ∷ ts) = next s t ts (λ u. found u ts) (step s t.token) refl

built : (text : List ℕ) → length text ≤ 4096 → token_fault text ≡ None → (slots : List (Option Stmt)) → IsStmts (bare (tokens_of text)) slots →
    (o : Option ℕ) → high_stmt slots (tokens_of text) ≡ o → Reading text
built text short clean slots is None low =
    (Ok (record { text = text; stmts = kept slots }), script-read text text (kept slots) (kept slots) short clean refl refl (slots, is, refl, low))
built text short clean slots is (Some place) high = (Err (TooNested place), (short, record { clean = clean; whole = slots; is = is; high_at = high }))

short_text : (text : List ℕ) → length text ≤ 4096 → Reading text
short_text text short = by (refused f.0 (token_fault text) (length text)) refl
  where
    f : Found (Blank, []) (tokens_of text)
    f = found (Blank, []) (tokens_of text)

    by : (r : Option ScriptFault) → r ≡ refused f.0 (token_fault text) (length text) → Reading text
    by (Some fault) h = (Err fault, script-refused text f.0 (token_fault text) (length text) fault short f.1 refl refl h)
    by None h =
        let c = script-clean text f.0 (token_fault text) (length text) f.1 refl h in
        built text short c.0 c.1.0 c.1.1 (high_stmt c.1.0 (tokens_of text)) refl

by_length : (text : List ℕ) (b : Bool) → nat_le (length text) 4096 ≡ b → Reading text
by_length text true h = short_text text (leb-true (length text) 4096 h)
by_length text false h = (Err TooLong, leb-false (length text) 4096 h)

-- every text reads as a script, or has a fault
pub every_text : EveryText
every_text text = by_length text (nat_le (length text) 4096) refl
