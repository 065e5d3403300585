-- What is said of files is given to a sink.
use Rattle.std.proofs.Common.{◌≡◌, ℕ, List, ◌++◌, Option, Some, None, Ok, Err, inl, inr, codes, refl, sym, ap, subst, append-nil}
use Rattle.std.specs.Prelude.{MatchOption, is_some}
use Rattle.cli_commands.specs.NamedReads.{AreStopped, refusal_of}
use Rattle.cli_refusals.specs.declared.refusal.Refusal.{Refusal}
use Rattle.cli_refusals.specs.declared.refusal.Refusal.TheVariants as refusal
use Rattle.cli_refusals.specs.Refusing.{IsRefused, refused_as}
use Rattle.spec_outside.specs.declared.shelf_fault.ShelfFault.{ShelfFault}
use Rattle.spec_outside.specs.declared.shelf_fault.ShelfFault.TheVariants as shelf
use Rattle.spec_program.specs.declared.exit.Exit.{Exit}
use Rattle.spec_program.specs.declared.exit.Exit.TheVariants as exit
use Rattle.spec_program.specs.declared.file.File.{File}
use Rattle.spec_program.specs.declared.file.File.TheVariants as file
use Rattle.spec_program.specs.Answered.{AreWithin}
use Rattle.spec_program.specs.Output.{Output, line_of, refused}
use Rattle.spec_program.specs.Refusals.{expect_words, ground_words, join_words, rules_words, tree_words, world_words}
use Rattle.spec_program.specs.Reads.{AllRead, AreRead, Reading, StoppedAt, in_order}
use Rattle.spec_program.specs.Words.{Served}
use Rattle.spec_serve.specs.Served.{FilesSaid, IsHeard, IsServed, files_of, output_of, refusal as refusal_said, world_in}
use Rattle.spec_serve.specs.Talks.{Heard, Said, Serves, heard_of, nothing_heard}
use Rattle.cli_serve.specs.declared.files.Files.{Files}
use Rattle.cli_serve.specs.declared.serving.Serving.{Serving}
use Rattle.cli_serve.specs.Ends.{EndsAfter, FilesAnswered, IsAnswered, WasGiven}
use Rattle.cli_serve.specs.Files.{OpensTo, contents_of, world_read}
use Rattle.cli_serve.specs.Serving.{HasSaid, Out}
use Rattle.cli_serve.proofs.Laws.Opened.{files_served}
use Rattle.cli_serve.proofs.Laws.Served.{files_go}
use Rattle.cli_serve.proofs.Opening.{nothing}

-- ---- Outputs

-- what a session has said
was_given : (said : Said) (result : Exit) (old new : Out) → HasSaid said result old new → WasGiven (output_of said) result old new
was_given said exit.Write old new says = λ clock before after same. (says.0, record { written = says.1; drivers = same; clock = refl })
was_given said exit.Memory old new says = λ clock before after same. record { written = says; drivers = same; clock = refl }
was_given said _ old new says = λ clock before after same. (says.0, says.1, same, refl)

one_line : (line : List ℕ) (x : Exit) (o : Output) → Some (refused line x) ≡ Some o → output_of (refusal_said o) ≡ o
one_line line x o is =
    let same : refused line x ≡ o = cc in
    subst (λ (p : Output). output_of (refusal_said p) ≡ p) same (ap (λ (bytes : List ℕ). line_of bytes x) (append-nil (refused line x).bytes))

-- a refusal is one line
refusal_line : (e : Refusal) (o : Output) → refused_as e ≡ Some o → output_of (refusal_said o) ≡ o
refusal_line refusal.Words o is = one_line (codes "refused words") exit.Words o is
refusal_line (refusal.Unread file.Tree) o is = one_line (codes "refused read tree") exit.Read o is
refusal_line (refusal.Unread file.World) o is = one_line (codes "refused read world") exit.Read o is
refusal_line (refusal.Unread file.Rules) o is = one_line (codes "refused read rules") exit.Read o is
refusal_line (refusal.Unread file.Expect) o is = one_line (codes "refused read expect") exit.Read o is
refusal_line (refusal.TooLong file.Tree) o is = one_line (codes "refused tree TooLong") exit.Tree o is
refusal_line (refusal.TooLong file.World) o is = one_line (codes "refused world TooLong") exit.World o is
refusal_line (refusal.TooLong file.Rules) o is = one_line (codes "refused rules TooLong") exit.Rules o is
refusal_line (refusal.TooLong file.Expect) o is = one_line (codes "refused expect TooLong 0") exit.Expect o is
refusal_line (refusal.Tree f) o is = one_line (codes "refused tree " ++ tree_words f) exit.Tree o is
refusal_line (refusal.World f) o is = one_line (codes "refused world " ++ world_words f) exit.World o is
refusal_line (refusal.Join f) o is = one_line (codes "refused world " ++ join_words f) exit.World o is
refusal_line refusal.NoGoal o is = one_line (codes "refused world NoGoal") exit.World o is
refusal_line (refusal.Rules f) o is = one_line (codes "refused rules " ++ rules_words f) exit.Rules o is
refusal_line (refusal.Expect f) o is = one_line (codes "refused expect " ++ expect_words f) exit.Expect o is
refusal_line (refusal.Ground f) o is = one_line (codes "refused ground " ++ ground_words f) exit.World o is
refusal_line refusal.NoMemory o is = absurd (cc)

-- ---- Files that were read

-- something may have been heard of each input
any_heard : (ahead : Option (List ℕ)) (Failed : Type 0) (x : Exit) → (heard : Heard) × IsHeard ahead Failed x heard
any_heard None Failed x = (nothing_heard None, tt)
any_heard (Some bytes) Failed x = (heard_of bytes, inl refl)

module _ (main : Option (List ℕ)) (files : Files) (ahead : Option (List ℕ)) (Failed : Type 0) (result : Exit) (old new : Out) where
  -- a session was served
  pub served_said : (serving : Serving) (heard : Heard) (said : Said) → OpensTo (Ok serving) main files → IsHeard ahead Failed result heard
      → Serves serving.session.own heard serving.reading serving.session said → HasSaid said result old new → FilesAnswered main files (IsHeard ahead Failed) result old new
  served_said serving heard said opens is_heard serves says = inl (record {
    heard = heard;
    is_heard = is_heard;
    said = said;
    is = files_served serving heard said serves main files opens;
    given = was_given said result old new says;
  })

  -- the files are refused
  pub refused_said : (e : Refusal) → OpensTo (Err e) main files → IsRefused e result old.written old.faults new.written new.faults → FilesAnswered main files (IsHeard ahead Failed) result old new
  refused_said e opens refused = by (refused_as e) refl refused
    where
      by : (o : Option Output) → refused_as e ≡ o → MatchOption o ((result ≡ exit.Memory) × (new.written ≡ old.written)) (λ o. WasGiven o result old new) → FilesAnswered main files (IsHeard ahead Failed) result old new
      by None is ran = inr ran
      by (Some o) is given =
          let heard = any_heard ahead Failed result in
          inl (record {
            heard = heard.0;
            is_heard = heard.1;
            said = refusal_said o;
            is = files_go nothing (IsServed heard.0) (world_read files) files.tree.items (refusal_said o) (λ tree read world none. absurd none) main (opens o is);
            given = subst (λ (p : Output). WasGiven p result old new) (sym (refusal_line e o is)) given;
          })

-- ---- All

-- a world was read where one is named
named_world : (files : Files) (named : Option (List ℕ)) → is_some files.world ≡ is_some named → world_read files ≡ world_in named (contents_of files)
named_world files named is = by files.world named is
  where
    by : (w : Option _) (named : Option (List ℕ)) → is_some w ≡ is_some named → world_read (record files { world = w }) ≡ world_in named (contents_of (record files { world = w }))
    by None None is = refl
    by None (Some name) is = absurd (cc)
    by (Some w) None is = absurd (cc)
    by (Some w) (Some name) is = refl

module _ {Shelf : Type 0} (read_gives : Reading Shelf) (holds : Option (List ℕ → List ℕ)) (served : Served) (AreHeard : Exit → Heard → Type 0) (rose : Type 0) (shelf_old shelf_new : Shelf) (result : Exit) (old new : Out) where
  abbrev pub Answer : Type 0
  Answer = IsAnswered read_gives holds served AreHeard rose shelf_old shelf_new result old new

  -- all files were read
  pub read_answered : (files : Files) → AreRead read_gives holds (in_order (files_of served)) (AllRead (contents_of files)) shelf_old shelf_new → AreWithin holds (files_of served) (contents_of files)
      → is_some files.world ≡ is_some served.world → FilesAnswered served.main files AreHeard result old new → Answer
  read_answered files reads within named answered = record { end = AllRead (contents_of files); reads = reads; answered = by answered }
    where
      by : FilesAnswered served.main files AreHeard result old new → EndsAfter holds served AreHeard rose (AllRead (contents_of files)) result old new
      by (inl said) = inl (record {
        within = within;
        heard = said.heard;
        is_heard = said.is_heard;
        said = said.said;
        is = subst (λ (world : Option (List ℕ)). FilesSaid (IsServed said.heard) served.main files.tree.items world said.said) (named_world files served.world named) said.is;
        given = said.given;
      })
      by (inr ran) = inr ran

  -- one was not
  pub unread_answered : (e : Refusal) → AreStopped read_gives holds (in_order (files_of served)) rose e shelf_old shelf_new → IsRefused e result old.written old.faults new.written new.faults → Answer
  unread_answered e stopped refused = record {
    end = StoppedAt stopped.which stopped.gave;
    reads = stopped.reads;
    answered = by stopped.which stopped.gave stopped.rose (subst (λ (r : Refusal). IsRefused r result old.written old.faults new.written new.faults) stopped.is refused);
  }
    where
      by : (which : File) (gave : ShelfFault) → (gave ≡ shelf.Failed → rose) → IsRefused (refusal_of which gave) result old.written old.faults new.written new.faults
          → EndsAfter holds served AreHeard rose (StoppedAt which gave) result old new
      by which shelf.Failed rises refused = (rises refl, refused)
      by which shelf.TooLong rises refused = refused
      by which shelf.NoMemory rises refused = refused
