-- What each event of a host in C gives and leaves.
use Rattle.std.specs.Prelude.{◌≡◌, ◌⊎◌, ℕ, ℤ, nat_eq, nat_le, nat_lt, ◌&&◌, List, [], ◌∷◌, ◌++◌, length, Bool, true, false, if◌then◌else◌, Option, Some, None, Result}
use Rattle.std.specs.Str.{is_utf8}
use Rattle.host_session.specs.Reads.{next_moment}
use Rattle.spec_script.specs.declared.value.Value.TheVariants.{Int, Text}
use Rattle.spec_session.specs.declared.ended.Ended.{Ended}
use Rattle.spec_session.specs.Events.{EventGives, FinishGives, NextGives}
use Rattle.spec_session.specs.Sessions.{Sitting}
use Rattle.spec_tree.specs.Limits.{most_outputs, most_text_bytes}
use Rattle.spec_world.specs.declared.world.Event.{Event}
use Rattle.spec_world.specs.declared.world.Telling.{Telling}
use Rattle.spec_world.specs.declared.world.Telling.TheVariants.{Success, Failure}
use Rattle.spec_world.specs.declared.world.ToldOut.{ToldOut}
use Rattle.spec_world.specs.declared.world.What.TheVariants.{Tick, Halt, Change, Tell}
use Rattle.spec_world.specs.Worlds.{is_name}
use Rattle.host_library.specs.declared.hosted.Hosted.{Hosted}
use Rattle.host_library.specs.Codes.{code_of, misuse, no_event, no_memory, ok}

-- an event is made as the definition has it, and C is told by this code how it has ended
abbrev pub EventTold : Sitting → Event → ℕ → Sitting → Type 0
EventTold s e code after = (result : Result (Unit {0}) Ended) × EventGives s e result after × (code ≡ code_of result)

-- the outputs for the next telling are as they were
abbrev pub SameOuts : Hosted → Hosted → Type 0
SameOuts before after = after.outs.items ≡ before.outs.items

-- nothing has changed
abbrev pub Unchanged : Hosted → Hosted → Type 0
Unchanged before after = (after.session ≡ before.session) × SameOuts before after

abbrev pub Ticks : Hosted → ℕ → ℕ → ℕ → Hosted → Type 0
Ticks before runner at code after =
    EventTold before.session (record { at = at; what = Tick runner }) code after.session × SameOuts before after

abbrev pub Halts : Hosted → ℕ → ℕ → ℕ → Hosted → Type 0
Halts before runner at code after =
    EventTold before.session (record { at = at; what = Halt runner }) code after.session × SameOuts before after

abbrev pub Sets : Hosted → ℕ → ℤ → ℕ → ℕ → Hosted → Type 0
Sets before fact value at code after =
    EventTold before.session (record { at = at; what = Change fact value }) code after.session × SameOuts before after

-- the finish of a runner
abbrev pub FinishTold : Sitting → ℕ → ℕ → Sitting → Type 0
FinishTold s runner code after = (result : Result (Unit {0}) Ended) × FinishGives s runner result after × (code ≡ code_of result)

abbrev pub Finishes : Hosted → ℕ → ℕ → Hosted → Type 0
Finishes before runner code after = FinishTold before.session runner code after.session × SameOuts before after

-- whether there is an event of this moment, up to another one
abbrev pub is_due : Option ℕ → ℕ → Bool
is_due None until = false
is_due (Some at) until = nat_le at until

-- the next of the world's own events, where it is due
abbrev pub NextTold : Bool → Sitting → ℕ → Sitting → Type 0
NextTold true s code after = (result : Result (Unit {0}) Ended) × NextGives s.own s result after × (code ≡ code_of result)
NextTold false s code after = (code ≡ no_event) × (after ≡ s)

abbrev pub Nexts : Hosted → ℕ → ℕ → Hosted → Type 0
Nexts before until code after =
    NextTold (is_due (next_moment before.session.own) until) before.session code after.session × SameOuts before after

-- what is told by the number of a status, with these outputs: 2 is SUCCESS and 3 FAILURE
abbrev pub telling_of : ℕ → List ToldOut → Option Telling
telling_of status outs = if nat_eq status 2 then Some (Success outs) else if nat_eq status 3 then Some Failure else None

-- the outputs that are left after a telling: none, unless it was not taken
abbrev pub outs_left : ℕ → List ToldOut → List ToldOut
outs_left code outs = if nat_eq code misuse then outs else []

-- a leaf is told this
abbrev pub LeafTold : Hosted → ℕ → ℕ → Telling → ℕ → ℕ → Hosted → Type 0
LeafTold before runner uid telling at code after =
    EventTold before.session (record { at = at; what = Tell runner uid telling }) code after.session
    × (after.outs.items ≡ outs_left code before.outs.items)

-- a leaf is told this, or memory was wanting before it was; a status that is none is told to nobody
abbrev pub TellTold : Option Telling → Hosted → ℕ → ℕ → ℕ → ℕ → Hosted → Type 0
TellTold None before runner uid at code after = (code ≡ misuse) × Unchanged before after
TellTold (Some telling) before runner uid at code after =
    LeafTold before runner uid telling at code after ⊎ ((code ≡ no_memory) × Unchanged before after)

abbrev pub Tells : Hosted → ℕ → ℕ → ℕ → ℕ → ℕ → Hosted → Type 0
Tells before runner uid status at code after = TellTold (telling_of status before.outs.items) before runner uid at code after

-- ---- Outputs

-- whether an output of this name may be added: there is room, and events are taken
abbrev pub has_place : Hosted → List ℕ → Bool
has_place before name = before.session.usable && is_name name && nat_lt (length before.outs.items) most_outputs

-- an output is added to the others, unless memory was wanting; where it may not be nothing changes
abbrev pub OutTold : Bool → ToldOut → Hosted → ℕ → Hosted → Type 0
OutTold true out before code after =
    (after.session ≡ before.session)
    × (((code ≡ ok) × (after.outs.items ≡ before.outs.items ++ out ∷ [])) ⊎ ((code ≡ no_memory) × SameOuts before after))
OutTold false out before code after = (code ≡ misuse) × Unchanged before after

abbrev pub IntGiven : Hosted → List ℕ → ℤ → ℕ → Hosted → Type 0
IntGiven before name value code after = OutTold (has_place before name) (record { port = name; value = Int value }) before code after

-- a text is to be UTF-8 and not too long
abbrev pub text_fits : List ℕ → Bool
text_fits text = nat_le (length text) most_text_bytes && is_utf8 text

abbrev pub TextGiven : Hosted → List ℕ → List ℕ → ℕ → Hosted → Type 0
TextGiven before name text code after =
    OutTold (has_place before name && text_fits text) (record { port = name; value = Text text }) before code after

-- the outputs are forgotten
abbrev pub Forgets : Hosted → Hosted → Type 0
Forgets before after = (after.session ≡ before.session) × (after.outs.items ≡ [])
