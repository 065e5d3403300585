-- What a call leaves of a session that is served.
use Rattle.std.proofs.Common.{◌≡◌, ◌∙◌, ◌<◌, ℕ, true, length, Result, Err, sym, ap, arith}
use Rattle.cli_serve.proofs.Saying.{event_refused}
use Rattle.cli_serve.specs.declared.over.Over.{Over}
use Rattle.cli_serve.specs.declared.over.Over.TheVariants as over
use Rattle.cli_serve.specs.declared.serving.Serving.{Serving}
use Rattle.cli_serve.specs.Serving.{CanEnd, CanGoOn, Out, Shows}
use Rattle.spec_output.specs.Lines.{LineNames, line_names}
use Rattle.spec_session.specs.declared.ended.Ended.{Ended}
use Rattle.spec_session.specs.Events.{EventGives}
use Rattle.spec_session.specs.Labels.{labels}
use Rattle.spec_session.specs.Sessions.{Sitting}
use Rattle.spec_tree.specs.declared.term.Tree.{Tree}
use Rattle.spec_world.specs.declared.world.Event.{Event}
use Rattle.spec_world.specs.declared.world.World.{World}

-- each uid has a place still
pub has_places : (s s' : Sitting) (n m : ℕ) → s'.tree ≡ s.tree → m ≡ n → length (labels s.tree) < n → length (labels s'.tree) < m
has_places s s' n m tree same h =
    let labelled : length (labels s'.tree) ≡ length (labels s.tree) = ap (λ (t : Tree). length (labels t)) tree in
    omega (arith, labelled, same, h)

-- the names are those of the session still
pub has_names : (s s' : Sitting) (n m : LineNames) → s'.tree ≡ s.tree → s'.world ≡ s.world → m ≡ n → n ≡ line_names s.tree s.world → m ≡ line_names s'.tree s'.world
has_names s s' n m tree world same h =
    same ∙ h ∙ ap (λ (t : Tree). line_names t s.world) (sym tree) ∙ ap (λ (w : World). line_names s'.tree w) (sym world)

pub can_go_on : (s s' : Serving) → CanGoOn s → s'.session.usable ≡ true → s'.session.tree ≡ s.session.tree → s'.session.world ≡ s.session.world →
    s'.names ≡ s.names → length s'.starts.places.items ≡ length s.starts.places.items → CanGoOn s'
can_go_on s s' can usable tree world names places = record {
  usable = usable;
  names = has_names s.session s'.session s.names s'.names tree world names can.names;
  places = has_places s.session s'.session (length s.starts.places.items) (length s'.starts.places.items) tree places can.places;
}

-- after an event of a line that was not shown, the runners can be finished where the line is refused
pub event_can_end : (why : Over) (s s' : Serving) (left : Sitting) (event : Event) (made : Result (Unit {0}) Ended) (old new : Out) → CanGoOn s →
    EventGives s.session event made left → Shows made left (Err why) old new → s'.session ≡ left →
    s'.names ≡ s.names → length s'.starts.places.items ≡ length s.starts.places.items → CanEnd why s'
event_can_end over.Faulted s s' left event made old new can gives shows is names places = tt
event_can_end (over.Refused fault) s s' left event made old new can gives shows is names places =
    let same : s'.session ≡ s.session = is ∙ event_refused s.session left event made fault old new gives shows in
    can_go_on s s' can (ap (λ (z : Sitting). z.usable) same ∙ can.usable) (ap (λ (z : Sitting). z.tree) same) (ap (λ (z : Sitting). z.world) same) names places
event_can_end (over.Stopped stop) s s' left event made old new can gives shows is names places = tt
