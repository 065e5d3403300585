use Rattle.std.proofs.Common.{ℕ, ap, sym, ◌∙◌}
use Rattle.spec_session.specs.Events.{moment_misuse}
use Rattle.spec_session.specs.Sessions.{Sitting}
use Rattle.host_session.proofs.Misuses.{can_come}
use Rattle.host_session.proofs.session.Session.misuse.Goals as goal

pub returns-in-None-clause-can : goal.returns-in-None-clause-can
returns-in-None-clause-can c =
    let event = c.args.event.now in
    can_come c.args.self.now event c.what_misuse.result c.what_misuse.ensures.typed
    (ap (λ (n : ℕ). moment_misuse n event.at) (sym (ap (λ (s : Sitting). s.state.last) c.self.view_is)) ∙ (sym c.moment_misuse.ensures ∙ c.in-None.is))
    c.what_misuse.ensures.misuse
