use Rattle.host_session.proofs.session.Session.tell_misuse.Given as goal

abbrev pub ghost-event_fits : goal.ghost-event_fits
ghost-event_fits g a = g.of
