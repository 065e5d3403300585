use Rattle.std.proofs.Common.{◌≡◌, ◌+◌, ◌-◌, length, true, false, refl, sym, subst, ap, ◌∙◌, arith}
use Rattle.std.proofs.lemmas.Option.{slice_get_read}
use Rattle.std.proofs.lemmas.Grind.{common_steps}
use Rattle.script_code.specs.Rooms.{fits_from}
use Rattle.script_code.specs.Running.{gives_from, meets_from}
use Rattle.script_code.proofs.Steps.{same_on, room_on, jump_within, stops_here, room_here, none_put, none_on}
use Rattle.script_code.proofs.Standing.{reach_at}
use Rattle.script_code.proofs.machine.turn_at.Goals as goal

pub turn-requires : goal.turn-requires
turn-requires g c =
    let is = slice_get_read c.args.code.now (length c.args.code.now) c.args.place c.index-code-place.result refl c.requires.at c.index-code-place.is in
    let within = jump_within g.S.Stack.room (g.S.Stack.gives c.args.slots.now) c.args.code.now c.args.place c.index-code-place.result is (g.S.Stack.values c.args.stack.now) c.requires.room in
    record {
      room = room_here g.S.Stack.room (g.S.Stack.gives c.args.slots.now) c.args.code.now c.args.place c.index-code-place.result is (g.S.Stack.values c.args.stack.now) c.requires.room;
      reach = omega (arith, reach_at c.args.code.now c.args.place c.index-code-place.result is, c.requires.reach);
      within = grind (arith, common_steps, within);
    }

pub returns-in-Ok-clause-leads : goal.returns-in-Ok-clause-leads
returns-in-Ok-clause-leads g c =
    let is = slice_get_read c.args.code.now (length c.args.code.now) c.args.place c.index-code-place.result refl c.requires.at c.index-code-place.is in
    let to : c.args.place + 1 + (c.in-Ok.next - (c.args.place + 1)) ≡ c.in-Ok.next = omega (arith, c.in-Ok.ensures.on) in
    sym (same_on g.S.Stack.room (g.S.Stack.gives c.args.slots.now) c.args.code.now c.args.place c.index-code-place.result is (g.S.Stack.values c.args.stack.now) (c.in-Ok.next - (c.args.place + 1)) (g.S.Stack.values c.turn.new.stack) c.in-Ok.ensures.leads)
    ∙ ap (λ place. gives_from (g.S.Stack.gives c.args.slots.now) c.args.code.now place (g.S.Stack.values c.turn.new.stack)) to

pub returns-in-Ok-clause-met : goal.returns-in-Ok-clause-met
returns-in-Ok-clause-met g c =
    let is = slice_get_read c.args.code.now (length c.args.code.now) c.args.place c.index-code-place.result refl c.requires.at c.index-code-place.is in
    let to : c.args.place + 1 + (c.in-Ok.next - (c.args.place + 1)) ≡ c.in-Ok.next = omega (arith, c.in-Ok.ensures.on) in
    λ none. subst (λ place. meets_from (g.S.Stack.gives c.args.slots.now) c.args.code.now place (g.S.Stack.values c.turn.new.stack) ≡ false) to
    (none_on g.S.Stack.room (g.S.Stack.gives c.args.slots.now) c.args.code.now c.args.place c.index-code-place.result is (g.S.Stack.values c.args.stack.now) (c.in-Ok.next - (c.args.place + 1)) (g.S.Stack.values c.turn.new.stack) c.in-Ok.ensures.leads none)

pub returns-in-Ok-clause-room : goal.returns-in-Ok-clause-room
returns-in-Ok-clause-room g c =
    let is = slice_get_read c.args.code.now (length c.args.code.now) c.args.place c.index-code-place.result refl c.requires.at c.index-code-place.is in
    let to : c.args.place + 1 + (c.in-Ok.next - (c.args.place + 1)) ≡ c.in-Ok.next = omega (arith, c.in-Ok.ensures.on) in
    subst (λ place. fits_from g.S.Stack.room c.args.code.now place (length (g.S.Stack.values c.turn.new.stack)) ≡ true) to
    (room_on g.S.Stack.room (g.S.Stack.gives c.args.slots.now) c.args.code.now c.args.place c.index-code-place.result is (g.S.Stack.values c.args.stack.now) (c.in-Ok.next - (c.args.place + 1)) (g.S.Stack.values c.turn.new.stack) c.in-Ok.ensures.leads c.requires.room)

pub returns-in-Err-clause-leads : goal.returns-in-Err-clause-leads
returns-in-Err-clause-leads g c =
    let is = slice_get_read c.args.code.now (length c.args.code.now) c.args.place c.index-code-place.result refl c.requires.at c.index-code-place.is in
    stops_here g.S.Stack.room (g.S.Stack.gives c.args.slots.now) c.args.code.now c.args.place c.index-code-place.result is (g.S.Stack.values c.args.stack.now) _ (λ place. (place - (c.args.place + 1), g.S.Stack.values c.turn.new.stack)) c.in-Err.stop c.in-Err.ensures.leads

pub returns-in-Err-clause-answered : goal.returns-in-Err-clause-answered
returns-in-Err-clause-answered g c =
    let is = slice_get_read c.args.code.now (length c.args.code.now) c.args.place c.index-code-place.result refl c.requires.at c.index-code-place.is in
    λ numbers none. c.in-Err.ensures.answered numbers (none_put g.S.Stack.room (g.S.Stack.gives c.args.slots.now) c.args.code.now c.args.place c.index-code-place.result is (g.S.Stack.values c.args.stack.now) none)
