-- Whether a stack of so many places has room for a code, and each instruction finds its operands.
use Rattle.std.specs.Prelude.{ℕ, ◌+◌, ◌-◌, nat_lt, nat_le, nat_eq, Bool, true, false, ◌&&◌, List}
use Rattle.script_code.specs.declared.instr.Instr.{Instr}
use Rattle.script_code.specs.declared.instr.Instr.TheVariants as instr
use Rattle.script_code.specs.Places.{at_place}

-- an instruction finds its operands and has room, where the stack has this height
abbrev pub has_room : ℕ → Instr → ℕ → Bool
has_room room (instr.Number n) height = nat_lt height room
has_room room (instr.Text t) height = nat_lt height room
has_room room (instr.Slot k) height = nat_lt height room
has_room room (instr.Unary op) height = nat_lt 0 height
has_room room (instr.Binary op) height = nat_lt 1 height
has_room room (instr.BinaryNumber op n) height = nat_lt 0 height
has_room room instr.Add height = nat_lt 1 height
has_room room instr.Sub height = nat_lt 1 height
has_room room instr.Mul height = nat_lt 1 height
has_room room (instr.AddNumber n) height = nat_lt 0 height
has_room room (instr.SubNumber n) height = nat_lt 0 height
has_room room (instr.MulNumber n) height = nat_lt 0 height
has_room room (instr.AndThen n) height = nat_lt 0 height && nat_le height room
has_room room (instr.OrElse n) height = nat_lt 0 height && nat_le height room
has_room room instr.Truth height = nat_lt 0 height && nat_le height room
has_room room (instr.Unless n) height = nat_lt 0 height
has_room room (instr.Skip n) height = true

-- the places to which an instruction leads have room for the heights that it leaves
abbrev pub leads_well : Instr → (ℕ → ℕ → Bool) → ℕ → Bool
leads_well (instr.Number n) go height = go 0 (height + 1)
leads_well (instr.Text t) go height = go 0 (height + 1)
leads_well (instr.Slot k) go height = go 0 (height + 1)
leads_well (instr.Unary op) go height = go 0 height
leads_well (instr.Binary op) go height = go 0 (height - 1)
leads_well (instr.BinaryNumber op n) go height = go 0 height
leads_well instr.Add go height = go 0 (height - 1)
leads_well instr.Sub go height = go 0 (height - 1)
leads_well instr.Mul go height = go 0 (height - 1)
leads_well (instr.AddNumber n) go height = go 0 height
leads_well (instr.SubNumber n) go height = go 0 height
leads_well (instr.MulNumber n) go height = go 0 height
leads_well (instr.AndThen n) go height = go 0 (height - 1) && go n height
leads_well (instr.OrElse n) go height = go 0 (height - 1) && go n height
leads_well instr.Truth go height = go 0 height
leads_well (instr.Unless n) go height = go 0 (height - 1) && go n (height - 1)
leads_well (instr.Skip n) go height = go n height

abbrev pub fits_step : ℕ → Instr → (ℕ → ℕ → Bool) → ℕ → Bool
fits_step room i go height = has_room room i height && leads_well i go height

-- a stack of so many places and of this height has room for the code from a place on, which leaves one value in the end
abbrev pub fits_from : ℕ → List Instr → ℕ → ℕ → Bool
fits_from room = at_place (fits_step room) (λ height. nat_eq height 1) (λ height. false)

-- a stack of so many places has room for the code
abbrev pub fits : ℕ → List Instr → Bool
fits room code = fits_from room code 0 0
