use Rattle.std.proofs.Common.{◌≡◌, ◌+◌, ◌∙◌, ℕ, List, ap, arith}
use Rattle.world_ground.specs.Sizes.{Sizing, line_size}
use Rattle.world_ground.specs.declared.sizes.Around.{Around}
use Rattle.world_ground.proofs.Bounds.{line_small}
use Rattle.world_ground.proofs.sizes.Sizing.add_line.Goals as goal

pub overflow_add-self : goal.overflow_add-self
overflow_add-self c =
    let size : c.self.inside.size ≡ c.args.self.now.size = ap (λ (s : Sizing). s.size) c.self.view_is in
    let rounds : c.as_slice.result.now ≡ c.args.self.now.around = c.as_slice.ensures.value ∙ ap (λ (s : Sizing). s.around) c.self.view_is in
    let line : c.line_size.result ≡ line_size c.args.sorts.now c.args.self.now.around c.args.text.now =
    c.line_size.ensures ∙ ap (λ (blocks : List Around). line_size c.args.sorts.now blocks c.args.text.now) rounds in
    let small = line_small c.args.sorts.now c.args.self.now.around c.args.text.now c.requires.sorts c.requires.depth c.requires.short in
    let room = c.requires.room in
    omega arith

pub returns : goal.returns
returns c =
    let size : c.self.inside.size ≡ c.args.self.now.size = ap (λ (s : Sizing). s.size) c.self.view_is in
    let rounds : c.as_slice.result.now ≡ c.args.self.now.around = c.as_slice.ensures.value ∙ ap (λ (s : Sizing). s.around) c.self.view_is in
    let line : c.line_size.result ≡ line_size c.args.sorts.now c.args.self.now.around c.args.text.now =
    c.line_size.ensures ∙ ap (λ (blocks : List Around). line_size c.args.sorts.now blocks c.args.text.now) rounds in
    let sum : c.self.inside.size + c.line_size.result ≡ c.args.self.now.size + line_size c.args.sorts.now c.args.self.now.around c.args.text.now = omega arith in
    ap (λ (n : ℕ). let s : Sizing = record { size = n; around = c.self.inside.around.items } in s) sum
    ∙ ap (λ (s : Sizing). let t : Sizing = record { size = c.args.self.now.size + line_size c.args.sorts.now c.args.self.now.around c.args.text.now; around = s.around } in t) c.self.view_is
