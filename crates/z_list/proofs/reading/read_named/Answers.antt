use Rattle.std.proofs.Common.{◌≡◌, ◌-◌, ℕ, [], ◌∷◌, length, subst, arith}
use Rattle.z_list.specs.inside.Lines.{Named}
use Rattle.z_list.specs.inside.Read.{IsStuck}
use Rattle.z_list.specs.inside.Forms.{IsLocals}
use Rattle.z_list.proofs.Instructions.{Small, small_head}
use Rattle.z_list.proofs.Turns.{small_rest}
use Rattle.z_list.proofs.Steps.{byte_named, stuck_named, no_turn}
use Rattle.z_list.proofs.reading.read_named.Goals as goal

pub returns-in_default : goal.returns-in_default
returns-in_default c =
    let at = length c.args.story.now.items in
    let here : c.len.result ≡ at = omega (arith, c.len.ensures, c.args.story.now.ok.0) in
    no_turn Named at (c.args.count - at) c.args.text.now c.args.line.now (stuck_named at (c.args.count - at) c.args.text.now (subst (λ (k : ℕ). IsStuck (IsLocals k) c.args.text.now) here c.in_default.ensures))

pub returns : goal.returns
returns c =
    let put = c.in_ok-push.ensures.items in
    let old = c.args.story.now.items in
    let byte = c.in-Some.byte in
    byte_named c.args.text.now c.in-Some.rest.now old c.push.new.self.items byte c.args.count c.args.line.now c.len.result (omega (arith, c.len.ensures, c.args.story.now.ok.0)) c.requires.within c.requires.short
    (small_head byte [] (small_rest old (byte ∷ []) (subst Small put c.type_inv.story))) put c.in-Some.ensures
