use Rattle.std.proofs.Common.{◌≡◌, refl, ◌∙◌, arith, get_or, ◌-◌}
use Rattle.std.proofs.lemmas.List.{get_or_default}
use Rattle.z_play.proofs.Views.{is_empty, is_popped}
use Rattle.z_play.proofs.engine.Engine.topmost.Goals as goal

pub returns-then-self : goal.returns-then-self
returns-then-self c = rw (is_empty c.args.self.now c.requires (omega arith)) refl

pub returns : goal.returns
returns c =
    let is : c.index.result.now ≡ get_or c.args.self.now.stack.items (c.args.self.now.top - 1) 0 = c.index.ensures ∙ get_or_default c.args.self.now.stack.items (c.args.self.now.top - 1) c.index.result.now 0 (omega (arith, c.requires.words, c.requires.top)) in
    rw (is_popped c.args.self.now (c.args.self.now.top - 1) c.index.result.now c.requires (omega arith) (omega arith) is) refl
