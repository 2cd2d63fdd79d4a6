use Rattle.std.proofs.Common.{◌≡◌, None, subst}
use Rattle.z_model.specs.declared.end.Effect.{Effect}
use Rattle.z_model.specs.Text.{string_at}
use Rattle.z_model.specs.Effects.{effect_fault}
use Rattle.z_play.specs.View.{machine}
use Rattle.z_play.proofs.Collecting.{text_printed}
use Rattle.z_play.proofs.engine.Engine.collect.Goals as goal

pub put_text-requires : goal.put_text-requires
put_text-requires c = rw c.deref.ensures.value (text_printed (string_at c.args.self.now.memory.bytes.items c.in-PrintsText.at) (subst (λ (e : Effect). effect_fault e (machine c.args.self.now) ≡ None) c.in-PrintsText.is c.requires.may))

pub put_line-requires : goal.put_line-requires
put_line-requires c = rw c.deref-in-PrintsLine.ensures.value (text_printed (string_at c.args.self.now.memory.bytes.items c.in-PrintsLine.at) (subst (λ (e : Effect). effect_fault e (machine c.args.self.now) ≡ None) c.in-PrintsLine.is c.requires.may))
