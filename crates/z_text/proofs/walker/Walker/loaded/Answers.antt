use Rattle.std.proofs.Common.{arith, refl}
use Rattle.z_text.proofs.Words.{no_characters, no_end, word_behind}
use Rattle.z_text.proofs.walker.Walker.loaded.Goals as goal

pub returns-then-saturating_sub-lt2 : goal.returns-then-saturating_sub-lt2
returns-then-saturating_sub-lt2 c = (refl, rw (c.requires, c.if-self.false) (no_characters c.args.bytes.now c.args.self.at (omega arith)), rw c.if-self.false (no_end c.args.bytes.now c.args.self.at (omega arith)))

pub returns : goal.returns
returns c = word_behind c.args.self c.args.bytes.now c.requires c.if-self.false (omega arith) _ _ refl refl
