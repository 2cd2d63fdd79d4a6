use Rattle.std.proofs.Common.{◌∷◌, ◌++◌, inl, ap, []}
use Rattle.dg_base.proofs.LineLemmas.{no_return}
use Rattle.dg_base.proofs.lines.keep_last.Goals as goal

pub returns-then-held-eq13-clause-keeps : goal.returns-then-held-eq13-clause-keeps
returns-then-held-eq13-clause-keeps c = λ front keeps. record { text = front; is = inl (ap (λ b. front ++ b ∷ []) c.if-held-eq13.true); keeps = keeps }

pub returns-else-held-eq13-clause-keeps : goal.returns-else-held-eq13-clause-keeps
returns-else-held-eq13-clause-keeps c = λ front keeps. record { text = front ++ c.args.held ∷ []; is = no_return front c.args.held c.if-held-eq13.false; keeps = c.keep.ensures.keeps front keeps }
