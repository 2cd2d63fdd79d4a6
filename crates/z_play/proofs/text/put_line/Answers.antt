use Rattle.std.proofs.Common.{◌++◌, [], ◌∷◌, ℕ, List, subst, arith, length-append}
use Rattle.z_model.specs.Text.{string_at}
use Rattle.z_model.specs.Streams.{shown_codes}
use Rattle.z_play.specs.inside.Collected.{Collects}
use Rattle.z_play.proofs.text.put_line.Goals as goal

pub returns-in-Some : goal.returns-in-Some
returns-in-Some c = subst (λ (l : List ℕ). Collects c.put.result c.put.new.room (l ++ 13 ∷ [])) c.in-Some.ensures.1 c.put.ensures

pub returns-in-None : goal.returns-in-None
returns-in-None c = omega (arith, length-append (shown_codes (string_at c.args.memory.now c.args.at).codes) (13 ∷ []), c.in-None.ensures)
