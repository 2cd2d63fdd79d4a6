use Rattle.std.proofs.Common.{ℕ, ◌++◌, List, take, sym, subst, ap, ◌∙◌}
use Rattle.std.proofs.lemmas.List.{append-nil}
use Rattle.z_play.specs.inside.Collected.{Collects}
use Rattle.z_play.proofs.Collecting.{shown_zero, shown_one}
use Rattle.z_play.proofs.text.put_code.Goals as goal

pub returns-then-code-eq0 : goal.returns-then-code-eq0
returns-then-code-eq0 c = (c.requires.within, sym (ap (λ (l : List ℕ). take c.args.count c.args.room.now ++ l) (shown_zero c.args.code c.if-code-eq0.true) ∙ append-nil (take c.args.count c.args.room.now)))

pub returns : goal.returns
returns c = subst (λ (l : List ℕ). Collects c.put.result c.put.new.room (take c.args.count c.args.room.now ++ l)) (sym (shown_one c.args.code c.if-code-eq0.false)) c.put.ensures
