use Rattle.std.proofs.Common.{List, [], ◌∷◌, ◌++◌, sym, ap, ◌∙◌, subst}
use Rattle.std.specs.Prelude.{if◌then◌else◌}
use Rattle.dg_interp.specs.inside.Engine.{HasNew}
use Rattle.dg_interp.proofs.Uncounted.{may_go_back, has_one}
use Rattle.dg_interp.proofs.asking.store_for.Goals as goal

pub undo-requires : goal.undo-requires
undo-requires c = may_go_back c.args.heap c.args.trail c.new-store.result c.fresh.new.self c.in_ok-variable.variable c.new-store.ensures.means c.in_ok-variable.ensures.kept c.in_ok-variable.ensures.made

pub returns-in-Ok : goal.returns-in-Ok
returns-in-Ok c = subst (λ b. HasNew (if b then 1 else 0) c.args.heap c.args.trail c.undo.new.self c.push.new.self.items) (sym c.if-not-value.false)
    (has_one c.args.heap c.args.trail c.new-store.result c.fresh.new.self c.in_ok-variable.variable c.new-store.ensures.means c.in_ok-variable.ensures.kept c.in_ok-variable.ensures.made c.undo.new.self c.push.new.self.items c.undo.ensures.back
    (c.in-Ok.ensures.items ∙ ap (λ l. l ++ c.in_ok-variable.variable ∷ []) c.new-refs.ensures.items))
