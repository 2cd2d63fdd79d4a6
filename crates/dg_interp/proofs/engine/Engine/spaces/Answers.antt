use Rattle.std.proofs.Common.{[], ◌∷◌, refl, ap, ◌∙◌}
use Rattle.dg_base.specs.declared.program.Goal.TheVariants.{GapN}
use Rattle.dg_unify.proofs.StoreLemmas.{holds_some, walked_to}
use Rattle.dg_interp.specs.inside.Frames.{stretch}
use Rattle.dg_interp.specs.inside.Engine.{store_in}
use Rattle.dg_interp.proofs.Values.{made_among}
use Rattle.dg_interp.proofs.Giving.{written_full}
use Rattle.dg_interp.proofs.Spaces.{spaces_held, spaces_told}
use Rattle.dg_interp.proofs.engine.Engine.spaces.Goals as goal

pub returns-in-Err-clause-full : goal.returns-in-Err-clause-full
returns-in-Err-clause-full c = written_full (GapN c.args.term.now) (c.args.term.now ∷ []) (spaces_held c.args.term.now) c.args.self.now c.in-Err.e c.in-Err.ensures.written

pub walk-requires : goal.walk-requires
walk-requires c = holds_some (store_in c.write_term.new.store) c.in-Ok.value _ (c.in-Ok.ensures.written c.args.self.now.program.now refl).value

pub returns-in-Ok-clause-told : goal.returns-in-Ok-clause-told
returns-in-Ok-clause-told c =
    let old = c.args.self.now in
    spaces_told c.args.term.now old c.write_term.new.store c.write_term.new.stack c.in-Ok.value c.requires.ready c.write_term.ensures.kept c.write_term.ensures.saved
    (λ program e. made_among program [] _ _ _ old.refs.items c.stretch-env.result.now old.here.env c.in-Ok.value c.args.term.now (c.stretch-env.ensures ∙ ap (λ l. stretch l old.here.env) c.deref.ensures.value) (c.in-Ok.ensures.written program e))
    c.number_of.result (c.number_of.ensures (store_in c.write_term.new.store) (walked_to (store_in c.write_term.new.store) c.in-Ok.value) c.walk.ensures)
