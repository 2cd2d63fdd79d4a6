use Rattle.std.proofs.Common.{rules, ap, ◌∙◌}
use Rattle.dg_interp.specs.inside.Engine.{store_in}
use Rattle.dg_interp.specs.inside.Frames.{stretch}
use Rattle.dg_interp.proofs.Asks.{args_written}
use Rattle.dg_interp.proofs.engine.write_args.Goals as goal

pub returns-in-Ok-extend_from_slice-clause-written : goal.returns-in-Ok-extend_from_slice-clause-written
returns-in-Ok-extend_from_slice-clause-written c = λ program e.
    args_written program c.args.terms.now (store_in c.args.store.now) (store_in c.write_terms.new.store) c.args.refs.now.items c.clear.new.self.items c.write_terms.new.to.items c.extend_from_slice.new.self.items c.args.env _ c.stretch.result.now
    (c.stretch.ensures ∙ ap (λ l. stretch l c.args.env) c.deref.ensures.value) c.clear.ensures.items (search rules) (search rules) (search rules) (c.in-Ok.ensures.written program e)
