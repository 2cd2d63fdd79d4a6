use Rattle.std.proofs.Common.{ap, ◌∙◌, [], ◌∷◌}
use Rattle.dg_base.specs.declared.program.Goal.TheVariants.{Input}
use Rattle.dg_interp.specs.inside.Frames.{stretch}
use Rattle.dg_interp.proofs.Branches.{match_ok, match_err}
use Rattle.dg_interp.proofs.Values.{made_among}
use Rattle.dg_interp.proofs.Giving.{written_full}
use Rattle.dg_interp.proofs.Wordings.{input_held, input_awaits}
use Rattle.dg_interp.proofs.engine.Engine.write_input.Goals as goal

pub returns-clause-full : goal.returns-clause-full
returns-clause-full c = match_err _ _ c.write_term.result (λ e h. written_full (Input c.args.into.now) (c.args.into.now ∷ []) (input_held c.args.into.now) c.args.self.now e h) c.write_term.ensures.written

pub returns-clause-written : goal.returns-clause-written
returns-clause-written c =
    match_ok _ _ c.write_term.result
    (λ value h.
    input_awaits c.args.into.now c.args.self.now c.write_term.new.store c.write_term.new.stack value c.requires.ready c.write_term.ensures.kept c.write_term.ensures.saved
    (λ program e. made_among program [] _ _ _ c.args.self.now.refs.items c.stretch-env.result.now c.args.self.now.here.env value c.args.into.now (c.stretch-env.ensures ∙ ap (λ l. stretch l c.args.self.now.here.env) c.deref.ensures.value) (h program e))) c.write_term.ensures.written
