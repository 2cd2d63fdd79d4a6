use Rattle.std.proofs.Common.{ap, ◌∙◌, []}
use Rattle.dg_interp.specs.inside.Frames.{stretch}
use Rattle.dg_interp.proofs.Branches.{match_ok, match_err}
use Rattle.dg_interp.proofs.Values.{print_full, wrote_printed, made_among}
use Rattle.dg_interp.proofs.engine.Engine.write_printed.Goals as goal

pub returns-clause-full : goal.returns-clause-full
returns-clause-full c = match_err _ _ c.write_term.result (λ e h. print_full c.args.term.now c.args.self.now e h) c.write_term.ensures.written

pub returns-clause-written : goal.returns-clause-written
returns-clause-written c =
    match_ok _ _ c.write_term.result
    (λ value h.
    wrote_printed c.args.term.now c.args.self.now c.write_term.new.store c.write_term.new.stack value c.requires.ready c.write_term.ensures.kept c.write_term.ensures.saved
    (λ program e. made_among program [] _ _ _ c.args.self.now.refs.items c.stretch.result.now c.args.self.now.here.env value c.args.term.now (c.stretch.ensures ∙ ap (λ l. stretch l c.args.self.now.here.env) c.deref.ensures.value) (h program e))) c.write_term.ensures.written
