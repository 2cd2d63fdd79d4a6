use Rattle.dg_unify.proofs.StoreLemmas.{holds_some}
use Rattle.dg_texts.proofs.WriteLemmas.{before_made, before_full, before_over}
use Rattle.dg_meaning.specs.Words.{spelled_value}
use Rattle.dg_texts.proofs.spelling.write_before.Goals as goal

pub returns-in-Err-clause-made : goal.returns-in-Err-clause-made
returns-in-Err-clause-made g c = λ letters short is. before_full (spelled_value c.args.words.now letters) (g.B.Bindings.meaning c.args.store.now) c.in-Err.e (c.in-Err.ensures.made letters short is)

pub returns-in-Err-pair-clause-made : goal.returns-in-Err-pair-clause-made
returns-in-Err-pair-clause-made g c = λ letters short is.
    before_over (spelled_value c.args.words.now letters) c.in-Ok.value (g.B.Bindings.meaning c.args.store.now) (g.B.Bindings.meaning c.write_spelled.new.store) (g.B.Bindings.meaning c.pair.new.self) c.in-Ok.ensures.kept (c.in-Ok.ensures.made letters short is) c.in-Err-pair.e c.in-Err-pair.ensures.made

pub returns-in-Ok-pair-clause-made : goal.returns-in-Ok-pair-clause-made
returns-in-Ok-pair-clause-made g c = λ letters short is.
    before_made (spelled_value c.args.words.now letters) c.args.list c.in-Ok.value c.in-Ok-pair.longer (g.B.Bindings.meaning c.args.store.now) (g.B.Bindings.meaning c.write_spelled.new.store) (g.B.Bindings.meaning c.pair.new.self) c.in-Ok.ensures.kept c.requires.list (c.in-Ok.ensures.made letters short is) c.in-Ok-pair.ensures.made

pub pair-requires-clause-head_in : goal.pair-requires-clause-head_in
pair-requires-clause-head_in g c = let r = c.requires.spelling in holds_some (g.B.Bindings.meaning c.write_spelled.new.store) c.in-Ok.value (spelled_value c.args.words.now r.letters) (c.in-Ok.ensures.made r.letters r.hold r.is).value
