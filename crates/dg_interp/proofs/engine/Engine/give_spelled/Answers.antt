use Rattle.std.proofs.Common.{subst}
use Rattle.dg_interp.specs.inside.Engine.{store_in}
use Rattle.dg_meaning.specs.Words.{spelled_value}
use Rattle.dg_meaning.specs.Copies.{copy_cells}
use Rattle.dg_unify.specs.Store.{Made}
use Rattle.dg_texts.specs.Spelling.{TooMany}
use Rattle.dg_interp.specs.inside.Wording.{words_in}
use Rattle.dg_interp.proofs.Takes.{store_ready}
use Rattle.dg_unify.proofs.StoreLemmas.{kept_holds}
use Rattle.dg_unify.proofs.StoreLemmas.{holds_some}
use Rattle.dg_interp.proofs.Wordings.{made_full, made_done, made_stops}
use Rattle.dg_interp.proofs.engine.Engine.give_spelled.Goals as goal

pub returns-in-Err-clause-full : goal.returns-in-Err-clause-full
returns-in-Err-clause-full c = λ letters short is. made_full (spelled_value (words_in c.args.self.now) letters) c.args.into c.args.self.now c.in-Err.e (subst (λ ws. TooMany (copy_cells (spelled_value ws letters)) (store_in c.args.self.now.store) c.in-Err.e) c.as_slice.ensures (c.in-Err.ensures.made letters short is))

pub unify_both-requires-clause-ready : goal.unify_both-requires-clause-ready
unify_both-requires-clause-ready c = store_ready c.args.self.now c.write_spelled.new.store c.args.self.now.made c.write_spelled.ensures.kept c.write_spelled.ensures.saved c.requires.ready

pub returns-in-Ok-clause-given : goal.returns-in-Ok-clause-given
returns-in-Ok-clause-given c = λ letters short is.
    made_done (spelled_value (words_in c.args.self.now) letters) c.args.into c.args.self.now c.write_spelled.new.store c.args.self.now.made c.requires.ready c.write_spelled.ensures.kept c.write_spelled.ensures.saved c.requires.hold c.in-Ok.made (subst (λ ws. Made (copy_cells (spelled_value ws letters)) (store_in c.args.self.now.store) (store_in c.write_spelled.new.store) c.in-Ok.made (spelled_value ws letters)) c.as_slice.ensures (c.in-Ok.ensures.made letters short is)) c.unify_both.new.self c.unify_both.result c.unify_both.ensures.unified

pub returns-in-Ok-clause-full : goal.returns-in-Ok-clause-full
returns-in-Ok-clause-full c = λ letters short is.
    made_stops (spelled_value (words_in c.args.self.now) letters) c.args.into c.args.self.now c.write_spelled.new.store c.args.self.now.made c.requires.ready c.write_spelled.ensures.kept c.write_spelled.ensures.saved c.requires.hold c.in-Ok.made (subst (λ ws. Made (copy_cells (spelled_value ws letters)) (store_in c.args.self.now.store) (store_in c.write_spelled.new.store) c.in-Ok.made (spelled_value ws letters)) c.as_slice.ensures (c.in-Ok.ensures.made letters short is)) c.unify_both.result c.unify_both.ensures.full

pub unify_both-requires-clause-hold : goal.unify_both-requires-clause-hold
unify_both-requires-clause-hold c =
    let old = store_in c.args.self.now.store in
    let new = store_in c.write_spelled.new.store in
    let r = c.requires.spelling in
    (kept_holds old new c.args.into c.write_spelled.ensures.kept c.requires.hold, holds_some new c.in-Ok.made _ (c.in-Ok.ensures.made r.letters r.hold r.is).value)
