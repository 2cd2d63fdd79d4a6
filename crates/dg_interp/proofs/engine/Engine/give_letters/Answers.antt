use Rattle.std.proofs.Common.{subst}
use Rattle.dg_interp.specs.inside.Engine.{store_in}
use Rattle.dg_meaning.specs.Words.{spelled_list, each_alone}
use Rattle.dg_meaning.specs.Copies.{copy_cells}
use Rattle.dg_unify.specs.Store.{Made}
use Rattle.dg_texts.specs.Spelling.{TooMany}
use Rattle.dg_interp.specs.inside.Wording.{words_in}
use Rattle.dg_interp.proofs.Takes.{store_ready}
use Rattle.dg_interp.proofs.Wordings.{made_full, made_done, made_stops}
use Rattle.dg_interp.proofs.engine.Engine.give_letters.Goals as goal

pub returns-in-Err-clause-full : goal.returns-in-Err-clause-full
returns-in-Err-clause-full c = λ letters short is. made_full (spelled_list (words_in c.args.self.now) (each_alone letters)) c.args.into c.args.self.now c.in-Err.e (subst (λ ws. TooMany (copy_cells (spelled_list ws (each_alone letters))) (store_in c.args.self.now.store) c.in-Err.e) c.as_slice-words.ensures (c.in-Err.ensures.made letters short is))

pub unify_both-requires-clause-ready : goal.unify_both-requires-clause-ready
unify_both-requires-clause-ready c = store_ready c.args.self.now c.write_letters.new.store c.args.self.now.made c.write_letters.ensures.kept c.write_letters.ensures.saved c.requires.ready

pub returns-in-Ok-clause-given : goal.returns-in-Ok-clause-given
returns-in-Ok-clause-given c = λ letters short is.
    made_done (spelled_list (words_in c.args.self.now) (each_alone letters)) c.args.into c.args.self.now c.write_letters.new.store c.args.self.now.made c.requires.ready c.write_letters.ensures.kept c.write_letters.ensures.saved c.requires.hold c.in-Ok.made (subst (λ ws. Made (copy_cells (spelled_list ws (each_alone letters))) (store_in c.args.self.now.store) (store_in c.write_letters.new.store) c.in-Ok.made (spelled_list ws (each_alone letters))) c.as_slice-words.ensures (c.in-Ok.ensures.made letters short is)) c.unify_both.new.self c.unify_both.result c.unify_both.ensures.unified

pub returns-in-Ok-clause-full : goal.returns-in-Ok-clause-full
returns-in-Ok-clause-full c = λ letters short is.
    made_stops (spelled_list (words_in c.args.self.now) (each_alone letters)) c.args.into c.args.self.now c.write_letters.new.store c.args.self.now.made c.requires.ready c.write_letters.ensures.kept c.write_letters.ensures.saved c.requires.hold c.in-Ok.made (subst (λ ws. Made (copy_cells (spelled_list ws (each_alone letters))) (store_in c.args.self.now.store) (store_in c.write_letters.new.store) c.in-Ok.made (spelled_list ws (each_alone letters))) c.as_slice-words.ensures (c.in-Ok.ensures.made letters short is)) c.unify_both.result c.unify_both.ensures.full
