use Rattle.std.proofs.Common.{◌≡◌, ◌++◌, Bool, List, ℕ, [], ◌∷◌, ap, sym, ◌∙◌, Result, Ok, Err, IfOk}
use Rattle.dg_base.specs.declared.writing.WriteFault.{WriteFault}
use Rattle.z_model.specs.Text.{string_at, text_bytes}
use Rattle.z_model.specs.Closing.{is_open}
use Rattle.dg_base.proofs.WrittenLemmas.{wrote_on, broke_later, broke_first}
use Rattle.z_play.proofs.Written.{on_ok, on_err}
use Rattle.z_play.proofs.Texts.{open_both}
use Rattle.z_play.proofs.output.write_line.Goals as goal

begun_behind : (r : Result Bool WriteFault) (begun now : Bool) (xs ys : List ℕ) → now ≡ is_open begun xs → IfOk r (λ b. b ≡ is_open now ys) → IfOk r (λ b. b ≡ is_open begun (xs ++ ys))
begun_behind (Ok b) begun now xs ys e h = h ∙ ap (λ (o : Bool). is_open o ys) e ∙ sym (open_both begun xs ys)
begun_behind (Err failed) begun now xs ys e h = h

pub returns-in-Ok-clause-begun : goal.returns-in-Ok-clause-begun
returns-in-Ok-clause-begun g c = begun_behind c.write.result c.args.begun c.in-Ok.now (text_bytes (string_at c.args.memory.now c.args.at)) (10 ∷ []) c.in-Ok.ensures.begun c.write.ensures.begun

pub returns-in-Ok-clause-ok : goal.returns-in-Ok-clause-ok
returns-in-Ok-clause-ok g c = on_ok c.write.result _ _ c.write.ensures.ok (λ w. wrote_on (g.K.Sink.view c.args.sink.now) (g.K.Sink.view c.write_text.new.sink) (g.K.Sink.view c.write.new.sink) (text_bytes (string_at c.args.memory.now c.args.at)) (10 ∷ []) c.in-Ok.ensures.ok w)

pub returns-in-Ok-clause-err : goal.returns-in-Ok-clause-err
returns-in-Ok-clause-err g c = on_err c.write.result _ _ c.write.ensures.err (λ w. broke_later (g.K.Sink.view c.args.sink.now) (g.K.Sink.view c.write_text.new.sink) (g.K.Sink.view c.write.new.sink) (text_bytes (string_at c.args.memory.now c.args.at)) (10 ∷ []) c.in-Ok.ensures.ok w)

pub returns-in-Err-clause-err : goal.returns-in-Err-clause-err
returns-in-Err-clause-err g c = broke_first (g.K.Sink.view c.args.sink.now) (g.K.Sink.view c.write_text.new.sink) (text_bytes (string_at c.args.memory.now c.args.at)) (10 ∷ []) c.in-Err.ensures.err
