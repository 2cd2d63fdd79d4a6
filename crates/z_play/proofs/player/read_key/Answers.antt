use Rattle.std.proofs.Common.{◌≡◌, ℕ, List, [], ◌∷◌, Some, None, Ok, refl, sym, subst, ap}
use Rattle.std.specs.Io.KnownBytes.{Consumes, IsAtEnd, Keeps}
use Rattle.z_model.specs.Machine.{stored_if}
use Rattle.z_model.specs.Run.{key_code}
use Rattle.z_model.specs.declared.end.Effect.TheVariants.{ReadsKey}
use Rattle.z_play.specs.View.{machine, layout_in}
use Rattle.z_play.specs.inside.Scene.{given_by}
use Rattle.z_play.specs.inside.Acting.{Finished}
use Rattle.z_play.proofs.Reading.{consumed, ended, stays}
use Rattle.z_play.proofs.Finishing.{no_key, finish_key, unfinished_key, sets_ok, sets_given}
use Rattle.z_play.proofs.player.read_key.Goals as goal

pub unwrap-requires : goal.unwrap-requires
unwrap-requires g c = sets_ok c.store_if.result (machine c.store_if.new.self) _ c.store_if.ensures.stored (c.requires.can c.code_of_key.result)

pub returns-in-Err-clause-told : goal.returns-in-Err-clause-told
returns-in-Err-clause-told g c = λ dice typed drawn told.
    unfinished_key (given_by (layout_in c.args.engine.now) dice) (machine c.args.engine.now) c.args.store typed drawn (g.S.Source.view c.next.new.self).left c.requires.can
    (stays (g.S.Source.view c.args.source.now).left (g.S.Source.view c.next.new.self).left typed told c.in-Err.ensures.byte)

pub returns-in-Ok-None-clause-told : goal.returns-in-Ok-None-clause-told
returns-in-Ok-None-clause-told g c = λ dice typed drawn told.
    let took : IsAtEnd (g.S.Source.view c.args.source.now).left × Keeps (g.S.Source.view c.args.source.now).left (g.S.Source.view c.next.new.self).left = rw c.in-Ok-None.field-0-is at c.in-Ok-None.ensures.byte in
    let end = ended (g.S.Source.view c.args.source.now).left (g.S.Source.view c.next.new.self).left typed told took.0 took.1 in
    no_key (given_by (layout_in c.args.engine.now) dice) (machine c.args.engine.now) (machine c.args.engine.now) c.args.store typed drawn (g.S.Source.view c.next.new.self).left end.0 end.1

pub returns-in-Ok-Some-clause-told : goal.returns-in-Ok-Some-clause-told
returns-in-Ok-Some-clause-told g c = λ dice typed drawn told.
    let took : Consumes (g.S.Source.view c.args.source.now).left (g.S.Source.view c.next.new.self).left (c.in-Ok-Some.byte ∷ []) = rw c.in-Ok-Some.field-0-is at c.in-Ok-Some.ensures.byte in
    let given = consumed (g.S.Source.view c.args.source.now).left (g.S.Source.view c.next.new.self).left typed (c.in-Ok-Some.byte ∷ []) told took in
    let code : c.code_of_key.result ≡ key_code c.in-Ok-Some.byte = c.code_of_key.ensures in
    let stored = sets_given c.store_if.result (machine c.store_if.new.self) _ c.store_if.ensures.stored (c.requires.can c.code_of_key.result) in
    let here : stored_if (layout_in c.args.engine.now) (machine c.args.engine.now) c.args.store (key_code c.in-Ok-Some.byte) ≡ Ok (machine c.store_if.new.self) =
    subst (λ (x : ℕ). stored_if (layout_in c.args.engine.now) (machine c.args.engine.now) c.args.store x ≡ Ok (machine c.store_if.new.self)) code stored in
    subst (λ (l : List ℕ). Finished (given_by (layout_in c.args.engine.now) dice) (ReadsKey c.args.store) (machine c.args.engine.now) l drawn None (machine c.store_if.new.self) (g.S.Source.view c.next.new.self).left drawn) (sym given.2)
    (finish_key (given_by (layout_in c.args.engine.now) dice) (machine c.args.engine.now) (machine c.store_if.new.self) c.args.store c.in-Ok-Some.byte given.0 drawn (g.S.Source.view c.next.new.self).left given.1 here)

pub returns-in-Err-clause-untold : goal.returns-in-Err-clause-untold
returns-in-Err-clause-untold g c = λ dice left drawn may.
    (left, unfinished_key (given_by (layout_in c.args.engine.now) dice) (machine c.args.engine.now) c.args.store left drawn (Some left) c.requires.can refl)

pub returns-in-Ok-None-clause-untold : goal.returns-in-Ok-None-clause-untold
returns-in-Ok-None-clause-untold g c = λ dice left drawn none.
    ([], no_key (given_by (layout_in c.args.engine.now) dice) (machine c.args.engine.now) (machine c.args.engine.now) c.args.store [] drawn (Some left) refl (ap Some none))

pub returns-in-Ok-Some-clause-untold : goal.returns-in-Ok-Some-clause-untold
returns-in-Ok-Some-clause-untold g c = λ dice left drawn may.
    let code : c.code_of_key.result ≡ key_code c.in-Ok-Some.byte = c.code_of_key.ensures in
    let stored = sets_given c.store_if.result (machine c.store_if.new.self) _ c.store_if.ensures.stored (c.requires.can c.code_of_key.result) in
    let here : stored_if (layout_in c.args.engine.now) (machine c.args.engine.now) c.args.store (key_code c.in-Ok-Some.byte) ≡ Ok (machine c.store_if.new.self) =
    subst (λ (x : ℕ). stored_if (layout_in c.args.engine.now) (machine c.args.engine.now) c.args.store x ≡ Ok (machine c.store_if.new.self)) code stored in
    (c.in-Ok-Some.byte ∷ left, finish_key (given_by (layout_in c.args.engine.now) dice) (machine c.args.engine.now) (machine c.store_if.new.self) c.args.store c.in-Ok-Some.byte left drawn (Some left) refl here)
