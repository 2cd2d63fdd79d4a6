use Rattle.std.proofs.Common.{rules, ◌≡◌, ◌++◌, [], ◌∷◌, ℕ, List, OnOk, OnErr, sym, ◌∙◌, subst, append_assoc}
use Rattle.std.specs.Prelude.{codes, decimal}
use Rattle.z_model.specs.Fault.{printed_number}
use Rattle.dg_base.specs.Written.{joined, Wrote, BrokeOff}
use Rattle.z_model.specs.declared.fault.ZFault.{ZFault}
use Rattle.z_model.specs.declared.end.ZEnd.TheVariants as ends
use Rattle.z_model.specs.Closing.{end_line}
use Rattle.z_play.proofs.player.write_broken.Goals as goal

line_is : (fault : ZFault) (at : ℕ) → (codes "[Broken: " ++ (decimal (printed_number fault) ++ (codes " at " ++ (decimal at ++ codes "]\n")))) ≡ end_line (ends.Broken fault at)
line_is fault at =
    sym (append_assoc (codes "[Broken: " ++ decimal (printed_number fault) ++ codes " at ") (decimal at) (codes "]\n")
    ∙ append_assoc (codes "[Broken: " ++ decimal (printed_number fault)) (codes " at ") (decimal at ++ codes "]\n")
    ∙ append_assoc (codes "[Broken: ") (decimal (printed_number fault)) (codes " at " ++ (decimal at ++ codes "]\n")))

broken_line : (fault : ZFault) (at : ℕ) (number place : List ℕ) → number ≡ decimal (printed_number fault) → place ≡ decimal at → joined (codes "[Broken: " ∷ number ∷ codes " at " ∷ place ∷ codes "]\n" ∷ []) ≡ end_line (ends.Broken fault at)
broken_line fault at number place e f = rw (e, f) (line_is fault at)

pub returns-clause-ok : goal.returns-clause-ok
returns-clause-ok g c =
    let number : c.as_bytes-number.result.now ≡ decimal (printed_number c.args.fault) = search rules in
    let place : c.as_bytes-place.result.now ≡ decimal c.args.at = search rules in
    subst (λ (l : List ℕ). OnOk c.write_pieces.result (Wrote (g.K.Sink.view c.args.sink.now) (g.K.Sink.view c.write_pieces.new.sink) l)) (broken_line c.args.fault c.args.at _ _ number place) c.write_pieces.ensures.ok

pub returns-clause-err : goal.returns-clause-err
returns-clause-err g c =
    let number : c.as_bytes-number.result.now ≡ decimal (printed_number c.args.fault) = search rules in
    let place : c.as_bytes-place.result.now ≡ decimal c.args.at = search rules in
    subst (λ (l : List ℕ). OnErr c.write_pieces.result (BrokeOff (g.K.Sink.view c.args.sink.now) (g.K.Sink.view c.write_pieces.new.sink) l)) (broken_line c.args.fault c.args.at _ _ number place) c.write_pieces.ensures.err
