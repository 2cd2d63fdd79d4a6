use Rattle.std.proofs.Common.{◌≡◌, ℕ, List, [], Option, drop, refl, sym, ◌∙◌, arith}
use Rattle.std.proofs.lemmas.List.{append-nil}
use Rattle.std.proofs.Math.ListN.{drop_of_length-le}
use Rattle.z_text.specs.Codes.{codes_from}
use Rattle.z_text.proofs.encoding.characters_of.Goals as goal

none_left : (lead : Option ℕ) (text : List ℕ) → text ≡ [] → codes_from lead text ≡ []
unfolding codes_from
none_left lead text e = rw e refl

pub returns-clause-characters : goal.returns-clause-characters
returns-clause-characters c =
    let none = none_left c.loop-byte.lead (drop c.loop-byte.byte-index c.args.text.now) (drop_of_length-le c.args.text.now (omega arith)) in
    sym (c.loop-byte.invariant.same ∙ (rw (none, append-nil c.loop-byte.out.items) refl))
