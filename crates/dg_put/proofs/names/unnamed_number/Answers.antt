use Rattle.std.proofs.Common.{◌≡◌, true, false, nat_lt, refl, sym, ◌∙◌}
use Rattle.dg_scopes.specs.Counts.{times}
use Rattle.dg_put.specs.inside.Putting.{names_seen}
use Rattle.dg_put.proofs.names.unnamed_number.Goals as goal

pub returns-then-is_shared : goal.returns-then-is_shared
returns-then-is_shared c = λ rules' mark.
    let e : nat_lt 1 (times c.args.name.now (names_seen c.args.at.now.names.now)) ≡ true = sym (c.is_shared.ensures rules' mark) ∙ c.if-is_shared.true in
    rw e refl

pub returns-else-is_shared : goal.returns-else-is_shared
returns-else-is_shared c = λ rules' mark.
    let e : nat_lt 1 (times c.args.name.now (names_seen c.args.at.now.names.now)) ≡ false = sym (c.is_shared.ensures rules' mark) ∙ c.if-is_shared.false in
    rw e refl
