use Rattle.std.proofs.Common.{◌≡◌, true}
use Rattle.dg_reader.proofs.SignLemmas.{unsigned_empty}
use Rattle.dg_reader.proofs.heads.keeps_declaration_rules.Goals as goal

pub returns-then-is_empty_body : goal.returns-then-is_empty_body
returns-then-is_empty_body c =
    let plain : c.eq.result ≡ true = cc in
    unsigned_empty c.args.sign c.args.head.now c.args.body.now _ _ _ _ c.eq.ensures plain c.is_empty_body.ensures c.if-is_empty_body.true c.as_slice.ensures c.declares_query.ensures
