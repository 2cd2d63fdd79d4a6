use Rattle.std.proofs.Common.{sym, subst}
use Rattle.dg_texts.specs.Printing.{value_at}
use Rattle.dg_texts.specs.Spelling.{IsJoined}
use Rattle.dg_texts.proofs.PrintLemmas.{pair_of}
use Rattle.dg_texts.proofs.SpellLemmas.{pair_joined, not_joined, end_shown}
use Rattle.dg_texts.proofs.spelling.join.Goals as goal

pub returns-in-Pair : goal.returns-in-Pair
returns-in-Pair g c =
    let s = g.B.Bindings.meaning c.args.store.now in
    let p = pair_of s (g.met.B.Bindings.sound c.args.store.now) c.args.list c.in-Pair.field-0 c.in-Pair.field-1 c.in-Pair.ensures in
    subst (λ o. IsJoined o c.join_list.new.joined c.join_list.result) (sym (pair_joined c.args.words.now (value_at s c.args.list) (value_at s c.in-Pair.field-0) (value_at s c.in-Pair.field-1) p.is)) c.join_list.ensures

pub returns-in_default : goal.returns-in_default
returns-in_default g c =
    let s = g.B.Bindings.meaning c.args.store.now in
    not_joined _ c.args.joined.now (end_shown s (g.met.B.Bindings.sound c.args.store.now) c.args.words.now c.args.list c.walk.result c.in_default.not-Pair c.walk.ensures).none
