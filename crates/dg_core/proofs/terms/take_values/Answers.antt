use Rattle.std.proofs.Common.{◌∙◌, ap, sym, Some, refl}
use Rattle.dg_core.proofs.MakingLemmas.{tail_comes, tail_less, first_comes, first_less}
use Rattle.dg_core.proofs.MakeLemmas.{parted, none_of}
use Rattle.dg_core.proofs.terms.take_values.Goals as goal

pub returns-in_ok-put_value-in-Some-clause-behind : goal.returns-in_ok-put_value-in-Some-clause-behind
returns-in_ok-put_value-in-Some-clause-behind c = λ scope found. tail_comes scope _ _ _ c.args.values c.args.tail _ c.in_ok-put_value-in-Some.ensures (none_of c.args.values.now c.in-empty.len_below) (c.in-Some.is ∙ ap Some (sym c.get.ensures))

pub returns-in_ok-put_value-in-Some-clause-weight : goal.returns-in_ok-put_value-in-Some-clause-weight
returns-in_ok-put_value-in-Some-clause-weight c = tail_less _ _ c.args.values c.args.tail _ c.in_ok-put_value-in-Some.ensures (none_of c.args.values.now c.in-empty.len_below) (c.in-Some.is ∙ ap Some (sym c.get.ensures))

pub returns-in_ok-put_first-in-len1-up-clause-behind : goal.returns-in_ok-put_first-in-len1-up-clause-behind
returns-in_ok-put_first-in-len1-up-clause-behind c = λ scope found. first_comes scope _ _ _ c.args.values c.args.tail _ _ _ c.in_ok-put_first-in-len1-up.ensures refl (parted c.args.values.now c.first-item.result c.in-len1-up.len_at_least c.first-item.is)

pub returns-in_ok-put_first-in-len1-up-clause-weight : goal.returns-in_ok-put_first-in-len1-up-clause-weight
returns-in_ok-put_first-in-len1-up-clause-weight c = first_less _ _ c.args.values c.args.tail _ _ _ c.in_ok-put_first-in-len1-up.ensures refl (parted c.args.values.now c.first-item.result c.in-len1-up.len_at_least c.first-item.is)
