use Rattle.dg_lists.proofs.WriteLemmas.{letters_more, letters_end}
use Rattle.std.proofs.Common.{sym}
use Rattle.dg_lists.proofs.writing.put_letters.Goals as goal

pub letters-preserved : goal.letters-preserved
letters-preserved g c = λ spelling at.
    letters_more spelling c.args.row.now c.args.filled c.letters.row c.put.new.row c.letters.at c.letters.end c.in_ok-end.end c.in-Some.letter (c.letters.invariant spelling at) (sym (c.in-Some.ensures spelling at)) c.in_ok-end.ensures

pub returns : goal.returns
returns g c = λ spelling at. letters_end spelling c.args.row.now c.args.filled c.letters.row c.letters.at c.letters.end (c.letters.invariant spelling at) (sym (c.in_default.ensures spelling at))
