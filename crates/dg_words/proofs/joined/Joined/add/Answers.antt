use Rattle.std.proofs.Common.{◌∙◌, ap, arith, length, take}
use Rattle.std.specs.Prelude.{count_by}
use Rattle.dg_words.specs.Chars.{begins}
use Rattle.dg_words.proofs.CharLemmas.{counted, count_both}
use Rattle.dg_words.proofs.joined.Joined.add.Goals as goal

pub put_behind-requires : goal.put_behind-requires
put_behind-requires c =
    let all = counted c.requires.letters in
    omega (arith, all.count, all.bytes, ap length c.requires.is, ap (count_by begins) c.requires.is, c.count_chars-more.ensures, c.if-more-self.false, c.self.invariant.0, c.self.invariant.1, c.self.told)

pub invariant_of-self : goal.invariant_of-self
invariant_of-self c =
    let all = counted c.requires.letters in
    let front = take c.self.inside.len c.self.inside.bytes in
    let whole = ap (count_by begins) c.put_behind.ensures ∙ count_both front c.args.spelling.now in (
      omega (arith, all.count, all.bytes, ap length c.requires.is, ap (count_by begins) c.requires.is, c.count_chars-more.ensures, c.self.invariant.0),
      omega (arith, c.if-more-self.false, c.self.invariant.1),
      omega (arith, whole, c.self.invariant.2, c.count_chars-more.ensures),
    )
