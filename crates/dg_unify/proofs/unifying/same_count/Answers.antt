use Rattle.std.proofs.Common.{◌+◌, arith}
use Rattle.dg_unify.proofs.PartsLemmas.{split_below}
use Rattle.dg_unify.proofs.Tops.{parts_end, parts_longer, parts_shorter, parts_go_on}
use Rattle.dg_unify.proofs.unifying.same_count.Goals as goal

pub returns-in-None-captured : goal.returns-in-None-captured
returns-in-None-captured g c = λ p q vs us hc hd. parts_end c.values.at vs us (c.values.invariant.same p q vs us hc hd) (c.in-None.ensures p vs hc) (c.in-None-captured.ensures q us hd)

pub returns-in-Some-captured : goal.returns-in-Some-captured
returns-in-Some-captured g c = λ p q vs us hc hd. parts_longer c.values.at vs us (c.values.invariant.same p q vs us hc hd) (c.in-None.ensures p vs hc) (c.in-Some-captured.ensures q us hd).0

pub returns-in-None-captured-2 : goal.returns-in-None-captured-2
returns-in-None-captured-2 g c = λ p q vs us hc hd. parts_shorter c.values.at vs us (c.values.invariant.same p q vs us hc hd) (c.in-Some.ensures p vs hc).0 (c.in-None-captured-2.ensures q us hd)

pub overflow_add-at : goal.overflow_add-at
overflow_add-at g c = omega (arith, split_below (g.B.Bindings.meaning c.args.store.now) c.args.c c.values.at c.requires.c_in.0 c.requires.c_in.1 c.in-Some.field-0 c.requires.c_in.2 (c.in-Some.ensures c.requires.c_in.0 c.requires.c_in.1 c.requires.c_in.2))

pub values-preserved : goal.values-preserved
values-preserved g c = record {
  same = λ p q vs us hc hd. parts_go_on c.values.at (c.values.at + 1) vs us (omega arith) (c.values.invariant.same p q vs us hc hd) (c.in-Some.ensures p vs hc).0 (c.in-Some-captured-2.ensures q us hd).0;
}
