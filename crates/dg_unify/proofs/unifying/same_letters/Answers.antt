use Rattle.std.proofs.Common.{◌+◌, arith, sym}
use Rattle.dg_unify.proofs.Tops.{letters_end, letters_longer, letters_shorter, letters_differ, letters_go_on, letter_below}
use Rattle.dg_unify.proofs.unifying.same_letters.Goals as goal

pub returns-in-None-letter : goal.returns-in-None-letter
returns-in-None-letter g c = λ xs ys hx hy. letters_end c.letters.at xs ys (c.letters.invariant.same xs ys hx hy) (sym (c.in-None.ensures xs hx)) (sym (c.in-None-letter.ensures ys hy))

pub returns-in-Some-letter : goal.returns-in-Some-letter
returns-in-Some-letter g c = λ xs ys hx hy. letters_longer c.letters.at xs ys c.in-Some-letter.field-0 (c.letters.invariant.same xs ys hx hy) (sym (c.in-None.ensures xs hx)) (sym (c.in-Some-letter.ensures ys hy))

pub returns-in-None-letter-2 : goal.returns-in-None-letter-2
returns-in-None-letter-2 g c = λ xs ys hx hy. letters_shorter c.letters.at xs ys c.in-Some.x (c.letters.invariant.same xs ys hx hy) (sym (c.in-Some.ensures xs hx)) (sym (c.in-None-letter-2.ensures ys hy))

pub returns-then-x-y : goal.returns-then-x-y
returns-then-x-y g c = λ xs ys hx hy. letters_differ c.letters.at xs ys c.in-Some.x c.in-Some-letter-2.y (c.letters.invariant.same xs ys hx hy) (sym (c.in-Some.ensures xs hx)) (sym (c.in-Some-letter-2.ensures ys hy)) c.if-x-y.true

pub overflow_add-at : goal.overflow_add-at
overflow_add-at g c = omega (arith, letter_below c.letters.at c.requires.a_in.0 c.in-Some.x c.requires.a_in.1.short (sym (c.in-Some.ensures c.requires.a_in.0 c.requires.a_in.1)))

pub letters-preserved : goal.letters-preserved
letters-preserved g c = record {
  same = λ xs ys hx hy. letters_go_on c.letters.at (c.letters.at + 1) xs ys c.in-Some.x c.in-Some-letter-2.y (omega arith) (c.letters.invariant.same xs ys hx hy) (sym (c.in-Some.ensures xs hx)) (sym (c.in-Some-letter-2.ensures ys hy)) c.if-x-y.false;
}
