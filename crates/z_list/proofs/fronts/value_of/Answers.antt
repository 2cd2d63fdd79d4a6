use Rattle.std.proofs.Common.{get_or, arith}
use Rattle.z_list.proofs.Numbers.{stops_there, too_great, runs_out, digit_taken, value_taken, is_digit, no_digit}
use Rattle.z_list.proofs.fronts.value_of.Goals as goal

pub returns-then-not-is_ascii_digit : goal.returns-then-not-is_ascii_digit
returns-then-not-is_ascii_digit c = λ n d more le nd e.
    stops_there c.args.text.now c.loop-letter.letter-index c.loop-letter.value n d more c.loop-letter-test.true c.loop-letter.invariant.digits c.loop-letter.invariant.value
    (no_digit (get_or c.args.text.now c.loop-letter.letter-index 0) c.is_ascii_digit.result c.is_ascii_digit.ensures.value c.if-not-is_ascii_digit.true) (omega (arith, le, c.requires)) nd e

pub returns-then-most-value : goal.returns-then-most-value
returns-then-most-value c = λ n d more le nd e.
    too_great c.args.text.now c.loop-letter.letter-index c.loop-letter.value c.args.most n d more c.loop-letter.invariant.digits c.loop-letter.invariant.value c.if-most-value.true le c.requires nd e

pub loop-letter-preserved : goal.loop-letter-preserved
loop-letter-preserved c =
    let text = c.args.text.now in
    let i = c.loop-letter.letter-index in
    let digit = is_digit (get_or text i 0) c.is_ascii_digit.result c.is_ascii_digit.ensures.value c.if-not-is_ascii_digit.false in
    let most = digit.most in
    record {
      digits = digit_taken text i c.loop-letter-test.true c.loop-letter.invariant.digits digit;
      value = value_taken text i c.loop-letter.value c.loop-letter-test.true c.loop-letter.invariant.value;
      few = omega (arith, most, c.if-most-value.false);
    }

pub returns : goal.returns
returns c = λ n d more le nd e.
    runs_out c.args.text.now c.loop-letter.letter-index c.loop-letter.value n d more c.loop-letter-test.false c.loop-letter.invariant.digits (omega (arith, le, c.requires)) nd e
