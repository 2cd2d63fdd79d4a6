use Rattle.std.proofs.Common.{rules}
use Rattle.z_model.specs.Numbers.{quotient}
use Rattle.z_play.proofs.Signs.{fits_widened, divides, quotient_is}
use Rattle.z_play.proofs.arith.divide.Goals as goal

pub returns-then-b-eq0 : goal.returns-then-b-eq0
unfolding quotient
returns-then-b-eq0 c = search rules

pub overflow_cast-signed : goal.overflow_cast-signed
overflow_cast-signed c = fits_widened c.signed.result c.signed.type_inv

pub overflow_cast-signed-2 : goal.overflow_cast-signed-2
overflow_cast-signed-2 c = fits_widened c.signed-2.result c.signed-2.type_inv

pub nonzero_div-signed : goal.nonzero_div-signed
nonzero_div-signed c = divides c.signed.result c.signed-2.result c.args.b c.signed.type_inv c.signed-2.type_inv c.ranges.b.fits c.if-b-eq0.false c.signed-2.ensures

pub returns : goal.returns
returns c = quotient_is c.signed.result c.signed-2.result c.args.a c.args.b c.word_from.result c.signed.type_inv c.signed-2.type_inv c.signed.ensures c.signed-2.ensures c.if-b-eq0.false c.word_from.ensures
