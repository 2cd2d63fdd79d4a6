use Rattle.std.proofs.Common.{refl}
use Rattle.z_asm.proofs.header.header.Goals as goal

pub returns : goal.returns
returns c = rw (c.put_word-8.ensures, c.put_word-7.ensures, c.put_word-6.ensures, c.put_word-5.ensures, c.put_word-4.ensures, c.put_word-3.ensures, c.put_word-2.ensures, c.put_word.ensures) refl
