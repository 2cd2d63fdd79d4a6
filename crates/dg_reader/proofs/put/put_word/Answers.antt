use Rattle.std.proofs.Common.{arith}
use Rattle.dg_reader.proofs.Innermost.{looked}
use Rattle.dg_reader.proofs.put.put_word.Goals as goal

pub returns-in-Some-InList : goal.returns-in-Some-InList
returns-in-Some-InList c = let h = looked _ _ _ c.deref.ensures.value c.last.ensures.value in grind arith

pub returns-in-Some-InTail : goal.returns-in-Some-InTail
returns-in-Some-InTail c = let h = looked _ _ _ c.deref.ensures.value c.last.ensures.value in grind arith

pub returns-in-Some-InBody : goal.returns-in-Some-InBody
returns-in-Some-InBody c = let h = looked _ _ _ c.deref.ensures.value c.last.ensures.value in grind arith

pub returns-in_default : goal.returns-in_default
returns-in_default c = let h = looked _ _ _ c.deref.ensures.value c.last.ensures.value in grind arith
