use Rattle.std.proofs.Common.{arith}
use Rattle.dg_reader.proofs.Innermost.{looked}
use Rattle.dg_reader.proofs.put.put_value.Goals as goal

pub returns-in-Some-InList : goal.returns-in-Some-InList
returns-in-Some-InList c = let h = looked _ _ _ c.deref.ensures.value c.last.ensures.value in grind arith

pub returns-in_default : goal.returns-in_default
returns-in_default c = let h = looked _ _ _ c.deref.ensures.value c.last.ensures.value in grind arith
