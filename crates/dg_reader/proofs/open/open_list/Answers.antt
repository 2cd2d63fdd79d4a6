use Rattle.std.proofs.Common.{arith}
use Rattle.dg_reader.proofs.Innermost.{looked}
use Rattle.dg_reader.proofs.open.open_list.Goals as goal

pub returns-in_default : goal.returns-in_default
returns-in_default c = let h = looked _ _ _ c.deref.ensures.value c.last.ensures.value in grind arith

pub returns-in_default-2 : goal.returns-in_default-2
returns-in_default-2 c = let h = looked _ _ _ c.deref.ensures.value c.last.ensures.value in grind arith

pub returns : goal.returns
returns c = let h = looked _ _ _ c.deref.ensures.value c.last.ensures.value in grind arith
