use Rattle.std.proofs.Common.{arith}
use Rattle.dg_lex.proofs.SoFar.{one_token, at_end}
use Rattle.dg_lex.proofs.cutting.tokens_of.Goals as goal

pub loop-token-preserved : goal.loop-token-preserved
loop-token-preserved c = record {
  so_far = rw c.in_ok-push.ensures.items (one_token _ _ _ _ _ _ _ c.loop-token.invariant.so_far c.in-Some.ensures.next);
  shorter = omega (arith, c.in-Some.ensures.shorter, c.loop-token.invariant.shorter);
  few = omega (arith, c.in-Some.ensures.few);
}

pub returns-clause-tokens : goal.returns-clause-tokens
returns-clause-tokens c = at_end _ _ _ _ _ c.loop-token.invariant.so_far c.in_default.ensures.next
