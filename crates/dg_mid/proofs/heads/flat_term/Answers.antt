use Rattle.std.proofs.Common.{suc, subst, arith}
use Rattle.dg_base.specs.declared.program.Term.{out-Term}
use Rattle.dg_mid.specs.Heads.{IsPlain, IsList}
use Rattle.dg_mid.proofs.FlatLemmas.{list_on, list_takes}
use Rattle.dg_mid.proofs.heads.flat_term.Goals as goal

pub pairs-init : goal.pairs-init
pairs-init c = record { flat = λ n f. subst (λ k. IsList k c.args.term.now) (omega arith) f; few = omega arith }

pub pairs-preserved : goal.pairs-preserved
pairs-preserved c = record {
  flat = λ n f.
      let plain = subst (λ t. IsPlain (out-Term t)) c.get.ensures (c.is_plain.ensures c.if-not-is_plain.false) in
      let rest = list_on n c.pairs.rest.now c.in-Pair.head c.in-Pair.tail c.in-Pair.is plain (subst (IsList n) c.get-rest.ensures f) in
      subst (λ k. IsList k c.args.term.now) (omega arith) (c.pairs.invariant.flat (suc n) rest);
  few = omega (arith, c.pairs.invariant.few, c.if-pairs-eq12.false);
}

pub returns-then-is_plain : goal.returns-then-is_plain
returns-then-is_plain c =
    let is : IsList c.pairs.pairs c.args.term.now = subst (λ k. IsList k c.args.term.now) (omega arith) (c.pairs.invariant.flat 0 (c.is_plain-2.ensures c.if-is_plain.true)) in
    record {
      flat = record { pairs = c.pairs.pairs; few = c.pairs.invariant.few; is = is };
      few = omega (arith, c.pairs.invariant.few);
      takes = λ p. list_takes p c.pairs.pairs c.args.term.now is;
    }
