use Rattle.std.proofs.Common.{inl, inr}
use Rattle.dg_unify.proofs.StoreLemmas.{kept_on}
use Rattle.dg_terms.proofs.MatchLemmas.{matched, match_full, match_clash, match_on, matching_starts}
use Rattle.dg_terms.proofs.matching.unify_all.Goals as goal

pub returns-in-Err-clause-unified : goal.returns-in-Err-clause-unified
returns-in-Err-clause-unified g c =
    match_full (g.B.Bindings.meaning c.args.store.now) (g.B.Bindings.meaning c.pairs.store) (g.met.B.Bindings.sound c.pairs.store) c.args.args.now c.args.head.now c.pairs.at (record { 0 = 0 }) c.pairs-test.true c.if-at-head.true c.requires.args c.requires.head c.pairs.invariant.matching
    (g.B.Bindings.meaning c.unify.new.store) c.in-Err.e c.in-Err.ensures.unified

pub pairs-preserved : goal.pairs-preserved
pairs-preserved g c = record {
  matching =
      match_on (g.B.Bindings.meaning c.args.store.now) (g.B.Bindings.meaning c.pairs.store) (g.met.B.Bindings.sound c.pairs.store) c.args.args.now c.args.head.now c.pairs.at (record { 0 = 0 }) c.pairs-test.true c.if-at-head.true c.requires.args c.requires.head c.pairs.invariant.matching
      (g.B.Bindings.meaning c.unify.new.store) c.in-Ok-true.field-0 c.in-Ok-true.field-0-test c.in-Ok-true.ensures.kept c.in-Ok-true.ensures.unified;
  saved = λ ms h. c.in-Ok-true.ensures.saved ms (c.pairs.invariant.saved ms h);
}

pub returns-in-Ok-false-clause-unified : goal.returns-in-Ok-false-clause-unified
returns-in-Ok-false-clause-unified g c =
    match_clash (g.B.Bindings.meaning c.args.store.now) (g.B.Bindings.meaning c.pairs.store) (g.met.B.Bindings.sound c.pairs.store) c.args.args.now c.args.head.now c.pairs.at (record { 0 = 0 }) c.pairs-test.true c.if-at-head.true c.requires.args c.requires.head c.pairs.invariant.matching
    (g.B.Bindings.meaning c.unify.new.store) c.in-Ok-false.field-0 c.in-Ok-false.field-0-test c.in-Ok-false.ensures.unified

pub returns-else-at-head-clause-unified : goal.returns-else-at-head-clause-unified
returns-else-at-head-clause-unified g c =
    matched (g.B.Bindings.meaning c.args.store.now) (g.B.Bindings.meaning c.pairs.store) c.args.args.now c.args.head.now c.pairs.at (g.met.B.Bindings.sound c.pairs.store) c.pairs.invariant.matching (inr c.if-at-head.false)

pub returns-after-pairs-clause-unified : goal.returns-after-pairs-clause-unified
returns-after-pairs-clause-unified g c =
    matched (g.B.Bindings.meaning c.args.store.now) (g.B.Bindings.meaning c.pairs.store) c.args.args.now c.args.head.now c.pairs.at (g.met.B.Bindings.sound c.pairs.store) c.pairs.invariant.matching (inl c.pairs-test.false)

pub pairs-init : goal.pairs-init
pairs-init g c = record { matching = matching_starts (g.B.Bindings.meaning c.args.store.now) c.args.args.now c.args.head.now; saved = λ ms h. h }

pub returns-in-Err-clause-kept : goal.returns-in-Err-clause-kept
returns-in-Err-clause-kept g c = kept_on (g.B.Bindings.meaning c.args.store.now) (g.B.Bindings.meaning c.pairs.store) (g.B.Bindings.meaning c.unify.new.store) c.pairs.invariant.matching.kept c.unify.ensures.kept

pub returns-in-Err-clause-saved : goal.returns-in-Err-clause-saved
returns-in-Err-clause-saved g c = λ ms h. c.unify.ensures.saved ms (c.pairs.invariant.saved ms h)

pub returns-in-Ok-false-clause-kept : goal.returns-in-Ok-false-clause-kept
returns-in-Ok-false-clause-kept g c = kept_on (g.B.Bindings.meaning c.args.store.now) (g.B.Bindings.meaning c.pairs.store) (g.B.Bindings.meaning c.unify.new.store) c.pairs.invariant.matching.kept c.unify.ensures.kept

pub returns-in-Ok-false-clause-saved : goal.returns-in-Ok-false-clause-saved
returns-in-Ok-false-clause-saved g c = λ ms h. c.unify.ensures.saved ms (c.pairs.invariant.saved ms h)

pub returns-else-at-head-clause-kept : goal.returns-else-at-head-clause-kept
returns-else-at-head-clause-kept g c = c.pairs.invariant.matching.kept

pub returns-else-at-head-clause-saved : goal.returns-else-at-head-clause-saved
returns-else-at-head-clause-saved g c = c.pairs.invariant.saved

pub returns-after-pairs-clause-kept : goal.returns-after-pairs-clause-kept
returns-after-pairs-clause-kept g c = c.pairs.invariant.matching.kept

pub returns-after-pairs-clause-saved : goal.returns-after-pairs-clause-saved
returns-after-pairs-clause-saved g c = c.pairs.invariant.saved
