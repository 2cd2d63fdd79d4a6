use Rattle.std.proofs.Common.{◌≡◌, true, false, refl}
use Rattle.dg_texts.specs.Printing.{named, shows_nil}
use Rattle.dg_texts.proofs.PrintLemmas.{pair_of}
use Rattle.dg_interp.proofs.Pieces.{filled_as, takes_more, takes_end, takes_tail}
use Rattle.dg_interp.proofs.printing.take_tail.Goals as goal

pub returns-then-is_nil : goal.returns-then-is_nil
returns-then-is_nil g c =
    let nil : shows_nil c.walk.result ≡ true = cc (c.is_nil.ensures, c.if-is_nil.true) in
    record {
      taken = filled_as c.fill.result (λ some. some ≡ true) _ c.fill.ensures.some c.fill.ensures.filled
          (λ some e f. λ words objects. takes_end (g.B.Bindings.meaning c.args.store.now) (named words objects) c.args.tail c.args.parts.now.items c.args.parts.now.items (g.met.B.Bindings.sound c.args.store.now) c.requires c.walk.result c.in_default.not-Pair c.walk.ensures nil refl some _ e f);
    }

pub returns-in_ok-push-in-Pair-2 : goal.returns-in_ok-push-in-Pair-2
returns-in_ok-push-in-Pair-2 g c = record {
  taken = λ words objects. takes_more (g.B.Bindings.meaning c.args.store.now) (named words objects) c.args.tail c.args.parts.now.items c.push-in-Pair.new.self.items c.in-Pair.head c.in-Pair.others
      (pair_of (g.B.Bindings.meaning c.args.store.now) (g.met.B.Bindings.sound c.args.store.now) c.args.tail c.in-Pair.head c.in-Pair.others c.in-Pair.ensures) c.push.new.self.items c.in_ok-push-in-Pair.ensures.items c.in_ok-push-in-Pair-2.ensures.items _;
}

pub returns-in_ok-push-in_default-2 : goal.returns-in_ok-push-in_default-2
returns-in_ok-push-in_default-2 g c =
    let other : shows_nil c.walk.result ≡ false = cc (c.is_nil.ensures, c.if-is_nil.false) in
    record {
      taken = filled_as c.fill-in_default.result (λ some. some ≡ true) _ c.fill-in_default.ensures.some c.fill-in_default.ensures.filled
          (λ some e f. λ words objects. takes_tail (g.B.Bindings.meaning c.args.store.now) (named words objects) c.args.tail c.args.parts.now.items c.push-in_default-2.new.self.items (g.met.B.Bindings.sound c.args.store.now) c.requires c.walk.result c.in_default.not-Pair c.walk.ensures other
          c.push-in_default.new.self.items c.in_ok-push-in_default.ensures.items c.in_ok-push-in_default-2.ensures.items some _ e f);
    }
