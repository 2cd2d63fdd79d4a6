use Rattle.std.proofs.Common.{◌≡◌, true, false, refl}
use Rattle.dg_texts.specs.Printing.{named, shows_nil}
use Rattle.dg_texts.proofs.PrintLemmas.{pair_of}
use Rattle.dg_interp.proofs.Pieces.{filled_as, takes_list, takes_nil, takes_single}
use Rattle.dg_interp.proofs.printing.take_value.Goals as goal

pub returns-then-not-is_nil : goal.returns-then-not-is_nil
returns-then-not-is_nil g c =
    let other : shows_nil c.walk.result ≡ false = cc (c.is_nil.ensures, c.if-not-is_nil.true) in
    record {
      same = c.fill_single.ensures.same;
      saved = c.fill_single.ensures.saved;
      taken = filled_as c.fill_single.result (λ some. some ≡ true) _ c.fill_single.ensures.some c.fill_single.ensures.filled
          (λ some e f. takes_single (g.B.Bindings.meaning c.args.store.now) (named c.args.words.now c.args.objects.now) c.args.value c.args.parts.now.items c.args.parts.now.items (g.met.B.Bindings.sound c.args.store.now) c.requires c.walk.result c.in_default.not-Pair c.walk.ensures other refl some _ e f);
    }

pub returns-in_ok-push-in-Pair-2-clause-taken : goal.returns-in_ok-push-in-Pair-2-clause-taken
returns-in_ok-push-in-Pair-2-clause-taken g c =
    filled_as c.fill.result (λ some. some ≡ true) _ c.fill.ensures.some c.fill.ensures.filled
    (λ some e f. takes_list (g.B.Bindings.meaning c.args.store.now) (named c.args.words.now c.args.objects.now) c.args.value c.args.parts.now.items c.push-in-Pair.new.self.items c.in-Pair.head c.in-Pair.tail
    (pair_of (g.B.Bindings.meaning c.args.store.now) (g.met.B.Bindings.sound c.args.store.now) c.args.value c.in-Pair.head c.in-Pair.tail c.in-Pair.ensures) c.push.new.self.items c.in_ok-push-in-Pair.ensures.items c.in_ok-push-in-Pair-2.ensures.items some _ e f)

pub returns-in_ok-push-in_default : goal.returns-in_ok-push-in_default
returns-in_ok-push-in_default g c =
    let nil : shows_nil c.walk.result ≡ true = cc (c.is_nil.ensures, c.if-not-is_nil.false) in
    record {
      same = refl;
      saved = λ ms h. h;
      taken = filled_as c.fill-in_default.result (λ some. some ≡ true) _ c.fill-in_default.ensures.some c.fill-in_default.ensures.filled
          (λ some e f. takes_nil (g.B.Bindings.meaning c.args.store.now) (named c.args.words.now c.args.objects.now) c.args.value c.args.parts.now.items c.push-in_default.new.self.items (g.met.B.Bindings.sound c.args.store.now) c.requires c.walk.result c.in_default.not-Pair c.walk.ensures nil c.in_ok-push-in_default.ensures.items some _ e f);
    }
