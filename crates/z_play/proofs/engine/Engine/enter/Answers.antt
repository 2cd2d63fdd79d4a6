use Rattle.std.proofs.Common.{◌≡◌, ◌∙◌, ◌+◌, ◌++◌, take, drop, length, length-set, refl, sym, arith}
use Rattle.z_model.specs.Flow.{locals_from}
use Rattle.z_play.specs.View.{stack_of}
use Rattle.std.proofs.lemmas.List.{with_items_is}
use Rattle.z_play.proofs.Entered.{too_deep, bad_call, too_many, is_entered, frames_nested}
use Rattle.z_play.proofs.engine.Engine.enter.Goals as goal

pub returns-then-self-ge8191-clause-entered : goal.returns-then-self-ge8191-clause-entered
returns-then-self-ge8191-clause-entered c = too_deep c.args.self.now c.requires.sound c.args.end c.args.store c.args.a.now c.if-self-ge8191.true

pub returns-in-Err-clause-entered : goal.returns-in-Err-clause-entered
returns-in-Err-clause-entered c = bad_call c.args.self.now c.requires.sound c.args.end c.args.store c.args.a.now c.if-self-ge8191.false _ (rw c.deref.ensures.value at (sym c.in-Err.ensures.count))

pub returns-then-self-locals-gt65536-clause-entered : goal.returns-then-self-locals-gt65536-clause-entered
returns-then-self-locals-gt65536-clause-entered c = too_many c.args.self.now c.requires.sound c.args.end c.args.store c.args.a.now c.if-self-ge8191.false c.in-Ok.locals (rw c.deref.ensures.value at (sym c.in-Ok.ensures.count)) c.if-self-locals-gt65536.true

pub returns-clause-entered : goal.returns-clause-entered
returns-clause-entered c =
    let filled : take (c.args.self.now.top + c.in-Ok.locals) c.fill.new.stack ≡ stack_of c.args.self.now ++ locals_from c.in-Ok.locals c.args.a.now = rw c.deref_mut.ensures.value at c.fill.ensures in
    let same : take c.args.self.now.stack.len (c.fill.new.stack ++ drop (length c.fill.new.stack) c.args.self.now.stack.items) ≡ c.fill.new.stack = with_items_is c.args.self.now.stack c.fill.new.stack (c.fill.auto.stack ∙ c.deref_mut.ensures.len) in
    rw (same, c.saturating_sub.ensures) (is_entered c.args.self.now c.requires.sound c.args.end c.args.store c.args.a.now c.if-self-ge8191.false c.in-Ok.locals c.in-Ok.ensures.below (rw c.deref.ensures.value at (sym c.in-Ok.ensures.count)) (omega arith) c.fill.new.stack filled)

pub returns-clause-kept : goal.returns-clause-kept
returns-clause-kept c =
    let same : take c.args.self.now.stack.len (c.fill.new.stack ++ drop (length c.fill.new.stack) c.args.self.now.stack.items) ≡ c.fill.new.stack = with_items_is c.args.self.now.stack c.fill.new.stack (c.fill.auto.stack ∙ c.deref_mut.ensures.len) in
    record {
      sound = record {
        size = c.requires.sound.size;
        base = c.requires.sound.base;
        from = c.requires.sound.from;
        globals = c.requires.sound.globals;
        nested = frames_nested c.args.self.now c.requires.sound c.args.end c.args.store c.args.a.now c.if-self-ge8191.false;
        here = omega arith;
        words = rw same (omega arith);
        top = omega arith;
        room = omega (arith, length-set c.args.self.now.frames.items c.args.self.now.depth c.args.self.now.here);
        depth = omega arith;
        sixteen = c.requires.sound.sixteen;
        opened = c.requires.sound.opened;
      };
      layout = refl;
      memory = refl;
    }
