use Rattle.std.proofs.Common.{None, Some, refl, arith, vec_len}
use Rattle.dg_base.specs.declared.run.Ending.TheVariants.{TrailLimit}
use Rattle.dg_world.specs.Tables.{simple_value}
use Rattle.dg_arena.specs.Held.{meaning_of}
use Rattle.dg_machine.specs.declared.now.Now.TheVariants.{Ended}
use Rattle.dg_machine.proofs.Trying.{args_none, args_some, found_here, tried_none, tried_nothing, tried_missed, tried_over, tried_clash, tried_on, light_left}
use Rattle.dg_machine.proofs.memory.Memory.try_object.Goals as goal

pub returns-then-is_empty : goal.returns-then-is_empty
returns-then-is_empty c g l m f p seeks around at high h =
    let code = c.args.code.now in
    let r = c.args.self.now in
    let none = args_none (meaning_of r.arena) r.args.items f.args (vec_len r.args) c.is_empty.result at.args (omega (arith, r.args.ok.0)) c.is_empty.ensures c.if-is_empty.true in
    record {
      stands = tried_missed code g l m f p c.args.object r c.args.search c.missed.result at.many c.missed.ensures.misses h (tried_nothing code g l m f p c.args.object none);
      falls = light_left code l r r m c.missed.result h refl c.missed.ensures.light;
    }

pub returns-in_default : goal.returns-in_default
returns-in_default c g l m f p seeks around at high h =
    let code = c.args.code.now in
    let r = c.args.self.now in
    let none = found_here g l m c.args.lasting.now f.place c.args.search.place c.args.object None c.in_default.ensures at.place seeks.0 around in
    record {
      stands = tried_missed code g l m f p c.args.object r c.args.search c.missed-in_default.result at.many c.missed-in_default.ensures.misses h (tried_none code g l m f p c.args.object none);
      falls = light_left code l r r m c.missed-in_default.result h refl c.missed-in_default.ensures.light;
    }

pub returns-in-Err : goal.returns-in-Err
returns-in-Err c g l m f p seeks around at high h =
    let code = c.args.code.now in
    let r = c.args.self.now in
    let is = found_here g l m c.args.lasting.now f.place c.args.search.place c.args.object (Some (simple_value c.in-Some.value)) c.in-Some.ensures at.place seeks.0 around in
    let some = args_some (meaning_of r.arena) r.args.items f.args (vec_len r.args) c.is_empty.result at.args (omega (arith, r.args.ok.0)) c.is_empty.ensures c.if-is_empty.false in
    record {
      stands = tried_over code g l m f p c.args.object c.in-Some.value is some c.meet_object.new.self (c.in-Err.ensures.matched code l m f.args h at.args);
      falls = light_left code l r c.meet_object.new.self m (Ended TrailLimit) h c.in-Err.ensures.others tt;
    }

pub returns-in-Ok-true : goal.returns-in-Ok-true
returns-in-Ok-true c g l m f p seeks around at high h =
    let code = c.args.code.now in
    let r = c.args.self.now in
    let is = found_here g l m c.args.lasting.now f.place c.args.search.place c.args.object (Some (simple_value c.in-Some.value)) c.in-Some.ensures at.place seeks.0 around in
    let some = args_some (meaning_of r.arena) r.args.items f.args (vec_len r.args) c.is_empty.result at.args (omega (arith, r.args.ok.0)) c.is_empty.ensures c.if-is_empty.false in
    record {
      stands = tried_on code g l m f p c.args.object c.in-Some.value is some c.meet_object.new.self c.args.search c.args.height c.in-Ok-true.field-0 c.landed.result c.in-Ok-true.field-0-test c.landed.ensures.lands seeks.1 at.many at.next high (c.in-Ok-true.ensures.matched code l m f.args h at.args);
      falls = light_left code l r c.meet_object.new.self m c.landed.result h c.in-Ok-true.ensures.others c.landed.ensures.light;
    }

pub returns-in-Ok-false : goal.returns-in-Ok-false
returns-in-Ok-false c g l m f p seeks around at high h =
    let code = c.args.code.now in
    let r = c.args.self.now in
    let is = found_here g l m c.args.lasting.now f.place c.args.search.place c.args.object (Some (simple_value c.in-Some.value)) c.in-Some.ensures at.place seeks.0 around in
    let some = args_some (meaning_of r.arena) r.args.items f.args (vec_len r.args) c.is_empty.result at.args (omega (arith, r.args.ok.0)) c.is_empty.ensures c.if-is_empty.false in
    record {
      stands = tried_clash code g l m f p c.args.object c.in-Some.value is some c.meet_object.new.self c.args.search c.in-Ok-false.field-0 c.missed-in-Ok-false.result at.many c.in-Ok-false.field-0-test c.missed-in-Ok-false.ensures.misses (c.in-Ok-false.ensures.matched code l m f.args h at.args);
      falls = light_left code l r c.meet_object.new.self m c.missed-in-Ok-false.result h c.in-Ok-false.ensures.others c.missed-in-Ok-false.ensures.light;
    }
