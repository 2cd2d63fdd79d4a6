use Rattle.std.proofs.Common.{refl, arith}
use Rattle.dg_unify.specs.Linked.{log_of, vars_of}
use Rattle.dg_unify.proofs.Stores.{may_unbound}
use Rattle.dg_arena.specs.Held.{fields_of}
use Rattle.dg_arena.proofs.Rooms.{one_more}
use Rattle.dg_arena.proofs.Making.{binds_counted}
use Rattle.dg_arena.proofs.arena.Arena.link_fenced.Goals as goal

pub invariant_of-self : goal.invariant_of-self
invariant_of-self c =
    let a = c.args.self.now in
    let full = (c.if-not-count_link.ensures.full refl).1 in
    record { sound = rw full a.sound; fenced = a.fenced; roomy = a.roomy }

pub invariant_of-self-2 : goal.invariant_of-self-2
invariant_of-self-2 c =
    let f = fields_of c.args.self.now in
    let made = binds_counted f (log_of c.bind_reserved.new.self) (vars_of c.bind_reserved.new.self) c.count_link.new.trail c.args.var c.args.to (record { sound = c.args.self.now.sound; counted = c.args.self.now.roomy.counted; small = c.args.self.now.roomy.small }) c.requires.may c.bind_reserved.ensures.log c.bind_reserved.ensures.vars (c.if-not-count_link.ensures.counted refl).0 (c.if-not-count_link.ensures.counted refl).1 in
    record {
      sound = made.leaves.sound;
      fenced = made.fenced c.args.self.now.fence c.requires.fenced;
      roomy = record {
        cells_fit = omega (arith, c.args.self.now.roomy.cells_fit, c.args.self.now.roomy.cells_fit);
        vars_fit = omega (arith, c.args.self.now.roomy.vars_fit, c.bind_reserved.ensures.room.vars);
        links_fit = omega (arith, c.args.self.now.roomy.links_fit, c.bind_reserved.ensures.room.links);
        waits_fit = c.args.self.now.roomy.waits_fit;
        counted = made.leaves.counted;
        small = c.args.self.now.roomy.small;
      };
    }

pub returns-clause-kept : goal.returns-clause-kept
returns-clause-kept c =
    let f = fields_of c.args.self.now in
    let made = binds_counted f (log_of c.bind_reserved.new.self) (vars_of c.bind_reserved.new.self) c.count_link.new.trail c.args.var c.args.to (record { sound = c.args.self.now.sound; counted = c.args.self.now.roomy.counted; small = c.args.self.now.roomy.small }) c.requires.may c.bind_reserved.ensures.log c.bind_reserved.ensures.vars (c.if-not-count_link.ensures.counted refl).0 (c.if-not-count_link.ensures.counted refl).1 in
    made.leaves.kept

pub returns-clause-saved : goal.returns-clause-saved
returns-clause-saved c =
    let f = fields_of c.args.self.now in
    let made = binds_counted f (log_of c.bind_reserved.new.self) (vars_of c.bind_reserved.new.self) c.count_link.new.trail c.args.var c.args.to (record { sound = c.args.self.now.sound; counted = c.args.self.now.roomy.counted; small = c.args.self.now.roomy.small }) c.requires.may c.bind_reserved.ensures.log c.bind_reserved.ensures.vars (c.if-not-count_link.ensures.counted refl).0 (c.if-not-count_link.ensures.counted refl).1 in
    made.leaves.saved

pub returns-clause-made : goal.returns-clause-made
returns-clause-made c =
    let f = fields_of c.args.self.now in
    let made = binds_counted f (log_of c.bind_reserved.new.self) (vars_of c.bind_reserved.new.self) c.count_link.new.trail c.args.var c.args.to (record { sound = c.args.self.now.sound; counted = c.args.self.now.roomy.counted; small = c.args.self.now.roomy.small }) c.requires.may c.bind_reserved.ensures.log c.bind_reserved.ensures.vars (c.if-not-count_link.ensures.counted refl).0 (c.if-not-count_link.ensures.counted refl).1 in
    made.bound

pub bind_reserved-requires-clause-unbound : goal.bind_reserved-requires-clause-unbound
bind_reserved-requires-clause-unbound c = may_unbound (fields_of c.args.self.now) c.args.var c.args.to c.requires.may

pub bind_reserved-requires-clause-room : goal.bind_reserved-requires-clause-room
bind_reserved-requires-clause-room c =
    let more = one_more (fields_of c.args.self.now) c.args.var c.args.to c.args.self.now.sound c.requires.may in
    omega (arith, c.args.self.now.roomy.links_fit, c.args.self.now.roomy.counted, c.args.self.now.sound.heap_fits, c.args.self.now.sound.fits.fewer)
