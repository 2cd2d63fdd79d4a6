use Rattle.std.proofs.Common.{refl}
use Rattle.dg_machine.specs.declared.memory.Memory.{Memory}
use Rattle.dg_machine.proofs.Backs.{WentBackTo, stood, may_move, roomy_back, went_back}
use Rattle.dg_machine.proofs.memory.Memory.restore.Goals as goal

pub undo-requires : goal.undo-requires
undo-requires c =
    let some = c.requires.some in
    let x = some.5 in
    (x.saved.store, x.saves, stood some.0 some.1 c.args.self.now c.args.self.now c.args.choice some.2 some.3 x)

pub move_refs-requires-clause-there : goal.move_refs-requires-clause-there
move_refs-requires-clause-there c =
    let some = c.requires.some in
    let x = may_move some.0 some.1 c.args.self.now c.args.self.now c.args.choice some.2 some.3 some.5 some.4 in
    x.within

pub move_refs-requires-clause-room : goal.move_refs-requires-clause-room
move_refs-requires-clause-room c =
    let some = c.requires.some in
    let x = may_move some.0 some.1 c.args.self.now c.args.self.now c.args.choice some.2 some.3 some.5 some.4 in
    x.fits

pub returns : goal.returns
returns c =
    let r = c.args.self.now in
    let k = c.args.choice in
    let new : Memory = record r { arena = c.undo.new.self; frames = c.truncate.new.self; inners = c.truncate-2.new.self; stops = c.truncate-3.new.self; kept = c.move_refs.new.from; args = c.move_refs.new.to; frame = k.frame; inner = k.inner; stop = k.stop; gathered = c.min-self.result } in
    let to : WentBackTo k r new = record {
      frames = c.truncate.ensures.items;
      inners = c.truncate-2.ensures.items;
      stops = c.truncate-3.ensures.items;
      kept = c.move_refs.ensures.left;
      args = c.move_refs.ensures.moved;
      choices = refl;
      frames_room = c.truncate.ensures.capacity;
      inners_room = c.truncate-2.ensures.capacity;
      stops_room = c.truncate-3.ensures.capacity;
      kept_room = c.move_refs.ensures.from_room;
      args_room = c.move_refs.ensures.to_room;
      heads_room = refl;
      path_room = refl;
      frame = refl;
      inner = refl;
      stop = refl;
      gathered = c.min-self.ensures;
    } in
    let some = c.requires.some in
    let x = some.5 in
    record {
      back = λ code l m d ds room none can.
          let there = stood code l r new k d ds can in
          went_back code l r new k d ds can (c.undo.ensures.back can.saved.store can.saves there) to room m none (c.undo.ensures.saved can.saved.store can.saves there);
      roomy = λ l room. roomy_back some.0 l r new k some.2 some.3 x (c.undo.ensures.back x.saved.store x.saves (stood some.0 l r new k some.2 some.3 x)) to room;
      choices = refl;
    }
