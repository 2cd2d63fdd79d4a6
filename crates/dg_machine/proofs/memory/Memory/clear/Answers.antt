use Rattle.std.proofs.Common.{refl}
use Rattle.dg_machine.specs.declared.memory.Memory.{Memory}
use Rattle.dg_machine.proofs.Starts.{cleared}
use Rattle.dg_machine.proofs.memory.Memory.clear.Goals as goal

pub returns-clause-held : goal.returns-clause-held
returns-clause-held c code l x =
    let new : Memory = record { arena = c.clear.new.self; frames = c.clear-2.new.self; inners = c.clear-3.new.self; choices = c.clear-4.new.self; stops = c.clear-5.new.self; kept = c.clear-6.new.self; args = c.clear-7.new.self; heads = c.args.self.now.heads; path = c.args.self.now.path; frame = 0; inner = 0; stop = 0; gathered = 0; call = c.args.self.now.call; way = c.args.self.now.way } in
    cleared code l c.args.self.now new x c.clear.ensures.state c.clear.ensures.heap_limit c.clear.ensures.trail_limit (record {
      frames = c.clear-2.ensures.items;
      inners = c.clear-3.ensures.items;
      choices = c.clear-4.ensures.items;
      stops = c.clear-5.ensures.items;
      kept = c.clear-6.ensures.items;
      args = c.clear-7.ensures.items;
      frames_room = c.clear-2.ensures.capacity;
      inners_room = c.clear-3.ensures.capacity;
      choices_room = c.clear-4.ensures.capacity;
      stops_room = c.clear-5.ensures.capacity;
      kept_room = c.clear-6.ensures.capacity;
      args_room = c.clear-7.ensures.capacity;
      heads_room = refl;
      path_room = refl;
      frame = refl;
      inner = refl;
      stop = refl;
    })
