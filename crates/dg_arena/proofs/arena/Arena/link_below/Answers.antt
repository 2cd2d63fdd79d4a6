use Rattle.dg_arena.proofs.Fencing.{linked_next, stands_next}
use Rattle.dg_arena.proofs.arena.Arena.link_below.Goals as goal

pub invariant_of-self : goal.invariant_of-self
invariant_of-self c =
    let a = c.args.self.now in
    record {
      sound = a.sound;
      fenced = stands_next a c.args.var c.args.to c.requires.may c.args.bound c.requires.below c.fence_now-now.result c.bind_fence.new.fence c.fence_now-now.ensures c.bind_fence.ensures;
      roomy = a.roomy;
    }

pub link_fenced-requires-clause-fenced : goal.link_fenced-requires-clause-fenced
link_fenced-requires-clause-fenced c = linked_next c.args.self.now c.args.var c.args.to c.requires.may c.args.bound c.requires.below c.fence_now-now.result c.bind_fence.new.fence c.fence_now-now.ensures c.bind_fence.ensures
