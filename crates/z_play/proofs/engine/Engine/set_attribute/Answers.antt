use Rattle.std.proofs.Common.{refl}
use Rattle.z_play.proofs.Rights.{rights_kept}
use Rattle.z_play.proofs.engine.Engine.set_attribute.Goals as goal

pub returns-in-Err-clause-kept : goal.returns-in-Err-clause-kept
returns-in-Err-clause-kept c = rights_kept c.args.self.now c.set_attr.new.mem c.args.self.now.pc c.requires c.in-Err.ensures.rights

pub returns-in-Ok-clause-kept : goal.returns-in-Ok-clause-kept
returns-in-Ok-clause-kept c = rights_kept c.args.self.now c.set_attr.new.mem c.args.end c.requires c.in-Ok.ensures.rights

pub returns-in-Err-clause-done : goal.returns-in-Err-clause-done
returns-in-Err-clause-done c = rw (← c.objects-objects.ensures, c.in-Err.ensures.set) refl

pub returns-in-Ok-clause-done : goal.returns-in-Ok-clause-done
returns-in-Ok-clause-done c = (rw (← c.objects-objects.ensures, c.in-Ok.ensures.set) refl, tt)
