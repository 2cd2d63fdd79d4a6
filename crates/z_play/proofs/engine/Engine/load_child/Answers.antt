use Rattle.z_play.proofs.engine.Engine.load_child.Goals as goal

pub returns-clause-done : goal.returns-clause-done
returns-clause-done c = rw (c.child-found.ensures, c.objects.ensures) at c.answer_object.ensures.answered
