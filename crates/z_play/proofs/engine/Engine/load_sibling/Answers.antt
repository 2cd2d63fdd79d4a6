use Rattle.z_play.proofs.engine.Engine.load_sibling.Goals as goal

pub returns-clause-done : goal.returns-clause-done
returns-clause-done c = rw (c.sibling-found.ensures, c.objects.ensures) at c.answer_object.ensures.answered
