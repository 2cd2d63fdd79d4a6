use Rattle.z_play.proofs.engine.Engine.test_attribute.Goals as goal

pub returns-clause-done : goal.returns-clause-done
returns-clause-done c = rw (c.attr-test.ensures, c.objects.ensures) at c.test_or.ensures.tested
