use Rattle.std.proofs.Common.{◌≡◌, ◌-◌, ◌++◌}
use Rattle.dg_story.specs.Built.{word_bytes}
use Rattle.dg_story.specs.inside.World.{words_by}
use Rattle.dg_story.proofs.world.put_words.Given as goal

abbrev pub invariant-loop-object : goal.invariant-loop-object
invariant-loop-object l = l.bytes ++ word_bytes (words_by l.starts l.object (l.objects - l.object)) ≡ l.initial.bytes ++ word_bytes (words_by l.starts 0 l.objects)
