use Rattle.std.proofs.Common.{◌≡◌, ◌+◌, ◌++◌, drop}
use Rattle.dg_meaning.specs.Facts.{kinds_of}
use Rattle.dg_turn.specs.Layout.{all_words}
use Rattle.dg_story.specs.Built.{word_bytes}
use Rattle.dg_story.specs.Kept.{blocks_from, kept_words, owner_words, kept_facts}
use Rattle.dg_story.proofs.kept.kept_of.Given as goal

abbrev pub invariant-loop-place : goal.invariant-loop-place
invariant-loop-place l = record {
  words : l.kept.words ++ word_bytes (kept_words (blocks_from l.objects (kept_facts l.program) l.entry l.place-index (drop l.place-index (kinds_of l.program)))) ≡ word_bytes (kept_words (blocks_from l.objects (kept_facts l.program) 15945 0 (kinds_of l.program)));
  owners : l.kept.owners ++ word_bytes (owner_words (blocks_from l.objects (kept_facts l.program) l.entry l.place-index (drop l.place-index (kinds_of l.program)))) ≡ word_bytes (owner_words (blocks_from l.objects (kept_facts l.program) 15945 0 (kinds_of l.program)));
  number : l.number ≡ l.place-index;
  entry : l.entry + all_words l.objects (drop l.place-index (kinds_of l.program)) ≡ 15945 + all_words l.objects (kinds_of l.program);
}
