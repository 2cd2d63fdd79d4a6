use Rattle.std.proofs.Common.{◌≡◌, ◌+◌, ◌++◌, drop, map}
use Rattle.dg_base.specs.declared.program.Place.{Place}
use Rattle.dg_meaning.specs.Facts.{kept_from, kept_size, kinds_of}
use Rattle.dg_story.specs.Built.{word_bytes}
use Rattle.dg_story.specs.Kept.{kept_facts}
use Rattle.dg_story.specs.inside.World.{laid_words}
use Rattle.dg_story.proofs.world.words_of.Given as goal

abbrev pub invariant-loop-place : goal.invariant-loop-place
invariant-loop-place l = record {
  words : l.bytes ++ word_bytes (laid_words l.objects (kept_facts l.program) l.at l.place-index (drop l.place-index l.program.places)) ≡ word_bytes (laid_words l.objects (kept_facts l.program) 14315 0 l.program.places);
  number : l.number ≡ l.place-index;
  at : l.at + kept_from l.place-index (map (λ (place : Place). place.kind) (drop l.place-index l.program.places)) (kept_facts l.program) ≡ 14315 + kept_size (kinds_of l.program) (kept_facts l.program);
}
