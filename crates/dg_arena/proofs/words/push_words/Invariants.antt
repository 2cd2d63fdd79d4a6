use Rattle.std.proofs.Common.{◌≡◌, ◌+◌, ◌-◌, ◌≤◌, ◌++◌, length, drop, vec_len, vec_capacity}
use Rattle.dg_unify.specs.Slots.{word_slots}
use Rattle.dg_arena.proofs.words.push_words.Given as goal

abbrev pub invariant-loop-word : goal.invariant-loop-word
invariant-loop-word l = record {
  items : l.cells.items ++ word_slots (drop l.word-index l.words) ≡ l.fn.cells.items ++ word_slots l.words;
  room : vec_len l.cells + (length l.words - l.word-index) ≤ vec_capacity l.cells;
  capacity : vec_capacity l.cells ≡ vec_capacity l.fn.cells;
}
