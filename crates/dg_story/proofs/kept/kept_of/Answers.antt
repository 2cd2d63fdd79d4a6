use Rattle.std.proofs.Common.{◌≡◌, ℕ, ◌+◌, ◌≤◌, ◌++◌, drop, ap, ◌∙◌, arith}
use Rattle.dg_meaning.specs.Facts.{kinds_of}
use Rattle.dg_turn.specs.Layout.{place_words, all_words}
use Rattle.dg_story.specs.Built.{word_bytes}
use Rattle.dg_story.specs.Kept.{blocks_from, kept_words, owner_words, kept_facts, variable_block}
use Rattle.dg_story.specs.inside.Keeping.{kept_value}
use Rattle.dg_story.proofs.KeptBytes.{kind_there, width, kept_next, owner_next}
use Rattle.dg_story.proofs.kept.kept_of.Goals as goal

pub add-requires-clause-near : goal.add-requires-clause-near
add-requires-clause-near c =
    let kinds = kinds_of c.args.program.now in
    let room : all_words c.len-objects.result kinds ≤ 4000 = omega (arith, ap (λ (n : ℕ). all_words n kinds) c.len-objects.ensures, c.requires.room) in
    omega (arith, c.loop-place.invariant.entry, room)

pub overflow_add-entry : goal.overflow_add-entry
overflow_add-entry c =
    let kinds = kinds_of c.args.program.now in
    let i = c.loop-place.place-index in
    let there = kind_there c.args.program.now.places c.as_slice-place-items.result.now c.as_slice-place-items.ensures i c.place-item.result c.loop-place-test.true c.place-item.is in
    let wide = width c.len-objects.result kinds i c.place-item.result.kind there.1 there.0 in
    let room : all_words c.len-objects.result kinds ≤ 4000 = omega (arith, ap (λ (n : ℕ). all_words n kinds) c.len-objects.ensures, c.requires.room) in
    omega (arith, c.loop-place.invariant.entry, room, wide, c.place_words-entry.ensures)

pub loop-place-preserved : goal.loop-place-preserved
loop-place-preserved c =
    let p = c.args.program.now in
    let n = c.len-objects.result in
    let kinds = kinds_of p in
    let facts = kept_facts p in
    let i = c.loop-place.place-index in
    let h = c.loop-place.entry in
    let kind = c.place-item.result.kind in
    let there = kind_there p.places c.as_slice-place-items.result.now c.as_slice-place-items.ensures i c.place-item.result c.loop-place-test.true c.place-item.is in
    let wide = width n kinds i kind there.1 there.0 in
    let at = c.loop-place.invariant.number in
    let rest = drop (i + 1) kinds in
    let same : h + c.place_words-entry.result ≡ h + place_words n kind = ap (λ (w : ℕ). h + w) c.place_words-entry.ensures in
    record {
      words =
          ap (λ (e : ℕ). c.add.new.self.words ++ word_bytes (kept_words (blocks_from n facts e (i + 1) rest))) same
          ∙ kept_next n facts kinds h i kind there.1 there.0 c.loop-place.kept.words c.add.new.self.words (c.in_ok-add.ensures.words ∙ ap (λ (k : ℕ). c.loop-place.kept.words ++ word_bytes (kept_words (variable_block (kept_value facts k kind) h))) at)
          ∙ c.loop-place.invariant.words;
      owners =
          ap (λ (e : ℕ). c.add.new.self.owners ++ word_bytes (owner_words (blocks_from n facts e (i + 1) rest))) same
          ∙ owner_next n facts kinds h i kind there.1 there.0 c.loop-place.kept.owners c.add.new.self.owners (c.in_ok-add.ensures.owners ∙ ap (λ (k : ℕ). c.loop-place.kept.owners ++ word_bytes (owner_words (variable_block (kept_value facts k kind) h))) at)
          ∙ c.loop-place.invariant.owners;
      number = omega (arith, at);
      entry = omega (arith, wide, c.place_words-entry.ensures, c.loop-place.invariant.entry);
    }
