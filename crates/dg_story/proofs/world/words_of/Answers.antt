use Rattle.std.proofs.Common.{◌≡◌, ℕ, ◌+◌, ◌++◌, drop, List, Option, sym, ap, ◌∙◌, subst, arith}
use Rattle.std.specs.Option.{option_copied}
use Rattle.dg_base.specs.declared.cells.Cell.{Cell}
use Rattle.dg_base.specs.declared.program.Place.{Place}
use Rattle.dg_meaning.specs.Facts.{kept_at, kept_size, kinds_of}
use Rattle.dg_story.specs.Built.{word_bytes}
use Rattle.dg_story.specs.Kept.{kept_facts}
use Rattle.dg_story.specs.inside.World.{AreSmall, laid_own, laid_words}
use Rattle.dg_story.proofs.KeptBytes.{kept_within}
use Rattle.dg_story.proofs.WorldLemmas.{is_there, kept_on, own_is, many_is, laid_next}
use Rattle.dg_story.proofs.world.words_of.Goals as goal

pub put_place-requires-clause-small : goal.put_place-requires-clause-small
put_place-requires-clause-small c =
    let p = c.args.program.now in
    let i = c.loop-place.place-index in
    let there = is_there p.places c.as_slice-place-items.result.now c.as_slice-place-items.ensures i c.place-item.result c.loop-place-test.true c.place-item.is in
    subst (λ (place : Place). AreSmall place.start) (sym there.1) (c.requires.starts i c.place-item.result there.0)

pub put_place-requires-clause-near : goal.put_place-requires-clause-near
put_place-requires-clause-near c =
    let p = c.args.program.now in
    let i = c.loop-place.place-index in
    let there = is_there p.places c.as_slice-place-items.result.now c.as_slice-place-items.ensures i c.place-item.result c.loop-place-test.true c.place-item.is in
    omega (arith, kept_on p.places i c.place-item.result there.0 there.1 (kept_facts p) c.loop-place.number c.loop-place.at (14315 + kept_size (kinds_of p) (kept_facts p)) (option_copied c.cells_kept-cells.result) c.loop-place.invariant.number c.cells_kept-cells.ensures c.loop-place.invariant.at, kept_within p)

pub many-at-requires : goal.many-at-requires
many-at-requires c =
    let p = c.args.program.now in
    let i = c.loop-place.place-index in
    let there = is_there p.places c.as_slice-place-items.result.now c.as_slice-place-items.ensures i c.place-item.result c.loop-place-test.true c.place-item.is in
    omega (arith, kept_on p.places i c.place-item.result there.0 there.1 (kept_facts p) c.loop-place.number c.loop-place.at (14315 + kept_size (kinds_of p) (kept_facts p)) (option_copied c.cells_kept-cells.result) c.loop-place.invariant.number c.cells_kept-cells.ensures c.loop-place.invariant.at, kept_within p)

pub overflow_add-at : goal.overflow_add-at
overflow_add-at c =
    let p = c.args.program.now in
    let i = c.loop-place.place-index in
    let there = is_there p.places c.as_slice-place-items.result.now c.as_slice-place-items.ensures i c.place-item.result c.loop-place-test.true c.place-item.is in
    omega (arith, kept_on p.places i c.place-item.result there.0 there.1 (kept_facts p) c.loop-place.number c.loop-place.at (14315 + kept_size (kinds_of p) (kept_facts p)) (option_copied c.cells_kept-cells.result) c.loop-place.invariant.number c.cells_kept-cells.ensures c.loop-place.invariant.at, kept_within p, c.many-at.ensures)

pub loop-place-preserved : goal.loop-place-preserved
loop-place-preserved c =
    let p = c.args.program.now in
    let n = c.len-objects.result in
    let kept = kept_facts p in
    let i = c.loop-place.place-index in
    let at = c.loop-place.at in
    let place = c.place-item.result in
    let there = is_there p.places c.as_slice-place-items.result.now c.as_slice-place-items.ensures i place c.loop-place-test.true c.place-item.is in
    let number = c.loop-place.invariant.number in
    let cells : Option (List Cell) = option_copied c.cells_kept-cells.result in
    let own = own_is n kept at c.loop-place.number place.kind place.start cells c.cells_kept-cells.ensures ∙ ap (λ (k : ℕ). laid_own n kept at k place.kind place.start) number in
    let many : c.many-at.result ≡ kept_at kept i place.kind = c.many-at.ensures ∙ many_is kept c.loop-place.number place.kind cells c.cells_kept-cells.ensures ∙ ap (λ (k : ℕ). kept_at kept k place.kind) number in
    record {
      words =
          ap (λ (m : ℕ). c.put_place.new.bytes ++ word_bytes (laid_words n kept (at + m) (i + 1) (drop (i + 1) p.places))) many
          ∙ laid_next p.places i place there.0 there.1 c.put_place.new.bytes c.loop-place.bytes n kept at (c.in_ok-put_place.ensures ∙ ap (λ (l : List ℕ). c.loop-place.bytes ++ word_bytes l) own)
          ∙ c.loop-place.invariant.words;
      number = omega (arith, number);
      at = omega (arith, c.many-at.ensures, kept_on p.places i place there.0 there.1 kept c.loop-place.number at (14315 + kept_size (kinds_of p) kept) cells number c.cells_kept-cells.ensures c.loop-place.invariant.at);
    }
