use Rattle.std.proofs.Common.{◌≡◌, ◌++◌, ap, sym, ◌∙◌, arith, append_assoc, List, ℕ, drop, get_or, ◌+◌}
use Rattle.z_text.specs.Encode.{packed, word_bytes}
use Rattle.z_text.proofs.Packed.{three_front}
use Rattle.z_text.proofs.encoding.pack.Goals as goal

pub loop-at-preserved : goal.loop-at-preserved
loop-at-preserved c =
    let word : List ℕ = word_bytes 0 (get_or c.args.characters.now c.loop-at.at 0) (get_or c.args.characters.now (c.loop-at.at + 1) 0) (get_or c.args.characters.now (c.loop-at.at + 2) 0) in
    let written : c.put_word.new.out.items ≡ c.loop-at.out.items ++ word = c.in_ok-put_word.ensures in
    record {
      within = omega arith;
      same = c.loop-at.invariant.same ∙ ap (λ (l : List ℕ). c.loop-at.out.items ++ l) (three_front c.args.characters.now c.loop-at.at (omega arith)) ∙ sym (append_assoc c.loop-at.out.items word (packed (drop (c.loop-at.at + 3) c.args.characters.now))) ∙ ap (λ (l : List ℕ). l ++ packed (drop (c.loop-at.at + 3) c.args.characters.now)) (sym written);
    }
