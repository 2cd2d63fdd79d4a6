use Rattle.std.proofs.Common.{◌≡◌, ℕ, ◌-◌, ◌%◌, List, drop, length, take, sum, ap, ◌∙◌, arith, take_all, length-drop}
use Rattle.z_model.proofs.story.checksum.Goals as goal

pub returns : goal.returns
returns c =
    let whole : take (length c.args.story.now - 64) (drop 64 c.args.story.now) ≡ drop 64 c.args.story.now = take_all _ _ (omega (arith, length-drop 64 c.args.story.now)) in
    let all : take c.loop-byte.byte-index (drop 64 c.args.story.now) ≡ drop 64 c.args.story.now = take_all _ _ (omega (arith, length-drop 64 c.args.story.now)) in
    (rw whole at c.loop-byte.invariant) ∙ ap (λ (l : List ℕ). sum l % 65536) all
