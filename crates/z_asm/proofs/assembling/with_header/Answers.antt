use Rattle.std.proofs.Common.{ℕ, List, ◌++◌, ◌+◌, length, drop, ap, ◌∙◌}
use Rattle.std.proofs.lemmas.List.{take_rest}
use Rattle.z_asm.specs.Header.{header_bytes}
use Rattle.z_asm.proofs.assembling.with_header.Goals as goal

pub returns : goal.returns
returns c =
    let bytes = c.args.bytes.now in
    let p = c.args.plan.now in
    let all = rw take_rest at c.in_ok-extend_from_slice.ensures.items in
    let sum_is = rw take_rest at c.checksum.ensures in
    all ∙ ap (λ (l : List ℕ). l ++ drop 64 bytes) (c.in_ok-story.ensures.items ∙ c.header-header.ensures
    ∙ ap (header_bytes (p.dictionary + 4) p.dictionary p.base (length bytes)) sum_is)
