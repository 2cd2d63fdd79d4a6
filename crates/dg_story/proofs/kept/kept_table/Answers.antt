use Rattle.std.proofs.Common.{ℕ, ◌-◌, ◌++◌, List, replicate, true, ap, ◌∙◌}
use Rattle.z_asm.specs.declared.image.Table.{Table}
use Rattle.dg_story.proofs.KeptBytes.{six, areas_bytes}
use Rattle.dg_story.proofs.kept.kept_table.Goals as goal

abbrev table : List ℕ → Table
table l = record { bytes = l; writable = true }

pub returns : goal.returns
returns c bs e f =
    let left = 1000 - c.len-left.result in
    let front : List ℕ = replicate 28024 0 in
    let zeros : List ℕ = replicate left 0 in
    let back : List ℕ = replicate 1260 0 in
    let ws = c.args.kept.words in
    let os = c.args.kept.owners in
    let first = c.in_ok-put_zeros.ensures ∙ ap (λ (l : List ℕ). l ++ front) c.new-bytes.ensures in
    let second = c.in_ok-append.ensures ∙ ap (λ (l : List ℕ). l ++ ws) first in
    let third = c.in_ok-put_zeros-2.ensures ∙ ap (λ (l : List ℕ). l ++ zeros) second in
    let fourth = c.in_ok-append-2.ensures ∙ ap (λ (l : List ℕ). l ++ os) third in
    let fifth = c.in_ok-put_zeros-3.ensures ∙ ap (λ (l : List ℕ). l ++ zeros) fourth in
    ap table
    (c.in_ok-put_zeros-4.ensures ∙ ap (λ (l : List ℕ). l ++ back) fifth ∙ six front ws zeros os zeros back
    ∙ ap (λ (l : List ℕ). front ++ (l ++ back)) (areas_bytes bs left ws os e f (ap (λ (n : ℕ). 1000 - n) c.len-left.ensures)))
