use Rattle.std.proofs.Common.{◌++◌, ◌∷◌, [], List, ap, ◌∙◌}
use Rattle.z_asm.specs.declared.image.Table.{Table}
use Rattle.dg_story.specs.Built.{captures_table, words_part, kept_table}
use Rattle.dg_story.specs.Kept.{kept_blocks}
use Rattle.dg_story.proofs.building.tables_of.Goals as goal

pub world_table-requires-clause-holds : goal.world_table-requires-clause-holds
world_table-requires-clause-holds c = c.in_ok-world.ensures

pub returns : goal.returns
returns c =
    let p = c.args.program.now in
    let a = captures_table p.closures in
    let b = words_part p.words in
    let k = kept_table (kept_blocks p) in
    let first = c.in_ok-push.ensures.ok ∙ ap (λ (l : List Table). l ++ c.in_ok-captures_table.field-0 ∷ []) c.new-tables.ensures ∙ ap (λ (t : Table). t ∷ []) (c.in_ok-captures_table.ensures ∙ ap captures_table c.as_slice.ensures) in
    let second = c.in_ok-push-2.ensures.ok ∙ ap (λ (l : List Table). l ++ c.in_ok-words_part.field-0 ∷ []) first ∙ ap (λ (t : Table). a ∷ t ∷ []) (c.in_ok-words_part.ensures ∙ ap words_part c.as_slice-2.ensures) in
    let third = c.in_ok-push-3.ensures.ok ∙ ap (λ (l : List Table). l ++ c.in_ok-areas_table.field-0 ∷ []) second ∙ ap (λ (t : Table). a ∷ b ∷ t ∷ []) c.in_ok-areas_table.ensures in
    c.in_ok-push-4.ensures.ok ∙ ap (λ (l : List Table). l ++ c.in_ok-world_table.field-0 ∷ []) third ∙ ap (λ (t : Table). a ∷ b ∷ k ∷ t ∷ []) c.in_ok-world_table.ensures
