use Rattle.std.proofs.Common.{List, [], ◌++◌, length, refl, sym, ap, ◌∙◌, subst, true, false}
use Rattle.z_code.specs.declared.target.LOp.{LOp}
use Rattle.z_code.specs.Targets.{spot_of, ops_bytes}
use Rattle.z_asm.specs.declared.image.Table.{Table}
use Rattle.z_asm.specs.Layout.{names_at, table_bytes}
use Rattle.z_asm.specs.Conditions.{counts_of_image}
use Rattle.z_asm.specs.inside.Filled.{AreFilled}
use Rattle.z_asm.proofs.Parts.{plan_words, first_filled, readable_is}
use Rattle.z_asm.proofs.assembling.readable.Goals as goal

pub put_ops-requires-clause-filled : goal.put_ops-requires-clause-filled
put_ops-requires-clause-filled c =
    let names = names_at c.args.plan.now.addresses in
    let filled = first_filled names (counts_of_image c.args.image.now) (length c.extend_from_slice.new.self.items) (plan_words c.args.image.now c.args.plan.now c.requires.plan) c.requires.image.some in
    subst (λ (ops : List LOp). AreFilled names (spot_of []) (length c.extend_from_slice.new.self.items) ops) (sym c.first_ops.ensures) filled

pub returns : goal.returns
returns c =
    let image = c.args.image.now in
    let names = names_at c.args.plan.now.addresses in
    let d = c.extend_from_slice.new.self.items in
    let a = c.resize.new.self.items in
    let b = c.put_tables.new.out.items in
    let e = c.put_tables-2.new.out.items in
    readable_is image c.args.plan.now a b e d c.put_ops.new.out.items c.requires.plan (rw (c.in_ok-resize.ensures.items, c.new-out.ensures.items, c.new-out.ensures.len) refl)
    (c.in_ok-put_tables.ensures ∙ ap (λ (ts : List Table). a ++ table_bytes true ts) c.as_slice.ensures)
    (c.in_ok-put_tables-2.ensures ∙ ap (λ (ts : List Table). b ++ table_bytes false ts) c.as_slice-2.ensures) c.in_ok-extend_from_slice.ensures.items
    (c.in_ok-put_ops.ensures ∙ ap (λ (ops : List LOp). d ++ ops_bytes names (spot_of []) (length d) ops) c.first_ops.ensures)
