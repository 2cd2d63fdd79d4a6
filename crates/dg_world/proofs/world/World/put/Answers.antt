use Rattle.std.proofs.Common.{refl, sym, ap, ◌∙◌, arith, vec_len}
use Rattle.std.proofs.Math.ListN.{set}
use Rattle.std.proofs.lemmas.Bool.{cases_lt, false≢true}
use Rattle.std.proofs.lemmas.Option.{slice_get_read, slice_get_past}
use Rattle.dg_world.proofs.TablesLemmas.{put_some, put_none, either}
use Rattle.dg_world.proofs.world.World.put.Goals as goal

pub returns-in-Some-clause-tables : goal.returns-in-Some-clause-tables
returns-in-Some-clause-tables c =
    let here = slice_get_read c.args.self.now.tables.items _ c.args.place c.in-Some.table.now c.args.self.now.tables.ok.0 (c.in-Some.ensures.variant.0 refl) c.in-Some.ensures.value in
    ap (set c.args.self.now.tables.items c.args.place) c.set.ensures ∙ sym (put_some c.args.self.now.tables.items c.args.place c.args.number c.args.value c.in-Some.table.now here)

pub returns-in_default-clause-tables : goal.returns-in_default-clause-tables
returns-in_default-clause-tables c =
    let beyond = either (cases_lt c.args.place (vec_len c.args.self.now.tables)) (λ lt. absurd (false≢true (c.in_default.ensures.variant.1 lt))) (λ le. le) in
    let past = slice_get_past c.args.self.now.tables.items c.args.place (omega (arith, beyond, c.args.self.now.tables.ok.0)) in
    sym (put_none c.args.self.now.tables.items c.args.place c.args.number c.args.value past)
