use Rattle.std.proofs.Common.{◌≡◌, ℕ, Option, true, map, sym, ◌∙◌, ap}
use Rattle.std.proofs.lemmas.Result.{IfOk-weaker}
use Rattle.dg_scopes.specs.Counts.{is_unnamed}
use Rattle.dg_put.specs.Put.{copy_mark, marked}
use Rattle.dg_put.specs.inside.Putting.{access_view, around}
use Rattle.dg_put.proofs.PlaceLemmas.{unnamed_name}
use Rattle.dg_put.proofs.names.own_name.Goals as goal

pub returns-then-starts_with : goal.returns-then-starts_with
returns-then-starts_with c =
    let u = c.args.uses in
    let unnamed : is_unnamed c.args.name.now ≡ true = sym c.starts_with.ensures.value ∙ c.if-starts_with.true in
    IfOk-weaker c.new_unnamed.result _ _
    (λ new is. is
    ∙ ap (λ (n : Option ℕ). marked copy_mark n c.args.name.now) (c.unnamed_number.ensures (map access_view u.rules.all.now) u.mark)
    ∙ sym (unnamed_name u.mark (around u c.args.at.now).place c.args.name.now unnamed))
    c.new_unnamed.ensures
