use Rattle.std.proofs.Common.{None, ap, sym, ◌∙◌, nat_eq}
use Rattle.std.specs.List.{list_any}
use Rattle.std.proofs.lemmas.List.Elements.{All-replicate}
use Rattle.dg_unify.specs.inside.Seen.{is_free}
use Rattle.dg_unify.proofs.seen.Seen.new.Goals as goal

pub returns : goal.returns
returns c = λ finds. record {
  placed = All-replicate (is_free finds) 64 None tt;
  beside = λ n e. absurd (cc (sym e ∙ ap (list_any (nat_eq n)) c.new-beside.ensures.empty));
}
