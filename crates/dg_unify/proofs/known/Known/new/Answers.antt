use Rattle.std.proofs.Common.{None, ap, sym, ◌∙◌, nat_eq}
use Rattle.std.specs.Map.{lookup}
use Rattle.std.proofs.lemmas.List.Elements.{All-replicate}
use Rattle.dg_unify.specs.inside.Known.{is_equal_pair}
use Rattle.dg_unify.proofs.known.Known.new.Goals as goal

pub returns : goal.returns
returns c = λ s. record {
  pairs = All-replicate (is_equal_pair s) 64 None tt;
  nexts = λ n r e. absurd (cc (sym e ∙ ap (lookup (nat_eq n)) c.new-nexts.ensures.empty));
}
