use Rattle.std.proofs.Common.{ap, sym, ◌∙◌, nat_eq}
use Rattle.std.specs.Map.{lookup}
use Rattle.indexmap.specs.IndexMap.{get}
use Rattle.dg_unify.proofs.KnownLemmas.{leads_on}
use Rattle.dg_unify.proofs.known.Known.lead.Goals as goal

pub returns-in-Ok : goal.returns-in-Ok
returns-in-Ok c = λ s h equal. record {
  pairs = h.pairs;
  nexts = leads_on s c.args.from c.args.to (get nat_eq c.args.self.now.nexts) (get nat_eq c.insert.new.self) h.nexts equal c.in-Ok.ensures.updates.0;
}

pub returns-in-Err : goal.returns-in-Err
returns-in-Err c = λ s h equal. record { pairs = h.pairs; nexts = λ n r e. h.nexts n r (sym (ap (lookup (nat_eq n)) c.in-Err.ensures.err) ∙ e) }
