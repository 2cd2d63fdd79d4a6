use Rattle.std.proofs.Common.{[], None, ◌∙◌, ap, subst}
use Rattle.dg_base.specs.declared.program.Place.{Place}
use Rattle.dg_base.specs.declared.program.PlaceKind.{PlaceKind}
use Rattle.dg_core.specs.Places.{Placed, kind_of, declared_names}
use Rattle.dg_lower.specs.Lowered.{or_nothing}
use Rattle.dg_lower.specs.Starts.{Starts, place_starts}
use Rattle.dg_lower.specs.inside.Adding.{Adds}
use Rattle.dg_lower.specs.inside.View.{names_in, items_in}
use Rattle.dg_lower.proofs.AddLemmas.{all_added}
use Rattle.dg_lower.proofs.places.place_of.Goals as goal

abbrev place : PlaceKind → Starts → Place
place kind start = record { kind = kind; start = start }

pub returns-in-None-clause-place : goal.returns-in-None-clause-place
returns-in-None-clause-place c =
    let items = items_in c.args.around.now in
    let starts = place_starts (names_in c.args.around.now) items c.args.name.now in
    let kind = c.kind_of.ensures ∙ ap (λ (p : Placed). kind_of p.declared c.args.name.now) c.requires.places in
    let added = subst (λ f. Adds starts c.new-start.result f c.add_starts.new.starts) c.in-None.is c.in_ok-kind.ensures.starts in
    let start = all_added starts c.add_starts.new.starts (subst (λ (l : Starts). Adds starts l None c.add_starts.new.starts) c.new-start.ensures added) in
    ap (λ (k : PlaceKind). place k c.add_starts.new.starts) kind ∙ ap (place (kind_of (declared_names items) c.args.name.now)) start
