-- What lasts begins again.
use Rattle.std.proofs.Common.{◌≡◌, ℕ, Bool, true, ◌-◌, ◌<◌, ◌≤◌, List, [], ◌∷◌, ◌++◌, refl, sym, ap, ◌∙◌, subst, arith, length, map, take, drop, replicate}
use Rattle.std.specs.Prelude.{nat_le}
use Rattle.std.proofs.lemmas.Bool.{leb-true}
use Rattle.std.proofs.lemmas.List.{length-map, length-replicate, append-nil, take_all, drop_all}
use Rattle.std.specs.declared.vec.Vec.{Vec}
use Rattle.std.specs.declared.alloc.Global.{Global}
use Rattle.dg_base.specs.declared.program.CoreProgram.{CoreProgram}
use Rattle.dg_base.specs.declared.program.Place.{Place}
use Rattle.dg_base.specs.declared.run.Limits.{Limits}
use Rattle.dg_choose.specs.Dice.{HasDrawn}
use Rattle.dg_choose.specs.Site.{picks_of}
use Rattle.dg_choose.specs.declared.dice.Dice.{Dice}
use Rattle.dg_choose.specs.declared.site.Site.{Site}
use Rattle.dg_lists.specs.Gathered.{Gathered}
use Rattle.dg_meaning.specs.Choosing.{no_picks}
use Rattle.dg_meaning.specs.Facts.{Fact, kinds_of, kept_size, start_facts}
use Rattle.dg_world.specs.Tables.{Outline, outline_of}
use Rattle.dg_world.specs.Worlds.{shape_of, shape_in, StandsFor}
use Rattle.dg_world.specs.declared.world.World.{World}
use Rattle.dg_world.proofs.Shapes.{shape_is}
use Rattle.dg_lasting.specs.Lasting.{outline, StartsWorld, StartsLasting}
use Rattle.dg_lasting.specs.Resting.{Extent, extent_of, extent_resting, HasParts, RestsFor}
use Rattle.dg_lasting.specs.declared.resting.Resting.{Resting}
use Rattle.dg_lasting.proofs.Starting.{starts_lasting}

-- nothing was picked at sites that were all set to one
none_picked : (s : Site) (sites : List Site) → picks_of s ≡ no_picks → map picks_of (map (λ (x : Site). s) sites) ≡ replicate (length sites) no_picks
none_picked s [] none = refl
none_picked s (x ∷ sites) none = ap (λ p. p ∷ map picks_of (map (λ (y : Site). s) sites)) none ∙ ap (λ l. no_picks ∷ l) (none_picked s sites none)

-- a walk that sets each site to one has set them all
pub all_picked_none : (s : Site) (xs ys : List Site) (i : ℕ) → picks_of s ≡ no_picks → length xs ≤ i → ys ≡ map (λ (x : Site). s) (take i xs) ++ drop i xs → map picks_of ys ≡ replicate (length xs) no_picks
all_picked_none s xs ys i none done is =
    let front = map (λ (x : Site). s) (take i xs) in
    ap (map picks_of) (is ∙ ap (λ l. front ++ l) (drop_all i xs done) ∙ append-nil front ∙ ap (map (λ (x : Site). s)) (take_all i xs done)) ∙ none_picked s xs none

-- as many sites are there
pub as_many_sites : (n : ℕ) (sites : List Site) → map picks_of sites ≡ replicate n no_picks → length sites ≡ n
as_many_sites n sites none = sym (length-map sites picks_of) ∙ ap length none ∙ length-replicate n no_picks

-- ## What rests before the first run

-- the test told so
pub within_so : (a b : ℕ) (fits : Bool) → fits ≡ nat_le a b → fits ≡ true → a ≤ b
within_so a b fits is told = leb-true a b (sym is ∙ told)

module _ (p : CoreProgram) (l : Limits) (places : List Place) (objects sites : ℕ) (h : HasParts p places objects sites) where
  stands_of_it : (w : World) → StandsFor w (outline_of places objects l.keep) (start_facts places) → StartsWorld p l.keep w
  stands_of_it w stands =
      subst (λ (ps : List Place). StandsFor w (outline_of ps (length p.objects) l.keep) (start_facts ps)) (sym h.places)
      (subst (λ n. StandsFor w (outline_of places n l.keep) (start_facts places)) (sym h.objects) stands)

  pub rests_at_first : (r : Resting) → kept_size (outline_of places objects l.keep).kinds (start_facts places) ≤ l.keep → StandsFor r.world (outline_of places objects l.keep) (start_facts places) → StandsFor r.start (outline_of places objects l.keep) (start_facts places) → r.gathered ≡ record { rows = []; aux = l.aux } → map picks_of r.sites.items ≡ replicate sites no_picks →
      length r.row.items ≡ l.keep → RestsFor p l r
  rests_at_first r begins stands starts none_open none long =
      let world = shape_is (outline p l.keep) (start_facts p.places) r.world (stands_of_it r.world stands) in
      let many : length r.sites.items ≡ p.sites = as_many_sites sites r.sites.items none ∙ sym h.sites in
      record {
        starts = stands_of_it r.start starts;
        begins = subst (λ (ps : List Place). kept_size (map (λ (place : Place). place.kind) ps) (start_facts ps) ≤ l.keep) (sym h.places) begins;
        large = ap (λ w. record { world = w; sites = length r.sites.items; aux = r.gathered.aux; row = length r.row.items }) world
            ∙ ap (λ n. record { world = shape_in (outline p l.keep); sites = n; aux = r.gathered.aux; row = length r.row.items }) many
            ∙ ap (λ (x : Gathered). record { world = shape_in (outline p l.keep); sites = p.sites; aux = x.aux; row = length r.row.items }) none_open
            ∙ ap (λ n. record { world = shape_in (outline p l.keep); sites = p.sites; aux = l.aux; row = n }) long;
      }

  pub nothing_at_first : l.keep < kept_size (outline_of places objects l.keep).kinds (start_facts places) → l.keep < kept_size (kinds_of p) (start_facts p.places)
  nothing_at_first lt = subst (λ (ps : List Place). l.keep < kept_size (map (λ (place : Place). place.kind) ps) (start_facts ps)) (sym h.places) lt

-- the world that it starts with is as large as the other
pub as_large : (p : CoreProgram) (l : Limits) (r : Resting) → RestsFor p l r → shape_of r.start ≡ shape_of r.world
as_large p l r may = shape_is (outline p l.keep) (start_facts p.places) r.start may.starts ∙ sym (ap (λ (s : Extent). s.world) may.large)

-- all gatherings were dropped
pub all_dropped : (old new : Gathered) → new ≡ record old { rows = drop (length old.rows - 0) old.rows } → new ≡ record { rows = []; aux = old.aux }
all_dropped old new is = is ∙ ap (λ rows. record { rows = rows; aux = old.aux }) (drop_all (length old.rows - 0) old.rows (omega arith))

pub begins_again : (p : CoreProgram) (l : Limits) (dice : List ℕ) (r : Resting) (world : World) (gathered : Gathered) (thrown : Dice) (sites : Vec Site Global) → RestsFor p l r → ((o : Outline) → (facts : List Fact) → StandsFor r.start o facts → StandsFor world o facts) → gathered ≡ record { rows = []; aux = r.gathered.aux } → HasDrawn thrown dice 0 → map picks_of sites.items ≡ replicate (length r.sites.items) no_picks →
    StartsLasting p l dice (record { world = world; gathered = gathered; dice = thrown; sites = sites; row = r.row })
begins_again p l dice r world gathered thrown sites may stands none_open drawn none =
    starts_lasting p l dice world gathered thrown sites r.row (stands (outline p l.keep) (start_facts p.places) may.starts) may.begins
    (none_open ∙ ap (λ (s : Extent). record { rows = []; aux = s.aux }) may.large) drawn (none ∙ ap (λ (s : Extent). replicate s.sites no_picks) may.large) (ap (λ (s : Extent). s.row) may.large)

pub large_again : (r : Resting) (world : World) (gathered : Gathered) (thrown : Dice) (sites : Vec Site Global) → shape_of world ≡ shape_of r.world → gathered ≡ record { rows = []; aux = r.gathered.aux } → map picks_of sites.items ≡ replicate (length r.sites.items) no_picks →
    extent_of (record { world = world; gathered = gathered; dice = thrown; sites = sites; row = r.row }) ≡ extent_resting r
large_again r world gathered thrown sites large none_open none =
    ap (λ w. record { world = w; sites = length sites.items; aux = gathered.aux; row = length r.row.items }) large
    ∙ ap (λ n. record { world = shape_of r.world; sites = n; aux = gathered.aux; row = length r.row.items }) (as_many_sites (length r.sites.items) sites.items none)
    ∙ ap (λ (x : Gathered). record { world = shape_of r.world; sites = length r.sites.items; aux = x.aux; row = length r.row.items }) none_open
