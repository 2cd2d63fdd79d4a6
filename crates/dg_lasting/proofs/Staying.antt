-- What lasts stays as large.
use Rattle.std.proofs.Common.{◌≡◌, ℕ, sym, ap, ◌∙◌, length}
use Rattle.std.proofs.lemmas.List.{length-map, length-set}
use Rattle.std.specs.declared.vec.Vec.{Vec}
use Rattle.std.specs.declared.alloc.Global.{Global}
use Rattle.dg_base.specs.declared.cells.Cell.{Cell}
use Rattle.dg_base.specs.declared.program.Mode.{Mode}
use Rattle.dg_choose.specs.Site.{picks_of}
use Rattle.dg_lists.specs.Gathered.{Gathered}
use Rattle.dg_meaning.specs.Choosing.{picked, picks_at}
use Rattle.dg_meaning.specs.Values.{Value}
use Rattle.dg_world.specs.Worlds.{shape_of}
use Rattle.dg_world.specs.declared.world.World.{World}
use Rattle.dg_lasting.specs.Lasting.{picks_in, Closes, PicksOne, OpensOne, Gathers}
use Rattle.dg_lasting.specs.Resting.{extent_of}
use Rattle.dg_lasting.specs.declared.lasting.Lasting.{Lasting}

pub closing_stays : (height : ℕ) (old new : Lasting) → Closes height old new → extent_of new ≡ extent_of old
closing_stays height old new h = ap extent_of h.is

pub opening_stays : (old new : Lasting) → OpensOne old new → extent_of new ≡ extent_of old
opening_stays old new h = ap extent_of h.is

pub gathering_stays : (v : Value) (old new : Lasting) → Gathers v old new → extent_of new ≡ extent_of old
gathering_stays v old new h = ap extent_of h.is

pub drawing_stays : (old new : Lasting) → new ≡ record old { dice = new.dice } → extent_of new ≡ extent_of old
drawing_stays old new is = ap extent_of is

pub changing_stays : (old new : Lasting) → new ≡ record old { world = new.world; row = new.row } → length new.row.items ≡ length old.row.items → shape_of new.world ≡ shape_of old.world → extent_of new ≡ extent_of old
changing_stays old new is row world =
    ap extent_of is ∙ ap (λ n. record { world = shape_of new.world; sites = length old.sites.items; aux = old.gathered.aux; row = n }) row
    ∙ ap (λ w. record { world = w; sites = length old.sites.items; aux = old.gathered.aux; row = length old.row.items }) world

pub picking_stays : (site : ℕ) (mode : Mode) (branches one : ℕ) (old new : Lasting) → PicksOne site mode branches one old new → extent_of new ≡ extent_of old
picking_stays site mode branches one old new h =
    let sites : length new.sites.items ≡ length old.sites.items =
    sym (length-map new.sites.items picks_of) ∙ ap length h.picks ∙ length-set (picks_in old) site (picked one (picks_at (picks_in old) site)) ∙ length-map old.sites.items picks_of in
    ap (λ (w : World). record { world = shape_of w; sites = length new.sites.items; aux = new.gathered.aux; row = length new.row.items }) h.world
    ∙ ap (λ n. record { world = shape_of old.world; sites = n; aux = new.gathered.aux; row = length new.row.items }) sites
    ∙ ap (λ (g : Gathered). record { world = shape_of old.world; sites = length old.sites.items; aux = g.aux; row = length new.row.items }) h.gathered
    ∙ ap (λ n. record { world = shape_of old.world; sites = length old.sites.items; aux = old.gathered.aux; row = n }) (ap (λ (r : Vec Cell Global). length r.items) h.row)
