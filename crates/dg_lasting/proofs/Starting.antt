-- What lasts, at the start.
use Rattle.std.proofs.Common.{◌≡◌, ℕ, ◌+◌, ◌≤◌, List, [], ◌∷◌, ◌++◌, refl, sym, ap, ◌∙◌, subst, arith, length, map, replicate}
use Rattle.std.specs.List.{All}
use Rattle.std.proofs.lemmas.List.{map-append}
use Rattle.std.proofs.lemmas.List.Elements.{All-cons}
use Rattle.std.proofs.lemmas.Grind.{replicate_next}
use Rattle.std.specs.declared.vec.Vec.{Vec}
use Rattle.std.specs.declared.alloc.Global.{Global}
use Rattle.dg_base.specs.declared.cells.Cell.{Cell}
use Rattle.dg_base.specs.declared.program.Term.{Term, out-Term, Pair', Row_of-Term, end_of-Term, more_of-Term}
use Rattle.dg_base.specs.declared.program.Term.TheOpen as term
use Rattle.dg_base.specs.declared.program.Place.{Place}
use Rattle.dg_base.specs.declared.program.CoreProgram.{CoreProgram}
use Rattle.dg_base.specs.declared.run.Limits.{Limits}
use Rattle.dg_meaning.specs.Choosing.{no_picks}
use Rattle.dg_choose.specs.Dice.{HasDrawn}
use Rattle.dg_choose.specs.Site.{picks_of}
use Rattle.dg_choose.specs.declared.dice.Dice.{Dice}
use Rattle.dg_choose.specs.declared.site.Site.{Site}
use Rattle.dg_lists.specs.Gathered.{Gathered}
use Rattle.dg_world.specs.Worlds.{StandsFor}
use Rattle.dg_world.specs.declared.world.World.{World}
use Rattle.dg_meaning.specs.Facts.{Fact, kinds_of, kept_size, no_program, start_value, starts_from, start_facts}
use Rattle.dg_meaning.specs.Values.{value_of_leaf, value_of, value_of_row}
use Rattle.dg_lists.specs.Formed.{IsFormed}
use Rattle.dg_lasting.specs.Lasting.{outline, MayPick, StartsWorld, StartsLasting}
use Rattle.dg_lasting.proofs.Picks.{may_new}

pub site_more : (n : ℕ) (xs ys : List Site) (x : Site) → ys ≡ xs ++ x ∷ [] → map picks_of xs ≡ replicate n no_picks → picks_of x ≡ no_picks → map picks_of ys ≡ replicate (n + 1) no_picks
site_more n xs ys x is h new = ap (map picks_of) is ∙ map-append picks_of xs (x ∷ []) ∙ ap (λ l. l ++ picks_of x ∷ []) h ∙ ap (λ p. replicate n no_picks ++ p ∷ []) new ∙ sym (replicate_next n no_picks)

-- ## What starts set is a value of the language

leaf_formed : (x : term.Term-F Term) → IsFormed (value_of_leaf no_program [] x)
leaf_formed (term.Num n) = (refl, tt)
leaf_formed (term.Word n) = (refl, tt)
leaf_formed (term.Object n) = (refl, tt)
leaf_formed term.Nil = (refl, tt)
leaf_formed (term.Var v) = (refl, tt)
leaf_formed (term.Pair a b) = (refl, tt)
leaf_formed (term.Closure c) = (tt, tt)

mutual
  term_formed : (x : Term) → IsFormed (value_of no_program [] x)
  term_formed (Pair' s head k tail) = (refl, (row_formed head, (row_formed tail, tt)))
  term_formed other = leaf_formed (out-Term other)

  row_formed : {m : _} → (x : Row_of-Term m) → IsFormed (value_of_row no_program [] x)
  row_formed end_of-Term = (refl, tt)
  row_formed (more_of-Term inner others) = term_formed inner

abbrev FactFormed : Fact → Type 0
FactFormed fact = IsFormed fact.value

place_formed : (n : ℕ) (starts : List (ℕ × Term)) (facts : List Fact) → All FactFormed facts → All FactFormed (map (λ (start : ℕ × Term). record { place = n; object = start.0; value = start_value start.1 }) starts ++ facts)
place_formed n [] facts h = h
place_formed n (s ∷ starts) facts h = All-cons FactFormed _ _ (term_formed s.1) (place_formed n starts facts h)

places_formed : (n : ℕ) (places : List Place) → All FactFormed (starts_from n places)
places_formed n [] = λ k d lt. absurd (omega arith)
places_formed n (p ∷ places) = place_formed n p.start (starts_from (n + 1) places) (places_formed (n + 1) places)

-- ## All of it

pub starts_lasting : (program : CoreProgram) (limits : Limits) (dice : List ℕ) (world : World) (gathered : Gathered) (thrown : Dice) (sites : Vec Site Global) (row : Vec Cell Global) → StartsWorld program limits.keep world → kept_size (kinds_of program) (start_facts program.places) ≤ limits.keep → gathered ≡ record { rows = []; aux = limits.aux } → HasDrawn thrown dice 0 → map picks_of sites.items ≡ replicate program.sites no_picks → length row.items ≡ limits.keep →
    StartsLasting program limits dice (record { world = world; gathered = gathered; dice = thrown; sites = sites; row = row })
starts_lasting program limits dice world gathered thrown sites row stands begins none_open drawn new long = record {
  stands = λ g typed same dice_same. (
    record {
      stands = subst (λ k. StandsFor world (outline g.program k) (start_facts g.program.places)) (sym stands.limit)
          (subst (λ (p : CoreProgram). StandsFor world (outline p limits.keep) (start_facts p.places)) (sym same) stands);
      formed = places_formed 0 g.program.places;
      room = long ∙ sym stands.limit;
    },
    (ap (λ (x : Gathered). x.rows) is_open, λ k d lt. absurd (omega arith)),
    subst (λ words. HasDrawn thrown words 0) (sym dice_same) drawn,
    ap (λ (p : CoreProgram). replicate p.sites no_picks) same ∙ sym new,
  );
  none = new;
  may = λ n fits. subst (MayPick n) (sym new) (may_new n program.sites fits);
  begins = begins;
  aux = ap (λ (x : Gathered). x.aux) is_open;
  keep = stands.limit;
} where
  is_open : gathered ≡ record { rows = []; aux = limits.aux }
  is_open = none_open
