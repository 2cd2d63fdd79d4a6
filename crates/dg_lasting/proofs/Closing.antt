-- Gatherings that are dropped.
use Rattle.std.proofs.Common.{◌≡◌, ℕ, zero, suc, ◌-◌, List, [], ◌∷◌, sym, ap, ◌∙◌, subst, arith, length, map, drop}
use Rattle.std.specs.List.{All}
use Rattle.std.proofs.lemmas.List.{length-map, length-drop, drop-map, drop_all}
use Rattle.std.proofs.lemmas.List.Elements.{All-drop}
use Rattle.dg_meaning.specs.World.{Game, World, Gathering}
use Rattle.dg_meaning.specs.inside.Context.{Drops}
use Rattle.dg_lists.specs.Formed.{IsFormed}
use Rattle.dg_lasting.specs.declared.lasting.Lasting.{Lasting}
use Rattle.dg_lasting.specs.Lasting.{row_of, InWorld, closed_to, Closes}

dropped_to : {A : Type 0} (c h : ℕ) (xs : List A) → length (drop c xs) ≡ h → drop (length xs - h) xs ≡ drop c xs
dropped_to c h [] e = drop_all (0 - h) [] (omega arith) ∙ sym (drop_all c [] (omega arith))
dropped_to zero h (x ∷ xs) e = let none : length (x ∷ xs) - h ≡ 0 = omega (arith, e) in ap (λ n. drop n (x ∷ xs)) none
dropped_to (suc c) h (x ∷ xs) e =
    let more : length (x ∷ xs) - h ≡ suc (length xs - h) = omega (arith, e, length-drop c xs) in
    ap (λ n. drop n (x ∷ xs)) more ∙ dropped_to c h xs e

-- gatherings were dropped, down to so many
world_closed : (out : Lasting) (g : Game) (w v : World) (h : ℕ) → InWorld out g w → Drops w v → length v.gathered ≡ h → InWorld (closed_to h out) g v
world_closed out g w v h is d count =
    let rows = out.gathered.rows in
    let left : length (drop d.count w.gathered) ≡ h = ap (λ (x : World). length x.gathered) (sym d.is) ∙ count in
    let long : length rows ≡ length w.gathered = ap length is.1.0 ∙ length-map w.gathered row_of in
    let same : drop (length rows - h) rows ≡ map row_of (drop d.count w.gathered) =
    ap (drop (length rows - h)) is.1.0 ∙ drop-map row_of (length rows - h) w.gathered ∙ ap (λ n. map row_of (drop (n - h) w.gathered)) long ∙ ap (map row_of) (dropped_to d.count h w.gathered left) in
    subst (InWorld (closed_to h out) g) (sym d.is) (is.0, (same, All-drop (λ (x : Gathering). All IsFormed x.values) d.count w.gathered is.1.1), is.2, is.3)

pub closes : (h : ℕ) (old new : Lasting) → new ≡ closed_to h old → Closes h old new
closes h old new is = record { is = is; stands = λ g w v now d count. subst (λ o. InWorld o g v) (sym is) (world_closed old g w v h now d count) }
